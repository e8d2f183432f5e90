-- SPDX-License-Identifier: MIT
mod SealSteps
