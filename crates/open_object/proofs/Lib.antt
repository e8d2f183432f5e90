-- SPDX-License-Identifier: MIT
mod OpenSteps
