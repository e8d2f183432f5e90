-- SPDX-License-Identifier: MIT
mod Steps
