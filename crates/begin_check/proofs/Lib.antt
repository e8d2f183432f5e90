-- SPDX-License-Identifier: MIT
mod CheckSteps
pub mod Checks
