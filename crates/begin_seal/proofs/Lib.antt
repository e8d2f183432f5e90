-- SPDX-License-Identifier: MIT
mod BeginSteps
pub mod Begins
