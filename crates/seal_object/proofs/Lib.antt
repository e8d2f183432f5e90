-- SPDX-License-Identifier: MIT
mod SealSteps
pub mod Sealings
