-- SPDX-License-Identifier: MIT
pub mod Answers
pub mod Limits
pub mod Refusals
