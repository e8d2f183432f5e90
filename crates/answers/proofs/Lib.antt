-- SPDX-License-Identifier: MIT
pub mod Basics
pub mod Limits
pub mod Refusals
