-- SPDX-License-Identifier: MIT
mod Steps
pub mod Blocks
pub mod Joins
