-- SPDX-License-Identifier: MIT
pub mod Rows
pub mod Rounds
pub mod Blocks
