-- SPDX-License-Identifier: MIT
mod Rounds
pub mod Contexts
mod Blocks
