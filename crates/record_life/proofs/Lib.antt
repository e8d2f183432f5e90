-- SPDX-License-Identifier: MIT
pub mod Listed
mod Lives
mod Moves
pub mod Theorem
