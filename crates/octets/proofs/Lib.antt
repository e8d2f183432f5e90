-- SPDX-License-Identifier: MIT
pub mod Bits
pub mod Laws
pub mod Writing
mod Loops
pub mod Entries
