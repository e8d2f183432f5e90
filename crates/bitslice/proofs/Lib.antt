-- SPDX-License-Identifier: MIT
pub mod Bits
pub mod Shifts
pub mod SBox
pub mod RowSums
pub mod Turns
pub mod Spreads
