-- SPDX-License-Identifier: MIT
pub mod Sums
pub mod Laws
mod Holes
mod Classes
