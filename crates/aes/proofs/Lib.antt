-- SPDX-License-Identifier: MIT
pub mod Words
pub mod Columns
pub mod Expansion
pub mod Laws
