-- SPDX-License-Identifier: MIT
pub mod Swaps
pub mod Sources
pub mod Bytes
