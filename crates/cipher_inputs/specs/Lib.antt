-- SPDX-License-Identifier: MIT
pub mod Blocks
pub mod AnyCipher
pub mod Inputs
