-- SPDX-License-Identifier: MIT
pub mod Varint
pub mod Objects
pub mod Derivation
pub mod Inner
