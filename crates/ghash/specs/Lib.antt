-- SPDX-License-Identifier: MIT
pub mod Ghash
pub mod Inner
