-- SPDX-License-Identifier: MIT
pub mod Clmul
pub mod Inner
