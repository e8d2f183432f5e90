-- SPDX-License-Identifier: MIT
pub mod Aes
pub mod Inner
