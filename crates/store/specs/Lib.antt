-- SPDX-License-Identifier: MIT
pub mod Cipher
pub mod Sframe
pub mod Store
pub mod Table
pub mod Inner
