-- SPDX-License-Identifier: MIT
pub mod Counter
pub mod Gcm
pub mod Inner
