-- SPDX-License-Identifier: MIT
pub mod Sha2
pub mod Sizes
pub mod Limits
pub mod Running
pub mod Fed
pub mod Inner
