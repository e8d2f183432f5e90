-- SPDX-License-Identifier: MIT
mod Finds
pub mod Keys
mod Removal
