-- SPDX-License-Identifier: MIT
pub mod Stores
pub mod Tables
mod Walk
pub mod Places
mod Removal
pub mod Changes
