-- SPDX-License-Identifier: MIT
pub mod CipherLaws
pub mod Empties
pub mod Moves
pub mod Order
mod Ranks
pub mod Places
pub mod Stores
pub mod Tables
mod Walk
