-- SPDX-License-Identifier: MIT
mod Halving
mod Steps
mod Absorbing
pub mod Laws
