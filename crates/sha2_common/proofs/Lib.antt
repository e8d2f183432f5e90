-- SPDX-License-Identifier: MIT
pub mod Bits
pub mod Laws
pub mod Steps
