-- SPDX-License-Identifier: MIT
pub mod Ratchet
pub mod Calls
pub mod Inner
