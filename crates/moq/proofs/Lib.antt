-- SPDX-License-Identifier: MIT
mod Ledger
mod Objects
mod Opens
mod Soundness
pub mod Theorem
