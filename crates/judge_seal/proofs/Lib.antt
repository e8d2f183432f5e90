-- SPDX-License-Identifier: MIT
pub mod NextFrame
pub mod Seals
mod Verdict
