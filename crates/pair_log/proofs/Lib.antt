-- SPDX-License-Identifier: MIT
pub mod Repeats
mod Gathering
mod Writing
pub mod Reports
