-- SPDX-License-Identifier: MIT
pub mod Pairs
pub mod Report
pub mod Inner
