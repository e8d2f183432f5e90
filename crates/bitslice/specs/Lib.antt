-- SPDX-License-Identifier: MIT
pub mod Lanes
pub mod Circuit
pub mod Inner
