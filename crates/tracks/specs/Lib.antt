-- SPDX-License-Identifier: MIT
pub mod Calls
pub mod Tracks
pub mod Table
pub mod Inner
