-- SPDX-License-Identifier: MIT
pub mod Layout
pub mod Record
pub mod Suites
pub mod Inner
