-- SPDX-License-Identifier: MIT
pub mod Suites
pub mod Derivation
pub mod Inner
