-- SPDX-License-Identifier: MIT
pub mod Codec
mod Fields
mod Judge
pub mod KindLaws
mod Rows
mod Spent
pub mod Suites
mod Zeros
