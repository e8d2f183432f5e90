-- SPDX-License-Identifier: MIT
pub mod Codec
mod Fields
pub mod Records
mod Steps
