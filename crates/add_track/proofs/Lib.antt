-- SPDX-License-Identifier: MIT
mod Addition
pub mod Adds
