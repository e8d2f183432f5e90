-- SPDX-License-Identifier: MIT
pub mod Refused
mod States
