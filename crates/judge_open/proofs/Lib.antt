-- SPDX-License-Identifier: MIT
pub mod Opened
pub mod Steps
