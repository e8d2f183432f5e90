-- SPDX-License-Identifier: MIT
pub mod Steps
pub mod Lines
