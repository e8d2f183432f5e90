-- SPDX-License-Identifier: MIT
pub mod SBox
mod Powers
