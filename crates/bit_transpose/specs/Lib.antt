-- SPDX-License-Identifier: MIT
pub mod Transposition
