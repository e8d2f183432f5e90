-- SPDX-License-Identifier: MIT
pub mod Held
