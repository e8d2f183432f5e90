-- SPDX-License-Identifier: MIT
pub mod Calls
