-- SPDX-License-Identifier: MIT
pub mod Seal
