-- SPDX-License-Identifier: MIT
mod Bytes
pub mod Epochs
