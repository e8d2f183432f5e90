-- SPDX-License-Identifier: MIT
pub mod Epoch
