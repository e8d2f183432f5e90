-- SPDX-License-Identifier: MIT
pub mod Aead
