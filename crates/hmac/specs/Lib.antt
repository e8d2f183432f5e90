-- SPDX-License-Identifier: MIT
pub mod Hmac
pub mod Hkdf
pub mod Limits
pub mod Inner
