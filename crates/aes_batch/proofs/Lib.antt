-- SPDX-License-Identifier: MIT
pub mod Counting
pub mod Ciphers
pub mod Unslicing
pub mod Streams
