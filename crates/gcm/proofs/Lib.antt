-- SPDX-License-Identifier: MIT
pub mod Streams
pub mod Laws
