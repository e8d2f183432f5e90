-- SPDX-License-Identifier: MIT
pub mod Octets
