-- SPDX-License-Identifier: MIT
pub mod Judged
pub mod Repeated
