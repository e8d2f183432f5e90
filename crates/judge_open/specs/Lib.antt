-- SPDX-License-Identifier: MIT
pub mod Open
pub mod Inner
