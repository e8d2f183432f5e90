-- SPDX-License-Identifier: MIT
pub mod Inner
