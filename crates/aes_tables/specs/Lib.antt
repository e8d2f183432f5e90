-- SPDX-License-Identifier: MIT
pub mod Field
pub mod Inner
