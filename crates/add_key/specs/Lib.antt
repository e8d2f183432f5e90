-- SPDX-License-Identifier: MIT
pub mod Add
