-- SPDX-License-Identifier: MIT
pub mod State
pub mod Line
