-- SPDX-License-Identifier: MIT
pub mod Text
