-- SPDX-License-Identifier: MIT
pub mod Check
