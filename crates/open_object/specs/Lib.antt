-- SPDX-License-Identifier: MIT
pub mod Open
