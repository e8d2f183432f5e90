-- SPDX-License-Identifier: MIT
pub mod Life
pub mod Under
