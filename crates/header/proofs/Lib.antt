-- SPDX-License-Identifier: MIT
pub mod Laws
mod Steps
pub mod Table
