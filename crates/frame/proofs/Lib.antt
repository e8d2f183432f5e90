-- SPDX-License-Identifier: MIT
pub mod Laws
mod Steps
