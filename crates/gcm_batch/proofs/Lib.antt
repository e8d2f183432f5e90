-- SPDX-License-Identifier: MIT
pub mod Batches
mod Tags
