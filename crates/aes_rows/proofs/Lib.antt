-- SPDX-License-Identifier: MIT
pub mod Sets
pub mod Mixing
pub mod Rounds16
