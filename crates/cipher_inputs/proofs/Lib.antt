-- SPDX-License-Identifier: MIT
pub mod InPlace
pub mod NoOthers
pub mod InUse
pub mod Blocks
