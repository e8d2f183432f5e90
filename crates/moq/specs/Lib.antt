-- SPDX-License-Identifier: MIT
pub mod History
pub mod Promises
