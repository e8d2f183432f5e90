-- SPDX-License-Identifier: MIT
pub mod History
pub mod Promises
pub mod Logs
pub mod Cuts
