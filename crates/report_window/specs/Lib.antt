-- SPDX-License-Identifier: MIT
pub mod Report
