-- SPDX-License-Identifier: MIT
pub mod TagInput
