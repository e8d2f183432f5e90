-- SPDX-License-Identifier: MIT
pub mod Words
pub mod Keys16
