-- SPDX-License-Identifier: MIT
pub mod Frame
pub mod Seal
