-- SPDX-License-Identifier: MIT
pub mod Begin
