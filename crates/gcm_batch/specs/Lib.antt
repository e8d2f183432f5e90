-- SPDX-License-Identifier: MIT
pub mod inner
