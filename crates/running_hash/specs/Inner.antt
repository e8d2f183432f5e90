-- SPDX-License-Identifier: MIT
-- What only inner contracts cite.
pub mod Lent
