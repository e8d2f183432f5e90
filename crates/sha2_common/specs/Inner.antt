-- SPDX-License-Identifier: MIT
-- What only inner contracts cite.
pub mod Rounds
pub mod Words
