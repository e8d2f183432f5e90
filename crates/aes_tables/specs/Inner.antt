-- SPDX-License-Identifier: MIT
-- What the contracts of this crate's code cite, and no definition that a reader must believe.
pub mod Tables
