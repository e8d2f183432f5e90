-- SPDX-License-Identifier: MIT
-- What the contract of this crate's code cites, and no definition that a reader must believe.
pub mod RoundTable
