-- SPDX-License-Identifier: MIT
-- What the contracts of the code cite, and no definition that a reader must believe.
pub mod HashKey
pub mod Products
