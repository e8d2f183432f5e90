-- SPDX-License-Identifier: MIT
pub mod CounterFrom
pub mod Inner
