-- SPDX-License-Identifier: MIT
-- Cited by inner contracts alone: no promise to a caller rests on it.
pub mod Places
