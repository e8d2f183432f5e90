-- SPDX-License-Identifier: MIT
-- `sframe_test::cipher_suites::sframe_test_derive` meets its contract: what it answers for a known suite is handed on.
-- Assumes nothing.
use mathlib.Core.Path.{refl, sym, ◌∙◌}
use Rattle.sframe_test.proofs.cipher_suites.sframe_test_derive.Goals as goal

pub returns-in-Some : goal.returns-in-Some
returns-in-Some c =
    rw (sym c.find.ensures ∙ c.in-Some.is) c.derive_known.ensures

pub returns-in-None : goal.returns-in-None
returns-in-None c = rw (sym c.find.ensures ∙ c.in-None.is) (refl, refl, refl)
