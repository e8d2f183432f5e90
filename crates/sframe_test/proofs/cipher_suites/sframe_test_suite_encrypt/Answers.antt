-- SPDX-License-Identifier: MIT
-- `sframe_test::cipher_suites::sframe_test_suite_encrypt` meets its contract: what it answers for a known suite is handed on.
-- Assumes nothing.
use mathlib.Core.Path.{refl, sym, ◌∙◌}
use Rattle.sframe_test.proofs.cipher_suites.sframe_test_suite_encrypt.Goals as goal

pub returns-in-Some : goal.returns-in-Some
returns-in-Some c =
    rw (sym c.find.ensures ∙ c.in-Some.is) c.encrypt_known.ensures

pub returns-in-None : goal.returns-in-None
returns-in-None c = rw (sym c.find.ensures ∙ c.in-None.is) (refl, refl)
