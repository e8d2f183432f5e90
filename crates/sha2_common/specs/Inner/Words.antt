-- SPDX-License-Identifier: MIT
-- Inner: the numbers of eight words. Assumes nothing.
use Rattle.std.specs.Prelude.{List, [], ◌∷◌, ℕ}
use Rattle.sha2_common.specs.declared.rounds.Words.{Words}

abbrev pub words_of : {W : Type 0} (value : W → ℕ) → Words W → List ℕ
words_of f v = f v.a ∷ f v.b ∷ f v.c ∷ f v.d ∷ f v.e ∷ f v.f ∷ f v.g ∷ f v.h ∷ []
