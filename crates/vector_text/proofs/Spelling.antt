-- SPDX-License-Identifier: MIT
-- The bytes that a text spells, one at a time. Assumes nothing.
use Rattle.std.proofs.Common.{◌≡◌, ℕ, zero, suc, ◌-◌, ◌<◌, List, [], ◌∷◌, drop, Some, None, refl, arith}
use Rattle.vector_text.specs.Text.{byte, spelt}

-- a byte more, with room for it
pub spelt-some : (n : ℕ) (text : List ℕ) (b : ℕ) → byte text ≡ Some b → 0 < n → spelt n text ≡ b ∷ spelt (n - 1) (drop 2 text)
spelt-some zero text b e h = grind arith
spelt-some (suc n) text b e h = let m : suc n - 1 ≡ n = omega arith in rw (m, e) refl

-- no byte more
pub spelt-none : (n : ℕ) (text : List ℕ) → byte text ≡ None → spelt n text ≡ []
spelt-none zero text e = refl
spelt-none (suc n) text e = rw e refl

-- no room
pub spelt-full : (n : ℕ) (text : List ℕ) → n ≡ 0 → spelt n text ≡ []
spelt-full n text z = rw z refl
