-- SPDX-License-Identifier: MIT
-- Where each bit of a word comes from, through any number of exchanges. Bit j of word i of a list has the number 64 i + j.
-- Assumes nothing.
use mathlib.Core.Path.{◌≡◌, refl, sym, ◌∙◌, ap}
use mathlib.Core.Bool.{Bool}
use mathlib.Core.List.{List}
use mathlib.Core.Logic.{◌⊎◌, inl, inr}
use Prim.Native.Nat.{ℕ, zero, suc, ◌+◌, ◌*◌, ◌-◌, ◌/◌, ◌%◌, ◌<◌}
use native.Mathlib.Nat.{mod-lt}
use native.Mathlib.Omega.{arith}
use lib.Dec.{T, eqb, eqb→eq}
use lib.ListN.{get_or, replicate}
use Rattle.octets.specs.Octets.{pick}
use Rattle.octets.proofs.Entries.{all, entry-rule}
use Rattle.bitslice.specs.Lanes.{lane, byte_of}
use Rattle.bitslice.proofs.Shifts.{lane-shr}
use Rattle.bitslice.proofs.Spreads.{shifts}
use Rattle.bit_transpose.specs.Transposition.{octet, Swapped}

abbrev pub source : List ℕ → ℕ → ℕ
source l s = lane (s % 64) (get_or l (s / 64) 0)

-- Bit j of w is bit number f j of the list.
pub record Reads (l : List ℕ) (f : ℕ → ℕ) (w : ℕ) : Type 0 where
  pub each : (j : ℕ) → j < 64 → lane j w ≡ source l (f j)

pub given : (l : List ℕ) (i : ℕ) → Reads l (λ j. 64 * i + j) (get_or l i 0)
given l i =
    record {
      each = λ j h.
          let e : (64 * i + j) % 64 ≡ j = omega arith in
          let f : (64 * i + j) / 64 ≡ i = omega arith in
          rw (e, f);
    }

-- After an exchange.
abbrev pub first : ℕ → (ℕ → ℕ) → (ℕ → ℕ) → ℕ → ℕ
first n f g j = pick (eqb (j / n % 2) 0) (f j) (g (j - n))

abbrev pub second : ℕ → (ℕ → ℕ) → (ℕ → ℕ) → ℕ → ℕ
second n f g j = pick (eqb (j / n % 2) 0) (f (n + j)) (g j)

either : (x : ℕ) → x < 2 → (x ≡ 0) ⊎ (x ≡ 1)
either zero h = inl refl
either (suc zero) h = inr refl
either (suc (suc x)) h = absurd (omega arith)

-- Of 64 bits, those under a mask have a partner.
abbrev pub Partner : ℕ → Type 0
Partner n = (j : ℕ) → j < 64 → j / n % 2 ≡ 0 → n + j < 64

module _ (l : List ℕ) (n a b x y : ℕ) (f g : ℕ → ℕ) (p : Partner n) (s : Swapped n a b x y) (u : Reads l f a) (v : Reads l g b) where
  pub first_reads : Reads l (first n f g) x
  first_reads = record { each = λ j h. go j h (either (j / n % 2) (mod-lt (j / n) (omega arith))) }
    where
      go : (j : ℕ) → j < 64 → (j / n % 2 ≡ 0) ⊎ (j / n % 2 ≡ 1) → lane j x ≡ source l (first n f g j)
      go j h (inl d) = rw d (s.low-a j h d ∙ u.each j h)
      go j h (inr d) = rw d (s.high-a j h d ∙ v.each (j - n) (omega arith))

  pub second_reads : Reads l (second n f g) y
  second_reads = record { each = λ j h. go j h (either (j / n % 2) (mod-lt (j / n) (omega arith))) }
    where
      go : (j : ℕ) → j < 64 → (j / n % 2 ≡ 0) ⊎ (j / n % 2 ≡ 1) → lane j y ≡ source l (second n f g j)
      go j h (inl d) = rw d (s.low-b j h d ∙ u.each (n + j) (p j h d))
      go j h (inr d) = rw d (s.high-b j h d ∙ v.each j h)

-- What a table of sources says, tested on its 64 entries.
unfoldable pub follows : (ℕ → ℕ) → (ℕ → ℕ) → ℕ → ℕ → Bool
follows f g j x = eqb (f j) (g j)

pub reads_as : (l : List ℕ) (f g : ℕ → ℕ) (w : ℕ) → Reads l f w → T (all (follows f g) 0 (replicate 64 0)) → Reads l g w
unfolding follows
reads_as l f g w r t =
    record { each = λ j h. r.each j h ∙ ap (source l) (eqb→eq (f j) (g j) (entry-rule (follows f g) (replicate 64 0) t j h)) }

-- ---- bytes of words

-- A byte is its eight bits.
pub octet-bits : (b w : ℕ) → octet b w
    ≡ byte_of (lane (7 + 8 * b) w) (lane (6 + 8 * b) w) (lane (5 + 8 * b) w) (lane (4 + 8 * b) w)
    (lane (3 + 8 * b) w) (lane (2 + 8 * b) w) (lane (1 + 8 * b) w) (lane (0 + 8 * b) w)
unfolding octet
octet-bits b w =
    let z : 0 + 8 * b ≡ 8 * b = omega arith in
    sym (shifts w (8 * b))
    ∙ rw (
      z,
      lane-shr (8 * b) 7 w,
      lane-shr (8 * b) 6 w,
      lane-shr (8 * b) 5 w,
      lane-shr (8 * b) 4 w,
      lane-shr (8 * b) 3 w,
      lane-shr (8 * b) 2 w,
      lane-shr (8 * b) 1 w,
    )
