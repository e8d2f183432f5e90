-- SPDX-License-Identifier: MIT
-- Laws of a round: what SubBytes, ShiftRows and MixColumns make of a state, column by column.
-- Assumes nothing.
use mathlib.Core.Path.{◌≡◌}
use mathlib.Core.List.{[], ◌∷◌}
use Prim.Native.Nat.{ℕ, ◌+◌, ◌*◌}
use native.Mathlib.Omega.{arith}
use Rattle.aes_tables.specs.Field.{s_box}
use Rattle.aes.specs.Aes.{word, byte, sub_word, sub_bytes, shift_rows, mix_column, mix_columns}
use Rattle.aes.proofs.Words.{s_box-lt, byte-0, byte-1, byte-2, byte-3}

-- Byte i of SubWord.
sub-0 : (w : ℕ) → byte 0 (sub_word w) ≡ s_box (byte 0 w)
unfolding sub_word
sub-0 w = byte-0 _ _ _ _ (s_box-lt _) (s_box-lt _) (s_box-lt _) (s_box-lt _)

sub-1 : (w : ℕ) → byte 1 (sub_word w) ≡ s_box (byte 1 w)
unfolding sub_word
sub-1 w = byte-1 _ _ _ _ (s_box-lt _) (s_box-lt _) (s_box-lt _) (s_box-lt _)

sub-2 : (w : ℕ) → byte 2 (sub_word w) ≡ s_box (byte 2 w)
unfolding sub_word
sub-2 w = byte-2 _ _ _ _ (s_box-lt _) (s_box-lt _) (s_box-lt _) (s_box-lt _)

sub-3 : (w : ℕ) → byte 3 (sub_word w) ≡ s_box (byte 3 w)
unfolding sub_word
sub-3 w = byte-3 _ _ _ _ (s_box-lt _) (s_box-lt _) (s_box-lt _) (s_box-lt _)

-- SubBytes, then the column that ShiftRows makes of a, b, c and d.
unfoldable pub shifted : ℕ → ℕ → ℕ → ℕ → ℕ
shifted a b c d = word (s_box (byte 0 a)) (s_box (byte 1 b)) (s_box (byte 2 c)) (s_box (byte 3 d))

pub shift-columns : (a b c d : ℕ)
    → shift_rows (sub_bytes (a ∷ b ∷ c ∷ d ∷ [])) ≡ shifted a b c d ∷ shifted b c d a ∷ shifted c d a b ∷ shifted d a b c ∷ []
unfolding shift_rows sub_bytes shifted
shift-columns a b c d = simp (sub-0, sub-1, sub-2, sub-3)

mixed-shifted : (a b c d : ℕ)
    → mix_column (byte 0 (shifted a b c d)) (byte 1 (shifted a b c d)) (byte 2 (shifted a b c d)) (byte 3 (shifted a b c d))
    ≡ mix_column (s_box (byte 0 a)) (s_box (byte 1 b)) (s_box (byte 2 c)) (s_box (byte 3 d))
unfolding shifted
mixed-shifted a b c d =
    rw (
      byte-0 (s_box (byte 0 a)) (s_box (byte 1 b)) (s_box (byte 2 c)) (s_box (byte 3 d)) (s_box-lt _) (s_box-lt _) (s_box-lt _) (s_box-lt _),
      byte-1 (s_box (byte 0 a)) (s_box (byte 1 b)) (s_box (byte 2 c)) (s_box (byte 3 d)) (s_box-lt _) (s_box-lt _) (s_box-lt _) (s_box-lt _),
      byte-2 (s_box (byte 0 a)) (s_box (byte 1 b)) (s_box (byte 2 c)) (s_box (byte 3 d)) (s_box-lt _) (s_box-lt _) (s_box-lt _) (s_box-lt _),
      byte-3 (s_box (byte 0 a)) (s_box (byte 1 b)) (s_box (byte 2 c)) (s_box (byte 3 d)) (s_box-lt _) (s_box-lt _) (s_box-lt _) (s_box-lt _),
    )

-- SubBytes, ShiftRows and MixColumns give this column of a, b, c and d.
abbrev pub mixed_column : ℕ → ℕ → ℕ → ℕ → ℕ
mixed_column a b c d = mix_column (s_box (byte 0 a)) (s_box (byte 1 b)) (s_box (byte 2 c)) (s_box (byte 3 d))

pub mix-columns : (a b c d : ℕ)
    → mix_columns (shift_rows (sub_bytes (a ∷ b ∷ c ∷ d ∷ [])))
    ≡ mixed_column a b c d ∷ mixed_column b c d a ∷ mixed_column c d a b ∷ mixed_column d a b c ∷ []
unfolding mix_columns
mix-columns a b c d =
    rw shift-columns (rw (mixed-shifted a b c d, mixed-shifted b c d a, mixed-shifted c d a b, mixed-shifted d a b c))

-- Four bytes, each in its place.
pub placed : (p q r s : ℕ) → p * 0x1000000 + q * 0x10000 + r * 0x100 + s ≡ word p q r s
unfolding word
placed p q r s = omega arith
