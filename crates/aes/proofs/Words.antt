-- SPDX-License-Identifier: MIT
-- Laws of words and of the field: bytes of a word, XOR of words, products by 2 and 3.
-- Assumes nothing.
use mathlib.Core.Path.{◌≡◌, ap, ◌∙◌}
use Prim.Native.Nat.{ℕ, ◌+◌, ◌*◌, ◌/◌, ◌%◌, ◌^◌, ◌<◌}
use native.Mathlib.Nat.{zero-mul, one-mul}
use native.Mathlib.Omega.{arith}
use lib.Bits.{bit_xor, xor_zero_l, xor_zero_r, xor_lt, xor_block}
use Rattle.aes_tables.specs.Field.{x_times, products, mul, affine_bit, affine_bits, s_box}
use Rattle.aes.specs.Aes.{word, byte}

pub mul-two : (b : ℕ) → mul 2 b ≡ x_times b
unfolding mul products
mul-two b = simp (zero-mul, one-mul, xor_zero_l, xor_zero_r)

pub mul-three : (b : ℕ) → mul 3 b ≡ bit_xor b (x_times b)
unfolding mul products
mul-three b = simp (zero-mul, one-mul, xor_zero_l, xor_zero_r)

pub x_times-lt : (b : ℕ) → b < 256 → x_times b < 256
unfolding x_times
x_times-lt b h = xor_lt 8 (b * 2 % 256) (b / 128 * 0x1b) (omega arith) (omega arith)

pub twice-lt : (b : ℕ) → b < 256 → mul 2 b < 256
twice-lt b h = rw mul-two (x_times-lt b h)

pub thrice-lt : (b : ℕ) → b < 256 → mul 3 b < 256
thrice-lt b h = rw mul-three (xor_lt 8 _ _ h (x_times-lt b h))

pub s_box-lt : (x : ℕ) → s_box x < 256
unfolding s_box affine_bits affine_bit
s_box-lt x = omega arith

module _ (a b c d : ℕ) (ha : a < 256) (hb : b < 256) (hc : c < 256) (hd : d < 256) where
  pub byte-0 : byte 0 (word a b c d) ≡ a
  unfolding word
  byte-0 = omega arith

  pub byte-1 : byte 1 (word a b c d) ≡ b
  unfolding word
  byte-1 = omega arith

  pub byte-2 : byte 2 (word a b c d) ≡ c
  unfolding word
  byte-2 = omega arith

  pub byte-3 : byte 3 (word a b c d) ≡ d
  unfolding word
  byte-3 = omega arith

  pub word_lt : word a b c d < 2 ^ 32
  unfolding word
  word_lt = omega arith

  -- A word turned right by 1, 2 and 3 bytes.
  pub right-1 : word a b c d / 0x100 + word a b c d % 0x100 * 0x1000000 ≡ word d a b c
  unfolding word
  right-1 = omega arith

  pub right-2 : word a b c d / 0x10000 + word a b c d % 0x10000 * 0x10000 ≡ word c d a b
  unfolding word
  right-2 = omega arith

  pub right-3 : word a b c d / 0x1000000 + word a b c d % 0x1000000 * 0x100 ≡ word b c d a
  unfolding word
  right-3 = omega arith

  -- A word turned left by 1 byte.
  pub left-1 : word a b c d % 0x1000000 * 0x100 + word a b c d / 0x1000000 ≡ word b c d a
  unfolding word
  left-1 = omega arith

  pub word-xor : (e f g h : ℕ) → f < 256 → g < 256 → h < 256
      → bit_xor (word a b c d) (word e f g h) ≡ word (bit_xor a e) (bit_xor b f) (bit_xor c g) (bit_xor d h)
  unfolding word
  word-xor e f g h hf hg hh =
      xor_block 8 _ _ d h hd hh
      ∙ ap (λ (x : ℕ). x * 256 + bit_xor d h)
      (xor_block 8 _ _ c g hc hg ∙ ap (λ (x : ℕ). x * 256 + bit_xor c g) (xor_block 8 a e b f hb hf))

-- A word is the word of its bytes.
pub word_bytes : (w : ℕ) → w < 2 ^ 32 → word (byte 0 w) (byte 1 w) (byte 2 w) (byte 3 w) ≡ w
unfolding word
word_bytes w h =
    let p : w / 0x1000000 % 256 * 256 + w / 0x10000 % 256 ≡ w / 0x10000 = omega arith in
    let q : w / 0x10000 * 256 + w / 0x100 % 256 ≡ w / 0x100 = omega arith in
    let r : w / 0x100 * 256 + w / 1 % 256 ≡ w = omega arith in
    rw (p, q, r)
