-- SPDX-License-Identifier: MIT
-- The Secure Hash Standard, FIPS 180-4: SHA-2 as one definition over a record of parameters.
-- A byte string is a list of bytes, a hash value a list of eight words. Section numbers are the standard's;
-- where it has one section for words of 32 bits and one for 64, both are given.
-- Assumes nothing.
use Rattle.std.specs.Prelude.{List, [], ◌∷◌, ◌++◌, ℕ, zero, suc, ◌+◌, ◌-◌, ◌*◌, ◌/◌, ◌%◌, ◌^◌, length, get_or, take, drop, replicate}
use Rattle.std.specs.Int.Bits.{bit_and, bit_or, bit_xor}
use Rattle.octets.specs.Octets.{number, bytes}

-- How far one of the functions Σ and σ rotates and shifts.
pub record Amounts : Type 0 where
  pub first : ℕ
  pub second : ℕ
  pub third : ℕ

-- What tells one hash of the family from another (sections 1 and 4 to 6).
pub record Params : Type 0 where
  -- w, the bits in a word
  pub bits : ℕ
  -- the bytes in a word
  pub size : ℕ
  -- the bytes in a block, of sixteen words
  pub block : ℕ
  -- the bytes at the end of the padding that hold the message's length
  pub field : ℕ
  -- the rounds for each block
  pub turns : ℕ
  -- K, the constants of the rounds
  pub constants : List ℕ
  -- H(0), the initial hash value
  pub initial : List ℕ
  pub big_sigma0 : Amounts
  pub big_sigma1 : Amounts
  pub small_sigma0 : Amounts
  pub small_sigma1 : Amounts

module _ (p : Params) where
  -- 3.2: x + y, modulo 2 ^ w.
  abbrev pub add : (x y : ℕ) → ℕ
  add x y = (x + y) % 2 ^ p.bits

  -- 3.2: ROTR n x, the rotation of x to the right by n bits.
  abbrev pub rotr : (n x : ℕ) → ℕ
  rotr n x = bit_or (x / 2 ^ n) (x * 2 ^ (p.bits - n) % 2 ^ p.bits)

  -- 3.2: SHR n x, the shift of x to the right by n bits.
  abbrev pub shr : (n x : ℕ) → ℕ
  shr n x = x / 2 ^ n

  -- 2.2.2: the complement ¬ x.
  abbrev pub complement : ℕ → ℕ
  complement x = 2 ^ p.bits - 1 - x

  -- 4.1.2, 4.1.3: the six functions.
  abbrev pub Ch : (x y z : ℕ) → ℕ
  Ch x y z = bit_xor (bit_and x y) (bit_and (complement x) z)

  abbrev pub Maj : (x y z : ℕ) → ℕ
  Maj x y z = bit_xor (bit_xor (bit_and x y) (bit_and x z)) (bit_and y z)

  abbrev pub big_sigma : (n : Amounts) (x : ℕ) → ℕ
  big_sigma n x = bit_xor (bit_xor (rotr n.first x) (rotr n.second x)) (rotr n.third x)

  abbrev pub small_sigma : (n : Amounts) (x : ℕ) → ℕ
  small_sigma n x = bit_xor (bit_xor (rotr n.first x) (rotr n.second x)) (shr n.third x)

  abbrev pub Σ0 : ℕ → ℕ
  Σ0 x = big_sigma p.big_sigma0 x

  abbrev pub Σ1 : ℕ → ℕ
  Σ1 x = big_sigma p.big_sigma1 x

  abbrev pub σ0 : ℕ → ℕ
  σ0 x = small_sigma p.small_sigma0 x

  abbrev pub σ1 : ℕ → ℕ
  σ1 x = small_sigma p.small_sigma1 x

  -- 5.1.1, 5.1.2: the padding of a message of n bytes: a bit 1, the fewest zeros that fill a whole number
  -- of blocks, and the length in bits.
  unfoldable pub zeros : ℕ → ℕ
  zeros n = (2 * p.block - (p.field + 1) - n % p.block) % p.block

  unfoldable pub padding : ℕ → List ℕ
  padding n = 0x80 ∷ (replicate (zeros n) 0 ++ bytes p.field (8 * n))

  -- 5.2.1, 5.2.2: the first n words of a block.
  unfoldable pub words : (n : ℕ) (b : List ℕ) → List ℕ
  words zero b = []
  words (suc n) b = words n b ++ (number p.size (drop (p.size * n) b) ∷ [])

  -- 6.2.2, 6.4.2, step 1: the word W(t + 16) of the message schedule, whose first t + 16 words are l.
  unfoldable pub next : (l : List ℕ) (t : ℕ) → ℕ
  next l t = add (add (add (σ1 (get_or l (t + 14) 0)) (get_or l (t + 9) 0)) (σ0 (get_or l (t + 1) 0))) (get_or l t 0)

  -- the block's sixteen words and n more.
  unfoldable pub schedule : (n : ℕ) (b : List ℕ) → List ℕ
  schedule zero b = words 16 b
  schedule (suc n) b = schedule n b ++ (next (schedule n b) n ∷ [])

  -- Step 3: one round, with the constant k and the word w, on the working variables a to h.
  unfoldable pub T1 : (v : List ℕ) (k w : ℕ) → ℕ
  T1 v k w = add (add (add (add (get_or v 7 0) (Σ1 (get_or v 4 0))) (Ch (get_or v 4 0) (get_or v 5 0) (get_or v 6 0))) k) w

  unfoldable pub T2 : List ℕ → ℕ
  T2 v = add (Σ0 (get_or v 0 0)) (Maj (get_or v 0 0) (get_or v 1 0) (get_or v 2 0))

  unfoldable pub round : (v : List ℕ) (k w : ℕ) → List ℕ
  round v k w =
      add (T1 v k w) (T2 v) ∷ get_or v 0 0 ∷ get_or v 1 0 ∷ get_or v 2 0
      ∷ add (get_or v 3 0) (T1 v k w) ∷ get_or v 4 0 ∷ get_or v 5 0 ∷ get_or v 6 0 ∷ []

  -- the working variables after the first t rounds, with the schedule w, that start at v.
  unfoldable pub rounds : (w : List ℕ) (t : ℕ) (v : List ℕ) → List ℕ
  rounds w zero v = v
  rounds w (suc t) v = round (rounds w t v) (get_or p.constants t 0) (get_or w t 0)

  -- Step 4: the hash value after the block b, from h before it.
  abbrev pub adds : (h v : List ℕ) → List ℕ
  adds [] v = []
  adds (x ∷ h) v = add x (get_or v 0 0) ∷ adds h (drop 1 v)

  unfoldable pub compress : (h b : List ℕ) → List ℕ
  compress h b = adds h (rounds (schedule (p.turns - 16) b) p.turns h)

  -- 6.2.2, 6.4.2: the hash value after the first n blocks of m, from h.
  unfoldable pub chain : (n : ℕ) (h m : List ℕ) → List ℕ
  chain zero h m = h
  chain (suc n) h m = chain n (compress h (take p.block m)) (drop p.block m)

  -- after all whole blocks of m.
  unfoldable pub run : (h m : List ℕ) → List ℕ
  run h m = chain (length m / p.block) h m

  -- the words of a hash value, one after the other.
  unfoldable pub joined : List ℕ → List ℕ
  joined [] = []
  joined (x ∷ h) = bytes p.size x ++ joined h

  -- 6.2, 6.4: the message digest of m.
  unfoldable pub hash : List ℕ → List ℕ
  hash m = joined (run p.initial (m ++ padding (length m)))
