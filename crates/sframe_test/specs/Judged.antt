-- SPDX-License-Identifier: MIT
-- What the functions exported for tests take, and what they answer. Assumes nothing.
use Rattle.std.specs.Prelude.{Option, Some, None, Result, Ok, Err, ◌≡◌, Bool, true, false, List, ◌⊎◌, ℕ, ◌+◌, ◌-◌, ◌%◌, ◌≤◌, length}
use Rattle.suites.specs.declared.sizes.Suite.{Suite}
use Rattle.sframe_test.specs.declared.Refused.{Refused}
use Rattle.sframe_test.specs.declared.Refused.TheVariants.{Input, Tag}
use Rattle.suites.specs.Suites.{Nk, Nn, Nt}

-- The number by which a C caller knows an answer: 0 for work done, 1 for an input not taken, 13 for a tag that differs.
abbrev pub number_of : {A : Type 0} → Result A Refused → ℕ
number_of (Ok done) = 0
number_of (Err Input) = 1
number_of (Err Tag) = 13

-- An input that is taken is answered by its work; any other is answered 1, and nothing is changed.
abbrev pub Judged : (answer : ℕ) (Taken Done Kept : Type 0) (r : ℕ) → Type 0
Judged answer Taken Done Kept r = ((r ≡ answer) × Taken × Done) ⊎ ((r ≡ 1) × (Taken → ⊥) × Kept)

-- Of a known suite the one, of an unknown number the other.
abbrev pub For : Option Suite → (Suite → Type 0) → (Unsuited : Type 0) → Type 0
For (Some s) P Unsuited = P s
For None P Unsuited = Unsuited

-- A test of the code tells whether a fact holds.
pub record Tells (A : Type 0) (b : Bool) : Type 0 where
  pub holds : b ≡ true → A
  pub fails : b ≡ false → A → ⊥

-- The longest of each input.
abbrev pub max_input : ℕ
max_input = 65536

abbrev pub max_base : ℕ
max_base = 64

-- The last block count that an input of that length may start at.
abbrev pub last_count : ℕ
last_count = 0xffff_0000

-- ---- ciphers

-- A key of 16 or 32 bytes.
pub record AesKey (key : List ℕ) : Type 0 where
  pub whole : length key % 16 ≡ 0
  pub least : 16 ≤ length key
  pub most : length key ≤ 32

pub record AesTakes (key block out : List ℕ) : Type 0 where
  pub keyed : AesKey key
  pub blocked : length block ≡ 16
  pub room : 16 ≤ length out

pub record AesRepeatTakes (key block out : List ℕ) : Type 0 where
  pub keyed : AesKey key
  pub blocked : length block ≡ 16
  pub room : length out ≡ 16

pub record CtrTakes (key nonce : List ℕ) (count : ℕ) (input out : List ℕ) : Type 0 where
  pub keyed : AesKey key
  pub nonced : length nonce ≡ Nn
  pub short : length input ≤ max_input
  pub counted : count ≤ last_count
  pub room : length input ≤ length out

pub record GhashTakes (key input out : List ℕ) : Type 0 where
  pub keyed : length key ≡ 16
  pub short : length input ≤ max_input
  pub room : 16 ≤ length out

-- The inputs of an AEAD beside its key: a nonce, associated data in two parts, and a text.
pub record Parts (nonce header metadata text : List ℕ) : Type 0 where
  pub nonced : length nonce ≡ Nn
  pub headed : length header ≤ max_input
  pub told : length metadata ≤ max_input
  pub short : length text ≤ max_input

pub record GcmTakes (size : ℕ) (key nonce header metadata text out : List ℕ) : Type 0 where
  pub keyed : AesKey key
  pub parts : Parts nonce header metadata text
  pub room : size ≤ length out

-- ---- suites

pub record DeriveTakes (s : Suite) (base key salt : List ℕ) : Type 0 where
  pub based : length base ≤ max_base
  pub keyed : length key ≡ Nk s
  pub salted : length salt ≡ Nn

pub record EncryptTakes (s : Suite) (key nonce header metadata plaintext out : List ℕ) : Type 0 where
  pub keyed : length key ≡ Nk s
  pub parts : Parts nonce header metadata plaintext
  pub room : length out ≡ length plaintext + Nt s

pub record DecryptTakes (s : Suite) (key nonce header metadata sealed out : List ℕ) : Type 0 where
  pub keyed : length key ≡ Nk s
  pub parts : Parts nonce header metadata sealed
  pub tagged : Nt s ≤ length sealed
  pub room : length sealed - Nt s ≤ length out

-- ---- hashes

-- A message of at most so many bytes, cut at two places, and room for a result of so many.
pub record HashTakes (most size : ℕ) (message : List ℕ) (first second : ℕ) (out : List ℕ) : Type 0 where
  pub short : length message ≤ most
  pub inside : second ≤ length message
  pub ordered : first ≤ second
  pub room : size ≤ length out

pub record HmacTakes (most size : ℕ) (key message : List ℕ) (first second : ℕ) (out : List ℕ) : Type 0 where
  pub keyed : length key ≤ most
  pub cut : HashTakes most size message first second out

pub record HkdfTakes (most longest : ℕ) (ikm info out : List ℕ) : Type 0 where
  pub keyed : length ikm ≤ most
  pub informed : length info ≤ most
  pub limited : length out ≤ longest
