-- SPDX-License-Identifier: MIT
-- The cipher suites of RFC 9605, section 4.5, as rows of its Table 1, by their registered numbers (8.1). Assumes nothing.
use Rattle.std.specs.Prelude.{Option, Some, None, List, [], ◌∷◌, ℕ, eqb}
use Rattle.octets.specs.Octets.{pick}
use Rattle.sha2_common.specs.Sha2.{Params}
use Rattle.sha2_common.specs.Sizes.{sha256, sha512}
use Rattle.suites.specs.declared.sizes.Suite.{Suite}
use Rattle.suites.specs.declared.sizes.Suite.TheVariants.{Ctr80, Ctr64, Ctr32, Gcm128, Gcm256}
use Rattle.suites.specs.declared.sizes.Mode.{Mode}
use Rattle.suites.specs.declared.sizes.Mode.TheVariants.{CtrHmac, Gcm}
use Rattle.suites.specs.declared.sizes.Hash.{Hash}
use Rattle.suites.specs.declared.sizes.Hash.TheVariants.{Sha256, Sha512}

-- A row of Table 1. The mode is AES-CTR with HMAC (4.5.1) or AES-GCM (4.5 with SP 800-38D); the hash is that of the key
-- derivation. The sizes are in bytes: Nh of the hash, Nka of the part of the key that encrypts where HMAC has a key of its
-- own, Nk of the key, Nn of the nonce and of the salt, Nt of the tag.
pub record Row : Type 0 where
  pub number : ℕ
  pub mode : Mode
  pub hash : Hash
  pub nh : ℕ
  pub nka : ℕ
  pub nk : ℕ
  pub nn : ℕ
  pub nt : ℕ

abbrev pub row : (number : ℕ) (mode : Mode) (hash : Hash) (nh nka nk nn nt : ℕ) → Row
row number mode hash nh nka nk nn nt =
    record { number = number; mode = mode; hash = hash; nh = nh; nka = nka; nk = nk; nn = nn; nt = nt }

-- Table 1's "n/a".
abbrev pub n/a : ℕ
n/a = 0

-- Table 1. Columns: number, mode, hash, Nh, Nka, Nk, Nn, Nt.
abbrev pub table : Suite → Row
table Ctr80 = row 1 CtrHmac Sha256 32 16 48 12 10
table Ctr64 = row 2 CtrHmac Sha256 32 16 48 12 8
table Ctr32 = row 3 CtrHmac Sha256 32 16 48 12 4
table Gcm128 = row 4 Gcm Sha256 32 n/a 16 12 16
table Gcm256 = row 5 Gcm Sha512 64 n/a 32 12 16

-- ---- the columns

abbrev pub number_of : Suite → ℕ
number_of s = (table s).number

abbrev pub mode_of : Suite → Mode
mode_of s = (table s).mode

abbrev pub params_of : Hash → Params
params_of Sha256 = sha256
params_of Sha512 = sha512

abbrev pub hash_of : Suite → Params
hash_of s = params_of (table s).hash

abbrev pub Nh : Suite → ℕ
Nh s = (table s).nh

abbrev pub Nk : Suite → ℕ
Nk s = (table s).nk

abbrev pub Nt : Suite → ℕ
Nt s = (table s).nt

-- Nka and Nn are the same in every row that has them.
abbrev pub Nka : ℕ
Nka = 16

abbrev pub Nn : ℕ
Nn = 12

-- The bytes of the key that AES takes: the first Nka where HMAC takes the others, else all.
abbrev pub aes_part : Mode → Row → ℕ
aes_part CtrHmac r = r.nka
aes_part Gcm r = r.nk

abbrev pub cipher_key_size : Suite → ℕ
cipher_key_size s = aes_part (mode_of s) (table s)

-- ---- the suite of a number

abbrev pub all : List Suite
all = Ctr80 ∷ Ctr64 ∷ Ctr32 ∷ Gcm128 ∷ Gcm256 ∷ []

-- The first of some suites that has the number.
abbrev pub among : ℕ → List Suite → Option Suite
among n [] = None
among n (s ∷ l) = pick (eqb n (number_of s)) (Some s) (among n l)

unfoldable pub suite_of : ℕ → Option Suite
suite_of n = among n all
