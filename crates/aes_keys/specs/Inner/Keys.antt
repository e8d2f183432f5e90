-- SPDX-License-Identifier: MIT
-- Inner: the context of a key, one array of words, as contracts of the code cite it. Other crates cite `Context`, `Ready` and
-- `key_of`, and never a field.
-- Assumes nothing.
use Rattle.std.specs.Prelude.{◌≡◌, List, [], ◌∷◌, ◌++◌, ℕ, zero, suc, ◌+◌, ◌*◌, ◌-◌, ◌/◌, ◌%◌, ◌<◌, length, get_or, take, drop}
use Rattle.octets.specs.Octets.{bytes}
use Rattle.aes.specs.Aes.{Nr, key_expansion, KeySize}
use Rattle.aes_rows.specs.Blocks.{column, KeyPlanes}

-- The layout: the planes of 15 round keys, then Nr.
abbrev pub rounds_at : ℕ
rounds_at = 32 * 15

abbrev pub size : ℕ
size = rounds_at + 1

-- Four bytes, each twice, the first highest.
unfoldable pub packed : (a b c d : ℕ) → ℕ
packed a b c d = (((a * 0x10000 + b) * 0x10000 + c) * 0x10000 + d) * 0x101

-- Each of the sixteen blocks has these four columns.
pub record Filled (w0 w1 w2 w3 : ℕ) (q : List ℕ) : Type 0 where
  pub sized : length q ≡ 32
  pub each : (m c : ℕ) → m < 16 → c < 4 → column q m c ≡ get_or (w0 ∷ w1 ∷ w2 ∷ w3 ∷ []) c 0

-- The planes of round key r.
abbrev pub planes_at : List ℕ → ℕ → List ℕ
planes_at ctx r = take 32 (drop (32 * r) ctx)

-- The bytes of the first n words of the key schedule, as block 0 has them.
unfoldable pub key_bytes : ℕ → List ℕ → List ℕ
key_bytes zero ctx = []
key_bytes (suc n) ctx = key_bytes n ctx ++ bytes 4 (column (planes_at ctx (n / 4)) 0 (n % 4))

-- The key of which an array is the context: the first Nk words of the key schedule.
unfoldable pub key_of : List ℕ → List ℕ
key_of ctx = key_bytes (get_or ctx rounds_at 0 - 6) ctx

-- The first n round keys are there.
pub record RoundKeys (key : List ℕ) (n : ℕ) (ctx : List ℕ) : Type 0 where
  pub sized : length ctx ≡ size
  pub planes : (r : ℕ) → r < n → KeyPlanes (key_expansion key) r (planes_at ctx r)

-- This array is the context of that key.
pub record Context (key ctx : List ℕ) : Type 0 where
  pub keys : RoundKeys key (Nr key + 1) ctx
  pub key_size : KeySize (length key)
  pub rounds : get_or ctx rounds_at 0 ≡ Nr key
  pub keyed : key_of ctx ≡ key

-- This array is the context of the key that it holds.
abbrev pub Ready : List ℕ → Type 0
Ready ctx = Context (key_of ctx) ctx
