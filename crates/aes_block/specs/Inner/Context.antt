-- SPDX-License-Identifier: MIT
-- Inner: the context of a key, one array of words that the block function works from, as contracts of the code cite it.
-- Other crates cite `Context`, `Ready` and `key_of`, and never a field.
-- Assumes nothing.
use Rattle.std.specs.Prelude.{◌≡◌, List, [], ◌∷◌, ◌++◌, ℕ, zero, suc, ◌+◌, ◌*◌, ◌-◌, ◌^◌, ◌<◌, length, get_or, take}
use Rattle.octets.specs.Octets.{bytes}
use Rattle.aes_block.specs.declared.State.{State}
use Rattle.aes_tables.specs.Field.{mul}
use Rattle.aes_round_table.specs.Inner.RoundTable.{entry_of}
use Rattle.aes.specs.Aes.{word, Nr, key_expansion, KeySize}
use Rattle.aes.specs.Inner.Schedule.{max_words}

-- The layout: the key schedule from 0 on, Nr, the table of the rounds with an entry for each byte.
abbrev pub rounds_at : ℕ
rounds_at = max_words

abbrev pub table_at : ℕ
table_at = 64

abbrev pub entries : ℕ
entries = 256

abbrev pub size : ℕ
size = table_at + entries

-- MixColumns of a column that is 0 but for the byte s in one place.
unfoldable pub share0 : ℕ → ℕ
share0 s = word (mul 2 s) s s (mul 3 s)

unfoldable pub share1 : ℕ → ℕ
share1 s = word (mul 3 s) (mul 2 s) s s

unfoldable pub share2 : ℕ → ℕ
share2 s = word s (mul 3 s) (mul 2 s) s

unfoldable pub share3 : ℕ → ℕ
share3 s = word s s (mul 3 s) (mul 2 s)

-- That of the byte in place i.
abbrev pub share_of : ℕ → ℕ → ℕ
share_of zero = share0
share_of (suc zero) = share1
share_of (suc (suc zero)) = share2
share_of (suc (suc (suc i))) = share3

-- The array is long enough, what stands in front of the table are words, and it holds the table's first n entries.
pub record Table (n : ℕ) (ctx : List ℕ) : Type 0 where
  pub sized : length ctx ≡ size
  pub words : (i : ℕ) → i < table_at → get_or ctx i 0 < 2 ^ 32
  pub entry : (x : ℕ) → x < n → get_or ctx (table_at + x) 0 ≡ entry_of x

-- The array holds the table and the key schedule, for as many rounds.
pub record Filled (key ctx : List ℕ) (rounds : ℕ) : Type 0 where
  pub table : Table entries ctx
  pub schedule : take (4 * (Nr key + 1)) ctx ≡ key_expansion key
  pub count : rounds ≡ Nr key

-- The bytes of the first n words.
unfoldable pub word_bytes : ℕ → List ℕ → List ℕ
word_bytes zero w = []
word_bytes (suc n) w = word_bytes n w ++ bytes 4 (get_or w n 0)

-- The key of which an array is the context: the first Nk words of the key schedule.
unfoldable pub key_of : List ℕ → List ℕ
key_of ctx = word_bytes (get_or ctx rounds_at 0 - 6) ctx

-- This array is the context of that key.
pub record Context (key ctx : List ℕ) : Type 0 where
  pub table : Table entries ctx
  pub key_size : KeySize (length key)
  pub rounds : get_or ctx rounds_at 0 ≡ Nr key
  pub schedule : take (4 * (Nr key + 1)) ctx ≡ key_expansion key
  pub keyed : key_of ctx ≡ key

-- This array is the context of the key that it holds.
abbrev pub Ready : List ℕ → Type 0
Ready ctx = Context (key_of ctx) ctx

-- A state of the code as a list of its columns.
abbrev pub list_of : State → List ℕ
list_of s = s.c0 ∷ s.c1 ∷ s.c2 ∷ s.c3 ∷ []
