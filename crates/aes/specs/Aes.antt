-- SPDX-License-Identifier: MIT
-- FIPS 197 §5: the cipher and the key expansion, over the key's length: Nk words of key, Nr = Nk + 6 rounds.
-- A word is a number below 2^32, its first byte the highest. A state is the list of its four columns, each a word.
-- Assumes nothing.
use Rattle.std.specs.Prelude.{◌≡◌, List, [], ◌∷◌, ◌++◌, ℕ, zero, suc, ◌+◌, ◌*◌, ◌-◌, ◌/◌, ◌%◌, ◌^◌, ◌≤◌, eqb, ltb, length, get_or, drop}
use Rattle.std.specs.Int.Bits.{bit_xor}
use Rattle.octets.specs.Octets.{number, bytes, pick, both}
use Rattle.aes_tables.specs.Field.{x_power, mul, s_box}

-- The word of four bytes, and byte i of a word.
unfoldable pub word : (a b c d : ℕ) → ℕ
word a b c d = ((a * 256 + b) * 256 + c) * 256 + d

abbrev pub byte : ℕ → ℕ → ℕ
byte i w = w / 256 ^ (3 - i) % 256

-- §5.2: SubWord and RotWord.
unfoldable pub sub_word : ℕ → ℕ
sub_word w = word (s_box (byte 0 w)) (s_box (byte 1 w)) (s_box (byte 2 w)) (s_box (byte 3 w))

unfoldable pub rot_word : ℕ → ℕ
rot_word w = word (byte 1 w) (byte 2 w) (byte 3 w) (byte 0 w)

-- A state made column by column.
abbrev pub columns : (ℕ → ℕ) → List ℕ
columns f = f 0 ∷ f 1 ∷ f 2 ∷ f 3 ∷ []

-- §5.1.1: SubBytes.
unfoldable pub sub_bytes : List ℕ → List ℕ
sub_bytes s = columns (λ c. sub_word (get_or s c 0))

-- §5.1.2: ShiftRows. Row r moves r columns to the left.
unfoldable pub shift_rows : List ℕ → List ℕ
shift_rows s =
    columns (λ c. word (byte 0 (get_or s c 0)) (byte 1 (get_or s ((c + 1) % 4) 0))
    (byte 2 (get_or s ((c + 2) % 4) 0)) (byte 3 (get_or s ((c + 3) % 4) 0)))

-- §5.1.3: MixColumns of a column of four bytes.
unfoldable pub mix_column : (a b c d : ℕ) → ℕ
mix_column a b c d =
    word (bit_xor (bit_xor (bit_xor (mul 2 a) (mul 3 b)) c) d)
    (bit_xor (bit_xor (bit_xor a (mul 2 b)) (mul 3 c)) d)
    (bit_xor (bit_xor (bit_xor a b) (mul 2 c)) (mul 3 d))
    (bit_xor (bit_xor (bit_xor (mul 3 a) b) c) (mul 2 d))

unfoldable pub mix_columns : List ℕ → List ℕ
mix_columns s =
    columns (λ c. mix_column (byte 0 (get_or s c 0)) (byte 1 (get_or s c 0)) (byte 2 (get_or s c 0)) (byte 3 (get_or s c 0)))

-- §5.1.4: AddRoundKey. Round r takes the words 4r to 4r + 3 of the key schedule w.
unfoldable pub add_round_key : (w : List ℕ) (r : ℕ) (s : List ℕ) → List ℕ
add_round_key w r s = columns (λ c. bit_xor (get_or s c 0) (get_or w (4 * r + c) 0))

-- §5.1: the state s after the rounds 1 to r, none of them the last.
unfoldable pub rounds : (w s : List ℕ) (r : ℕ) → List ℕ
rounds w s zero = s
rounds w s (suc r) = add_round_key w (suc r) (mix_columns (shift_rows (sub_bytes (rounds w s r))))

-- §5.1: Cipher, in nr rounds with the key schedule w. The last round has no MixColumns.
unfoldable pub cipher : (nr : ℕ) (w s : List ℕ) → List ℕ
cipher nr w s = add_round_key w nr (shift_rows (sub_bytes (rounds w (add_round_key w 0 s) (nr - 1))))

-- §5.2, Table 5: Rcon[j] is x^(j - 1) and three zero bytes.
unfoldable pub rcon : ℕ → ℕ
rcon j = word (x_power (j - 1)) 0 0 0

-- §5.2: what word i - 1 becomes before it is added to word i - Nk.
unfoldable pub transformed : (nk i w : ℕ) → ℕ
transformed nk i w =
    pick (eqb (i % nk) 0) (bit_xor (sub_word (rot_word w)) (rcon (i / nk)))
    (pick (both (ltb 6 nk) (eqb (i % nk) 4)) (sub_word w) w)

-- §5.2: word i of the key schedule, after the words w before it.
unfoldable pub next_word : (nk : ℕ) (key : List ℕ) (i : ℕ) (w : List ℕ) → ℕ
next_word nk key i w =
    pick (ltb i nk) (number 4 (drop (4 * i) key)) (bit_xor (get_or w (i - nk) 0) (transformed nk i (get_or w (i - 1) 0)))

-- §5.2: KeyExpansion, the first n words of the key schedule.
unfoldable pub expansion : (nk : ℕ) (key : List ℕ) (n : ℕ) → List ℕ
expansion nk key zero = []
expansion nk key (suc n) = expansion nk key n ++ (next_word nk key n (expansion nk key n) ∷ [])

-- §5, Table 3: Nk and Nr. A key of 16 bytes is AES-128's, one of 24 AES-192's, one of 32 AES-256's.
abbrev pub Nk : List ℕ → ℕ
Nk key = length key / 4

abbrev pub Nr : List ℕ → ℕ
Nr key = Nk key + 6

unfoldable pub key_expansion : List ℕ → List ℕ
key_expansion key = expansion (Nk key) key (4 * (Nr key + 1))

-- The cipher of a key, on a state.
unfoldable pub encrypt_state : List ℕ → List ℕ → List ℕ
encrypt_state key s = cipher (Nr key) (key_expansion key) s

-- The bytes of a block.
abbrev pub block_size : ℕ
block_size = 16

-- How many blocks n bytes take, the last one counted whole.
abbrev pub blocks : ℕ → ℕ
blocks n = (n + (block_size - 1)) / block_size

-- §3.4: a block as a state, and back.
unfoldable pub state_of : List ℕ → List ℕ
state_of block = columns (λ c. number 4 (drop (4 * c) block))

unfoldable pub block_of : List ℕ → List ℕ
block_of s = bytes 4 (get_or s 0 0) ++ (bytes 4 (get_or s 1 0) ++ (bytes 4 (get_or s 2 0) ++ bytes 4 (get_or s 3 0)))

-- AES encryption of a block.
unfoldable pub encrypt : List ℕ → List ℕ → List ℕ
encrypt key block = block_of (encrypt_state key (state_of block))

-- §5, Table 3: the key lengths, 128, 192 and 256 bits, in bytes: the multiples of 8 from 16 to 32.
pub record KeySize (n : ℕ) : Type 0 where
  pub whole : n % 8 ≡ 0
  pub least : 16 ≤ n
  pub most : n ≤ 32
