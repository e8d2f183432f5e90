-- SPDX-License-Identifier: MIT
-- The SFrame header, RFC 9605 section 4.3. A Key ID (KID) and a counter (CTR) are numbers of 64 bits.
-- Assumes nothing.
use Rattle.std.specs.Prelude.{Option, Some, None, List, [], ◌∷◌, ◌++◌, ℕ, ◌+◌, ◌*◌, ◌-◌, ◌/◌, ◌%◌, ◌<◌, leb, ltb, eqb, length, drop}
use Rattle.std.specs.Int.Count.{count_leading_zeros}
use Rattle.octets.specs.Octets.{number, bytes, pasted, pick}
use Rattle.header.specs.declared.Field.{Field}
use Rattle.header.specs.declared.Header.{Header}
use Rattle.header.specs.declared.Ctr.{Ctr}
use Rattle.header.specs.declared.Kid.{Kid}

-- ---- writing

-- The minimum number of bytes that a number above 0 takes.
unfoldable pub size : ℕ → ℕ
size v = 8 - count_leading_zeros 64 v / 8

-- The flag X or Y: 0 where the value is 0 to 7 and stands in the config byte itself, else 1.
unfoldable pub flag : ℕ → ℕ
flag v = pick (ltb v 8) 0 1

-- The three bits K or C: the value itself, or the number of its bytes less one.
unfoldable pub code : ℕ → ℕ
code v = pick (ltb v 8) v (size v - 1)

-- How many bytes of the value stand after the config byte.
unfoldable pub width : ℕ → ℕ
width v = pick (ltb v 8) 0 (size v)

-- The config byte, from its top bit: X, K, Y, C.
unfoldable pub config : ℕ → ℕ → ℕ
config kid ctr = flag kid * 128 + code kid * 16 + flag ctr * 8 + code ctr

-- The longest header, in bytes.
abbrev pub max_header : ℕ
max_header = 17

-- The header: the config byte, then the bytes of the KID, then those of the CTR.
unfoldable pub header : ℕ → ℕ → List ℕ
header kid ctr = config kid ctr ∷ (bytes (width kid) kid ++ bytes (width ctr) ctr)

-- What writing a header answers, and what the room holds afterwards.
pub record Writing : Type 0 where
  pub answer : Option ℕ
  pub room : List ℕ

-- Writing a header at an offset in the room: the bytes before it and behind it stay. Cause 12: the room is shorter than offset and
-- header together.
unfoldable pub write_header : (kid ctr offset : ℕ) (out : List ℕ) → Writing
write_header kid ctr offset out =
    let h = header kid ctr in
    pick (leb (offset + length h) (length out))
    (record { answer = Some (length h); room = pasted out offset h })
    (record { answer = None; room = out })

-- ---- reading

-- A field as it was read: its value, and how many bytes of it follow the config byte.
abbrev pub field : (value width : ℕ) → Field
field value width = record { value = value; width = width }

-- A field's value in n bytes, be they more than it takes.
unfoldable pub read_bytes : ℕ → List ℕ → Option Field
read_bytes n l = pick (leb n (length l)) (Some (field (number n l) n)) None

-- A field with flag x and three bits k: k itself, or the next k + 1 bytes.
unfoldable pub read_field : (x k : ℕ) (l : List ℕ) → Option Field
read_field x k l = pick (eqb x 0) (Some (field k 0)) (read_bytes (k + 1) l)

-- A header of that KID and CTR, n bytes long.
abbrev pub header_of : (kid : Kid) (ctr : Ctr) (n : ℕ) → Option Header
header_of kid ctr n = Some (record { kid = kid; ctr = ctr; length = n })

-- The header of a KID that took a bytes and of the CTR that was read after it.
unfoldable pub with_counter : (kid a : ℕ) (counter : Option Field) → Option Header
with_counter kid a None = None
with_counter kid a (Some ctr) = header_of (record { 0 = kid }) (record { 0 = ctr.value }) (1 + a + ctr.width)

-- The CTR of the config byte b, after the KID that was read at the front of l.
unfoldable pub read_counter : (b : ℕ) (l : List ℕ) (kid : Option Field) → Option Header
read_counter b l None = None
read_counter b l (Some kid) = with_counter kid.value kid.width (read_field (b / 8 % 2) (b % 8) (drop kid.width l))

-- The header at the front of l. Cause 10: it is cut short.
unfoldable pub read_header : List ℕ → Option Header
read_header [] = None
read_header (b ∷ l) = read_counter b l (read_field (b / 128) (b / 16 % 8) l)

-- How many bytes of a field with flag x and three bits k follow the config byte.
unfoldable pub field_bytes : (x k : ℕ) → ℕ
field_bytes x k = pick (eqb x 0) 0 (k + 1)

-- How many bytes a header has by its config byte b.
unfoldable pub announced : ℕ → ℕ
announced b = 1 + field_bytes (b / 128) (b / 16 % 8) + field_bytes (b / 8 % 2) (b % 8)

-- Cut short: there are no bytes, or fewer than the first one announces.
abbrev pub CutShort : List ℕ → Type 0
CutShort [] = Unit {0}
CutShort (b ∷ l) = length (b ∷ l) < announced b
