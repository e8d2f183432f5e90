-- SPDX-License-Identifier: MIT
-- What is reported of a log, to the byte. Assumes nothing.
use Rattle.std.specs.Prelude.{List, [], ◌∷◌, ◌++◌, ℕ, zero, suc, ◌+◌, ◌/◌, ◌%◌, ◌^◌, eqb, ltb, length, drop}
use Rattle.octets.specs.Octets.{ascii, pick}
use Rattle.header.specs.Answers.{room_short}
use Rattle.answers.specs.Answers.{done, ◌if◌, first, Outcome, settled}
use Rattle.pair_log.specs.Pairs.{record_size, pairs, repeated}

-- A log has at most this many bytes: 4,096 records.
abbrev pub max_log : ℕ
max_log = 65536

-- ---- numbers as text

-- The digit of a number below 16: 0 to 9 from 48 on, a to f from 97 on.
abbrev pub digit : ℕ → ℕ
digit d = pick (ltb d 10) (48 + d) (87 + d)

-- The lowest n digits of x to a base.
unfoldable pub digits : (base n x : ℕ) → List ℕ
digits base zero x = []
digits base (suc n) x = digit (x / base ^ n % base) ∷ digits base n x

-- The decimal digits that a number below 10,000 takes.
unfoldable pub places : ℕ → ℕ
places x = pick (ltb x 10) 1 (pick (ltb x 100) 2 (pick (ltb x 1000) 3 4))

abbrev pub decimal : ℕ → List ℕ
decimal x = digits 10 (places x) x

-- 64 bits.
abbrev pub hex : ℕ → List ℕ
hex x = digits 16 16 x

-- ---- lines

abbrev pub line : List ℕ → List ℕ
line text = text ++ (10 ∷ [])

abbrev pub too_long : List ℕ
too_long = line (ascii "too long")

abbrev pub bad_length : List ℕ
bad_length = line (ascii "bad length")

unfoldable pub counted : (label : List ℕ) (n : ℕ) → List ℕ
counted label n = line (label ++ decimal n)

-- KID, a space, counter.
unfoldable pub pair_line : (kid ctr : ℕ) → List ℕ
pair_line kid ctr = line (hex kid ++ (32 ∷ hex ctr))

unfoldable pub pair_lines : List ℕ → List ℕ
pair_lines [] = []
pair_lines (v ∷ vs) = pair_line (v / 2 ^ 64) (v % 2 ^ 64) ++ pair_lines vs

-- ---- the report

-- Of so many records, the pairs that are listed.
unfoldable pub listing : (n : ℕ) (listed : List ℕ) → List ℕ
listing n listed = counted (ascii "records ") n ++ (counted (ascii "repeated ") (length listed) ++ pair_lines listed)

unfoldable pub listing_of : (log : List ℕ) → List ℕ
listing_of log = let n = length log / record_size in listing n (repeated (pairs n log))

unfoldable pub report : (log : List ℕ) → List ℕ
report log = pick (ltb max_log (length log)) too_long (pick (eqb (length log % record_size) 0) (listing_of log) bad_length)

-- The report at the start of a room: refused where the room is shorter. There is no store: it is the empty one.
unfoldable pub written : (text room : List ℕ) → Outcome
written text room = settled (first ((room_short if ltb (length room) (length text)) ∷ [])) [] room (record { number = done; written = length text; store = []; room = text ++ drop (length text) room; state = [] })
