-- SPDX-License-Identifier: MIT
-- From what every list of calls keeps true to the report of a log of its sealings. Assumes nothing.
use mathlib.Core.Path.{◌≡◌, refl, sym, ◌∙◌, ap}
use mathlib.Core.Bool.{false}
use mathlib.Core.List.{List, [], ◌∷◌, ◌++◌}
use Prim.Native.Nat.{ℕ, zero, suc, ◌+◌, ◌*◌, ◌/◌, ◌%◌, ◌^◌, ◌<◌, ◌≤◌}
use native.Mathlib.Omega.{arith}
use lib.Dec.{eqb}
use lib.ListN.{length, length-append}
use lib.Pow.{high, low}
use borrow.Author.Tests.{ne_eqb}
use Rattle.octets.specs.Octets.{ascii, bytes}
use Rattle.octets.proofs.Laws.{bytes-length}
use Rattle.store.specs.Cipher.{Cipher}
use Rattle.pair_log.specs.Pairs.{record_size, pairs, among, repeated}
use Rattle.pair_log.specs.Report.{max_log, decimal, line, report}
use Rattle.pair_log.proofs.Repeats.{Distinct, repeated-none}
use Rattle.pair_log.proofs.Reports.{pairs-written, report-none}
use Rattle.sframe.specs.History.{Sealing, Event, added, sealed, opened, other}
use Rattle.sframe.specs.Promises.{kid_of, ctr_of}
use Rattle.sframe.specs.Logs.{sealings, TakenFirst, Taken, log_of}
use Rattle.sframe.proofs.Facts.{Each, Lines, fact-kid, fact-ctr, Below, Proper}

-- ---- sealings that are apart

-- KID and counter fit a record
abbrev Fits : Sealing → Type 0
Fits x = (kid_of x < 2 ^ 64) × (ctr_of x < 2 ^ 64)

abbrev Other : Sealing → Sealing → Type 0
Other x y = kid_of x ≡ kid_of y → ctr_of x ≡ ctr_of y → ⊥

abbrev Others : Sealing → List Sealing → Type 0
Others x [] = Unit {0}
Others x (y ∷ l) = Other x y × Others x l

abbrev Apart : List Sealing → Type 0
Apart [] = Unit {0}
Apart (x ∷ l) = Fits x × Others x l × Apart l

others_below : (x : Sealing) (log : List Event) → Each (Below x) log → Others x (sealings log)
unfolding sealings
others_below x [] b = tt
others_below x (added a ∷ log) b = others_below x log b
others_below x (sealed y ∷ log) b = ((λ p q. let h = b.0 (sym p) in omega (arith, h, q)), others_below x log b.1)
others_below x (opened y ∷ log) b = others_below x log b
others_below x (other ∷ log) b = others_below x log b

-- all sealings of a list of calls are apart
pub sealings-apart : (cipher : Cipher) (lines : Lines cipher) (log : List Event) → Each (Proper cipher lines) log → Apart (sealings log)
unfolding sealings
sealings-apart cipher lines [] p = tt
sealings-apart cipher lines (added a ∷ log) p = sealings-apart cipher lines log p
sealings-apart cipher lines (sealed x ∷ log) p =
    let f = p.0.0 in
    ((rw (fact-kid cipher lines x log f) f.kid-below, rw (fact-ctr cipher lines x log f) (omega (arith, f.ctr-below))), others_below x log p.0.1, sealings-apart cipher lines log p.1)
sealings-apart cipher lines (opened x ∷ log) p = sealings-apart cipher lines log p
sealings-apart cipher lines (other ∷ log) p = sealings-apart cipher lines log p

-- ---- and so are those that are taken from them

others-parts : (y x : Sealing) (before after : List Sealing) → Others y (before ++ (x ∷ after)) → Other y x × Others y (before ++ after)
others-parts y x [] after o = o
others-parts y x (z ∷ before) after o = let r = others-parts y x before after o.1 in (r.0, (o.0, r.1))

apart_parts : (x : Sealing) (before after : List Sealing) → Apart (before ++ (x ∷ after)) → Fits x × Others x (before ++ after) × Apart (before ++ after)
apart_parts x [] after a = a
apart_parts x (y ∷ before) after a =
    let r = apart_parts x before after a.2 in
    let o = others-parts y x before after a.1 in
    (r.0, ((λ p q. o.0 (sym p) (sym q)), r.1), (a.0, o.1, r.2))

others-taken : (x : Sealing) (all xs : List Sealing) → Taken all xs → Others x all → Others x xs
others-taken x all [] t o = tt
others-taken x all (y ∷ ys) t o =
    let r = others-parts x y t.before t.after (rw t.is-there at o) in
    (r.0, others-taken x (t.before ++ t.after) ys t.next r.1)

pub apart-taken : (all xs : List Sealing) → Taken all xs → Apart all → Apart xs
apart-taken all [] t a = tt
apart-taken all (x ∷ xs) t a =
    let r = apart_parts x t.before t.after (rw t.is-there at a) in
    (r.0, others-taken x (t.before ++ t.after) xs t.next r.1, apart-taken (t.before ++ t.after) xs t.next r.2)

-- ---- their log

-- the numbers of their pairs
abbrev numbers : List Sealing → List ℕ
numbers [] = []
numbers (x ∷ xs) = (kid_of x * 2 ^ 64 + ctr_of x) ∷ numbers xs

numbers_apart : (x y : Sealing) → Fits x → Fits y → Other x y → kid_of y * 2 ^ 64 + ctr_of y ≡ kid_of x * 2 ^ 64 + ctr_of x → ⊥
numbers_apart x y f g d e =
    d (sym (high (kid_of x) 64 f.1) ∙ ap (λ (v : ℕ). v / 2 ^ 64) (sym e) ∙ high (kid_of y) 64 g.1) (sym (low (kid_of x) 64 f.1) ∙ ap (λ (v : ℕ). v % 2 ^ 64) (sym e) ∙ low (kid_of y) 64 g.1)

not-among : (x : Sealing) (xs : List Sealing) → Fits x → Apart xs → Others x xs → among (kid_of x * 2 ^ 64 + ctr_of x) (numbers xs) ≡ false
unfolding among
not-among x [] f a o = refl
not-among x (y ∷ ys) f a o = rw (ne_eqb _ _ (numbers_apart x y f a.0 o.0)) (not-among x ys f a.2 o.1)

numbers-distinct : (xs : List Sealing) → Apart xs → Distinct (numbers xs)
numbers-distinct [] a = tt
numbers-distinct (x ∷ xs) a = (not-among x xs a.0 a.2 a.1, numbers-distinct xs a.2)

log-length : (xs : List Sealing) → length (log_of xs) ≡ length xs * record_size
unfolding log_of
log-length [] = refl
log-length (x ∷ xs) =
    let e = log-length xs in
    length-append (bytes 8 (kid_of x)) (bytes 8 (ctr_of x) ++ log_of xs) ∙ rw (length-append (bytes 8 (ctr_of x)) (log_of xs), bytes-length, bytes-length) (omega (arith, e))

log-pairs : (xs : List Sealing) → Apart xs → pairs (length xs) (log_of xs) ≡ numbers xs
unfolding log_of pairs
log-pairs [] a = refl
log-pairs (x ∷ xs) a = pairs-written (length xs) (kid_of x) (ctr_of x) (log_of xs) a.0.0 a.0.1 ∙ ap (λ (l : List ℕ). (kid_of x * 2 ^ 64 + ctr_of x) ∷ l) (log-pairs xs a.2)

-- nothing in it is repeated
pub log-reported : (xs : List Sealing) → Apart xs → length xs * record_size ≤ max_log → report (log_of xs) ≡ line (ascii "records " ++ decimal (length xs)) ++ line (ascii "repeated 0")
log-reported xs a h =
    let n = log-length xs in
    let d : length (log_of xs) / record_size ≡ length xs = rw n (omega arith) in
    let m : length (log_of xs) % record_size ≡ 0 = rw n (omega arith) in
    let e : repeated (pairs (length (log_of xs) / record_size) (log_of xs)) ≡ [] = rw (d, log-pairs xs a) (repeated-none (numbers xs) (numbers-distinct xs a)) in
    report-none (log_of xs) (omega (arith, n, h)) m e ∙ rw d
