-- SPDX-License-Identifier: MIT
-- Bytes of a record that are zero: the steps of the tests for them, over plain variables. Assumes nothing.
use mathlib.Core.Path.{◌≡◌, refl, sym, ◌∙◌, ap, ap₂}
use mathlib.Core.Bool.{Bool, true, false}
use mathlib.Core.List.{List, [], ◌∷◌, ◌++◌}
use Prim.Native.Nat.{ℕ, zero, suc, ◌+◌, ◌-◌, ◌*◌, ◌<◌, ◌≤◌}
use native.Mathlib.Numerals.{add-one}
use native.Mathlib.Omega.{arith}
use lib.Bits.{bit_or, or_zero_l}
use lib.Dec.{eqb}
use lib.ListN.{length, get_or, take, drop, replicate, length-drop, length-replicate, replicate-append-replicate, get_or-replicate}
use lib.Seq.{take_at, drop-drop, take-add, take-suc, take-take, take_all, get_or-take, get_or-drop, length-take-le}
use borrow.Author.Tests.{eq-eqb, ne_eqb, eqb-true, eqb-false}
use Rattle.octets.specs.Octets.{number, same, both}
use Rattle.octets.proofs.Bits.{or-zero}
use Rattle.octets.proofs.Laws.{same_count, part-rest, number-take}
use Rattle.suites.specs.Suites.{number_of, Nk}
use Rattle.suites.specs.declared.sizes.Suite.{Suite}
use Rattle.suites.specs.declared.sizes.Suite.TheVariants.{Ctr80, Ctr64, Ctr32, Gcm128, Gcm256}
use Rattle.suites.proofs.Laws.{number_is}
use Rattle.answers.proofs.Basics.{Two, yes', no', two}
use Rattle.key_record.specs.Inner.Judging.{block, zero_in}
use Rattle.key_record.specs.Layout.{record_size, salt_at, key_at, key_room, highest_at}
use Rattle.key_record.specs.Suites.{is_suite, key_size}
use Rattle.key_record.proofs.Suites.{named, key-named}

-- ---- one byte after the other

pub any_next : (d i : ℕ) (b : List ℕ) → i < length b → (d ≡ 0 → replicate i 0 ≡ take i b) → bit_or d (get_or b i 0) ≡ 0 → replicate (i + 1) 0 ≡ take (i + 1) b
any_next d i b h p e =
    let z = or-zero d (get_or b i 0) e in
    rw (add-one, take-suc b i 0 h, ← p z.0, z.1) (ap (λ (k : ℕ). replicate {A = ℕ} k 0) (sym (add-one i)) ∙ sym (replicate-append-replicate {A = ℕ} i 1 0))

pub any-before : (d i : ℕ) (b : List ℕ) → i < length b → (replicate i 0 ≡ take i b → d ≡ 0) → replicate (i + 1) 0 ≡ take (i + 1) b → bit_or d (get_or b i 0) ≡ 0
any-before d i b h q e =
    let f : replicate i 0 ≡ take i b =
    sym (take_at (replicate i 0) (replicate 1 0) i (length-replicate {A = ℕ} i 0)) ∙ ap (take i) (replicate-append-replicate {A = ℕ} i 1 0 ∙ e) ∙ take-take i (i + 1) b (omega arith)
    in
    let g : get_or b i 0 ≡ 0 = sym (get_or-take (i + 1) b i 0 (omega arith)) ∙ ap (λ (t : List ℕ). get_or t i 0) (sym e) ∙ get_or-replicate {A = ℕ} (i + 1) i 0 0 (omega arith) in
    rw (q f, g, or_zero_l)

pub any-done : (d i : ℕ) (b : List ℕ) → i ≤ length b → length b ≤ i → (d ≡ 0 → replicate i 0 ≡ take i b) → (replicate i 0 ≡ take i b → d ≡ 0)
    → eqb d 0 ≡ same (replicate (length b) 0) b
any-done d i b h k p q =
    let e : i ≡ length b = omega arith in
    same_count d (replicate (length b) 0) b (λ z. ap (λ (j : ℕ). replicate {A = ℕ} j 0) (sym e) ∙ p z ∙ take_all i b k) (λ z. q (ap (λ (j : ℕ). replicate {A = ℕ} j 0) e ∙ z ∙ sym (take_all i b k)))

-- ---- a block of them

pub block-told : (from : ℕ) (l : List ℕ) (r : Bool) → from + block ≤ length l → r ≡ same (replicate (length (take (from + block - from) (drop from l))) 0) (take (from + block - from) (drop from l)) → r ≡ zero_in from block l
unfolding zero_in
block-told from l r h e =
    let n : from + block - from ≡ block = omega arith in
    let k : length (take block (drop from l)) ≡ block = length-take-le block (drop from l) (simp length-drop (omega arith)) in
    rw (n, k) at e

-- ---- a number of them

zero-digits : (a b : ℕ) → a * 256 + b ≡ 0 → (a ≡ 0) × (b ≡ 0)
zero-digits a b e = (omega arith, omega arith)

number-none : (n : ℕ) (l : List ℕ) → n ≤ length l → number n l ≡ 0 → replicate n 0 ≡ take n l
unfolding number
number-none zero l h e = refl
number-none (suc n) l h e =
    let z = zero-digits (number n l) (get_or l n 0) e in
    rw (take-suc l n 0 (omega arith), ← number-none n l (omega arith) z.0, z.1) (ap (λ (k : ℕ). replicate {A = ℕ} k 0) (sym (add-one n)) ∙ sym (replicate-append-replicate {A = ℕ} n 1 0))

number-zeros : (n m : ℕ) → n ≤ m → number n (replicate m 0) ≡ 0
unfolding number
number-zeros zero m h = refl
number-zeros (suc n) m h = rw (number-zeros n m (omega arith), get_or-replicate {A = ℕ} m n 0 0 (omega arith))

pub zero_number : (from n v : ℕ) (l : List ℕ) → from + n ≤ length l → v ≡ number n (take (length l - from) (drop from l)) → eqb v 0 ≡ zero_in from n l
unfolding zero_in
zero_number from n v l h e =
    let x : v ≡ number n (drop from l) = e ∙ ap (number n) (part-rest from l) in
    same_count v (replicate n 0) (take n (drop from l)) (λ z. number-none n (drop from l) (simp length-drop (omega arith)) (sym x ∙ z))
    (λ z. x ∙ sym (number-take n n (drop from l) (omega arith)) ∙ ap (number n) (sym z) ∙ number-zeros n n (omega arith))

-- ---- some of them, and those behind

pub both_right : (b : Bool) → both b true ≡ b
both_right true = refl
both_right false = refl

both-none : (b : Bool) → both b false ≡ false
both-none true = refl
both-none false = refl

both-assoc : (a b c : Bool) → both a (both b c) ≡ both (both a b) c
both-assoc true b c = refl
both-assoc false b c = refl

same-append : (a b x y : List ℕ) → length a ≡ length b → same (a ++ x) (b ++ y) ≡ both (same a b) (same x y)
unfolding same
same-append [] [] x y e = refl
same-append [] (d ∷ b) x y e = absurd (omega arith)
same-append (c ∷ a) [] x y e = absurd (omega arith)
same-append (c ∷ a) (d ∷ b) x y e = ap (both (eqb c d)) (same-append a b x y (omega arith)) ∙ both-assoc (eqb c d) (same a b) (same x y)

module _ (from m n : ℕ) (l : List ℕ) (h : from + m ≤ length l) where
  zero-join : zero_in from (m + n) l ≡ both (zero_in from m l) (zero_in (from + m) n l)
  unfolding zero_in
  zero-join =
      ap₂ same (sym (replicate-append-replicate {A = ℕ} m n 0)) (take-add m n (drop from l) ∙ ap (λ (t : List ℕ). take m (drop from l) ++ take n t) (drop-drop m from l))
      ∙ same-append (replicate m 0) (take m (drop from l)) (replicate n 0) (take n (drop (from + m) l))
      (length-replicate {A = ℕ} m 0 ∙ sym (length-take-le m (drop from l) (simp length-drop (omega arith))))

  zero-front : zero_in from m l ≡ false → false ≡ zero_in from (m + n) l
  zero-front e = sym (zero-join ∙ ap (λ (t : Bool). both t (zero_in (from + m) n l)) e)

  zero_rest : (b : Bool) → zero_in from m l ≡ true → b ≡ zero_in (from + m) n l → b ≡ zero_in from (m + n) l
  zero_rest b e q = q ∙ sym (zero-join ∙ ap (λ (t : Bool). both t (zero_in (from + m) n l)) e)

  zero-last : zero_in (from + m) n l ≡ false → false ≡ zero_in from (m + n) l
  zero-last e = sym (zero-join ∙ ap (both (zero_in from m l)) e ∙ both-none (zero_in from m l))

-- ---- a salt and a key that are wiped

module _ (l : List ℕ) (n : length l ≡ record_size) where
  module _ (v : ℕ) (p : v ≡ number 8 (take (length l - salt_at) (drop salt_at l))) where
    pub wiped-not : (v ≡ 0 → ⊥) → false ≡ zero_in salt_at (highest_at - salt_at) l
    wiped-not d = zero-front salt_at 8 52 l (omega arith) (sym (zero_number salt_at 8 v l (omega arith) p) ∙ ne_eqb v 0 d)

    module _ (e : v ≡ 0) (w : ℕ) (q : w ≡ number 4 (take (length l - (salt_at + 8)) (drop (salt_at + 8) l))) where
      salt-begins : (b : Bool) → b ≡ zero_in (salt_at + 8) 52 l → b ≡ zero_in salt_at (highest_at - salt_at) l
      salt-begins b = zero_rest salt_at 8 52 l (omega arith) b (sym (zero_number salt_at 8 v l (omega arith) p) ∙ eq-eqb v 0 e)

      pub wiped-part : (w ≡ 0 → ⊥) → false ≡ zero_in salt_at (highest_at - salt_at) l
      wiped-part d = salt-begins false (zero-front (salt_at + 8) 4 key_room l (omega arith) (sym (zero_number (salt_at + 8) 4 w l (omega arith) q) ∙ ne_eqb w 0 d))

      pub wiped-salt : w ≡ 0 → (b : Bool) → b ≡ zero_in key_at key_room l → b ≡ zero_in salt_at (highest_at - salt_at) l
      wiped-salt f b r = salt-begins b (zero_rest (salt_at + 8) 4 key_room l (omega arith) b (sym (zero_number (salt_at + 8) 4 w l (omega arith) q) ∙ eq-eqb w 0 f) r)

  -- the room for a key, block by block
  pub key-first : zero_in key_at block l ≡ false → false ≡ zero_in key_at key_room l
  key-first = zero-front key_at block (2 * block) l (omega arith)

  module _ (e : zero_in key_at block l ≡ true) where
    pub key-second : zero_in (key_at + block) block l ≡ false → false ≡ zero_in key_at key_room l
    key-second f = zero_rest key_at block (2 * block) l (omega arith) false e (zero-front (key_at + block) block block l (omega arith) f)

    pub key-third : zero_in (key_at + block) block l ≡ true → (b : Bool) → b ≡ zero_in (key_at + 2 * block) block l → b ≡ zero_in key_at key_room l
    key-third f b q = zero_rest key_at block (2 * block) l (omega arith) b e (zero_rest (key_at + block) block block l (omega arith) b f q)

-- ---- what follows a key, by its suite

-- the length of a suite's key by its number: three blocks before Gcm128, then one, then two
Sized : (number size : ℕ) → Type 0
Sized n k = (n < number_of Gcm128 → k ≡ 3 * block) × (n ≡ number_of Gcm128 → k ≡ block) × (number_of Gcm128 < n → k ≡ 2 * block)

sized : (n : ℕ) → is_suite n ≡ true → Sized n (key_size n)
unfolding Sized
sized n e = let m = named n e in by m.suite (number_is n m.suite m.found) (key-named n m.suite m.found)
  where
    by : (s : Suite) → n ≡ number_of s → key_size n ≡ Nk s → Sized n (key_size n)
    by Ctr80 p q = (λ h. q, λ h. absurd (omega arith), λ h. absurd (omega arith))
    by Ctr64 p q = (λ h. q, λ h. absurd (omega arith), λ h. absurd (omega arith))
    by Ctr32 p q = (λ h. q, λ h. absurd (omega arith), λ h. absurd (omega arith))
    by Gcm128 p q = (λ h. absurd (omega arith), λ h. q, λ h. absurd (omega arith))
    by Gcm256 p q = (λ h. absurd (omega arith), λ h. absurd (omega arith), λ h. q)

-- the bytes between a key of k bytes and the window are zero
abbrev end_in : (k : ℕ) → List ℕ → Bool
end_in k l = zero_in (key_at + k) (highest_at - (key_at + k)) l

module _ (n : ℕ) (s : is_suite n ≡ true) (l : List ℕ) (k : length l ≡ record_size) where
  end_of : (size : ℕ) (b : Bool) → key_size n ≡ size → b ≡ end_in size l → b ≡ end_in (key_size n) l
  end_of size b e q = q ∙ ap (λ (j : ℕ). end_in j l) (sym e)

  pub ends-whole : n < number_of Gcm128 → true ≡ end_in (key_size n) l
  unfolding Sized zero_in same
  ends-whole h = end_of (3 * block) true ((sized n s).0 h) refl

  pub ends_last : number_of Gcm128 ≤ n → zero_in (key_at + 2 * block) block l ≡ false → false ≡ end_in (key_size n) l
  unfolding Sized
  ends_last h e = by (two (eqb n (number_of Gcm128)))
    where
      by : Two (eqb n (number_of Gcm128)) → false ≡ end_in (key_size n) l
      by (yes' t) = end_of block false ((sized n s).1 (eqb-true n (number_of Gcm128) t)) (zero-last (key_at + block) block block l (omega arith) e)
      by (no' t) = let d = eqb-false n (number_of Gcm128) t in end_of (2 * block) false ((sized n s).2 (omega (arith, h, d))) (sym e)

  pub ends-most : number_of Gcm128 ≤ n → (n ≡ number_of Gcm128 → ⊥) → zero_in (key_at + 2 * block) block l ≡ true → true ≡ end_in (key_size n) l
  unfolding Sized
  ends-most h d e = end_of (2 * block) true ((sized n s).2 (omega arith)) (sym e)

  pub ends-half : n ≡ number_of Gcm128 → zero_in (key_at + 2 * block) block l ≡ true → (b : Bool) → b ≡ zero_in (key_at + block) block l → b ≡ end_in (key_size n) l
  unfolding Sized
  ends-half h e b q =
      end_of block b ((sized n s).1 h)
      (q ∙ sym (zero-join (key_at + block) block block l (omega arith) ∙ ap (both (zero_in (key_at + block) block l)) e ∙ both_right (zero_in (key_at + block) block l)))
