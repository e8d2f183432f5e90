-- SPDX-License-Identifier: MIT
-- The calls of a line from its beginning on: what they answer and leave, and that nothing changes where they refuse.
-- Assumes nothing.
use Rattle.std.specs.Prelude.{Option, Some, None}
use mathlib.Core.Path.{◌≡◌, refl, sym, ◌∙◌, ap}
use mathlib.Core.Bool.{true, false, not}
use mathlib.Core.List.{List, [], ◌++◌}
use Prim.Native.Nat.{ℕ, zero, suc, ◌+◌, ◌≤◌}
use native.Mathlib.Omega.{arith}
use borrow.Author.Tests.{le-ltb, eq-eqb, ltb-true, ltb-false, eqb-true, eqb-false, not-false}
use lib.Dec.{ltb, eqb}
use lib.ListN.{length, drop}
use lib.Seq.{drop_at}
use Rattle.octets.specs.Octets.{pasted, same}
use Rattle.octets.proofs.Laws.{same_refl, same-eq}
use Rattle.answers.specs.Answers.{first}
use Rattle.answers.proofs.Basics.{Two, yes', no', two}
use Rattle.suites.specs.declared.sizes.Suite.{Suite}
use Rattle.suites.specs.Suites.{Nt}
use Rattle.aead.specs.Aead as Aead
use Rattle.aead.specs.Aead.{ciphertext}
use Rattle.aead.proofs.Laws.{ciphertext-length, tag-length}
use Rattle.piece_line.specs.State.{sealing, checking, announced_in, taken_in, line_of}
use Rattle.piece_line.specs.Line.{state_after, after, cipher_piece, tag_in}
use Rattle.pieces.specs.Calls.{Result, refusal, concluded, past, early, wanting, seal_piece_in, seal_piece, seal_end_in, seal_end, check_piece_in, check_piece, check_end}
use Rattle.pieces.proofs.CallSteps as Steps
use Rattle.piece_line.proofs.Steps.{cipher-length}
use Rattle.piece_line.proofs.Lines.{Given, line-is, taken-on, tag_is, cipher-on, taken_is, announced-is}

-- ---- refusals, over every state

concluded-refused : (n k : ℕ) (s room : List ℕ) (r : Result) → r.number ≡ 0 → (concluded n s room r).number ≡ suc k → concluded n s room r ≡ refusal (suc k) s room
unfolding concluded
concluded-refused zero k s room r z e = absurd (omega (arith, z, e))
concluded-refused (suc n) k s room r z e = ap (λ (i : ℕ). refusal i s room) e

pub piece-refused : (s x room : List ℕ) (k : ℕ) → (seal_piece s x room).number ≡ suc k → seal_piece s x room ≡ refusal (suc k) s room
unfolding seal_piece
piece-refused s x room k = by (line_of sealing s)
  where
    by : (f : Option Suite) → (seal_piece_in f s x room).number ≡ suc k → seal_piece_in f s x room ≡ refusal (suc k) s room
    by None e = ap (λ (i : ℕ). refusal i s room) e
    by (Some suite) e = concluded-refused (first (wanting (past s (length x)) (length x) (length room))) k s room _ refl e

pub end_refused : (s room : List ℕ) (k : ℕ) → (seal_end s room).number ≡ suc k → seal_end s room ≡ refusal (suc k) s room
unfolding seal_end
end_refused s room k = by (line_of sealing s)
  where
    by : (f : Option Suite) → (seal_end_in f s room).number ≡ suc k → seal_end_in f s room ≡ refusal (suc k) s room
    by None e = ap (λ (i : ℕ). refusal i s room) e
    by (Some suite) e = concluded-refused (first (wanting (early s) (Nt suite) (length room))) k s room _ refl e

pub check-refused : (s x : List ℕ) (k : ℕ) → (check_piece s x).number ≡ suc k → check_piece s x ≡ refusal (suc k) s []
unfolding check_piece
check-refused s x k = by (line_of checking s)
  where
    by : (f : Option Suite) → (check_piece_in f s x).number ≡ suc k → check_piece_in f s x ≡ refusal (suc k) s []
    by None e = ap (λ (i : ℕ). refusal i s []) e
    by (Some suite) e = concluded-refused (first _) k s [] _ refl e

concluded-state : (n : ℕ) (s room : List ℕ) (r : Result) → r.state ≡ s → (concluded n s room r).state ≡ s
unfolding concluded
concluded-state zero s room r e = e
concluded-state (suc n) s room r e = refl

-- an end changes no state
pub end-state : (s room : List ℕ) → (seal_end s room).state ≡ s
unfolding seal_end
end-state s room = by (line_of sealing s)
  where
    by : (f : Option Suite) → (seal_end_in f s room).state ≡ s
    by None = refl
    by (Some suite) = concluded-state (first (wanting (early s) (Nt suite) (length room))) s room _ refl

-- ---- lines

-- the test of a piece, and of an end, on a state whose counts are known
past-no : (s : List ℕ) (a t n : ℕ) → announced_in s ≡ a → taken_in s ≡ t → t + n ≤ a → past s n ≡ false
past-no s a t n e f h = le-ltb (announced_in s) (taken_in s + n) (omega arith)

past_fits : (s : List ℕ) (a t n : ℕ) → announced_in s ≡ a → taken_in s ≡ t → past s n ≡ false → t + n ≤ a
past_fits s a t n e f h = omega (arith, ltb-false (announced_in s) (taken_in s + n) h)

early-no : (s : List ℕ) (a t : ℕ) → announced_in s ≡ a → taken_in s ≡ t → t ≡ a → early s ≡ false
early-no s a t e f h = ap not (eq-eqb (taken_in s) (announced_in s) (omega arith))

early-all : (s : List ℕ) (a t : ℕ) → announced_in s ≡ a → taken_in s ≡ t → early s ≡ false → t ≡ a
early-all s a t e f h = omega (arith, eqb-true (taken_in s) (announced_in s) (not-false (eqb (taken_in s) (announced_in s)) h))

not-zero : (n : ℕ) (k : ℕ) → suc k ≡ n → n ≡ 0 → ⊥
not-zero n k e f = omega arith

result : {r s : Result} → r.number ≡ s.number → r.written ≡ s.written → r.state ≡ s.state → r.room ≡ s.room → r ≡ s
result {r} {s} a b c d = rw (← a, ← b, ← c, ← d)

module _ (suite : Suite) (n : ℕ) (nonce key aad : List ℕ) (g : Given suite n nonce key aad) (rest : List ℕ) where
  abbrev E : List ℕ → List ℕ
  E p = ciphertext suite key nonce p

  abbrev Sealed : List ℕ → List ℕ
  Sealed p = state_after sealing suite n nonce key aad (E p) ++ rest

  abbrev Checked : List ℕ → List ℕ
  Checked c = state_after checking suite n nonce key aad c ++ rest

  module _ (p : List ℕ) (h : length p ≤ n) where
    E-length : length (E p) ≡ length p
    E-length = ciphertext-length suite key nonce p

    line : Some suite ≡ line_of sealing (Sealed p)
    line = sym (line-is sealing suite n nonce key aad g (E p) rest (omega (arith, E-length)))

    announced : announced_in (Sealed p) ≡ n
    announced = announced-is sealing suite n nonce key aad g (E p) rest

    taken : taken_in (Sealed p) ≡ length p
    taken = taken_is sealing suite n nonce key aad g (E p) rest (omega (arith, E-length)) ∙ E-length

    -- A piece within what was announced goes on with the ciphertext.
    pub piece-done : (x room : List ℕ) → length p + length x ≤ n → length x ≤ length room
        → seal_piece (Sealed p) x room ≡ record { number = 0; written = length x; state = Sealed (p ++ x); room = pasted room 0 (drop (length p) (E (p ++ x))) }
    piece-done x room k l =
        let t = Steps.piece-taken (Sealed p) x room (Some suite) line suite refl (past (Sealed p) (length x)) refl (past-no (Sealed p) n (length p) (length x) announced taken k) l in
        let d = cipher_piece suite (Sealed p) x in
        let on : E (p ++ x) ≡ E p ++ d = cipher-on sealing suite n nonce key aad g p x rest k in
        let st : after suite (Sealed p) d ≡ Sealed (p ++ x) =
        taken-on sealing suite n nonce key aad g (E p) rest d (omega (arith, E-length, cipher-length suite (Sealed p) x))
        ∙ ap (λ (c : List ℕ). state_after sealing suite n nonce key aad c ++ rest) (sym on) in
        let rm : d ≡ drop (length p) (E (p ++ x)) = sym (ap (drop (length p)) on ∙ drop_at (E p) d (length p) E-length) in
        result (sym t.0.0) (sym t.0.1) (sym t.1.0 ∙ st) (sym t.1.1 ∙ ap (pasted room 0) rm)

    pub piece-cause : (x room : List ℕ) → (seal_piece (Sealed p) x room).number ≡ 0 → (length p + length x ≤ n) × (length x ≤ length room)
    piece-cause x room e = by (two (past (Sealed p) (length x))) (two (ltb (length room) (length x)))
      where
        by : Two (past (Sealed p) (length x)) → Two (ltb (length room) (length x)) → (length p + length x ≤ n) × (length x ≤ length room)
        by (yes' t) w = absurd (not-zero _ 15 (Steps.piece-past (Sealed p) x room (Some suite) line suite refl (past (Sealed p) (length x)) refl t).0.0 e)
        by (no' t) (yes' w) = absurd (not-zero _ 11 (Steps.piece-short (Sealed p) x room (Some suite) line suite refl (past (Sealed p) (length x)) refl t (ltb-true (length room) (length x) w)).0.0 e)
        by (no' t) (no' w) = (past_fits (Sealed p) n (length p) (length x) announced taken t, ltb-false (length room) (length x) w)

    -- The end of all of it gives the tag.
    pub end-done : (room : List ℕ) → length p ≡ n → Nt suite ≤ length room
        → seal_end (Sealed p) room ≡ record { number = 0; written = Nt suite; state = Sealed p; room = pasted room 0 (Aead.tag suite key nonce aad (E p)) }
    end-done room k l =
        let g' = tag_is sealing suite n nonce key aad g (E p) rest (E-length ∙ k) in
        let t = Steps.end-written (Sealed p) room (Some suite) line suite refl (early (Sealed p)) refl (Nt suite) refl (early-no (Sealed p) n (length p) announced taken k) (pasted room 0 (tag_in suite (Sealed p))) (tag_in suite (Sealed p)) l refl refl in
        result (sym t.0.0) (sym t.0.1) (sym t.1.0) (sym t.1.1 ∙ ap (pasted room 0) g')

    pub end-cause : (room : List ℕ) → (seal_end (Sealed p) room).number ≡ 0 → (length p ≡ n) × (Nt suite ≤ length room)
    end-cause room e = by (two (early (Sealed p))) (two (ltb (length room) (Nt suite)))
      where
        by : Two (early (Sealed p)) → Two (ltb (length room) (Nt suite)) → (length p ≡ n) × (Nt suite ≤ length room)
        by (yes' t) w = absurd (not-zero _ 15 (Steps.end-early (Sealed p) room (Some suite) line suite refl (early (Sealed p)) refl t).0.0 e)
        by (no' t) (yes' w) = absurd (not-zero _ 11 (Steps.end_short (Sealed p) room (Some suite) line suite refl (early (Sealed p)) refl (Nt suite) refl t (ltb-true (length room) (Nt suite) w)).0.0 e)
        by (no' t) (no' w) = (early-all (Sealed p) n (length p) announced taken t, ltb-false (length room) (Nt suite) w)

  module _ (c : List ℕ) (h : length c ≤ n) where
    check-line : Some suite ≡ line_of checking (Checked c)
    check-line = sym (line-is checking suite n nonce key aad g c rest h)

    check-announced : announced_in (Checked c) ≡ n
    check-announced = announced-is checking suite n nonce key aad g c rest

    check-taken : taken_in (Checked c) ≡ length c
    check-taken = taken_is checking suite n nonce key aad g c rest h

    pub check_done : (d : List ℕ) → length c + length d ≤ n → check_piece (Checked c) d ≡ record { number = 0; written = 0; state = Checked (c ++ d); room = [] }
    check_done d k =
        let t = Steps.check_done (Checked c) d (Some suite) check-line suite refl (past (Checked c) (length d)) refl (past-no (Checked c) n (length c) (length d) check-announced check-taken k) in
        result (sym t.0.0) (sym t.0.1) (sym t.1.0 ∙ taken-on checking suite n nonce key aad g c rest d k) (sym t.1.1)

    pub check-cause : (d : List ℕ) → (check_piece (Checked c) d).number ≡ 0 → length c + length d ≤ n
    check-cause d e = by (two (past (Checked c) (length d)))
      where
        by : Two (past (Checked c) (length d)) → length c + length d ≤ n
        by (yes' t) = absurd (not-zero _ 15 (Steps.check-past (Checked c) d (Some suite) check-line suite refl (past (Checked c) (length d)) refl t).0.0 e)
        by (no' t) = past_fits (Checked c) n (length c) (length d) check-announced check-taken t

    -- A check answers 0 exactly where the tag is that of the ciphertext.
    pub check-yes : (tag : List ℕ) → length c ≡ n → tag ≡ Aead.tag suite key nonce aad c → check_end (Checked c) tag ≡ 0
    check-yes tag k e =
        let i : tag_in suite (Checked c) ≡ tag = tag_is checking suite n nonce key aad g c rest k ∙ sym e in
        let s : same tag (tag_in suite (Checked c)) ≡ true = ap (same tag) i ∙ same_refl tag in
        sym (Steps.tag_same (Checked c) tag (Some suite) check-line suite refl (early (Checked c)) refl (Nt suite) refl (early-no (Checked c) n (length c) check-announced check-taken k)
        (ap length e ∙ tag-length suite key nonce aad c) (tag_in suite (Checked c)) (same tag (tag_in suite (Checked c))) refl refl (ap not s))

    pub check-only : (tag : List ℕ) → check_end (Checked c) tag ≡ 0 → (length c ≡ n) × (tag ≡ Aead.tag suite key nonce aad c)
    check-only tag e = by (two (early (Checked c))) (two (eqb (length tag) (Nt suite))) (two (same tag (tag_in suite (Checked c))))
      where
        by : Two (early (Checked c)) → Two (eqb (length tag) (Nt suite)) → Two (same tag (tag_in suite (Checked c))) → (length c ≡ n) × (tag ≡ Aead.tag suite key nonce aad c)
        by (yes' t) w z = absurd (not-zero _ 15 (Steps.tag-early (Checked c) tag (Some suite) check-line suite refl (early (Checked c)) refl t) e)
        by (no' t) (no' w) z =
            absurd (not-zero _ 10 (Steps.tag-length (Checked c) tag (Some suite) check-line suite refl (early (Checked c)) refl (Nt suite) refl t (eqb-false (length tag) (Nt suite) w)) e)
        by (no' t) (yes' w) (no' z) =
            absurd (not-zero _ 12 (Steps.tag-differs (Checked c) tag (Some suite) check-line suite refl (early (Checked c)) refl (Nt suite) refl t (eqb-true (length tag) (Nt suite) w) (tag_in suite (Checked c)) (same tag (tag_in suite (Checked c))) refl refl (ap not z)) e)
        by (no' t) (yes' w) (yes' z) =
            let k = early-all (Checked c) n (length c) check-announced check-taken t in
            (k, same-eq tag (tag_in suite (Checked c)) z ∙ tag_is checking suite n nonce key aad g c rest k)
