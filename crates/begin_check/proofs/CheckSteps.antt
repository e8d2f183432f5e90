-- SPDX-License-Identifier: MIT
-- The steps of beginning to check, over plain variables. Assumes nothing.
use Rattle.std.specs.Prelude.{Option, Some, None}
use mathlib.Core.Path.{◌≡◌, refl, sym, ◌∙◌, ap, ap₂}
use mathlib.Core.Bool.{Bool, true, false, not}
use mathlib.Core.List.{List, [], ◌++◌}
use Prim.Native.Nat.{ℕ, zero, suc, ◌-◌, ◌<◌, ◌≤◌}
use native.Mathlib.Nat.{sub-zero}
use native.Mathlib.Omega.{arith}
use lib.ListN.{length, get_or, take, length-take}
use borrow.Author.Tests.{lt-ltb, le-ltb}
use Rattle.octets.specs.Octets.{pasted}
use Rattle.header.specs.Header.{header_of, max_header, read_header}
use Rattle.header.specs.Answers.{header_invalid, room_short, read_kid}
use Rattle.header.specs.declared.Kid.{Kid}
use Rattle.header.specs.declared.Ctr.{Ctr}
use Rattle.header.specs.declared.Header.{Header}
use Rattle.answers.specs.Answers.{done, store_invalid, kid_missing, role_refused, input_too_long, first, Outcome, settled_on}
use Rattle.answers.specs.Limits.{too_long}
use Rattle.answers.proofs.Basics.{told-false, told-true}
use Rattle.piece_line.specs.State.{state_size, checking}
use Rattle.key_record.specs.Layout.{decode}
use Rattle.key_record.specs.Record.{KeyRecord, empty, is_empty, is_receiving}
use Rattle.key_record.proofs.KindLaws.{receives-held, holds-some}
use Rattle.store.specs.Sframe.{sframe}
use Rattle.store.specs.Store.{records, sound}
use Rattle.store.specs.Table.{get}
use Rattle.store.specs.Inner.Places.{RowOf, FoundIn}
use Rattle.begin_state.specs.Begin.{first_state}
use Rattle.begin_check.specs.Check.{check_causes, check_at, check_begin}

-- what a call answers, and what it leaves in the state
abbrev Leaves : Outcome → ℕ → List ℕ → Type 0
Leaves o number state = (number ≡ o.number) × (state ≡ o.state)

-- ---- with the record of the KID

module _ (held : KeyRecord) (m f state : List ℕ) (kid : Kid) (ctr : Ctr) (n announced : ℕ) where
  stop : (k : ℕ) → first (check_causes true (header_of kid ctr n) held (length m) announced (length state)) ≡ suc k → Leaves (check_at sframe true (header_of kid ctr n) held [] m f announced state) (suc k) state
  unfolding check_at
  stop k e = (rw e, rw e)

  pub role-refused : is_empty held ≡ false → is_receiving held ≡ false → Leaves (check_at sframe true (header_of kid ctr n) held [] m f announced state) role_refused state
  unfolding check_causes first
  role-refused e d = stop 6 (rw (e, d))

  module _ (gets : is_receiving held ≡ true) where
    pub long-refused : true ≡ too_long announced (length m) → Leaves (check_at sframe true (header_of kid ctr n) held [] m f announced state) input_too_long state
    unfolding check_causes first
    long-refused e = stop 8 (rw (receives-held held gets, gets, ← e))

    module _ (e : false ≡ too_long announced (length m)) where
      pub state-refused : length state < state_size → Leaves (check_at sframe true (header_of kid ctr n) held [] m f announced state) room_short state
      unfolding check_causes first
      state-refused h = stop 11 (rw (receives-held held gets, gets, ← e, lt-ltb (length state) state_size h))

      pub check-begun : state_size ≤ length state → (x : List ℕ) → x ≡ pasted state 0 (first_state sframe checking held ctr.0 announced (take (n - 0) f ++ m)) → Leaves (check_at sframe true (header_of kid ctr n) held [] m f announced state) done x
      unfolding check_at check_causes first
      check-begun h x p =
          let q : x ≡ pasted state 0 (first_state sframe checking held ctr.0 announced (take n f ++ m)) = p ∙ ap (λ (k : ℕ). pasted state 0 (first_state sframe checking held ctr.0 announced (take k f ++ m))) (sub-zero n) in
          (rw (receives-held held gets, gets, ← e, le-ltb (length state) state_size h), q ∙ rw (receives-held held gets, gets, ← e, le-ltb (length state) state_size h))

pub part-most : (n : ℕ) (f : List ℕ) → n ≤ max_header → length (take (n - 0) f) ≤ max_header
part-most n f h = simp length-take (omega arith)

-- ---- on the store

pub check-unsound : (s m f : List ℕ) (announced : ℕ) (state : List ℕ) (r : Bool) → r ≡ sound s → not r ≡ true → Leaves (check_begin sframe s m f announced state) store_invalid state
unfolding check_begin check_at check_causes first
check-unsound s m f announced state r e t = let z = told-false r _ e t in rw z (refl, refl)

pub check-invalid : (s m f : List ℕ) (announced : ℕ) (state : List ℕ) (r : Bool) → r ≡ sound s → not r ≡ false → read_header f ≡ None → Leaves (check_begin sframe s m f announced state) header_invalid state
unfolding check_begin check_at check_causes first
check-invalid s m f announced state r e t i = let z = told-true r _ e t in rw (z, i) (refl, refl)

-- number and state do not hang on the store
any-store : (k : ℕ) (s t state x : List ℕ)
    → ((settled_on k s [] state (record { number = 0; written = 0; store = s; room = []; state = x })).number ≡ (settled_on k t [] state (record { number = 0; written = 0; store = t; room = []; state = x })).number)
    × ((settled_on k s [] state (record { number = 0; written = 0; store = s; room = []; state = x })).state ≡ (settled_on k t [] state (record { number = 0; written = 0; store = t; room = []; state = x })).state)
any-store zero s t state x = (refl, refl)
any-store (suc k) s t state x = (refl, refl)

module _ (s m f : List ℕ) (announced : ℕ) (state : List ℕ) (kid : Kid) (ctr : Ctr) (n : ℕ) (is-sound : sound s ≡ true) (reads : read_header f ≡ header_of kid ctr n) where
  -- what it comes to once header and record are found
  found-check : (held : KeyRecord) → get kid.0 (records s) ≡ held → check_begin sframe s m f announced state ≡ check_at sframe true (header_of kid ctr n) held s m f announced state
  unfolding check_begin
  found-check held g =
      ap₂ (λ (v : Bool) (h : Option Header). check_at sframe v h (get (read_kid h) (records s)) s m f announced state) is-sound reads
      ∙ ap (λ (h : KeyRecord). check_at sframe true (header_of kid ctr n) h s m f announced state) g

  module _ (p : Option ℕ) (w : FoundIn p kid.0 (records s)) where
    pub check-missing : p ≡ None → Leaves (check_begin sframe s m f announced state) kid_missing state
    unfolding check_at check_causes first
    check-missing q = let g : get kid.0 (records s) ≡ empty = rw q at w in let e = found-check empty g in (sym (ap (λ (o : Outcome). o.number) e), sym (ap (λ (o : Outcome). o.state) e))

    module _ (i : ℕ) (q : p ≡ Some i) (l : List ℕ) (r : RowOf s i l) where
      found : FoundIn (Some i) kid.0 (records s)
      found = rw q at w

      pub held-there : is_empty (decode l) ≡ false
      held-there = ap is_empty r.1 ∙ holds-some kid.0 (get_or (records s) i empty) found.2

      pub check-told : (number : ℕ) (x : List ℕ) → Leaves (check_at sframe true (header_of kid ctr n) (decode l) [] m f announced state) number x → Leaves (check_begin sframe s m f announced state) number x
      unfolding check_at
      check-told number x a =
          let e = found-check (decode l) (found.1 ∙ sym r.1) in
          let o = any-store (first (check_causes true (header_of kid ctr n) (decode l) (length m) announced (length state))) [] s state (pasted state 0 (first_state sframe checking (decode l) ctr.0 announced (take n f ++ m))) in
          (a.0 ∙ o.0 ∙ sym (ap (λ (v : Outcome). v.number) e), a.1 ∙ o.1 ∙ sym (ap (λ (v : Outcome). v.state) e))
