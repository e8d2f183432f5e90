-- SPDX-License-Identifier: MIT
-- The steps of beginning to seal, over plain variables. Assumes nothing.
use Rattle.std.specs.Prelude.{Option, Some, None}
use mathlib.Core.Path.{◌≡◌, refl, sym, ◌∙◌, ap, ap₂}
use mathlib.Core.Bool.{Bool, true, false, not}
use mathlib.Core.List.{List, ◌++◌}
use Prim.Native.Nat.{ℕ, ◌-◌, ◌<◌, ◌≤◌}
use native.Mathlib.Nat.{sub-zero}
use native.Mathlib.Omega.{arith}
use lib.Dec.{eqb}
use lib.ListN.{length, get_or, set, take, drop, length-take}
use lib.Seq.{take_at}
use borrow.Author.Tests.{lt-ltb, le-ltb, eqb-false, ltb-false, not-true, not-false}
use Rattle.octets.specs.Octets.{Octets, pasted}
use Rattle.octets.proofs.Laws.{pasted-front}
use Rattle.header.specs.Header.{max_header, header}
use Rattle.header.specs.Answers.{room_short}
use Rattle.answers.specs.Answers.{done, store_invalid, kid_missing, role_refused, counter_spent, input_too_long, first, Outcome, settled_on}
use Rattle.answers.specs.Limits.{max_plaintext, max_metadata, too_long}
use Rattle.answers.proofs.Basics.{told-false, passes, settled-on-refused}
use Rattle.answers.proofs.Limits.{not-long}
use Rattle.piece_line.specs.State.{state_size, sealing}
use Rattle.key_record.specs.Layout.{decode}
use Rattle.key_record.specs.Record.{ceiling, KeyRecord, empty, is_empty, is_sending, counter_of, advanced}
use Rattle.key_record.specs.Inner.Rows.{counter_left}
use Rattle.key_record.proofs.Codec.{Fit}
use Rattle.key_record.proofs.KindLaws.{sends-held, fit-counter, holds-some}
use Rattle.store.specs.Sframe.{sframe}
use Rattle.store.specs.Store.{encode_all, records, sound}
use Rattle.store.specs.Table.{get, put, apart}
use Rattle.store.specs.Inner.Places.{RowOf, FoundIn}
use Rattle.store.proofs.Stores.{sound-stored, kids-apart, get_fit}
use Rattle.store.proofs.Tables.{put-at}
use Rattle.judge_seal.specs.Seal.{seal_causes}
use Rattle.begin_state.specs.Begin.{first_state}
use Rattle.begin_seal.specs.Begin.{begin_causes, begin_at, seal_begin}
use Rattle.begin_seal.proofs.Begins.{success-of}

-- ---- the causes

module _ (held : KeyRecord) (kid metadata announced room state : ℕ) where
  pub judged-role : is_empty held ≡ false → is_sending held ≡ false → role_refused ≡ first (begin_causes true held kid metadata announced room state)
  unfolding begin_causes seal_causes first
  judged-role e d = rw (e, d)

  module _ (s : is_sending held ≡ true) (b : Bool) (e : b ≡ not (eqb (counter_of held) ceiling)) where
    pub judged-counter : not b ≡ true → counter_spent ≡ first (begin_causes true held kid metadata announced room state)
    unfolding begin_causes seal_causes first
    judged-counter h = rw (sends-held held s, s, not-false (eqb (counter_of held) ceiling) (sym e ∙ not-true b h))

    module _ (left : not b ≡ false) where
      unspent : eqb (counter_of held) ceiling ≡ false
      unspent = not-true (eqb (counter_of held) ceiling) (sym e ∙ not-false b left)

      module _ (t : Bool) (long : t ≡ too_long announced metadata) where
        pub judged-long : t ≡ true → input_too_long ≡ first (begin_causes true held kid metadata announced room state)
        unfolding begin_causes seal_causes first
        judged-long h = rw (sends-held held s, s, unspent, sym long ∙ h)

        module _ (short : t ≡ false) (n : ℕ) (size : n ≡ length (header kid (counter_of held))) where
          pub judged-room : room < n → room_short ≡ first (begin_causes true held kid metadata announced room state)
          unfolding begin_causes seal_causes first
          judged-room h = rw (sends-held held s, s, unspent, sym long ∙ short, ← size, lt-ltb room n h)

          pub judged-state : n ≤ room → state < state_size → room_short ≡ first (begin_causes true held kid metadata announced room state)
          unfolding begin_causes seal_causes first
          judged-state h k = rw (sends-held held s, s, unspent, sym long ∙ short, ← size, le-ltb room n h, lt-ltb state state_size k)

          pub judged-done : n ≤ room → state_size ≤ state → done ≡ first (begin_causes true held kid metadata announced room state)
          unfolding begin_causes seal_causes first
          judged-done h k = rw (sends-held held s, s, unspent, sym long ∙ short, ← size, le-ltb room n h, le-ltb state state_size k)

-- what holds of a record where no cause applies
pub record Clear (held : KeyRecord) (kid metadata announced room state : ℕ) : Type 0 where
  pub sends : is_sending held ≡ true
  pub counter-left : counter_left held ≡ true
  pub announced-most : announced ≤ max_plaintext
  pub metadata-most : metadata ≤ max_metadata
  pub room-enough : length (header kid (counter_of held)) ≤ room
  pub state-enough : state_size ≤ state

pub clear : (held : KeyRecord) (kid metadata announced room state : ℕ) → first (begin_causes true held kid metadata announced room state) ≡ done → Clear held kid metadata announced room state
unfolding begin_causes seal_causes
clear held kid metadata announced room state z =
    let p = passes (begin_causes true held kid metadata announced room state) refl z in
    let sizes = not-long announced metadata p.1.1.1.1.0 in
    record {
      sends = not-false (is_sending held) p.1.1.0;
      counter-left = ap not p.1.1.1.0;
      announced-most = sizes.0;
      metadata-most = sizes.1;
      room-enough = ltb-false room (length (header kid (counter_of held))) p.1.1.1.1.1.0;
      state-enough = ltb-false state state_size p.1.1.1.1.1.1.0;
    }

-- ---- header and state

module _ (hd head z : List ℕ) (n : ℕ) (long : n ≡ length hd) (wrote : head ≡ hd ++ z) where
  front-is : take (n - 0) head ≡ hd
  front-is = ap₂ take (sub-zero n) wrote ∙ take_at hd z n (sym long)

  pub front-most : n ≤ max_header → length (take (n - 0) head) ≤ max_header
  front-most h = simp length-take (omega arith)

  pub front_fits : (room : ℕ) → length hd ≤ room → length (take (n - 0) head) ≤ room
  front_fits room h = rw front-is h

  pub header-copied : (room x : List ℕ) → x ≡ take (n - 0) head ++ drop (length (take (n - 0) head)) room → x ≡ pasted room 0 hd
  header-copied room x e = e ∙ ap (λ (f : List ℕ). f ++ drop (length f) room) front-is ∙ sym (pasted-front room hd)

  pub state-written : (held : KeyRecord) (ctr announced : ℕ) (metadata state x : List ℕ) → ctr ≡ counter_of held
      → x ≡ pasted state 0 (first_state sframe sealing held ctr announced (take (n - 0) head ++ metadata)) → x ≡ pasted state 0 (first_state sframe sealing held (counter_of held) announced (hd ++ metadata))
  state-written held ctr announced metadata state x c e =
      e ∙ ap₂ (λ (k : ℕ) (f : List ℕ). pasted state 0 (first_state sframe sealing held k announced (f ++ metadata))) c front-is

-- ---- the beginning

-- what a call answers, and what it leaves
abbrev Leaves : Outcome → ℕ → ℕ → List ℕ → List ℕ → List ℕ → Type 0
Leaves o number written store room state = ((number ≡ o.number) × (written ≡ o.written)) × ((store ≡ o.store) × ((room ≡ o.room) × (state ≡ o.state)))

leaves : (o p : Outcome) → o ≡ p → Leaves o p.number p.written p.store p.room p.state
leaves o p e = (
  (sym (ap (λ (x : Outcome). x.number) e), sym (ap (λ (x : Outcome). x.written) e)),
  (sym (ap (λ (x : Outcome). x.store) e), (sym (ap (λ (x : Outcome). x.room) e), sym (ap (λ (x : Outcome). x.state) e))),
)

module _ (s : List ℕ) (kid : ℕ) (metadata : List ℕ) (announced : ℕ) (state room : List ℕ) where
  pub begin-unsound : (r : Bool) → r ≡ sound s → not r ≡ true → Leaves (seal_begin sframe s kid metadata announced state room) store_invalid 0 s room state
  unfolding seal_begin begin_at begin_causes seal_causes first
  begin-unsound r e t = let f = told-false r _ e t in rw f ((refl, refl), (refl, (refl, refl)))

  module _ (is-sound : sound s ≡ true) where
    -- what it comes to once the record is found
    outcome-of : (held : KeyRecord) → get kid (records s) ≡ held
        → seal_begin sframe s kid metadata announced state room
        ≡ settled_on (first (begin_causes true held kid (length metadata) announced (length room) (length state))) s room state (success-of sframe held (records s) kid metadata announced state room)
    unfolding seal_begin begin_at success-of
    outcome-of held g = ap₂ (λ (v : Bool) (h : KeyRecord). begin_at sframe v h (records s) s kid metadata announced state room) is-sound g

    pub begin-missing : (p : Option ℕ) → FoundIn p kid (records s) → p ≡ None → Leaves (seal_begin sframe s kid metadata announced state room) kid_missing 0 s room state
    unfolding begin_causes seal_causes first
    begin-missing p f w = let g : get kid (records s) ≡ empty = rw w at f in leaves _ _ (outcome-of empty g)

    module _ (p : Option ℕ) (f : FoundIn p kid (records s)) (i : ℕ) (w : p ≡ Some i) where
      found : FoundIn (Some i) kid (records s)
      found = rw w at f

      pub held-there : (l : List ℕ) → RowOf s i l → is_empty (decode l) ≡ false
      held-there l r = ap is_empty r.1 ∙ holds-some kid (get_or (records s) i empty) found.2

      module _ (l : List ℕ) (r : RowOf s i l) (v : ℕ) (judged : v ≡ first (begin_causes true (decode l) kid (length metadata) announced (length room) (length state))) where
        pub begin-refused : (v ≡ done → ⊥) → Leaves (seal_begin sframe s kid metadata announced state room) v 0 s room state
        begin-refused d =
            let k = leaves _ _ (outcome-of (decode l) (found.1 ∙ sym r.1)) in
            let q = settled-on-refused (first (begin_causes true (decode l) kid (length metadata) announced (length room) (length state))) s room state (success-of sframe (decode l) (records s) kid metadata announced state room) (λ z. d (judged ∙ z)) in
            ((judged ∙ sym q.number_is ∙ k.0.0, sym q.nothing_written ∙ k.0.1), (sym q.store-stays ∙ k.1.0, (sym q.room-stays ∙ k.1.1.0, sym q.state-stays ∙ k.1.1.1)))

        module _ (z : v ≡ done) where
          -- what was judged of the record holds of its bytes whenever they are lent
          pub judged-again : (m : List ℕ) → RowOf s i m → first (begin_causes true (decode m) kid (length metadata) announced (length room) (length state)) ≡ done
          judged-again m q = ap (λ (h : KeyRecord). first (begin_causes true h kid (length metadata) announced (length room) (length state))) (q.1 ∙ sym r.1) ∙ sym judged ∙ z

          pub clear-there : Clear (get_or (records s) i empty) kid (length metadata) announced (length room) (length state)
          clear-there = rw r.1 at (clear (decode l) kid (length metadata) announced (length room) (length state) (sym judged ∙ z))

          pub counter-below : Octets s → counter_of (get_or (records s) i empty) < ceiling
          counter-below o =
              let h : Fit (get_or (records s) i empty) = rw found.1 at (get_fit kid (records s) (sound-stored s o is-sound).table.fit) in
              omega (arith, fit-counter (get_or (records s) i empty) h, eqb-false (counter_of (get_or (records s) i empty)) ceiling (not-true (eqb (counter_of (get_or (records s) i empty)) ceiling) clear-there.counter-left))

          pub begin-done : Octets s → (m : List ℕ) → RowOf s i m → (n : ℕ) (x y t : List ℕ) → n ≡ length (header kid (counter_of (decode m))) → y ≡ pasted room 0 (header kid (counter_of (decode m)))
              → t ≡ pasted state 0 (first_state sframe sealing (decode m) (counter_of (decode m)) announced (header kid (counter_of (decode m)) ++ metadata))
              → x ≡ encode_all (set (records s) i (advanced (get_or (records s) i empty))) → Leaves (seal_begin sframe s kid metadata announced state room) done n x y t
          unfolding success-of
          begin-done oc m q n x y t b d c g =
              let a : apart (records s) ≡ true = kids-apart (sound-stored s oc is-sound).table in
              let o = outcome-of (decode m) (found.1 ∙ sym q.1) ∙ ap (λ (k : ℕ). settled_on k s room state (success-of sframe (decode m) (records s) kid metadata announced state room)) (judged-again m q) in
              let u = leaves _ _ o in
              let g' : x ≡ encode_all (put kid (advanced (decode m)) (records s)) =
              g ∙ ap encode_all (sym (put-at kid (advanced (get_or (records s) i empty)) (records s) i a found.2)) ∙ ap (λ (h : KeyRecord). encode_all (put kid (advanced h) (records s))) (sym q.1)
              in
              ((u.0.0, b ∙ u.0.1), (g' ∙ u.1.0, (d ∙ u.1.1.0, c ∙ u.1.1.1)))
