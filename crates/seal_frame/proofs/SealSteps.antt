-- SPDX-License-Identifier: MIT
-- The steps of sealing a frame, over plain variables. Assumes nothing.
use Rattle.std.specs.Prelude.{Option, Some, None}
use mathlib.Core.Path.{◌≡◌, refl, sym, ◌∙◌, ap, ap₂}
use mathlib.Core.Bool.{Bool, true, false, not}
use mathlib.Core.List.{List, [], ◌++◌, append_assoc}
use Prim.Native.Nat.{ℕ, zero, suc, ◌+◌, ◌-◌, ◌<◌, ◌≤◌, min}
use native.Mathlib.Nat.{sub-zero}
use native.Mathlib.Omega.{arith}
use lib.Dec.{eqb, ltb}
use lib.ListN.{length, get_or, set, take, drop, length-append, length-take, length-drop, take-append-drop}
use lib.Seq.{take_at, drop_at, drop-drop}
use borrow.Author.Tests.{lt-ltb, le-ltb, eqb-false, ltb-true, ltb-false, not-true, not-false}
use borrow.Rule.Slice.PartMut.{put_mid}
use Rattle.octets.specs.Octets.{Octets, pasted}
use Rattle.octets.proofs.Laws.{part-from, lent-from, pasted-front, pasted-from}
use Rattle.header.specs.Header.{max_header, header}
use Rattle.header.proofs.Laws.{header-size}
use Rattle.answers.specs.Answers.{done, store_invalid, kid_missing, first, Outcome, settled}
use Rattle.answers.specs.Limits.{max_plaintext, max_metadata}
use Rattle.answers.proofs.Basics.{Two, yes', no', two, told-false, passes, settled-done, settled-refused, Leaves, leaves}
use Rattle.answers.proofs.Limits.{not-long}
use Rattle.suites.specs.Suites.{Nt}
use Rattle.suites.specs.Derivation.{nonce}
use Rattle.aead.specs.Aead as Aead
use Rattle.suites.specs.declared.sizes.Suite.{Suite}
use Rattle.aead.proofs.Laws as AeadLaws
use Rattle.key_record.specs.Layout.{decode}
use Rattle.key_record.specs.Record.{ceiling, KeyRecord, empty, is_empty, is_sending, suite_of, salt_of, key_of, counter_of, advanced}
use Rattle.store.specs.Sframe.{sframe}
use Rattle.store.specs.Store.{encode_all, records, sound}
use Rattle.store.specs.Table.{get, put, apart}
use Rattle.key_record.specs.Inner.Rows.{Numbered, counter_left}
use Rattle.store.specs.Inner.Places.{RowOf, FoundIn}
use Rattle.key_record.proofs.Codec.{Fit}
use Rattle.key_record.proofs.KindLaws.{fit-counter, holds-some}
use Rattle.store.proofs.Stores.{sound-stored, kids-apart, get_fit}
use Rattle.store.proofs.Tables.{put-at}
use Rattle.judge_seal.specs.Seal.{next_length, seal_causes, causes_of_seal, next_frame, seal_at, seal}
use Rattle.judge_seal.proofs.NextFrame.{length-told, body, next-is}

-- ---- what holds of a record where no cause applies

pub record Clear (held : KeyRecord) (kid metadata plaintext room : ℕ) : Type 0 where
  pub sends : is_sending held ≡ true
  pub counter-left : counter_left held ≡ true
  pub plaintext-most : plaintext ≤ max_plaintext
  pub metadata-most : metadata ≤ max_metadata
  pub room-enough : next_length held kid plaintext ≤ room

pub clear : (held : KeyRecord) (kid metadata plaintext room : ℕ) → first (causes_of_seal true held kid metadata plaintext 0 room) ≡ done → Clear held kid metadata plaintext room
unfolding causes_of_seal seal_causes
clear held kid metadata plaintext room z =
    let p = passes (seal_causes true held metadata plaintext (0 + next_length held kid plaintext) room) refl z in
    let sizes = not-long plaintext metadata p.1.1.1.1.0 in
    record {
      sends = not-false (is_sending held) p.1.1.0;
      counter-left = ap not p.1.1.1.0;
      plaintext-most = sizes.0;
      metadata-most = sizes.1;
      room-enough = omega (arith, ltb-false room (0 + next_length held kid plaintext) p.1.1.1.1.1.0);
    }

-- ---- the frame

-- ciphertext and tag, as the code comes to them
pub body_is : (s : Suite) (held : KeyRecord) (out key salt iv h metadata p : List ℕ) (v : ℕ) → key ≡ key_of held → salt ≡ salt_of held → v ≡ counter_of held → iv ≡ nonce salt v
    → out ≡ Aead.encrypt s key iv (h ++ metadata) p → out ≡ Aead.encrypt s (key_of held) (nonce (salt_of held) (counter_of held)) (h ++ metadata) p
body_is s held out key salt iv h metadata p v a b e i q = q ∙ ap₂ (λ (k x : List ℕ). Aead.encrypt s k x (h ++ metadata) p) a (i ∙ ap₂ nonce b e)

module _ (held : KeyRecord) (kid : ℕ) (metadata plaintext room : List ℕ) (c : Clear held kid (length metadata) (length plaintext) (length room)) (s : Suite) (found : Numbered s (suite_of held)) where
  abbrev hd : List ℕ
  hd = header kid (counter_of held)

  body-size : length (body s held hd metadata plaintext) ≡ length plaintext + Nt s
  unfolding body
  body-size = AeadLaws.encrypt-size s _ _ _ plaintext

  module _ (n nt : ℕ) (head z : List ℕ) (size : nt ≡ Nt s) (long : n ≡ length hd) (wrote : head ≡ hd ++ z) where
    pub front-is : take (n - 0) head ≡ hd
    front-is = ap₂ take (sub-zero n) wrote ∙ take_at hd z n (sym long)

    pub frame-inside : n + (length plaintext + nt) ≤ length room
    frame-inside = omega (arith, c.room-enough, length-told held kid (length plaintext) n nt s found size long)

    pub front_fits : length (take (n - 0) head) ≤ length room
    front_fits = let h = frame-inside in simp length-take (omega arith)

    pub front-most : n ≤ max_header → length (take (n - 0) head) ≤ max_header
    front-most h = simp length-take (omega arith)

    pub body-room : (end : ℕ) (q : List ℕ) → end ≡ n + (length plaintext + nt) → length q ≡ length room → length (take (end - n) (drop n q)) ≡ length plaintext + Nt s
    body-room end q e k = let h = frame-inside in simp (length-take, length-drop) (omega arith)

    pub frame-length : n + (length plaintext + nt) ≡ length (next_frame sframe held kid metadata plaintext)
    frame-length = rw (next-is held kid metadata plaintext s found, length-append, body-size, long, size)

    pub frame-written : (end : ℕ) (q out x : List ℕ) → end ≡ n + (length plaintext + nt) → q ≡ take (n - 0) head ++ drop (length (take (n - 0) head)) room
        → out ≡ Aead.encrypt s (key_of held) (nonce (salt_of held) (counter_of held)) (take (n - 0) head ++ metadata) plaintext
        → x ≡ put_mid n (end - n) q out → x ≡ next_frame sframe held kid metadata plaintext ++ drop end room
    unfolding body
    frame-written end q out x e p w y =
        let p' : q ≡ hd ++ drop n room = p ∙ ap (λ (f : List ℕ). f ++ drop (length f) room) front-is ∙ ap (λ (i : ℕ). hd ++ drop i room) (sym long) in
        let w' : out ≡ body s held hd metadata plaintext = w ∙ ap (λ (f : List ℕ). body s held f metadata plaintext) front-is in
        let a : take n q ≡ hd = ap (take n) p' ∙ take_at hd (drop n room) n (sym long) in
        let b : drop n q ≡ drop n room = ap (drop n) p' ∙ drop_at hd (drop n room) n (sym long) in
        let i : n + (end - n) ≡ end = omega arith in
        let r : drop (end - n) (drop n q) ≡ drop end room = ap (drop (end - n)) b ∙ drop-drop (end - n) n room ∙ ap (λ (k : ℕ). drop k room) i in
        y
        ∙ ap₂ (λ (f t : List ℕ). f ++ (out ++ t)) a r
        ∙ ap (λ (t : List ℕ). hd ++ (t ++ drop end room)) w'
        ∙ sym (append_assoc hd (body s held hd metadata plaintext) (drop end room))
        ∙ ap (λ (t : List ℕ). t ++ drop end room) (sym (next-is held kid metadata plaintext s found))

-- ---- Seal

-- the success of Seal on a table, at the front of the room
success : KeyRecord → List KeyRecord → ℕ → List ℕ → List ℕ → List ℕ → Outcome
success held rs kid metadata plaintext room =
    let f = next_frame sframe held kid metadata plaintext in
    record { number = 0; written = length f; store = encode_all (put kid (advanced held) rs); room = pasted room 0 f; state = [] }

module _ (s : List ℕ) (kid : ℕ) (metadata plaintext room : List ℕ) where
  pub seal-unsound : (r : Bool) → r ≡ sound s → not r ≡ true → Leaves (seal sframe s kid metadata plaintext 0 room) store_invalid 0 s room
  unfolding seal seal_at causes_of_seal seal_causes first settled
  seal-unsound r e t = let f = told-false r _ e t in rw f ((refl, refl), (refl, refl))

  module _ (is-sound : sound s ≡ true) where
    -- what Seal comes to once the record is found
    outcome-of : (held : KeyRecord) → get kid (records s) ≡ held
        → seal sframe s kid metadata plaintext 0 room
        ≡ settled (first (causes_of_seal true held kid (length metadata) (length plaintext) 0 (length room))) s room (success held (records s) kid metadata plaintext room)
    unfolding seal seal_at success
    outcome-of held g = ap₂ (λ (v : Bool) (h : KeyRecord). seal_at sframe v h (records s) s kid metadata plaintext 0 room) is-sound g

    pub seal-missing : (p : Option ℕ) → FoundIn p kid (records s) → p ≡ None → Leaves (seal sframe s kid metadata plaintext 0 room) kid_missing 0 s room
    unfolding causes_of_seal seal_causes first settled
    seal-missing p f w = let g : get kid (records s) ≡ empty = rw w at f in leaves _ _ (outcome-of empty g)

    module _ (p : Option ℕ) (f : FoundIn p kid (records s)) (i : ℕ) (w : p ≡ Some i) where
      found : FoundIn (Some i) kid (records s)
      found = rw w at f

      pub held-there : (l : List ℕ) → RowOf s i l → is_empty (decode l) ≡ false
      held-there l r = ap is_empty r.1 ∙ holds-some kid (get_or (records s) i empty) found.2

      module _ (l : List ℕ) (r : RowOf s i l) (v : ℕ) (judged : v ≡ first (causes_of_seal true (decode l) kid (length metadata) (length plaintext) 0 (length room))) where
        pub seal-refused : (v ≡ done → ⊥) → Leaves (seal sframe s kid metadata plaintext 0 room) v 0 s room
        seal-refused d =
            let o = outcome-of (decode l) (found.1 ∙ sym r.1) in
            let q = settled-refused (first (causes_of_seal true (decode l) kid (length metadata) (length plaintext) 0 (length room))) s room (success (decode l) (records s) kid metadata plaintext room) (λ z. d (judged ∙ z)) in
            let k = leaves _ _ o in
            ((judged ∙ sym q.number_is ∙ k.0.0, sym q.nothing_written ∙ k.0.1), (sym q.store-stays ∙ k.1.0, sym q.room-stays ∙ k.1.1))

        module _ (z : v ≡ done) where
          -- what was judged of the record holds of its bytes whenever they are lent
          pub judged-again : (m : List ℕ) → RowOf s i m → first (causes_of_seal true (decode m) kid (length metadata) (length plaintext) 0 (length room)) ≡ done
          judged-again m q = ap (λ (h : KeyRecord). first (causes_of_seal true h kid (length metadata) (length plaintext) 0 (length room))) (q.1 ∙ sym r.1) ∙ sym judged ∙ z

          pub clear-there : Clear (get_or (records s) i empty) kid (length metadata) (length plaintext) (length room)
          clear-there = rw r.1 at (clear (decode l) kid (length metadata) (length plaintext) (length room) (sym judged ∙ z))

          pub counter-below : Octets s → counter_of (get_or (records s) i empty) < ceiling
          counter-below o =
              let h : Fit (get_or (records s) i empty) = rw found.1 at (get_fit kid (records s) (sound-stored s o is-sound).table.fit) in
              omega (arith, fit-counter (get_or (records s) i empty) h, eqb-false (counter_of (get_or (records s) i empty)) ceiling (not-true (eqb (counter_of (get_or (records s) i empty)) ceiling) clear-there.counter-left))

          pub seal-done : Octets s → (m : List ℕ) → RowOf s i m → (n : ℕ) (x y : List ℕ) → n ≡ length (next_frame sframe (decode m) kid metadata plaintext)
              → y ≡ next_frame sframe (decode m) kid metadata plaintext ++ drop n room → x ≡ encode_all (set (records s) i (advanced (get_or (records s) i empty)))
              → Leaves (seal sframe s kid metadata plaintext 0 room) done n x y
          unfolding success
          seal-done oc m q n x y b d g =
              let a : apart (records s) ≡ true = kids-apart (sound-stored s oc is-sound).table in
              let o = outcome-of (decode m) (found.1 ∙ sym q.1) ∙ settled-done _ s room (success (decode m) (records s) kid metadata plaintext room) (judged-again m q) in
              let u = leaves _ _ o in
              let d' = d ∙ ap (λ (j : ℕ). next_frame sframe (decode m) kid metadata plaintext ++ drop j room) b ∙ sym (pasted-front room (next_frame sframe (decode m) kid metadata plaintext)) in
              let g' : x ≡ encode_all (put kid (advanced (decode m)) (records s)) =
              g ∙ ap encode_all (sym (put-at kid (advanced (get_or (records s) i empty)) (records s) i a found.2)) ∙ ap (λ (h : KeyRecord). encode_all (put kid (advanced h) (records s))) (sym q.1)
              in
              ((u.0.0, b ∙ u.0.1), (g' ∙ u.1.0, d' ∙ u.1.1))

-- ---- at an offset

-- what a call leaves whose room is the part of another room from an offset on
settled-part : (n offset : ℕ) (s room part : List ℕ) (o p : Outcome) → part ≡ drop offset room → p.number ≡ o.number → p.written ≡ o.written → p.store ≡ o.store → take offset room ++ p.room ≡ o.room
    → Leaves (settled n s room o) (settled n s part p).number (settled n s part p).written (settled n s part p).store (take offset room ++ (settled n s part p).room)
unfolding settled
settled-part zero offset s room part o p e a b c d = ((a, b), (c, d))
settled-part (suc n) offset s room part o p e a b c d = ((refl, refl), (refl, ap (λ (t : List ℕ). take offset room ++ t) e ∙ take-append-drop offset room))

-- the room is as short for a frame at the offset as the part from there on is for one at its front
part-short : (held : KeyRecord) (kid plaintext offset : ℕ) (room : List ℕ)
    → ltb (length (drop offset room)) (0 + next_length held kid plaintext) ≡ ltb (length room) (offset + next_length held kid plaintext)
unfolding next_length
part-short held kid plaintext offset room = by (two (ltb (length room) (offset + next_length held kid plaintext)))
  where
    by : Two (ltb (length room) (offset + next_length held kid plaintext)) → ltb (length (drop offset room)) (0 + next_length held kid plaintext) ≡ ltb (length room) (offset + next_length held kid plaintext)
    by (yes' t) =
        let h = ltb-true (length room) (offset + next_length held kid plaintext) t in
        let n = header-size kid (counter_of held) in
        lt-ltb (length (drop offset room)) (0 + next_length held kid plaintext) (simp length-drop (omega arith)) ∙ sym t
    by (no' t) =
        let h = ltb-false (length room) (offset + next_length held kid plaintext) t in
        le-ltb (length (drop offset room)) (0 + next_length held kid plaintext) (simp length-drop (omega arith)) ∙ sym t

module _ (s : List ℕ) (kid : ℕ) (metadata plaintext : List ℕ) (offset i : ℕ) (room : List ℕ) (from : i ≡ min offset (length room)) where
  same-causes : (valid : Bool) (held : KeyRecord)
      → causes_of_seal valid held kid (length metadata) (length plaintext) 0 (length (drop offset room)) ≡ causes_of_seal valid held kid (length metadata) (length plaintext) offset (length room)
  unfolding causes_of_seal seal_causes
  same-causes valid held = rw (part-short held kid (length plaintext) offset room)

  sealed-part : Leaves (seal sframe s kid metadata plaintext offset room)
      (seal sframe s kid metadata plaintext 0 (drop offset room)).number
      (seal sframe s kid metadata plaintext 0 (drop offset room)).written
      (seal sframe s kid metadata plaintext 0 (drop offset room)).store
      (take offset room ++ (seal sframe s kid metadata plaintext 0 (drop offset room)).room)
  unfolding seal seal_at
  sealed-part =
      rw (same-causes (sound s) (get kid (records s)))
      (settled-part (first (causes_of_seal (sound s) (get kid (records s)) kid (length metadata) (length plaintext) offset (length room))) offset s room (drop offset room) _ _ refl refl refl refl
      (pasted-from room offset (next_frame sframe (get kid (records s)) kid metadata plaintext)))

  pub sealed-at : (number written : ℕ) (store p : List ℕ) → Leaves (seal sframe s kid metadata plaintext 0 (take (length room - i) (drop i room))) number written store p
      → Leaves (seal sframe s kid metadata plaintext offset room) number written store (put_mid i (length room - i) room p)
  sealed-at number written store p l =
      let k : Leaves (seal sframe s kid metadata plaintext 0 (drop offset room)) number written store p = rw (part-from room offset i from) at l in
      let q = sealed-part in
      ((k.0.0 ∙ q.0.0, k.0.1 ∙ q.0.1), (k.1.0 ∙ q.1.0, lent-from room p offset i from ∙ ap (λ (t : List ℕ). take offset room ++ t) k.1.1 ∙ q.1.1))
