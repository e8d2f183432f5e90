-- SPDX-License-Identifier: MIT
-- The steps of opening a frame, over plain variables. Assumes nothing.
use Rattle.std.specs.Prelude.{Option, Some, None}
use mathlib.Core.Path.{◌≡◌, refl, sym, ◌∙◌, ap, ap₂}
use mathlib.Core.Bool.{Bool, true, false, not, false≢true}
use mathlib.Core.List.{List, [], ◌∷◌, ◌++◌}
use Prim.Native.Nat.{ℕ, zero, suc, ◌+◌, ◌-◌, ◌<◌, ◌≤◌}
use native.Mathlib.Nat.{sub-zero}
use native.Mathlib.Omega.{arith}
use lib.Dec.{ltb}
use lib.ListN.{length, get_or, set, take, drop, length-take, length-drop}
use borrow.Author.Tests.{lt-ltb, le-ltb, ltb-true, ltb-false, not-true, not-false}
use Rattle.octets.specs.Octets.{Octets, pick}
use Rattle.octets.proofs.Laws.{part-rest}
use Rattle.header.specs.Header.{header_of, max_header, read_header}
use Rattle.header.specs.Answers.{header_invalid, room_short, read_kid}
use Rattle.header.specs.declared.Kid.{Kid}
use Rattle.header.specs.declared.Ctr.{Ctr}
use Rattle.header.specs.declared.Header.{Header}
use Rattle.answers.specs.Answers.{done, store_invalid, kid_missing, role_refused, input_too_long, frame_short, tag_differs, already_opened, counter_too_old, ◌if◌, first, Outcome, settled}
use Rattle.answers.specs.Limits.{max_plaintext, too_long}
use Rattle.answers.proofs.Basics.{Two, yes', no', two, told-false, told-true, passes, settled-done, settled-refused, settled-number, Leaves, leaves}
use Rattle.suites.specs.Suites.{Nt}
use Rattle.suites.specs.Inner.Sizes.{max_nt}
use Rattle.suites.specs.Derivation.{nonce}
use Rattle.aead.specs.Aead.{Decrypted, plain, differs, decrypt, is_plain, room_after}
use Rattle.suites.specs.declared.sizes.Suite.{Suite}
use Rattle.suites.proofs.Laws.{Nt-most}
use Rattle.aead.proofs.Laws.{decrypt-only, encrypt-size}
use Rattle.key_record.specs.Layout.{decode}
use Rattle.key_record.specs.Record.{KeyRecord, empty, is_empty, is_receiving, suite_of, salt_of, key_of, window_of, noted}
use Rattle.store.specs.Sframe.{given, decrypt_by, sframe}
use Rattle.store.specs.Store.{encode_all, records, sound}
use Rattle.key_record.specs.Suites.{tag_size}
use Rattle.store.specs.Table.{get, put}
use Rattle.key_record.specs.Inner.Rows.{Numbered}
use Rattle.store.specs.Inner.Places.{RowOf, FoundIn}
use Rattle.key_record.proofs.KindLaws.{receives-held, holds-some}
use Rattle.key_record.proofs.Suites.{tag-named}
use Rattle.store.proofs.Stores.{sound-stored, kids-apart}
use Rattle.store.proofs.Tables.{put-at}
use Rattle.window.specs.Window.{seen, too_old}
use Rattle.window.specs.declared.Window.{Window}
use Rattle.judge_open.specs.Open.{plain_of, plain_length, decrypted, open_causes, causes_of_open, open_at, opening}
use Rattle.judge_open.specs.Inner.Counters.{counter_answer}
use Rattle.judge_open.specs.Inner.Rooms.{room_for}

-- ---- decryption with a held record

module _ (s : Suite) (n : ℕ) (frame : List ℕ) where
  pub frame-parts : (m : ℕ) → n ≤ max_header → n + Nt s ≤ length frame → length frame - n - Nt s ≤ max_plaintext → m ≡ length (take (length frame - n) (drop n frame))
      → (length (take (n - 0) frame) ≤ max_header) × (m ≤ max_plaintext + max_nt) × (Nt s ≤ m) × (m - Nt s ≡ length frame - n - Nt s)
  frame-parts m a b c e =
      let l : m ≡ length frame - n = e ∙ ap length (part-rest n frame) ∙ length-drop n frame in
      (simp length-take (omega arith), omega (arith, Nt-most s), omega arith, ap (λ (x : ℕ). x - Nt s) l)

  pub parts-decrypt : (held : KeyRecord) (key salt iv metadata : List ℕ) (ctr : ℕ) → key ≡ key_of held → salt ≡ salt_of held → iv ≡ nonce salt ctr
      → decrypt s key iv (take (n - 0) frame ++ metadata) (take (length frame - n) (drop n frame)) ≡ decrypt s (key_of held) (nonce (salt_of held) ctr) (take n frame ++ metadata) (drop n frame)
  parts-decrypt held key salt iv metadata ctr a b e = rw (a, e, b, sub-zero, part-rest)

-- ---- the room

pub room-short : (room n : ℕ) → room < n → None ≡ room_for room n
unfolding room_for
room-short room n h = rw (lt-ltb room n h)

pub room-enough : (room n : ℕ) → n ≤ room → Some n ≡ room_for room n
unfolding room_for
room-enough room n h = rw (le-ltb room n h)

-- what a room's answer says
pub room-told : (room n : ℕ) (r : Option ℕ) → r ≡ room_for room n → ((r ≡ None) → room < n) × ((k : ℕ) → r ≡ Some k → (k ≡ n) × (n ≤ room))
unfolding room_for
room-told room n r e = by (two (ltb room n))
  where
    by : Two (ltb room n) → ((r ≡ None) → room < n) × ((k : ℕ) → r ≡ Some k → (k ≡ n) × (n ≤ room))
    by (yes' t) =
        let s : r ≡ None = e ∙ rw t in
        (λ w. ltb-true room n t, λ k w. let z : ◌≡◌ {A = ℕ} 0 1 = cc in absurd (omega arith))
    by (no' t) =
        let s : r ≡ Some n = e ∙ rw t in
        (λ w. let z : ◌≡◌ {A = ℕ} 0 1 = cc in absurd (omega arith), λ k w. (cc, ltb-false room n t))

-- ---- the counter

no_number : (k : ℕ) → 0 ≡ suc k → ⊥
no_number k e = omega arith

-- the window has nothing against a counter
pub record CounterNew (w : Window) (ctr : ℕ) : Type 0 where
  pub not_seen : seen w ctr ≡ false
  pub not-old : too_old w ctr ≡ false

module _ (w : Window) (ctr : ℕ) where
  pub counter-seen : seen w ctr ≡ true → already_opened ≡ counter_answer w ctr
  unfolding counter_answer first
  counter-seen a = rw a

  pub counter-old : seen w ctr ≡ false → too_old w ctr ≡ true → counter_too_old ≡ counter_answer w ctr
  unfolding counter_answer first
  counter-old a b = rw (a, b)

  pub counter-new : seen w ctr ≡ false → too_old w ctr ≡ false → done ≡ counter_answer w ctr
  unfolding counter_answer first
  counter-new a b = rw (a, b)

  pub new-counter : (k : ℕ) → k ≡ counter_answer w ctr → k ≡ done → CounterNew w ctr
  unfolding counter_answer
  new-counter k e z =
      let p = passes ((already_opened if seen w ctr) ∷ (counter_too_old if too_old w ctr) ∷ []) refl (sym e ∙ z) in
      record { not_seen = p.0; not-old = p.1.0 }

-- ---- the record of a frame's KID

module _ (held : KeyRecord) (m f room : List ℕ) (kid : Kid) (ctr : Ctr) (n : ℕ) where
  stop : (k : ℕ) → first (causes_of_open sframe true (header_of kid ctr n) held m f room) ≡ suc k
      → ((suc k ≡ (open_at sframe true (header_of kid ctr n) held [] [] m f room).number) × (0 ≡ (open_at sframe true (header_of kid ctr n) held [] [] m f room).written))
      × (room ≡ (open_at sframe true (header_of kid ctr n) held [] [] m f room).room)
  unfolding open_at settled
  stop k e = ((rw e, rw e), rw e)

  pub role-refused : is_empty held ≡ false → is_receiving held ≡ false
      → ((role_refused ≡ (open_at sframe true (header_of kid ctr n) held [] [] m f room).number) × (0 ≡ (open_at sframe true (header_of kid ctr n) held [] [] m f room).written))
      × (room ≡ (open_at sframe true (header_of kid ctr n) held [] [] m f room).room)
  unfolding causes_of_open open_causes first
  role-refused e d = stop 6 (rw (e, d))

  module _ (gets : is_receiving held ≡ true) (s : Suite) (found : Numbered s (suite_of held)) where
    there : is_empty held ≡ false
    there = receives-held held gets

    nt : tag_size (suite_of held) ≡ Nt s
    nt = tag-named (suite_of held) s found

    pub frame-short : length f - n < Nt s
        → ((frame_short ≡ (open_at sframe true (header_of kid ctr n) held [] [] m f room).number) × (0 ≡ (open_at sframe true (header_of kid ctr n) held [] [] m f room).written))
        × (room ≡ (open_at sframe true (header_of kid ctr n) held [] [] m f room).room)
    unfolding causes_of_open open_causes first
    frame-short h = stop 10 (rw (there, gets, nt, lt-ltb (length f - n) (Nt s) h))

    pub too-long-refused : Nt s ≤ length f - n → true ≡ too_long (length f - n - Nt s) (length m)
        → ((input_too_long ≡ (open_at sframe true (header_of kid ctr n) held [] [] m f room).number) × (0 ≡ (open_at sframe true (header_of kid ctr n) held [] [] m f room).written))
        × (room ≡ (open_at sframe true (header_of kid ctr n) held [] [] m f room).room)
    unfolding causes_of_open open_causes first plain_length
    too-long-refused h e = stop 8 (rw (there, gets, nt, le-ltb (length f - n) (Nt s) h, ← e))

    pub room-refused : Nt s ≤ length f - n → false ≡ too_long (length f - n - Nt s) (length m) → length room < length f - n - Nt s
        → ((room_short ≡ (open_at sframe true (header_of kid ctr n) held [] [] m f room).number) × (0 ≡ (open_at sframe true (header_of kid ctr n) held [] [] m f room).written))
        × (room ≡ (open_at sframe true (header_of kid ctr n) held [] [] m f room).room)
    unfolding causes_of_open open_causes first plain_length
    room-refused h e r = stop 11 (rw (there, gets, nt, le-ltb (length f - n) (Nt s) h, ← e, lt-ltb (length room) (length f - n - Nt s) r))

    -- what the definition decrypts is what the code does
    decrypted-is : decrypted sframe (header_of kid ctr n) held m f
        ≡ given (decrypt s (key_of held) (nonce (salt_of held) ctr.0) (take n f ++ m) (drop n f))
    unfolding decrypted decrypt_by
    decrypted-is = rw found

    module _ (h : Nt s ≤ length f - n) (e : false ≡ too_long (length f - n - Nt s) (length m)) (r : length f - n - Nt s ≤ length room) where
      -- what the window has against the counter comes before the tag
      by-window : (k : ℕ) → counter_answer (window_of held) ctr.0 ≡ suc k → first (causes_of_open sframe true (header_of kid ctr n) held m f room) ≡ suc k
      unfolding causes_of_open open_causes counter_answer first plain_length
      by-window k q =
          rw (there, gets, nt, le-ltb (length f - n) (Nt s) h, ← e, le-ltb (length room) (length f - n - Nt s) r)
          (past _ (two (seen (window_of held) ctr.0)) (two (too_old (window_of held) ctr.0)))
        where
          past : (rest : ℕ) → Two (seen (window_of held) ctr.0) → Two (too_old (window_of held) ctr.0)
              → pick (seen (window_of held) ctr.0) already_opened (pick (too_old (window_of held) ctr.0) counter_too_old rest) ≡ suc k
          past rest (yes' a) b = rw a (rw a at q)
          past rest (no' a) (yes' b) = rw (a, b) (rw (a, b) at q)
          past rest (no' a) (no' b) = absurd (no_number k (rw (a, b) at q))

      pub counter-refused : (k : ℕ) → k ≡ counter_answer (window_of held) ctr.0 → (k ≡ done → ⊥)
          → ((k ≡ (open_at sframe true (header_of kid ctr n) held [] [] m f room).number) × (0 ≡ (open_at sframe true (header_of kid ctr n) held [] [] m f room).written))
          × (room ≡ (open_at sframe true (header_of kid ctr n) held [] [] m f room).room)
      counter-refused zero q d = absurd (d refl)
      counter-refused (suc k) q d = stop k (by-window k (sym q))

    module _ (h : Nt s ≤ length f - n) (e : false ≡ too_long (length f - n - Nt s) (length m)) (r : length f - n - Nt s ≤ length room) (w : CounterNew (window_of held) ctr.0) (d : Decrypted)
        (is : d ≡ decrypt s (key_of held) (nonce (salt_of held) ctr.0) (take n f ++ m) (drop n f)) where
      answer-is : decrypted sframe (header_of kid ctr n) held m f ≡ given d
      answer-is = decrypted-is ∙ ap given (sym is)

      refuses : d ≡ differs → first (causes_of_open sframe true (header_of kid ctr n) held m f room) ≡ tag_differs
      unfolding causes_of_open open_causes first plain_length
      refuses z = rw (answer-is, z, there, gets, nt, le-ltb (length f - n) (Nt s) h, ← e, le-ltb (length room) (length f - n - Nt s) r, w.not_seen, w.not-old)

      yields : (y : List ℕ) → d ≡ plain y
          → (done ≡ (open_at sframe true (header_of kid ctr n) held [] [] m f room).number)
          × (length y ≡ (open_at sframe true (header_of kid ctr n) held [] [] m f room).written)
          × (y ++ drop (length y) room ≡ (open_at sframe true (header_of kid ctr n) held [] [] m f room).room)
      unfolding open_at settled causes_of_open open_causes first plain_length
      yields y z =
          let a = answer-is in
          let v = le-ltb (length f - n) (Nt s) h in
          let u = le-ltb (length room) (length f - n - Nt s) r in
          (rw (a, z, there, gets, nt, v, ← e, u, w.not_seen, w.not-old), rw (a, z, there, gets, nt, v, ← e, u, w.not_seen, w.not-old), rw (a, z, there, gets, nt, v, ← e, u, w.not_seen, w.not-old))

      -- the plaintext has the bytes between header and tag
      plain_size : (y : List ℕ) → d ≡ plain y → length f - n - Nt s ≡ length y
      plain_size y z =
          let c = decrypt-only s (key_of held) (nonce (salt_of held) ctr.0) (take n f ++ m) (drop n f) y (sym is ∙ z) in
          let k : length f - n ≡ length y + Nt s = sym (length-drop n f) ∙ ap length c ∙ encrypt-size s _ _ _ y in
          omega arith

      pub tag-refused : (t : Bool) (x : List ℕ) → t ≡ is_plain d → not t ≡ true → x ≡ room_after d room
          → ((tag_differs ≡ (open_at sframe true (header_of kid ctr n) held [] [] m f room).number) × (0 ≡ (open_at sframe true (header_of kid ctr n) held [] [] m f room).written))
          × (x ≡ (open_at sframe true (header_of kid ctr n) held [] [] m f room).room)
      tag-refused t x p q g = by d refl
        where
          by : (d' : Decrypted) → d ≡ d'
              → ((tag_differs ≡ (open_at sframe true (header_of kid ctr n) held [] [] m f room).number) × (0 ≡ (open_at sframe true (header_of kid ctr n) held [] [] m f room).written))
              × (x ≡ (open_at sframe true (header_of kid ctr n) held [] [] m f room).room)
          by (plain y) z = absurd (false≢true (sym (not-true t q) ∙ p ∙ ap is_plain z))
          by differs z =
              let a = stop 12 (refuses z) in
              (a.0, g ∙ ap (λ (v : Decrypted). room_after v room) z ∙ a.1)

      pub frame_opened : (t : Bool) (x : List ℕ) → t ≡ is_plain d → not t ≡ false → x ≡ room_after d room
          → ((done ≡ (open_at sframe true (header_of kid ctr n) held [] [] m f room).number) × (length f - n - Nt s ≡ (open_at sframe true (header_of kid ctr n) held [] [] m f room).written))
          × (x ≡ (open_at sframe true (header_of kid ctr n) held [] [] m f room).room)
      frame_opened t x p q g = by d refl
        where
          by : (d' : Decrypted) → d ≡ d'
              → ((done ≡ (open_at sframe true (header_of kid ctr n) held [] [] m f room).number) × (length f - n - Nt s ≡ (open_at sframe true (header_of kid ctr n) held [] [] m f room).written))
              × (x ≡ (open_at sframe true (header_of kid ctr n) held [] [] m f room).room)
          by differs z = absurd (false≢true (sym (ap is_plain z) ∙ sym p ∙ not-false t q))
          by (plain y) z = let a = yields y z in ((a.0, plain_size y z ∙ a.1), g ∙ ap (λ (v : Decrypted). room_after v room) z ∙ a.2)

-- ---- opening

-- number, length and room do not hang on the store
any-store : (k : ℕ) (s t room : List ℕ) (n : ℕ) (x y z : List ℕ)
    → ((settled k s room (record { number = 0; written = n; store = y; room = x; state = [] })).number ≡ (settled k t room (record { number = 0; written = n; store = z; room = x; state = [] })).number)
    × ((settled k s room (record { number = 0; written = n; store = y; room = x; state = [] })).written ≡ (settled k t room (record { number = 0; written = n; store = z; room = x; state = [] })).written)
    × ((settled k s room (record { number = 0; written = n; store = y; room = x; state = [] })).room ≡ (settled k t room (record { number = 0; written = n; store = z; room = x; state = [] })).room)
unfolding settled
any-store zero s t room n x y z = (refl, refl, refl)
any-store (suc k) s t room n x y z = (refl, refl, refl)

pub open-unsound : (s m f room : List ℕ) (r : Bool) → r ≡ sound s → not r ≡ true → Leaves (opening sframe s m f room) store_invalid 0 s room
unfolding opening open_at causes_of_open open_causes first settled
open-unsound s m f room r e t = let z = told-false r _ e t in rw z ((refl, refl), (refl, refl))

pub open-invalid : (s m f room : List ℕ) (r : Bool) → r ≡ sound s → not r ≡ false → read_header f ≡ None → Leaves (opening sframe s m f room) header_invalid 0 s room
unfolding opening open_at causes_of_open open_causes first settled
open-invalid s m f room r e t i = let z = told-true r _ e t in rw (z, i) ((refl, refl), (refl, refl))

module _ (s m f room : List ℕ) (kid : Kid) (ctr : Ctr) (n : ℕ) (is-sound : sound s ≡ true) (reads : read_header f ≡ header_of kid ctr n) where
  -- what opening comes to once header and record are found
  found-open : (held : KeyRecord) → get kid.0 (records s) ≡ held → opening sframe s m f room ≡ open_at sframe true (header_of kid ctr n) held (records s) s m f room
  unfolding opening
  found-open held g =
      ap₂ (λ (v : Bool) (h : Option Header). open_at sframe v h (get (read_kid h) (records s)) (records s) s m f room) is-sound reads
      ∙ ap (λ (h : KeyRecord). open_at sframe true (header_of kid ctr n) h (records s) s m f room) g

  module _ (p : Option ℕ) (w : FoundIn p kid.0 (records s)) where
    pub open-missing : p ≡ None → Leaves (opening sframe s m f room) kid_missing 0 s room
    unfolding open_at causes_of_open open_causes first settled
    open-missing q = let g : get kid.0 (records s) ≡ empty = rw q at w in leaves _ _ (found-open empty g)

    module _ (i : ℕ) (q : p ≡ Some i) (l : List ℕ) (r : RowOf s i l) where
      found : FoundIn (Some i) kid.0 (records s)
      found = rw q at w

      pub held-there : is_empty (decode l) ≡ false
      held-there = ap is_empty r.1 ∙ holds-some kid.0 (get_or (records s) i empty) found.2

      -- with the record's own bytes, which decode to what the store holds for that KID
      here : opening sframe s m f room ≡ open_at sframe true (header_of kid ctr n) (decode l) (records s) s m f room
      here = found-open (decode l) (found.1 ∙ sym r.1)

      module _ (number written : ℕ) (x : List ℕ)
          (a : (number ≡ (open_at sframe true (header_of kid ctr n) (decode l) [] [] m f room).number) × (written ≡ (open_at sframe true (header_of kid ctr n) (decode l) [] [] m f room).written))
          (b : x ≡ (open_at sframe true (header_of kid ctr n) (decode l) [] [] m f room).room) where
        told : (number ≡ (opening sframe s m f room).number) × (written ≡ (opening sframe s m f room).written) × (x ≡ (opening sframe s m f room).room)
        unfolding open_at
        told =
            let y = plain_of (decrypted sframe (header_of kid ctr n) (decode l) m f) in
            let o = any-store (first (causes_of_open sframe true (header_of kid ctr n) (decode l) m f room)) [] s room (length y) (y ++ drop (length y) room) (encode_all (put kid.0 (noted ctr.0 (decode l)) [])) (encode_all (put kid.0 (noted ctr.0 (decode l)) (records s))) in (
              a.0 ∙ o.0 ∙ sym (ap (λ (v : Outcome). v.number) here),
              a.1 ∙ o.1 ∙ sym (ap (λ (v : Outcome). v.written) here),
              b ∙ o.2 ∙ sym (ap (λ (v : Outcome). v.room) here),
            )

        -- a frame that is refused changes nothing in the store
        pub open-refused : (number ≡ done → ⊥) → Leaves (opening sframe s m f room) number written s x
        unfolding open_at
        open-refused d =
            let o = told in
            let k = first (causes_of_open sframe true (header_of kid ctr n) (decode l) m f room) in
            let stays : (open_at sframe true (header_of kid ctr n) (decode l) (records s) s m f room).store ≡ s =
            (settled-refused k s room _ (λ z. d (o.0 ∙ ap (λ (v : Outcome). v.number) here ∙ settled-number k s room _ refl ∙ z))).store-stays
            in
            ((o.0, o.1), (sym stays ∙ sym (ap (λ (v : Outcome). v.store) here), o.2))

        module _ (z : number ≡ done) where
          none-apply : first (causes_of_open sframe true (header_of kid ctr n) (decode l) m f room) ≡ done
          unfolding open_at
          none-apply = sym (settled-number (first (causes_of_open sframe true (header_of kid ctr n) (decode l) m f room)) s room _ refl) ∙ sym (ap (λ (v : Outcome). v.number) here) ∙ sym told.0 ∙ z

          -- the record is for receiving, and its window has nothing against the counter
          pub open-clear : (is_receiving (get_or (records s) i empty) ≡ true) × (seen (window_of (get_or (records s) i empty)) ctr.0 ≡ false) × (too_old (window_of (get_or (records s) i empty)) ctr.0 ≡ false)
          unfolding causes_of_open open_causes
          open-clear =
              let p = passes (causes_of_open sframe true (header_of kid ctr n) (decode l) m f room) refl none-apply in (
                ap is_receiving (sym r.1) ∙ not-false (is_receiving (decode l)) p.1.1.1.0,
                ap (λ (v : KeyRecord). seen (window_of v) ctr.0) (sym r.1) ∙ p.1.1.1.1.1.1.1.0,
                ap (λ (v : KeyRecord). too_old (window_of v) ctr.0) (sym r.1) ∙ p.1.1.1.1.1.1.1.1.0,
              )

          pub open_done : Octets s → (t : List ℕ) → t ≡ encode_all (set (records s) i (noted ctr.0 (get_or (records s) i empty))) → Leaves (opening sframe s m f room) number written t x
          unfolding open_at
          open_done o t e =
              let a = told in
              let opens = here ∙ settled-done _ s room _ none-apply in (
                (a.0, a.1),
                (
                  e ∙ ap (λ (v : KeyRecord). encode_all (set (records s) i (noted ctr.0 v))) (sym r.1)
                      ∙ ap encode_all (sym (put-at kid.0 (noted ctr.0 (decode l)) (records s) i (kids-apart (sound-stored s o is-sound).table) found.2))
                      ∙ sym (ap (λ (v : Outcome). v.store) opens),
                  a.2,
                ),
              )
