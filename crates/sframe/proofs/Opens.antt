-- SPDX-License-Identifier: MIT
-- Opening succeeds exactly when the frame is the RFC's encryption of some plaintext with the header that was received, and yields that
-- plaintext. Assumes nothing.
use Rattle.std.specs.Prelude.{Option}
use mathlib.Core.Path.{◌≡◌, refl, sym, ◌∙◌, ap}
use mathlib.Core.Bool.{Bool, true, false, not, false≢true}
use mathlib.Core.List.{List, [], ◌∷◌, ◌++◌}
use Prim.Native.Nat.{ℕ, ◌+◌, ◌-◌, ◌<◌, ◌≤◌}
use native.Mathlib.Omega.{arith}
use lib.Dec.{leb, ltb, eqb}
use lib.ListN.{length, take, drop, length-drop, take-append-drop}
use lib.Seq.{take-append_seam, drop_at, length-take-le}
use borrow.Author.Tests.{le-leb, le-ltb, lt-ltb, ltb-true, ltb-false, eq-eqb}
use Rattle.octets.specs.Octets.{Octets, pick}
use Rattle.octets.proofs.Laws.{octets-append, octets-take, octets-drop}
use Rattle.header.specs.Answers.{header_invalid, room_short, read_number, read_kid, read_ctr, read_length}
use Rattle.header.specs.Header.{header_of, read_header}
use Rattle.header.specs.declared.Header.{Header}
use Rattle.header.proofs.Laws.{header_read}
use Rattle.answers.specs.Answers.{store_invalid, kid_missing, role_refused, input_too_long, frame_short, tag_differs, already_opened, counter_too_old, ◌if◌, Outcome, first}
use Rattle.store.specs.Cipher.{Cipher, Decrypted, plain, differs}
use Rattle.key_record.specs.Record.{ReceivingKey, KeyRecord, receiving, is_empty, is_receiving, suite_of, window_of, holds, noted}
use Rattle.store.specs.Store.{encode_all, records}
use Rattle.store.specs.Table.{get, put}
use Rattle.window.specs.Window.{fresh, seen, too_old, moved}
use Rattle.window.specs.declared.Window.{Window}
use Rattle.window.proofs.Laws.{old-unseen, fresh-opens}
use Rattle.answers.proofs.Basics.{Two, yes', no', two, both-and, Pass, passes, none-applies, settled-done, settled-number}
use Rattle.store.proofs.CipherLaws.{Laws, Usable}
use Rattle.key_record.proofs.Codec.{Fit}
use Rattle.store.proofs.Stores.{Stored, sound-stored, get_fit, kids-apart}
use Rattle.store.proofs.Tables.{get_at}
use Rattle.answers.specs.Limits.{max_plaintext, max_metadata, too_long}
use Rattle.judge_open.specs.Open.{plain_of, is_differs, decrypted, plain_length, open_causes, causes_of_open, open_at, opening}
use Rattle.judge_seal.specs.Frame.{frame_with}
use Rattle.key_record.specs.Suites.{tag_size}
use Rattle.judge_open.proofs.Opened.{open-on}
use Rattle.sframe.specs.Promises.{Holds, Encryption, Offered, WindowCauses, Openable, OpensExactly}

short-enough : (n m : ℕ) → n ≤ max_plaintext → m ≤ max_metadata → too_long n m ≡ false
unfolding too_long
short-enough n m a b = ap not (both-and (leb n max_plaintext) (leb m max_metadata) (le-leb n max_plaintext a) (le-leb m max_metadata b))

is_plain : (d : Decrypted) → is_differs d ≡ false → d ≡ plain (plain_of d)
is_plain (plain p) e = refl
is_plain differs e = absurd (false≢true (sym e))

open-number : (cipher : Cipher) (valid : Bool) (reading : Option Header) (held : KeyRecord) (rs : List KeyRecord) (s metadata bytes room : List ℕ)
    → (open_at cipher valid reading held rs s metadata bytes room).number ≡ first (causes_of_open cipher valid reading held metadata bytes room)
unfolding open_at
open-number cipher valid reading held rs s metadata bytes room = settled-number _ s room _ refl

module _ (cipher : Cipher) (laws : Laws cipher) (s : List ℕ) (rs : List KeyRecord) (t : Stored s rs) where
  -- bytes with a header, whose KID is held for receiving
  module _ (metadata bytes room : List ℕ) (om : Octets metadata) (ob : Octets bytes) (kid ctr n : ℕ)
      (reads : read_header bytes ≡ header_of (record { 0 = kid }) (record { 0 = ctr }) n) (r : ReceivingKey) (w : Window) (found : get kid rs ≡ receiving r w) where
    open-here : opening cipher s metadata bytes room ≡ open_at cipher true (header_of (record { 0 = kid }) (record { 0 = ctr }) n) (receiving r w) rs s metadata bytes room
    open-here =
        open-on cipher s rs t metadata bytes room
        ∙ ap (λ (h : Option Header). open_at cipher true h (get (read_kid h) rs) rs s metadata bytes room) reads
        ∙ ap (λ (x : KeyRecord). open_at cipher true (header_of (record { 0 = kid }) (record { 0 = ctr }) n) x rs s metadata bytes room) found

    fit : Fit (receiving r w)
    fit = rw found at (get_fit kid rs t.table.fit)

    inside : n ≤ length bytes
    inside = (header_read bytes (record { 0 = kid }) (record { 0 = ctr }) n ob reads).inside

    usable : Usable r.suite r.key (cipher.nonce r.salt ctr) (take n bytes ++ metadata)
    usable = record {
      known = fit.0.known;
      key-length = fit.1.key-length;
      key-octets = fit.1.key-octets;
      nonce-length = laws.nonce-length r.salt ctr fit.1.salt-length;
      nonce-octets = laws.nonce-octets r.salt ctr fit.1.salt-length fit.1.salt-octets;
      aad-octets = octets-append (take n bytes) metadata (octets-take n bytes ob) om;
    }

    -- bytes that decrypt are the frame of what they decrypt to
    frame-of : (p : List ℕ) → tag_size r.suite ≤ length (drop n bytes)
        → cipher.decrypt r.suite r.key (cipher.nonce r.salt ctr) (take n bytes ++ metadata) (drop n bytes) ≡ plain p
        → Octets p × (bytes ≡ frame_with cipher r.suite r.key r.salt (take n bytes) ctr metadata p)
    unfolding frame_with
    frame-of p h e =
        let d = laws.decrypt-plain r.suite r.key (cipher.nonce r.salt ctr) (take n bytes ++ metadata) (drop n bytes) p usable (octets-drop n bytes ob) h e in
        (d.0, sym (take-append-drop n bytes) ∙ ap (λ (b : List ℕ). take n bytes ++ b) d.1)

    -- and the frame of a plaintext decrypts to it
    rest_of : (p : List ℕ) → bytes ≡ frame_with cipher r.suite r.key r.salt (take n bytes) ctr metadata p
        → drop n bytes ≡ cipher.encrypt r.suite r.key (cipher.nonce r.salt ctr) (take n bytes ++ metadata) p
    unfolding frame_with
    rest_of p e =
        ap (drop n) e
        ∙ drop_at (take n bytes) (cipher.encrypt r.suite r.key (cipher.nonce r.salt ctr) (take n bytes ++ metadata) p) n (length-take-le n bytes inside)

    decrypts : (p : List ℕ) → Octets p → bytes ≡ frame_with cipher r.suite r.key r.salt (take n bytes) ctr metadata p
        → cipher.decrypt r.suite r.key (cipher.nonce r.salt ctr) (take n bytes ++ metadata) (drop n bytes) ≡ plain p
    decrypts p o e =
        ap (cipher.decrypt r.suite r.key (cipher.nonce r.salt ctr) (take n bytes ++ metadata)) (rest_of p e)
        ∙ laws.decrypt-encrypt r.suite r.key (cipher.nonce r.salt ctr) (take n bytes ++ metadata) p usable o

    -- what it takes to be so: it has a tag, and as many bytes before it as the plaintext
    lengths : (p : List ℕ) → Octets p → bytes ≡ frame_with cipher r.suite r.key r.salt (take n bytes) ctr metadata p → length bytes - n ≡ length p + tag_size r.suite
    lengths p o e =
        sym (length-drop n bytes) ∙ ap length (rest_of p e) ∙ laws.encrypt-length r.suite r.key (cipher.nonce r.salt ctr) (take n bytes ++ metadata) p usable o

    module _ (pm : length bytes - n - tag_size r.suite ≤ max_plaintext) (mm : length metadata ≤ max_metadata) (rm : length bytes - n - tag_size r.suite ≤ length room) where
      -- past the refusals before it, the window's two come, then the tag
      answer-is : tag_size r.suite ≤ length bytes - n
          → (opening cipher s metadata bytes room).number
          ≡ pick (seen w ctr) already_opened (pick (too_old w ctr) counter_too_old (pick (is_differs (cipher.decrypt r.suite r.key (cipher.nonce r.salt ctr) (take n bytes ++ metadata) (drop n bytes))) tag_differs 0))
      unfolding causes_of_open open_causes first plain_length decrypted
      answer-is h =
          ap (λ (o : Outcome). o.number) open-here
          ∙ open-number cipher true (header_of (record { 0 = kid }) (record { 0 = ctr }) n) (receiving r w) rs s metadata bytes room
          ∙ rw (le-ltb (length bytes - n) (tag_size r.suite) h, short-enough (length bytes - n - tag_size r.suite) (length metadata) pm mm, le-ltb (length room) (length bytes - n - tag_size r.suite) rm)

      -- a frame that has no tag has another answer
      no-tag : length bytes - n < tag_size r.suite → (opening cipher s metadata bytes room).number ≡ frame_short
      unfolding causes_of_open open_causes first
      no-tag h =
          ap (λ (o : Outcome). o.number) open-here
          ∙ open-number cipher true (header_of (record { 0 = kid }) (record { 0 = ctr }) n) (receiving r w) rs s metadata bytes room
          ∙ rw (lt-ltb (length bytes - n) (tag_size r.suite) h)

      causes-pass : seen w ctr ≡ false → too_old w ctr ≡ false → (p : List ℕ) → tag_size r.suite ≤ length bytes - n
          → cipher.decrypt r.suite r.key (cipher.nonce r.salt ctr) (take n bytes ++ metadata) (drop n bytes) ≡ plain p
          → Pass (causes_of_open cipher true (header_of (record { 0 = kid }) (record { 0 = ctr }) n) (receiving r w) metadata bytes room)
      unfolding causes_of_open open_causes plain_length decrypted
      causes-pass new young p h e = (
        refl,
        (
          refl,
          (
            refl,
            (
              refl,
              (
                le-ltb (length bytes - n) (tag_size r.suite) h,
                (
                  short-enough (length bytes - n - tag_size r.suite) (length metadata) pm mm,
                  (le-ltb (length room) (length bytes - n - tag_size r.suite) rm, (new, (young, (ap is_differs e, tt)))),
                ),
              ),
            ),
          ),
        ),
      )

      opened : seen w ctr ≡ false → too_old w ctr ≡ false → (p : List ℕ) → tag_size r.suite ≤ length bytes - n
          → cipher.decrypt r.suite r.key (cipher.nonce r.salt ctr) (take n bytes ++ metadata) (drop n bytes) ≡ plain p
          → opening cipher s metadata bytes room ≡ record { number = 0; written = length p; store = encode_all (put kid (receiving r (moved w ctr)) rs); room = p ++ drop (length p) room; state = [] }
      unfolding open_at decrypted noted
      opened new young p h e =
          open-here
          ∙ settled-done _ s room _ (none-applies _ (causes-pass new young p h e))
          ∙ ap (λ (d : Decrypted). record { number = 0; written = length (plain_of d); store = encode_all (put kid (receiving r (moved w ctr)) rs); room = plain_of d ++ drop (length (plain_of d)) room; state = [] }) e

      passed : (opening cipher s metadata bytes room).number ≡ 0
          → (tag_size r.suite ≤ length bytes - n)
          × (is_differs (cipher.decrypt r.suite r.key (cipher.nonce r.salt ctr) (take n bytes ++ metadata) (drop n bytes)) ≡ false)
      unfolding open_at causes_of_open open_causes plain_length decrypted
      passed e =
          let p = passes (causes_of_open cipher true (header_of (record { 0 = kid }) (record { 0 = ctr }) n) (receiving r w) metadata bytes room) refl (sym (open-number cipher true (header_of (record { 0 = kid }) (record { 0 = ctr }) n) (receiving r w) rs s metadata bytes room) ∙ sym (ap (λ (o : Outcome). o.number) open-here) ∙ e) in
          (ltb-false (length bytes - n) (tag_size r.suite) p.1.1.1.1.0, p.1.1.1.1.1.1.1.1.1.0)

-- ---- a store that holds the key

holds-receiving : (r : ReceivingKey) (w : Window) → holds r.kid (receiving r w) ≡ true
unfolding holds
holds-receiving r w = eq-eqb r.kid r.kid refl

holds-get : (s : List ℕ) (r : ReceivingKey) (h : Holds s r) → get r.kid (records s) ≡ receiving r h.window
holds-get s r h =
    let t = sound-stored s h.octets h.is-sound in
    get_at r.kid (records s) h.place (kids-apart t.table) (rw h.holds-it (holds-receiving r h.window)) ∙ h.holds-it

module _ (cipher : Cipher) (laws : Laws cipher) where
  -- opening succeeds exactly when the frame is the RFC's encryption of some plaintext under the held key, with the frame's own counter and header and the metadata given, and yields it
  pub opens-exactly : (s metadata bytes room : List ℕ) (r : ReceivingKey) (ctr n : ℕ) (q : Openable cipher s metadata bytes room r ctr n)
      → OpensExactly cipher s metadata bytes room r q.offered.held.window ctr n
  opens-exactly s metadata bytes room r ctr n q = record {
    exactly = (there, λ e. ap (λ (o : Outcome). o.number) (outcome-is e));
    yields = λ e. record {
      answers = ap (λ (o : Outcome). o.number) (outcome-is e);
      writes = ap (λ (o : Outcome). o.written) (outcome-is e);
      starts = ap (λ (o : Outcome). take (length e.plaintext) o.room) (outcome-is e) ∙ take-append_seam e.plaintext (drop (length e.plaintext) room);
    };
    beyond = λ e. ap (λ (o : Outcome). o.room) (outcome-is e);
    moves = λ e. ap (λ (o : Outcome). o.store) (outcome-is e);
  }
    where
      g : Offered cipher s metadata bytes room r ctr n
      g = q.offered

      w : Window
      w = q.offered.held.window

      t : Stored s (records s)
      t = sound-stored s q.offered.held.octets q.offered.held.is-sound

      found : get r.kid (records s) ≡ receiving r q.offered.held.window
      found = holds-get s r q.offered.held

      outcome-is : (e : Encryption cipher r ctr n metadata bytes)
          → opening cipher s metadata bytes room ≡ record { number = 0; written = length e.plaintext; store = encode_all (put r.kid (receiving r (moved q.offered.held.window ctr)) (records s)); room = e.plaintext ++ drop (length e.plaintext) room; state = [] }
      outcome-is e =
          let l = lengths cipher laws s (records s) t metadata bytes room g.metadata-octets g.bytes-octets r.kid ctr n g.header_is r w found e.plaintext e.octets e.is-frame in
          opened cipher laws s (records s) t metadata bytes room g.metadata-octets g.bytes-octets r.kid ctr n g.header_is r w found
          g.plaintext-most g.metadata-most g.room-enough q.not_seen q.not-old e.plaintext (omega arith)
          (decrypts cipher laws s (records s) t metadata bytes room g.metadata-octets g.bytes-octets r.kid ctr n g.header_is r w found e.plaintext e.octets e.is-frame)

      there : (opening cipher s metadata bytes room).number ≡ 0 → Encryption cipher r ctr n metadata bytes
      there e =
          let p = passed cipher laws s (records s) t metadata bytes room g.metadata-octets g.bytes-octets r.kid ctr n g.header_is r w found
          g.plaintext-most g.metadata-most g.room-enough e
          in
          let d = cipher.decrypt r.suite r.key (cipher.nonce r.salt ctr) (take n bytes ++ metadata) (drop n bytes) in
          let f = frame-of cipher laws s (records s) t metadata bytes room g.metadata-octets g.bytes-octets r.kid ctr n g.header_is r w found (plain_of d)
          (rw length-drop p.0) (is_plain d p.1)
          in
          record { plaintext = plain_of d; octets = f.0; is-frame = f.1 }

-- ---- what the window has against a frame

-- which of the window's two refusals is given
module _ (a b c : Bool) where
  first-is : pick a already_opened (pick b counter_too_old (pick c tag_differs 0)) ≡ already_opened → a ≡ true
  first-is = by a b c
    where
      by : (a b c : Bool) → pick a already_opened (pick b counter_too_old (pick c tag_differs 0)) ≡ already_opened → a ≡ true
      by true b c e = refl
      by false true c e = absurd (omega arith)
      by false false true e = absurd (omega arith)
      by false false false e = absurd (omega arith)

  second_is : pick a already_opened (pick b counter_too_old (pick c tag_differs 0)) ≡ counter_too_old → b ≡ true
  second_is = by a b c
    where
      by : (a b c : Bool) → pick a already_opened (pick b counter_too_old (pick c tag_differs 0)) ≡ counter_too_old → b ≡ true
      by true b c e = absurd (omega arith)
      by false true c e = refl
      by false false true e = absurd (omega arith)
      by false false false e = absurd (omega arith)

module _ (cipher : Cipher) (laws : Laws cipher) (s metadata bytes room : List ℕ) (r : ReceivingKey) (ctr n : ℕ) (g : Offered cipher s metadata bytes room r ctr n) where
  here : Stored s (records s)
  here = sound-stored s g.held.octets g.held.is-sound

  pub window-causes-are : tag_size r.suite ≤ length bytes - n → WindowCauses cipher s metadata bytes room g.held.window ctr
  window-causes-are h = record {
    opened-before = (λ e. first-is (seen w ctr) (too_old w ctr) differs-there (sym is ∙ e), λ e. is ∙ rw e);
    too-old = (λ e. second_is (seen w ctr) (too_old w ctr) differs-there (sym is ∙ e), λ e. is ∙ rw (old-unseen w ctr e, e));
  }
    where
      w : Window
      w = g.held.window

      differs-there : Bool
      differs-there = is_differs (cipher.decrypt r.suite r.key (cipher.nonce r.salt ctr) (take n bytes ++ metadata) (drop n bytes))

      is : (opening cipher s metadata bytes room).number ≡ pick (seen g.held.window ctr) already_opened (pick (too_old g.held.window ctr) counter_too_old (pick (is_differs (cipher.decrypt r.suite r.key (cipher.nonce r.salt ctr) (take n bytes ++ metadata) (drop n bytes))) tag_differs 0))
      is =
          answer-is cipher laws s (records s) here metadata bytes room g.metadata-octets g.bytes-octets r.kid ctr n g.header_is r g.held.window (holds-get s r g.held)
          g.plaintext-most g.metadata-most g.room-enough h

  -- with a key with which nothing was opened yet, neither is given
  pub fresh-passes : g.held.window ≡ fresh → ((opening cipher s metadata bytes room).number ≡ already_opened → ⊥) × ((opening cipher s metadata bytes room).number ≡ counter_too_old → ⊥)
  fresh-passes e = by (two (ltb (length bytes - n) (tag_size r.suite)))
    where
      by : Two (ltb (length bytes - n) (tag_size r.suite)) → ((opening cipher s metadata bytes room).number ≡ already_opened → ⊥) × ((opening cipher s metadata bytes room).number ≡ counter_too_old → ⊥)
      by (yes' t) =
          let is = no-tag cipher laws s (records s) here metadata bytes room g.metadata-octets g.bytes-octets r.kid ctr n g.header_is r g.held.window (holds-get s r g.held)
          g.plaintext-most g.metadata-most g.room-enough (ltb-true (length bytes - n) (tag_size r.suite) t)
          in
          ((λ z. omega arith), λ z. omega arith)
      by (no' t) =
          let c = window-causes-are (ltb-false (length bytes - n) (tag_size r.suite) t) in
          let f = fresh-opens ctr in (
            (λ z. false≢true (sym (ap (λ (v : Window). seen v ctr) e ∙ f.0) ∙ c.opened-before.0 z)),
            λ z. false≢true (sym (ap (λ (v : Window). too_old v ctr) e ∙ f.1) ∙ c.too-old.0 z),
          )

-- ---- the list of causes

-- written out, of what is lent
pub open-causes-are : (cipher : Cipher) (valid : Bool) (reading : Option Header) (held : KeyRecord) (metadata bytes room : List ℕ)
    → causes_of_open cipher valid reading held metadata bytes room
    ≡ (store_invalid if not valid)
    ∷ (header_invalid if eqb (read_number reading) header_invalid)
    ∷ (kid_missing if is_empty held)
    ∷ (role_refused if not (is_receiving held))
    ∷ (frame_short if ltb (length bytes - read_length reading) (tag_size (suite_of held)))
    ∷ (input_too_long if too_long (plain_length reading held bytes) (length metadata))
    ∷ (room_short if ltb (length room) (plain_length reading held bytes))
    ∷ (already_opened if seen (window_of held) (read_ctr reading))
    ∷ (counter_too_old if too_old (window_of held) (read_ctr reading))
    ∷ (tag_differs if is_differs (decrypted cipher reading held metadata bytes))
    ∷ []
unfolding causes_of_open open_causes
open-causes-are cipher valid reading held metadata bytes room = refl
