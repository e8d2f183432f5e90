-- SPDX-License-Identifier: MIT
-- A check in pieces says yes exactly to the RFC's frames. Assumes nothing.
use Rattle.std.specs.Prelude.{Option, Some}
use mathlib.Core.Path.{◌≡◌, refl, sym, ◌∙◌, ap, ap₂, subst}
use mathlib.Core.Bool.{Bool, true, false, not}
use mathlib.Core.List.{List, [], ◌∷◌, ◌++◌, append-nil, append_assoc}
use mathlib.Core.Logic.{◌↔◌}
use Prim.Native.Nat.{ℕ, ◌+◌, ◌<◌, ◌≤◌}
use native.Mathlib.Omega.{arith}
use lib.Dec.{ltb, eqb}
use lib.ListN.{length, get_or, take, drop, length-append}
use lib.Seq.{take_at, drop_at, length-take-le}
use borrow.Author.Tests.{le-ltb, eq-eqb, not-false}
use Rattle.octets.specs.Octets.{Octets, pick, same, pasted}
use Rattle.octets.proofs.Laws.{pasted-front, same_refl, same-eq}
use Rattle.header.specs.Header.{header_of, read_header}
use Rattle.header.specs.Answers.{read_kid}
use Rattle.header.specs.declared.Header.{Header}
use Rattle.header.proofs.Laws.{HeaderRead, header_read}
use Rattle.answers.specs.Answers.{tag_differs, first, Outcome}
use Rattle.answers.specs.Limits.{max_plaintext, max_metadata}
use Rattle.answers.proofs.Basics.{Two, yes', no', two, SettledOn, success, refusal, settle-on}
use Rattle.answers.proofs.Limits.{not-long}
use Rattle.suites.specs.declared.sizes.Suite.{Suite}
use Rattle.suites.specs.Suites.{suite_of, Nt}
use Rattle.suites.specs.Derivation.{nonce}
use Rattle.aead.specs.Aead as Aead
use Rattle.aead.specs.Aead.{ciphertext}
use Rattle.suites.proofs.Laws.{nonce-length}
use Rattle.aead.proofs.Laws.{ciphertext-length, ciphertext-twice, ciphertext-octets, tag-length}
use Rattle.piece_line.specs.State.{checking, announced_in, taken_in, line_of}
use Rattle.piece_line.specs.Line.{state_after, begun, tag_in}
use Rattle.pieces.specs.Calls.{Result, concluded, past, early, check_piece_in, check_piece, check_end_in, check_end}
use Rattle.piece_line.proofs.Lines as Line
use Rattle.key_record.specs.Record.{ReceivingKey, KeyRecord, empty, receiving, holds}
use Rattle.key_record.specs.Suites.{with_suite, tag_size}
use Rattle.key_record.proofs.Codec.{Fit}
use Rattle.key_record.proofs.Suites.{named, key-named, tag-named}
use Rattle.store.specs.Sframe.{encrypt_by, sframe}
use Rattle.store.specs.Store.{records, sound}
use Rattle.store.specs.Table.{get}
use Rattle.store.proofs.Stores.{Stored, sound-stored, kids-apart, get_fit}
use Rattle.store.proofs.Tables.{get_at}
use Rattle.judge_seal.specs.Frame.{frame_with}
use Rattle.begin_state.specs.Begin.{first_state}
use Rattle.begin_check.specs.Check.{check_causes, check_at, check_begin}
use Rattle.begin_check.proofs.Checks.{check-on, success as beginning}
use Rattle.sframe.specs.Promises.{Holds, Encryption}
use Rattle.sframe.specs.Cuts.{joined_all, checked_by, CheckBegun}

module _ (s : Suite) (n : ℕ) (iv key aad : List ℕ) (g : Line.Given s n iv key aad) where
  abbrev T : List ℕ → List ℕ → List ℕ
  T c tail = state_after checking s n iv key aad c ++ tail

  module _ (c tail : List ℕ) (h : length c ≤ n) where
    known : line_of checking (T c tail) ≡ Some s
    known = Line.line-is checking s n iv key aad g c tail h

    piece-takes : (d : List ℕ) → length c + length d ≤ n → (check_piece (T c tail) d).state ≡ T (c ++ d) tail
    unfolding check_piece concluded first
    piece-takes d k =
        let a = Line.announced-is checking s n iv key aad g c tail in
        let b = Line.taken_is checking s n iv key aad g c tail h in
        let in-time : past (T c tail) (length d) ≡ false = le-ltb (announced_in (T c tail)) (taken_in (T c tail) + length d) (omega arith) in
        ap (λ (f : Option Suite). (check_piece_in f (T c tail) d).state) known ∙ rw in-time (Line.taken-on checking s n iv key aad g c tail d k)

    -- past its other causes, the end's answer is the tag's
    end_is : (tag : List ℕ) → length c ≡ n → length tag ≡ Nt s → check_end (T c tail) tag ≡ pick (not (same tag (Aead.tag s key iv aad c))) tag_differs 0
    unfolding check_end first
    end_is tag k l =
        let a = Line.announced-is checking s n iv key aad g c tail in
        let b = Line.taken_is checking s n iv key aad g c tail h in
        let whole : early (T c tail) ≡ false = ap not (eq-eqb (taken_in (T c tail)) (announced_in (T c tail)) (omega arith)) in
        ap (λ (f : Option Suite). check_end_in f (T c tail) tag) known
        ∙ rw (whole, eq-eqb (length tag) (Nt s) l) (ap (λ (t : List ℕ). pick (not (same tag t)) tag_differs 0) (Line.tag_is checking s n iv key aad g c tail k))

    end-yes : (tag : List ℕ) → length c ≡ n → length tag ≡ Nt s → tag ≡ Aead.tag s key iv aad c → check_end (T c tail) tag ≡ 0
    end-yes tag k l e = end_is tag k l ∙ ap (λ (t : List ℕ). pick (not (same t (Aead.tag s key iv aad c))) tag_differs 0) e ∙ ap (λ (b : Bool). pick (not b) tag_differs 0) (same_refl (Aead.tag s key iv aad c))

    end-only : (tag : List ℕ) → length c ≡ n → length tag ≡ Nt s → check_end (T c tail) tag ≡ 0 → tag ≡ Aead.tag s key iv aad c
    end-only tag k l z = by (two (same tag (Aead.tag s key iv aad c)))
      where
        by : Two (same tag (Aead.tag s key iv aad c)) → tag ≡ Aead.tag s key iv aad c
        by (yes' e) = same-eq tag (Aead.tag s key iv aad c) e
        by (no' e) = let w : ◌≡◌ {A = ℕ} 13 0 = ap (λ (b : Bool). pick (not b) tag_differs 0) (sym e) ∙ sym (end_is tag k l) ∙ z in absurd (omega arith)

  takes_all : (ds : List (List ℕ)) (c tail : List ℕ) → length c + length (joined_all ds) ≤ n → checked_by (T c tail) ds ≡ T (c ++ joined_all ds) tail
  unfolding joined_all checked_by
  takes_all [] c tail h = ap (λ (z : List ℕ). T z tail) (sym (append-nil c))
  takes_all (d ∷ ds) c tail h =
      let l = length-append d (joined_all ds) in
      let m = length-append c d in
      ap (λ (z : List ℕ). checked_by z ds) (piece-takes c tail (omega arith) d (omega arith)) ∙ takes_all ds (c ++ d) tail (omega arith) ∙ ap (λ (z : List ℕ). T z tail) (append_assoc c d (joined_all ds))

  -- ciphertext and tag are an encryption exactly when the tag is the ciphertext's
  sealed-by : (c tag : List ℕ) → tag ≡ Aead.tag s key iv aad c → c ++ tag ≡ Aead.encrypt s key iv aad (ciphertext s key iv c)
  unfolding Aead.encrypt
  sealed-by c tag e = ap₂ (λ (x y : List ℕ). x ++ y) (sym (ciphertext-twice s key iv c)) (e ∙ ap (Aead.tag s key iv aad) (sym (ciphertext-twice s key iv c)))

  only-tag : (c tag p : List ℕ) → length tag ≡ Nt s → c ++ tag ≡ Aead.encrypt s key iv aad p → tag ≡ Aead.tag s key iv aad c
  unfolding Aead.encrypt
  only-tag c tag p l e =
      let q = ciphertext s key iv p in
      let t = Aead.tag s key iv aad q in
      let lt : length t ≡ Nt s = tag-length s key iv aad q in
      let le : length c + length tag ≡ length q + length t = sym (length-append c tag) ∙ ap length e ∙ length-append q t in
      let lc : length q ≡ length c = omega arith in
      let same-c : c ≡ q = sym (take_at c tag (length c) refl) ∙ ap (take (length c)) e ∙ take_at q t (length c) lc in
      sym (drop_at c tag (length c) refl) ∙ ap (drop (length c)) e ∙ drop_at q t (length c) lc ∙ ap (Aead.tag s key iv aad) (sym same-c)

-- ---- on a store

module _ (s metadata bytes : List ℕ) (announced : ℕ) (state : List ℕ) (r : ReceivingKey) (ctr n : ℕ) (q : CheckBegun s metadata bytes announced state r ctr n) where
  abbrev held : KeyRecord
  held = receiving r q.held.window

  stored : Stored s (records s)
  stored = sound-stored s q.held.octets q.held.is-sound

  holds-kid : holds r.kid (get_or (records s) q.held.place empty) ≡ true
  unfolding holds
  holds-kid = ap (holds r.kid) q.held.holds-it ∙ eq-eqb r.kid r.kid refl

  here : get r.kid (records s) ≡ receiving r q.held.window
  here = get_at r.kid (records s) q.held.place (kids-apart stored.table) holds-kid ∙ q.held.holds-it

  abbrev reading : Option Header
  reading = header_of (record { 0 = r.kid }) (record { 0 = ctr }) n

  begun-at : check_begin sframe s metadata bytes announced state ≡ check_at sframe true reading (receiving r q.held.window) s metadata bytes announced state
  begun-at =
      check-on sframe s (records s) stored metadata bytes announced state
      ∙ ap (λ (h : Option Header). check_at sframe true h (get (read_kid h) (records s)) s metadata bytes announced state) q.header_is
      ∙ ap (λ (h : KeyRecord). check_at sframe true reading h s metadata bytes announced state) here

  -- what the beginning left, and the sizes that it let pass
  record Left : Type 0 where
    state-is : (check_begin sframe s metadata bytes announced state).state ≡ pasted state 0 (first_state sframe checking (receiving r q.held.window) ctr announced (take n bytes ++ metadata))
    announced-most : announced ≤ max_plaintext
    metadata-most : length metadata ≤ max_metadata

  left : Left
  unfolding check_at check_causes beginning
  left = by (settle-on (check_causes true reading (receiving r q.held.window) (length metadata) announced (length state)) s [] state (beginning sframe reading (receiving r q.held.window) s metadata bytes announced state) refl)
    where
      by : SettledOn (check_causes true reading (receiving r q.held.window) (length metadata) announced (length state)) s [] state (beginning sframe reading (receiving r q.held.window) s metadata bytes announced state) (check_at sframe true reading (receiving r q.held.window) s metadata bytes announced state)
          → Left
      by (refusal d e) = absurd (d (sym e.number_is ∙ sym (ap (λ (o : Outcome). o.number) begun-at) ∙ q.begins))
      by (success p e) =
          let sizes = not-long announced (length metadata) p.1.1.1.1.0 in
          record { state-is = ap (λ (o : Outcome). o.state) (begun-at ∙ e); announced-most = sizes.0; metadata-most = sizes.1 }

  head : HeaderRead bytes r.kid ctr n
  head = header_read bytes (record { 0 = r.kid }) (record { 0 = ctr }) n q.bytes-octets q.header_is

  front : length (take n bytes) ≡ n
  front = length-take-le n bytes head.inside

  fit : Fit (receiving r q.held.window)
  fit = rw here at (get_fit r.kid (records s) stored.table.fit)

  abbrev iv : List ℕ
  iv = nonce r.salt ctr

  abbrev aad : List ℕ
  aad = take n bytes ++ metadata

  module _ (u : Suite) (found : suite_of r.suite ≡ Some u) (ds : List (List ℕ)) (tag : List ℕ) (oc : Octets (joined_all ds)) (lc : length (joined_all ds) ≡ announced) (lt : length tag ≡ tag_size r.suite) where
    given : Line.Given u announced iv r.key aad
    given =
        let l = front in
        let h = head.least in
        let k = head.most in
        let m = left.metadata-most in
        record {
          nonce_sized = nonce-length r.salt ctr fit.1.salt-length;
          key_sized = fit.1.key-length ∙ key-named r.suite u found;
          least = simp length-append (omega arith);
          most = simp length-append (omega arith);
          announced = left.announced-most;
        }

    nt : length tag ≡ Nt u
    nt = lt ∙ tag-named r.suite u found

    first-is : first_state sframe checking (receiving r q.held.window) ctr announced aad ≡ state_after checking u announced iv r.key aad []
    unfolding first_state begun
    first-is = ap (with_suite [] (λ z. state_after checking z announced iv r.key aad [])) found

    tail : List ℕ
    tail = drop (length (first_state sframe checking (receiving r q.held.window) ctr announced aad)) state

    taken : checked_by (check_begin sframe s metadata bytes announced state).state ds ≡ state_after checking u announced iv r.key aad (joined_all ds) ++ tail
    unfolding tail
    taken =
        ap (λ (z : List ℕ). checked_by z ds) (left.state-is ∙ pasted-front state (first_state sframe checking (receiving r q.held.window) ctr announced aad) ∙ ap (λ (z : List ℕ). z ++ tail) first-is)
        ∙ takes_all u announced iv r.key aad given ds [] tail (omega arith)

    same-front : take n (take n bytes ++ (joined_all ds ++ tag)) ≡ take n bytes
    same-front = take_at (take n bytes) (joined_all ds ++ tag) n front

    -- the frame is an encryption exactly when what stands behind the header is
    frame-as : (p : List ℕ) → joined_all ds ++ tag ≡ Aead.encrypt u r.key iv aad p
        → take n bytes ++ (joined_all ds ++ tag) ≡ frame_with sframe r.suite r.key r.salt (take n (take n bytes ++ (joined_all ds ++ tag))) ctr metadata p
    unfolding frame_with encrypt_by
    frame-as p e = ap (λ (z : List ℕ). take n bytes ++ z) e ∙ rw (same-front, found)

    behind : (p : List ℕ) → take n bytes ++ (joined_all ds ++ tag) ≡ frame_with sframe r.suite r.key r.salt (take n (take n bytes ++ (joined_all ds ++ tag))) ctr metadata p
        → joined_all ds ++ tag ≡ Aead.encrypt u r.key iv aad p
    unfolding frame_with encrypt_by
    behind p e =
        let f : take n bytes ++ (joined_all ds ++ tag) ≡ take n bytes ++ Aead.encrypt u r.key iv aad p = rw (same-front, found) at e in
        sym (drop_at (take n bytes) (joined_all ds ++ tag) n front) ∙ ap (drop n) f ∙ drop_at (take n bytes) (Aead.encrypt u r.key iv aad p) n front

    exact : (check_end (checked_by (check_begin sframe s metadata bytes announced state).state ds) tag ≡ 0) ↔ Encryption sframe r ctr n metadata (take n bytes ++ (joined_all ds ++ tag))
    exact = (
      λ z.
          let e = end-only u announced iv r.key aad given (joined_all ds) tail (omega arith) tag lc nt (ap (λ (x : List ℕ). check_end x tag) (sym taken) ∙ z) in
          record {
            plaintext = ciphertext u r.key iv (joined_all ds);
            octets = ciphertext-octets u r.key iv (joined_all ds) oc;
            is-frame = frame-as (ciphertext u r.key iv (joined_all ds)) (sealed-by u announced iv r.key aad given (joined_all ds) tag e);
          },
      λ y.
          ap (λ (x : List ℕ). check_end x tag) taken
          ∙ end-yes u announced iv r.key aad given (joined_all ds) tail (omega arith) tag lc nt (only-tag u announced iv r.key aad given (joined_all ds) tag y.plaintext nt (behind y.plaintext y.is-frame)),
    )

  pub checks-exactly : (ds : List (List ℕ)) (tag : List ℕ) → Octets (joined_all ds) → length (joined_all ds) ≡ announced → length tag ≡ tag_size r.suite
      → (check_end (checked_by (check_begin sframe s metadata bytes announced state).state ds) tag ≡ 0) ↔ Encryption sframe r ctr n metadata (take n bytes ++ (joined_all ds ++ tag))
  checks-exactly ds tag oc lc lt = let m = named r.suite fit.0.known in exact m.suite m.found ds tag oc lc lt
