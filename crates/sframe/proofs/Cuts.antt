-- SPDX-License-Identifier: MIT
-- However a sealing is cut, its frame is the whole one; and a check in pieces says yes exactly to the RFC's frames. Assumes nothing.
use Rattle.std.specs.Prelude.{Some}
use mathlib.Core.Path.{◌≡◌, refl, sym, ◌∙◌, ap, ap₂, subst}
use mathlib.Core.Bool.{Bool, true, false, not}
use mathlib.Core.List.{List, [], ◌∷◌, ◌++◌, append-nil, append_assoc}
use Prim.Native.Nat.{ℕ, ◌+◌, ◌<◌, ◌≤◌}
use native.Mathlib.Omega.{arith}
use lib.Dec.{ltb, eqb}
use lib.ListN.{length, take, drop, length-append}
use borrow.Author.Tests.{le-ltb, eq-eqb}
use Rattle.octets.specs.Octets.{Octets, pasted}
use Rattle.octets.proofs.Laws.{pasted-front}
use Rattle.header.specs.Header.{header}
use Rattle.header.proofs.Laws.{header-length}
use Rattle.answers.specs.Answers.{first, Outcome}
use Rattle.suites.specs.declared.sizes.Suite.{Suite}
use Rattle.suites.specs.Suites.{suite_of, Nt}
use Rattle.suites.specs.Derivation.{nonce}
use Rattle.aead.specs.Aead as Aead
use Rattle.aead.specs.Aead.{ciphertext}
use Rattle.suites.proofs.Laws.{nonce-length}
use Rattle.aead.proofs.Laws.{ciphertext-length}
use Rattle.piece_line.specs.State.{sealing, announced_in, taken_in}
use Rattle.piece_line.specs.Line.{state_after, begun}
use Rattle.pieces.specs.Calls.{Result, concluded, past, early, wanting, seal_piece, seal_end}
use Rattle.piece_line.proofs.Lines as Line
use Rattle.key_record.specs.Record.{SendingKey, KeyRecord, sending, suite_of as held_suite}
use Rattle.key_record.specs.Suites.{with_suite, tag_size}
use Rattle.key_record.proofs.Codec.{Fit}
use Rattle.key_record.proofs.Suites.{named, key-named, tag-named}
use Rattle.store.specs.Sframe.{encrypt_by, sframe}
use Rattle.store.specs.Store.{records, sound}
use Rattle.store.specs.Table.{get}
use Rattle.store.proofs.Stores.{sound-stored}
use Rattle.judge_seal.specs.Frame.{frame_with, frame}
use Rattle.judge_seal.specs.Seal.{next_frame}
use Rattle.begin_state.specs.Begin.{first_state}
use Rattle.begin_seal.specs.Begin.{seal_begin}
use Rattle.begin_seal.proofs.Begins.{Begun, BeginStep, begin-step}
use Rattle.sframe.specs.Cuts.{Cut, plaintext_of, Roomy, left_by, given_by, cut_frame}
use Rattle.sframe.proofs.Facts.{Moved, Closed, Step, refused, done}
use Rattle.sframe.proofs.LineSuites as Suites
use Rattle.sframe.proofs.LineSuites.{cut_for, tag_for, answered, tagged}

none-cut : (s : Suite) (key iv : List ℕ) → ciphertext s key iv [] ≡ []
none-cut s key iv = by (ciphertext s key iv []) (ciphertext-length s key iv [])
  where
    by : (l : List ℕ) → length l ≡ 0 → l ≡ []
    by [] e = refl
    by (x ∷ l) e = absurd (omega arith)

module _ (num : ℕ) (s : Suite) (found : suite_of num ≡ Some s) (key iv aad : List ℕ) (n : ℕ) (g : Line.Given s n iv key aad) where
  abbrev E : List ℕ → List ℕ
  E p = ciphertext s key iv p

  abbrev S : List ℕ → List ℕ → List ℕ
  S p tail = state_after sealing s n iv key aad (E p) ++ tail

  module _ (p tail : List ℕ) (h : length p ≤ n) where
    piece-zero : (q room : List ℕ) → length p + length q ≤ n → length q ≤ length room → (seal_piece (S p tail) q room).number ≡ 0
    unfolding wanting first concluded answered
    piece-zero q room k m =
        let a = Line.announced-is sealing s n iv key aad g (E p) tail in
        let b = Line.taken_is sealing s n iv key aad g (E p) tail (Suites.short num s found key iv aad n g p tail h) in
        let e = ciphertext-length s key iv p in
        let in-time : past (S p tail) (length q) ≡ false = le-ltb (announced_in (S p tail)) (taken_in (S p tail) + length q) (omega arith) in
        ap (λ (r : Result). r.number) (Suites.piece_is num s found key iv aad n g p tail h q room) ∙ rw (in-time, le-ltb (length room) (length q) m)

    piece-gives : (q room : List ℕ) → length p + length q ≤ n → length q ≤ length room
        → ((seal_piece (S p tail) q room).state ≡ S (p ++ q) tail) × (E p ++ take (seal_piece (S p tail) q room).written (seal_piece (S p tail) q room).room ≡ E (p ++ q))
    piece-gives q room k m = by (seal_piece (S p tail) q room) (piece-zero q room k m) (Suites.piece-by num s found key iv aad n g p tail h q room)
      where
        by : (r : Result) → r.number ≡ 0 → Step (Moved num key iv aad n (length p) q (cut_for num key iv p) (cut_for num key iv (p ++ q)) tail r) r
            → (r.state ≡ S (p ++ q) tail) × (E p ++ take r.written r.room ≡ E (p ++ q))
        by r z (refused d) = absurd (d z)
        by r z (done o) = (
          o.state-is ∙ Suites.line-of num s found key iv aad n g (p ++ q) tail,
          ap (λ (l : List ℕ). l ++ take r.written r.room) (sym (Suites.cut-is num s found key iv aad p)) ∙ sym o.more ∙ Suites.cut-is num s found key iv aad (p ++ q),
        )

    end-zero : (room : List ℕ) → length p ≡ n → Nt s ≤ length room → (seal_end (S p tail) room).number ≡ 0
    unfolding wanting first concluded tagged
    end-zero room k m =
        let a = Line.announced-is sealing s n iv key aad g (E p) tail in
        let b = Line.taken_is sealing s n iv key aad g (E p) tail (Suites.short num s found key iv aad n g p tail h) in
        let e = ciphertext-length s key iv p in
        let whole : early (S p tail) ≡ false = ap not (eq-eqb (taken_in (S p tail)) (announced_in (S p tail)) (omega arith)) in
        ap (λ (r : Result). r.number) (Suites.end_is num s found key iv aad n g p tail h room) ∙ rw (whole, le-ltb (length room) (Nt s) m)

    end-gives : (room : List ℕ) → length p ≡ n → Nt s ≤ length room → take (seal_end (S p tail) room).written (seal_end (S p tail) room).room ≡ Aead.tag s key iv aad (E p)
    end-gives room k m = by (seal_end (S p tail) room) (end-zero room k m) (Suites.end_by num s found key iv aad n g p tail h room)
      where
        by : (r : Result) → r.number ≡ 0 → Step (Closed n (length p) (tag_for num key iv aad (cut_for num key iv p)) (S p tail) r) r → take r.written r.room ≡ Aead.tag s key iv aad (E p)
        by r z (refused d) = absurd (d z)
        by r z (done o) = o.tag_is ∙ Suites.tag_is num s found key iv aad (cut_for num key iv p) ∙ ap (Aead.tag s key iv aad) (Suites.cut-is num s found key iv aad p)

  -- pieces, one after the other
  cuts-give : (cs : List Cut) (p tail : List ℕ) → length p + length (plaintext_of cs) ≤ n → Roomy cs
      → (left_by (S p tail) cs ≡ S (p ++ plaintext_of cs) tail) × (E p ++ given_by (S p tail) cs ≡ E (p ++ plaintext_of cs))
  unfolding plaintext_of left_by given_by
  cuts-give [] p tail h w = (ap (λ (z : List ℕ). S z tail) (sym (append-nil p)), append-nil (E p) ∙ ap E (sym (append-nil p)))
  cuts-give (c ∷ cs) p tail h w =
      let l = length-append c.piece (plaintext_of cs) in
      let m = length-append p c.piece in
      let o = piece-gives p tail (omega arith) c.piece c.room (omega arith) w.0 in
      let r = cuts-give cs (p ++ c.piece) tail (omega arith) w.1 in
      let x = take (seal_piece (S p tail) c.piece c.room).written (seal_piece (S p tail) c.piece c.room).room in
      let a = append_assoc p c.piece (plaintext_of cs) in (
        ap (λ (z : List ℕ). left_by z cs) o.0 ∙ r.0 ∙ ap (λ (z : List ℕ). S z tail) a,
        sym (append_assoc (E p) x (given_by (seal_piece (S p tail) c.piece c.room).state cs)) ∙ ap₂ (λ (y z : List ℕ). y ++ given_by z cs) o.1 o.0 ∙ r.1 ∙ ap E a,
      )

  -- from the beginning on, to the end
  whole-cut : (cs : List Cut) (tail room : List ℕ) → length (plaintext_of cs) ≡ n → Roomy cs → Nt s ≤ length room
      → given_by (S [] tail) cs ++ take (seal_end (left_by (S [] tail) cs) room).written (seal_end (left_by (S [] tail) cs) room).room ≡ Aead.encrypt s key iv aad (plaintext_of cs)
  unfolding Aead.encrypt
  whole-cut cs tail room h w m =
      let o = cuts-give cs [] tail (omega arith) w in
      let gives : given_by (S [] tail) cs ≡ E (plaintext_of cs) = ap (λ (z : List ℕ). z ++ given_by (S [] tail) cs) (sym (none-cut s key iv)) ∙ o.1 in
      ap₂ ◌++◌ gives (ap (λ (z : List ℕ). take (seal_end z room).written (seal_end z room).room) o.0 ∙ end-gives (plaintext_of cs) tail (omega arith) room h m)

-- ---- on a store

module _ (kid : ℕ) (metadata : List ℕ) (announced : ℕ) (state : List ℕ) (cs : List Cut) (last : List ℕ) (om : Octets metadata)
    (h : length (plaintext_of cs) ≡ announced) (w : Roomy cs) (rs : List KeyRecord) (o : Outcome) (r : SendingKey) (m : tag_size r.suite ≤ length last) (p : Begun sframe rs kid metadata announced state o r) where
  abbrev hd : List ℕ
  hd = header kid r.counter

  abbrev iv : List ℕ
  iv = nonce r.salt r.counter

  module _ (s : Suite) (found : suite_of r.suite ≡ Some s) where
    given : Line.Given s announced iv r.key (hd ++ metadata)
    given =
        let f = p.fit in
        let l = header-length kid r.counter (rw p.kid_is at f.0.kid-below) (omega (arith, p.counter-below)) in
        record {
          nonce_sized = nonce-length r.salt r.counter f.1.salt-length;
          key_sized = f.1.key-length ∙ key-named r.suite s found;
          least = simp length-append (omega (arith, l.0));
          most = simp length-append (omega (arith, l.1, p.metadata-most));
          announced = p.announced-most;
        }

    first-is : first_state sframe sealing (sending r) r.counter announced (hd ++ metadata) ≡ state_after sealing s announced iv r.key (hd ++ metadata) (ciphertext s r.key iv [])
    unfolding first_state begun
    first-is = ap (with_suite [] (λ z. state_after sealing z announced iv r.key (hd ++ metadata) [])) found ∙ ap (state_after sealing s announced iv r.key (hd ++ metadata)) (sym (none-cut s r.key iv))

    from-suite : cut_frame o cs last ≡ next_frame sframe (get kid rs) kid metadata (plaintext_of cs)
    unfolding next_frame frame frame_with encrypt_by
    from-suite =
        let x = first_state sframe sealing (sending r) r.counter announced (hd ++ metadata) in
        let tail = drop (length x) state in
        let begins : o.state ≡ state_after sealing s announced iv r.key (hd ++ metadata) (ciphertext s r.key iv []) ++ tail = p.state-is ∙ pasted-front state x ∙ ap (λ (z : List ℕ). z ++ tail) first-is in
        let body = whole-cut r.suite s found r.key iv (hd ++ metadata) announced given cs tail last h w (omega (arith, tag-named r.suite s found)) in
        ap₂ ◌++◌ p.header_is (ap (λ (z : List ℕ). given_by z cs ++ take (seal_end (left_by z cs) last).written (seal_end (left_by z cs) last).room) begins ∙ body)
        ∙ rw (p.found, found)

  from-begun : cut_frame o cs last ≡ next_frame sframe (get kid rs) kid metadata (plaintext_of cs)
  from-begun = let q = named r.suite p.fit.0.known in from-suite q.suite q.found

module _ (st : List ℕ) (octets : Octets st) (is-sound : sound st ≡ true) (kid : ℕ) (metadata : List ℕ) (announced : ℕ) (state room : List ℕ) (cs : List Cut) (last : List ℕ)
    (om : Octets metadata) where
  pub cuts-whole : (seal_begin sframe st kid metadata announced state room).number ≡ 0 → length (plaintext_of cs) ≡ announced → Roomy cs → tag_size (held_suite (get kid (records st))) ≤ length last
      → cut_frame (seal_begin sframe st kid metadata announced state room) cs last ≡ next_frame sframe (get kid (records st)) kid metadata (plaintext_of cs)
  cuts-whole z h w m = by (seal_begin sframe st kid metadata announced state room) z (begin-step sframe st (records st) (sound-stored st octets is-sound) kid metadata announced state room)
    where
      by : (o : Outcome) → o.number ≡ 0 → BeginStep sframe st (records st) kid metadata announced state o → cut_frame o cs last ≡ next_frame sframe (get kid (records st)) kid metadata (plaintext_of cs)
      by o z (BeginStep.refused d e) = absurd (d z)
      by o z (BeginStep.done r p) = from-begun kid metadata announced state cs last om h w (records st) o r (rw p.found at m) p
