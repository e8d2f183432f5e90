-- SPDX-License-Identifier: MIT
-- The five suites have the laws that the ledger uses of sealing in pieces. Assumes nothing.
use Rattle.std.specs.Prelude.{Option, Some, None}
use mathlib.Core.Path.{◌≡◌, refl, sym, ◌∙◌, ap, ap₂, subst}
use mathlib.Core.Bool.{Bool, true, false}
use mathlib.Core.List.{List, [], ◌∷◌, ◌++◌}
use Prim.Native.Nat.{ℕ, ◌+◌, ◌<◌, ◌≤◌}
use native.Mathlib.Omega.{arith}
use lib.Dec.{ltb, eqb}
use lib.ListN.{length, take, length-append}
use borrow.Author.Tests.{ltb-false, eqb-true, not-false}
use Rattle.octets.specs.Octets.{pick, pasted}
use Rattle.octets.proofs.Laws.{pasted_at}
use Rattle.answers.specs.Answers.{first}
use Rattle.answers.proofs.Basics.{Two, yes', no', two}
use Rattle.suites.specs.declared.sizes.Suite.{Suite}
use Rattle.suites.specs.Suites.{suite_of, Nt}
use Rattle.aead.specs.Aead as Aead
use Rattle.aead.specs.Aead.{ciphertext}
use Rattle.aead.proofs.Laws.{ciphertext-length, tag-length}
use Rattle.piece_line.specs.State.{sealing, announced_in, taken_in, fits, line_of}
use Rattle.piece_line.specs.Line.{state_after, after, cipher_piece, tag_in}
use Rattle.pieces.specs.Calls.{Result, concluded, past, early, wanting, seal_piece_in, seal_piece, seal_end_in, seal_end}
use Rattle.piece_line.proofs.Lines as Line
use Rattle.key_record.specs.Suites.{with_suite, is_suite}
use Rattle.key_record.proofs.Suites.{named, key-named}
use Rattle.store.specs.Sframe.{encrypt_by, sframe}
use Rattle.store.proofs.CipherLaws.{Usable}
use Rattle.sframe.proofs.Facts.{line_state, Given, Moved, Closed, Step, refused, done, Lines}

pub cut_for : (n : ℕ) (key nonce p : List ℕ) → List ℕ
cut_for n key nonce p = with_suite [] (λ s. ciphertext s key nonce p) (suite_of n)

pub tag_for : (n : ℕ) (key nonce aad c : List ℕ) → List ℕ
tag_for n key nonce aad c = with_suite [] (λ s. Aead.tag s key nonce aad c) (suite_of n)

-- a call that is refused with 16 or 12, or answers 0
step_by : (D : Result → Type 0) (off : Bool) (m r : ℕ) (s room : List ℕ) (a : Result) → a.number ≡ 0 → (off ≡ false → D a)
    → Step (D (concluded (first (wanting off m r)) s room a)) (concluded (first (wanting off m r)) s room a)
unfolding wanting first concluded
step_by D off m r s room a z f = by (two off) (two (ltb r m))
  where
    by : Two off → Two (ltb r m) → Step (D (concluded (first (wanting off m r)) s room a)) (concluded (first (wanting off m r)) s room a)
    by (yes' t) u = rw t (refused (λ e. omega arith))
    by (no' t) (yes' u) = rw (t, u) (refused (λ e. omega arith))
    by (no' t) (no' u) = rw (t, u) (done (f t))

-- ---- one suite

module _ (num : ℕ) (s : Suite) (found : suite_of num ≡ Some s) (key nonce aad : List ℕ) where
  pub cut-is : (p : List ℕ) → cut_for num key nonce p ≡ ciphertext s key nonce p
  unfolding cut_for
  cut-is p = rw found

  pub tag_is : (c : List ℕ) → tag_for num key nonce aad c ≡ Aead.tag s key nonce aad c
  unfolding tag_for
  tag_is c = rw found

  pub line-is : (n : ℕ) (c tail : List ℕ) → line_state num key nonce aad n c tail ≡ state_after sealing s n nonce key aad c ++ tail
  unfolding line_state
  line-is n c tail = rw found

  module _ (n : ℕ) (g : Line.Given s n nonce key aad) where
    abbrev pub E : List ℕ → List ℕ
    E p = ciphertext s key nonce p

    abbrev pub S : List ℕ → List ℕ → List ℕ
    S p tail = state_after sealing s n nonce key aad (E p) ++ tail

    pub line-of : (p tail : List ℕ) → line_state num key nonce aad n (cut_for num key nonce p) tail ≡ S p tail
    line-of p tail = ap (λ (c : List ℕ). line_state num key nonce aad n c tail) (cut-is p) ∙ line-is n (E p) tail

    module _ (p tail : List ℕ) (h : length p ≤ n) where
      pub short : length (E p) ≤ n
      short = let e = ciphertext-length s key nonce p in omega arith

      known : line_of sealing (S p tail) ≡ Some s
      known = Line.line-is sealing s n nonce key aad g (E p) tail short

      module _ (q room : List ℕ) where
        pub c : List ℕ
        c = cipher_piece s (S p tail) q

        joined : length p + length q ≤ n → E (p ++ q) ≡ E p ++ c
        unfolding c
        joined k = Line.cipher-on sealing s n nonce key aad g p q tail k

        c-length : length p + length q ≤ n → length c ≡ length q
        c-length k =
            let a = ciphertext-length s key nonce p in
            let b = ciphertext-length s key nonce (p ++ q) in
            let d = length-append p q in
            let e : length (E (p ++ q)) ≡ length (E p) + length c = ap length (joined k) ∙ length-append (E p) c in
            omega arith

        unfoldable pub answered : Result
        answered = record { number = 0; written = length q; state = after s (S p tail) c; room = pasted room 0 c }

        piece-moved : length p + length q ≤ n → Moved num key nonce aad n (length p) q (cut_for num key nonce p) (cut_for num key nonce (p ++ q)) tail answered
        unfolding answered
        piece-moved k = record {
          answers = refl;
          fits = k;
          wrote = refl;
          state-is = Line.taken-on sealing s n nonce key aad g (E p) tail c (omega (arith, k, c-length k, ciphertext-length s key nonce p)) ∙ ap (λ (z : List ℕ). state_after sealing s n nonce key aad z ++ tail) (sym (joined k)) ∙ sym (line-of (p ++ q) tail);
          more =
              cut-is (p ++ q) ∙ joined k
              ∙ ap₂ ◌++◌ (sym (cut-is p)) (sym (pasted_at room 0 c (omega arith)) ∙ ap (λ (i : ℕ). take i (pasted room 0 c)) (c-length k));
        }

        pub piece_is : seal_piece (S p tail) q room ≡ concluded (first (wanting (past (S p tail) (length q)) (length q) (length room))) (S p tail) room answered
        unfolding seal_piece answered c
        piece_is = ap (λ (f : Option Suite). seal_piece_in f (S p tail) q room) known

        fits_in : past (S p tail) (length q) ≡ false → length p + length q ≤ n
        fits_in t =
            let a = Line.announced-is sealing s n nonce key aad g (E p) tail in
            let b = Line.taken_is sealing s n nonce key aad g (E p) tail short in
            let e = ciphertext-length s key nonce p in
            omega (arith, ltb-false (announced_in (S p tail)) (taken_in (S p tail) + length q) t)

        pub piece-by : Step (Moved num key nonce aad n (length p) q (cut_for num key nonce p) (cut_for num key nonce (p ++ q)) tail (seal_piece (S p tail) q room)) (seal_piece (S p tail) q room)
        unfolding answered
        piece-by =
            rw piece_is
            (step_by (λ (r : Result). Moved num key nonce aad n (length p) q (cut_for num key nonce p) (cut_for num key nonce (p ++ q)) tail r) (past (S p tail) (length q)) (length q) (length room) (S p tail) room answered refl
            (λ t. piece-moved (fits_in t)))

      module _ (room : List ℕ) where
        unfoldable pub tagged : Result
        tagged = record { number = 0; written = Nt s; state = S p tail; room = pasted room 0 (tag_in s (S p tail)) }

        all-taken : early (S p tail) ≡ false → length p ≡ n
        all-taken t =
            let a = Line.announced-is sealing s n nonce key aad g (E p) tail in
            let b = Line.taken_is sealing s n nonce key aad g (E p) tail short in
            let e = ciphertext-length s key nonce p in
            omega (arith, eqb-true (taken_in (S p tail)) (announced_in (S p tail)) (not-false (eqb (taken_in (S p tail)) (announced_in (S p tail))) t))

        end-closed : early (S p tail) ≡ false → Closed n (length p) (tag_for num key nonce aad (cut_for num key nonce p)) (S p tail) tagged
        unfolding tagged
        end-closed t =
            let e = ciphertext-length s key nonce p in
            let f = all-taken t in
            let w : tag_in s (S p tail) ≡ Aead.tag s key nonce aad (E p) = Line.tag_is sealing s n nonce key aad g (E p) tail (omega arith) in
            record {
              answers = refl;
              full = f;
              state-is = refl;
              tag_is =
                  ap (λ (z : List ℕ). take (Nt s) (pasted room 0 z)) w
                  ∙ ap (λ (k : ℕ). take k (pasted room 0 (Aead.tag s key nonce aad (E p)))) (sym (tag-length s key nonce aad (E p)))
                  ∙ pasted_at room 0 (Aead.tag s key nonce aad (E p)) (omega arith)
                  ∙ sym (tag_is (cut_for num key nonce p) ∙ ap (Aead.tag s key nonce aad) (cut-is p));
            }

        pub end_is : seal_end (S p tail) room ≡ concluded (first (wanting (early (S p tail)) (Nt s) (length room))) (S p tail) room tagged
        unfolding seal_end tagged
        end_is = ap (λ (f : Option Suite). seal_end_in f (S p tail) room) known

        pub end_by : Step (Closed n (length p) (tag_for num key nonce aad (cut_for num key nonce p)) (S p tail) (seal_end (S p tail) room)) (seal_end (S p tail) room)
        unfolding tagged
        end_by =
            rw end_is
            (step_by (λ (r : Result). Closed n (length p) (tag_for num key nonce aad (cut_for num key nonce p)) (S p tail) r) (early (S p tail)) (Nt s) (length room) (S p tail) room tagged refl end-closed)

-- ---- no bytes

no_line : line_of sealing [] ≡ None
unfolding line_of fits
no_line = refl

piece-none : (q room : List ℕ) → (seal_piece [] q room).number ≡ 0 → ⊥
unfolding seal_piece
piece-none q room e = let z : ◌≡◌ {A = ℕ} 16 0 = ap (λ (f : Option Suite). (seal_piece_in f [] q room).number) (sym no_line) ∙ e in omega arith

end_none : (room : List ℕ) → (seal_end [] room).number ≡ 0 → ⊥
unfolding seal_end
end_none room e = let z : ◌≡◌ {A = ℕ} 16 0 = ap (λ (f : Option Suite). (seal_end_in f [] room).number) (sym no_line) ∙ e in omega arith

-- ---- the five suites

pub given-as : (num : ℕ) (s : Suite) → suite_of num ≡ Some s → (key nonce aad : List ℕ) (n : ℕ) → Given num key nonce aad n → Line.Given s n nonce key aad
given-as num s e key nonce aad n g = record {
  nonce_sized = g.usable.nonce-length;
  key_sized = g.usable.key-length ∙ key-named num s e;
  least = g.aad-least;
  most = g.aad-most;
  announced = g.n-most;
}

pub sframe-lines : Lines sframe
unfolding encrypt_by cut_for tag_for Aead.encrypt
sframe-lines = record {
  cut = cut_for;
  tag = tag_for;
  cut-length = λ num key nonce aad p u. let m = named num u.known in rw m.found (ciphertext-length m.suite key nonce p);
  encrypt-is = λ num key nonce aad p u. let m = named num u.known in rw m.found;
  piece-step = λ num key nonce aad n g p q tail room h.
      let m = named num g.usable.known in
      let l = given-as num m.suite m.found key nonce aad n g in
      subst
      (λ (z : List ℕ). Step (Moved num key nonce aad n (length p) q (cut_for num key nonce p) (cut_for num key nonce (p ++ q)) tail (seal_piece z q room)) (seal_piece z q room))
      (sym (line-of num m.suite m.found key nonce aad n l p tail))
      (piece-by num m.suite m.found key nonce aad n l p tail h q room);
  end_step = λ num key nonce aad n g p tail room h.
      let m = named num g.usable.known in
      let l = given-as num m.suite m.found key nonce aad n g in
      subst
      (λ (z : List ℕ). Step (Closed n (length p) (tag_for num key nonce aad (cut_for num key nonce p)) z (seal_end z room)) (seal_end z room))
      (sym (line-of num m.suite m.found key nonce aad n l p tail))
      (end_by num m.suite m.found key nonce aad n l p tail h room);
  piece-none = piece-none;
  end_none = end_none;
}
