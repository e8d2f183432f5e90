-- SPDX-License-Identifier: MIT
-- The frame that a sending record gives next: its header, its length, its parts. Assumes nothing.
use Rattle.std.specs.Prelude.{Option, Some, None}
use mathlib.Core.Path.{◌≡◌, sym, ◌∙◌, ap, ap₂}
use mathlib.Core.Bool.{true}
use mathlib.Core.List.{List, ◌++◌}
use Prim.Native.Nat.{ℕ, ◌+◌, ◌≤◌}
use native.Mathlib.Omega.{arith}
use lib.Dec.{leb}
use lib.ListN.{length, drop}
use borrow.Author.Tests.{le-leb}
use Rattle.octets.proofs.Laws.{pasted-front}
use Rattle.header.specs.Header.{max_header, header, write_header}
use Rattle.answers.specs.Limits.{max_plaintext}
use Rattle.suites.specs.Suites.{Nt}
use Rattle.suites.specs.Inner.Sizes.{max_nt}
use Rattle.suites.specs.Derivation.{nonce}
use Rattle.aead.specs.Aead as Aead
use Rattle.suites.specs.declared.sizes.Suite.{Suite}
use Rattle.suites.proofs.Laws as Suites
use Rattle.key_record.specs.Record.{KeyRecord, suite_of, salt_of, key_of, counter_of}
use Rattle.store.specs.Sframe.{encrypt_by, sframe}
use Rattle.key_record.specs.Inner.Rows.{Numbered}
use Rattle.key_record.proofs.Suites.{tag-named}
use Rattle.judge_seal.specs.Frame.{frame_with, frame}
use Rattle.judge_seal.specs.Seal.{next_length, next_frame}

-- ---- the header of the next frame

length-is : (a b : ℕ) → Some a ≡ Some b → a ≡ b
length-is a b e = cc

module _ (out : List ℕ) (kid v : ℕ) (w : Option ℕ) (h : max_header ≤ length out) (most : length (header kid v) ≤ max_header) (a : w ≡ (write_header kid v 0 out).answer) where
  fits_in : leb (0 + length (header kid v)) (length out) ≡ true
  fits_in = le-leb (0 + length (header kid v)) (length out) (omega (arith, most))

  pub header-has-room : w ≡ None → ⊥
  unfolding write_header
  header-has-room u =
      let m : Some (length (header kid v)) ≡ None = (rw fits_in at (sym a)) ∙ u in
      let z : ◌≡◌ {A = ℕ} 0 1 = cc in
      omega arith

  pub header-written : (ctr n : ℕ) (x : List ℕ) → v ≡ ctr → w ≡ Some n → x ≡ (write_header kid v 0 out).room
      → ((n ≡ length (header kid ctr)) × (n ≤ max_header)) × (x ≡ header kid ctr ++ drop n out)
  unfolding write_header
  header-written ctr n x e u b =
      let s : n ≡ length (header kid v) = length-is n (length (header kid v)) (sym u ∙ rw fits_in at a) in
      let q : x ≡ header kid v ++ drop (length (header kid v)) out = rw fits_in at b ∙ pasted-front out (header kid v) in
      ((s ∙ ap (λ (c : ℕ). length (header kid c)) e, omega (arith, most)), q ∙ ap₂ (λ (c i : ℕ). header kid c ++ drop i out) e (sym s))

-- ---- the length of the next frame

pub length-told : (held : KeyRecord) (kid plaintext n nt : ℕ) (s : Suite) → Numbered s (suite_of held) → nt ≡ Nt s → n ≡ length (header kid (counter_of held))
    → n + (plaintext + nt) ≡ next_length held kid plaintext
unfolding next_length
length-told held kid plaintext n nt s f size head = ap₂ (λ (a b : ℕ). a + (plaintext + b)) head (size ∙ sym (tag-named (suite_of held) s f))

pub length-fits : (plaintext n nt : ℕ) (s : Suite) → plaintext ≤ max_plaintext → n ≤ max_header → nt ≡ Nt s → n + (plaintext + nt) ≤ max_header + (max_plaintext + max_nt)
length-fits plaintext n nt s p h e = let m = Suites.Nt-most s in omega arith

-- ---- the frame

-- ciphertext and tag under the key and the next counter of a record
unfoldable pub body : Suite → KeyRecord → List ℕ → List ℕ → List ℕ → List ℕ
body s held h metadata p = Aead.encrypt s (key_of held) (nonce (salt_of held) (counter_of held)) (h ++ metadata) p

module _ (held : KeyRecord) (kid : ℕ) (metadata plaintext : List ℕ) (s : Suite) (found : Numbered s (suite_of held)) where
  abbrev hd : List ℕ
  hd = header kid (counter_of held)

  pub next-is : next_frame sframe held kid metadata plaintext ≡ hd ++ body s held hd metadata plaintext
  unfolding next_frame frame frame_with encrypt_by body
  next-is = rw found
