-- SPDX-License-Identifier: MIT
-- The definitions in use, with any block function that agrees with AES on the listed inputs in its place. Assumes nothing.
use mathlib.Core.Path.{◌≡◌, refl, sym, ◌∙◌}
use mathlib.Core.Bool.{false}
use mathlib.Core.List.{List, [], ◌∷◌, ◌++◌}
use Prim.Native.Nat.{ℕ}
use lib.ListN.{length}
use Rattle.suites.specs.declared.sizes.Suite.{Suite}
use Rattle.suites.specs.Suites.{mode_of, Nk}
use Rattle.aead.specs.Aead.{encrypt}
use Rattle.piece_line.specs.State.{announced_in, nonce_in, key_in}
use Rattle.piece_line.specs.Line.{state_after, begun, after, cipher_piece, tag_in}
use Rattle.pieces.specs.Calls.{past}
use Rattle.piece_line.proofs.Lines as Line
use Rattle.cipher_inputs.specs.Blocks.{AgreeOn}
use Rattle.cipher_inputs.specs.Inputs.{all_inputs}
use Rattle.cipher_inputs.specs.AnyCipher.{aes, aead_by, begun_by, cipher_piece_by, after_by, tag_in_by}
use Rattle.cipher_inputs.proofs.InPlace.{encrypt-in-place, begun-in-place, piece-in-place, after-in-place, end-in-place}
use Rattle.cipher_inputs.proofs.NoOthers.{encrypt-only, begun-only, piece-only, after-only, end-only}

module _ (F : List ℕ → List ℕ) (s : Suite) (key : List ℕ) (sized : length key ≡ Nk s) where
  -- A whole sealing.
  pub encrypt-listed : (nonce aad p : List ℕ) → AgreeOn (aes s key) F (all_inputs (mode_of s) nonce (length p)) → encrypt s key nonce aad p ≡ aead_by F s key nonce aad p
  encrypt-listed nonce aad p h = encrypt-in-place s key sized nonce aad p ∙ encrypt-only (aes s key) F s key nonce aad p h

  -- A beginning.
  pub begun-listed : (kind n : ℕ) (nonce aad : List ℕ) → AgreeOn (aes s key) F (all_inputs (mode_of s) nonce n) → begun kind s n nonce key aad ≡ begun_by F kind s n nonce key aad
  begun-listed kind n nonce aad h = begun-in-place s key sized kind n nonce aad ∙ begun-only (aes s key) F kind s n nonce key aad h

-- A piece and the end of a line, with the nonce and the length that its beginning was given. c is the ciphertext taken so far.
module _ (F : List ℕ → List ℕ) (kind : ℕ) (s : Suite) (n : ℕ) (nonce key aad : List ℕ) (g : Line.Given s n nonce key aad) (h : AgreeOn (aes s key) F (all_inputs (mode_of s) nonce n)) (c tail : List ℕ) where
  abbrev state_now : List ℕ
  state_now = state_after kind s n nonce key aad c ++ tail

  agree-in : AgreeOn (aes s (key_in s state_now)) F (all_inputs (mode_of s) (nonce_in state_now) (announced_in state_now))
  agree-in = rw (Line.key-is kind s n nonce key aad g c tail, Line.nonce-is kind s n nonce key aad g c tail, Line.announced-is kind s n nonce key aad g c tail) h

  pub piece-listed : (piece : List ℕ) → past state_now (length piece) ≡ false → cipher_piece s state_now piece ≡ cipher_piece_by F s state_now piece
  piece-listed piece t = piece-in-place s state_now piece ∙ piece-only (aes s (key_in s state_now)) F s state_now agree-in piece t

  pub after-listed : (d : List ℕ) → after s state_now d ≡ after_by F s state_now d
  after-listed d = after-in-place s state_now d ∙ after-only (aes s (key_in s state_now)) F s state_now agree-in d

  pub end-listed : tag_in s state_now ≡ tag_in_by F s state_now
  end-listed = end-in-place s state_now ∙ end-only (aes s (key_in s state_now)) F s state_now agree-in
