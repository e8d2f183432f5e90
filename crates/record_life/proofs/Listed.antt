-- SPDX-License-Identifier: MIT
-- What a Seal and a Begin make under a record is made from the inputs that they list, the hash key's, and no others. Assumes nothing.
use Rattle.std.specs.Prelude.{Option}
use mathlib.Core.Path.{◌≡◌, refl, sym, ◌∙◌, ap, subst}
use mathlib.Core.Bool.{Bool, true}
use mathlib.Core.List.{List, [], ◌∷◌, ◌++◌}
use Prim.Native.Nat.{ℕ}
use lib.Dec.{eqb}
use lib.ListN.{length, take, drop}
use borrow.Author.Tests.{eq-eqb}
use Rattle.octets.specs.Octets.{Octets, pick, both, pasted}
use Rattle.header.specs.Header.{header}
use Rattle.answers.specs.Answers.{Outcome}
use Rattle.suites.specs.declared.sizes.Suite.{Suite}
use Rattle.suites.specs.Suites.{mode_of, Nk, suite_of as named}
use Rattle.suites.specs.Derivation.{nonce}
use Rattle.aead.specs.Aead as Aead
use Rattle.piece_line.specs.State.{sealing}
use Rattle.piece_line.specs.Line.{begun}
use Rattle.key_record.specs.Suites.{with_suite}
use Rattle.key_record.specs.Record.{SendingKey, KeyRecord, sending, counter_of}
use Rattle.key_record.proofs.Codec.{Fit}
use Rattle.key_record.proofs.Suites as Suites
use Rattle.store.specs.Sframe as Sframe
use Rattle.store.specs.Sframe.{sframe}
use Rattle.store.specs.Store.{records, sound}
use Rattle.store.specs.Table.{get}
use Rattle.store.proofs.Stores.{sound-stored}
use Rattle.judge_seal.specs.Frame.{frame_with, frame}
use Rattle.judge_seal.specs.Seal.{seal}
use Rattle.judge_seal.proofs.Seals.{SealStep, seal-step}
use Rattle.begin_state.specs.Begin.{first_state}
use Rattle.begin_seal.specs.Begin.{seal_begin}
use Rattle.begin_seal.proofs.Begins.{BeginStep, begin-step}
use Rattle.sframe.specs.History.{Seal, Begin}
use Rattle.sframe.proofs.Suites.{suites-laws}
use Rattle.cipher_inputs.specs.Blocks.{AgreeOn}
use Rattle.cipher_inputs.specs.Inputs.{key_inputs, sealing_inputs, all_inputs}
use Rattle.cipher_inputs.specs.AnyCipher.{aes, aead_by, begun_by}
use Rattle.cipher_inputs.proofs.InUse.{encrypt-listed, begun-listed}
use Rattle.record_life.specs.Life.{hash_key_inputs, held_inputs, begun_inputs, call_inputs}
use Rattle.record_life.specs.Under.{aes_under, next_frame_by, next_state_by}

-- ---- under a record

module _ (F : List ℕ → List ℕ) (r : SendingKey) (fit : Fit (sending r)) where
  m : Suites.Named r.suite
  m = Suites.named r.suite fit.0.known

  sized : length r.key ≡ Nk m.suite
  sized = fit.1.key-length ∙ Suites.key-named r.suite m.suite m.found

  -- AES and the list by number are those of the suite
  agree-as : (n : ℕ) → AgreeOn (aes_under (sending r)) F (held_inputs (sending r) ++ begun_inputs sframe (sending r) n)
      → AgreeOn (aes m.suite r.key) F (all_inputs (mode_of m.suite) (nonce r.salt r.counter) n)
  unfolding hash_key_inputs begun_inputs
  agree-as n h =
      subst
      (λ (f : Option Suite). AgreeOn (λ (b : List ℕ). with_suite [] (λ s. aes s r.key b) f) F (with_suite [] (λ s. key_inputs (mode_of s)) f ++ with_suite [] (λ s. sealing_inputs (mode_of s) (nonce r.salt r.counter) n) f))
      m.found h

  module _ (kid : ℕ) (metadata : List ℕ) where
    abbrev covered : List ℕ
    covered = header kid r.counter ++ metadata

    frame-listed : (p : List ℕ) → AgreeOn (aes_under (sending r)) F (held_inputs (sending r) ++ begun_inputs sframe (sending r) (length p))
        → frame sframe r.suite r.key r.salt kid r.counter metadata p ≡ next_frame_by F (sending r) kid metadata p
    unfolding frame frame_with Sframe.encrypt_by next_frame_by
    frame-listed p h =
        ap (λ (f : Option Suite). header kid r.counter ++ with_suite [] (λ s. Aead.encrypt s r.key (nonce r.salt r.counter) covered p) f) m.found
        ∙ ap (λ (l : List ℕ). header kid r.counter ++ l) (encrypt-listed F m.suite r.key sized (nonce r.salt r.counter) covered p (agree-as (length p) h))
        ∙ ap (λ (f : Option Suite). header kid r.counter ++ with_suite [] (λ s. aead_by F s r.key (nonce r.salt r.counter) covered p) f) (sym m.found)

    state-listed : (n : ℕ) → AgreeOn (aes_under (sending r)) F (held_inputs (sending r) ++ begun_inputs sframe (sending r) n)
        → first_state sframe sealing (sending r) r.counter n covered ≡ next_state_by F (sending r) kid metadata n
    unfolding first_state next_state_by
    state-listed n h =
        ap (λ (f : Option Suite). with_suite [] (λ s. begun sealing s n (nonce r.salt r.counter) r.key covered) f) m.found
        ∙ begun-listed F m.suite r.key sized sealing n (nonce r.salt r.counter) covered (agree-as n h)
        ∙ ap (λ (f : Option Suite). with_suite [] (λ s. begun_by F sealing s n (nonce r.salt r.counter) r.key covered) f) (sym m.found)

-- ---- on a sound store

module _ (F : List ℕ → List ℕ) (s : List ℕ) (octets : Octets s) (is-sound : sound s ≡ true) (kid : ℕ) (metadata : List ℕ) where
  -- The frame that a Seal answering 0 writes stays the same with any block function that agrees with AES on what the Seal lists and on
  -- the hash key's input.
  pub seal-listed : (place : ℕ) (p : List ℕ) (offset : ℕ) (room : List ℕ) → (seal sframe s kid metadata p offset room).number ≡ 0
      → AgreeOn (aes_under (get kid (records s))) F (held_inputs (get kid (records s)) ++ call_inputs sframe kid (Seal kid place metadata p offset room) s 0)
      → take (seal sframe s kid metadata p offset room).written (drop offset (seal sframe s kid metadata p offset room).room) ≡ next_frame_by F (get kid (records s)) kid metadata p
  unfolding call_inputs
  seal-listed place p offset room z h =
      by (seal sframe s kid metadata p offset room) z (seal-step sframe suites-laws s (records s) (sound-stored s octets is-sound) kid metadata p offset room) (rw (eq-eqb kid kid refl) at h)
    where
      by : (o : Outcome) → o.number ≡ 0 → SealStep sframe s (records s) kid metadata p offset o
          → AgreeOn (aes_under (get kid (records s))) F (held_inputs (get kid (records s)) ++ begun_inputs sframe (get kid (records s)) (length p))
          → take o.written (drop offset o.room) ≡ next_frame_by F (get kid (records s)) kid metadata p
      by o z (SealStep.refused d e) h = absurd (d z)
      by o z (SealStep.done r q) h = rw q.found (q.frame_is ∙ frame-listed F r q.fit kid metadata p (rw q.found at h))

  -- So does the state that a Begin answering 0 leaves.
  pub begin-listed : (n : ℕ) (state room : List ℕ) → (seal_begin sframe s kid metadata n state room).number ≡ 0
      → AgreeOn (aes_under (get kid (records s))) F (held_inputs (get kid (records s)) ++ call_inputs sframe kid (Begin kid metadata n state room) s 0)
      → (seal_begin sframe s kid metadata n state room).state ≡ pasted state 0 (next_state_by F (get kid (records s)) kid metadata n)
  unfolding call_inputs
  begin-listed n state room z h =
      by (seal_begin sframe s kid metadata n state room) z (begin-step sframe s (records s) (sound-stored s octets is-sound) kid metadata n state room) (rw (eq-eqb kid kid refl) at h)
    where
      by : (o : Outcome) → o.number ≡ 0 → BeginStep sframe s (records s) kid metadata n state o
          → AgreeOn (aes_under (get kid (records s))) F (held_inputs (get kid (records s)) ++ begun_inputs sframe (get kid (records s)) n)
          → o.state ≡ pasted state 0 (next_state_by F (get kid (records s)) kid metadata n)
      by o z (BeginStep.refused d e) h = absurd (d z)
      by o z (BeginStep.done r q) h = rw q.found (q.state-is ∙ ap (pasted state 0) (state-listed F r q.fit kid metadata n (rw q.found at h)))
