-- SPDX-License-Identifier: MIT
-- Sixteen counter blocks, encrypted and written as bytes.
-- Assumes nothing.
use mathlib.Core.Path.{◌≡◌, refl, sym, ◌∙◌, ap}
use mathlib.Core.List.{List, [], ◌∷◌, ◌++◌}
use Prim.Native.Nat.{ℕ, zero, suc, ◌+◌, ◌%◌, ◌^◌, ◌<◌}
use native.Mathlib.Nat.{mod-eq_of_lt}
use native.Mathlib.Omega.{arith}
use lib.ListN.{length, drop, replicate, length-drop}
use lib.Seq.{drop-append-le, drop_at}
use Rattle.octets.specs.Octets.{number, bytes}
use Rattle.octets.proofs.Laws.{number_append, number-bytes}
use Rattle.aes.specs.Aes.{block_size, state_of, block_of, encrypt_state, encrypt}
use Rattle.aes_rows.specs.Rows.{Each}
use Rattle.aes_rows.specs.Blocks.{state}
use Rattle.aes_batch.specs.Inner.Batch.{batch_blocks, lane_of, number_of, Counters, Clearing, Encrypted, Unsliced, Blocks, block_at, counters_of, front_of}
use Rattle.aes_batch.proofs.Counting.{first-cleared, others-kept}

-- The state of a counter block.
counter-state : (nonce : List ℕ) (count : ℕ) → length nonce ≡ 12 → count < 2 ^ 32
    → state_of (nonce ++ bytes 4 count) ≡ number 4 nonce ∷ number 4 (drop 4 nonce) ∷ number 4 (drop 8 nonce) ∷ count ∷ []
unfolding state_of
counter-state nonce count e h =
    let b = bytes 4 count in
    let w0 : number 4 (nonce ++ b) ≡ number 4 nonce = number_append 4 nonce b (omega arith) in
    let w1 : number 4 (drop 4 (nonce ++ b)) ≡ number 4 (drop 4 nonce) =
    ap (number 4) (drop-append-le 4 nonce b (omega arith)) ∙ number_append 4 (drop 4 nonce) b (simp length-drop (omega arith)) in
    let w2 : number 4 (drop 8 (nonce ++ b)) ≡ number 4 (drop 8 nonce) =
    ap (number 4) (drop-append-le 8 nonce b (omega arith)) ∙ number_append 4 (drop 8 nonce) b (simp length-drop (omega arith)) in
    let w3 : number 4 (drop 12 (nonce ++ b)) ≡ count =
    ap (number 4) (drop_at nonce b 12 e) ∙ number-bytes 4 count ∙ mod-eq_of_lt h in
    rw (w0, w1, w2, w3)

-- Block m of a batch, from its state.
block_made : (key q t l b : List ℕ) (m : ℕ) → m < batch_blocks → Encrypted key q t → Unsliced t l → state q (lane_of m) ≡ state_of b → block_at l m ≡ encrypt key b
unfolding encrypt
block_made key q t l b m h e u s =
    u.each m h ∙ ap block_of (e.each (lane_of m) (omega arith) ∙ ap (encrypt_state key) s)

pub streamed : (key nonce : List ℕ) (count : ℕ) (q t l : List ℕ) → length nonce ≡ 12 → count < 2 ^ 32 → count % batch_blocks ≡ 0
    → Counters nonce count q → Encrypted key q t → Unsliced t l → Blocks key (counters_of nonce count) l
streamed key nonce count q t l n c d f e u =
    record {
      sized = u.sized;
      each = λ m h.
          let g : count + number_of (lane_of m) ≡ count + m = omega arith in
          block_made key q t l _ m h e u (f.each (lane_of m) (omega arith) ∙ rw g (sym (counter-state nonce (count + m) n (omega arith))));
    }

zeros-state : state_of (replicate block_size 0) ≡ 0 ∷ 0 ∷ 0 ∷ 0 ∷ []
unfolding state_of number
zeros-state = refl

pub fronted : (key nonce : List ℕ) (count : ℕ) (q v t l : List ℕ) → length nonce ≡ 12 → count < 2 ^ 32 → count % batch_blocks ≡ 0
    → Counters nonce count q → Each Clearing 4 q v → Encrypted key v t → Unsliced t l → Blocks key (front_of nonce count) l
fronted key nonce count q v t l n c d f z e u = record { sized = u.sized; each = at }
  where
    at : (m : ℕ) → m < batch_blocks → block_at l m ≡ encrypt key (front_of nonce count m)
    at zero h = block_made key v t l _ 0 h e u (first-cleared q v z ∙ sym zeros-state)
    at (suc m) h =
        let g : count + number_of (lane_of (suc m)) ≡ count + suc m = omega arith in
        block_made key v t l _ (suc m) h e u
        (others-kept q v z (lane_of (suc m)) (omega arith) (omega arith) ∙ f.each (lane_of (suc m)) (omega arith)
        ∙ rw g (sym (counter-state nonce (count + suc m) n (omega (arith, c, d, h)))))
