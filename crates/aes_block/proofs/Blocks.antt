-- SPDX-License-Identifier: MIT
-- Laws of blocks: how a state is written as bytes.
-- Assumes nothing.
use mathlib.Core.Path.{◌≡◌, ap, sym, ◌∙◌}
use mathlib.Core.List.{List, [], ◌∷◌, ◌++◌, append_assoc}
use Prim.Native.Nat.{ℕ, ◌+◌, ◌≤◌}
use native.Mathlib.Nat.{zero-add}
use native.Mathlib.Omega.{arith}
use lib.ListN.{length, drop, length-append}
use Rattle.octets.specs.Octets.{bytes, pasted}
use Rattle.octets.proofs.Laws.{bytes-length, pasted-append, pasted-front}
use Rattle.aes.specs.Aes.{block_of}

pasted-next : (l x y : List ℕ) (n : ℕ) → length x ≡ n → n + length y ≤ length l → pasted (pasted l 0 x) n y ≡ pasted l 0 (x ++ y)
pasted-next l x y n e h =
    ap (λ (k : ℕ). pasted (pasted l 0 x) k y) (sym (zero-add (length x) ∙ e)) ∙ pasted-append l 0 x y (omega arith)

-- Four words, one after the other, are the block.
pub stored : (l p q r s : List ℕ) (a b c d : ℕ) → 16 ≤ length l → p ≡ pasted l 0 (bytes 4 a) → q ≡ pasted p 4 (bytes 4 b)
    → r ≡ pasted q 8 (bytes 4 c) → s ≡ pasted r 12 (bytes 4 d) → s ≡ block_of (a ∷ b ∷ c ∷ d ∷ []) ++ drop 16 l
unfolding block_of
stored l p q r s a b c d h e f g k =
    let la = bytes-length 4 a in
    let lb = bytes-length 4 b in
    let lc = bytes-length 4 c in
    let ld = bytes-length 4 d in
    let two = pasted-next l (bytes 4 a) (bytes 4 b) 4 la (omega arith) in
    let three = pasted-next l (bytes 4 a ++ bytes 4 b) (bytes 4 c) 8 (simp length-append (omega arith)) (omega arith) in
    let four = pasted-next l ((bytes 4 a ++ bytes 4 b) ++ bytes 4 c) (bytes 4 d) 12 (simp length-append (omega arith)) (omega arith) in
    let n : length (((bytes 4 a ++ bytes 4 b) ++ bytes 4 c) ++ bytes 4 d) ≡ 16 = simp length-append (omega arith) in
    k ∙ rw (g, f, e, two, three, four, pasted-front l (((bytes 4 a ++ bytes 4 b) ++ bytes 4 c) ++ bytes 4 d), n) (simp append_assoc)
