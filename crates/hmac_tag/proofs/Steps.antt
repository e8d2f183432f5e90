-- SPDX-License-Identifier: MIT
-- The steps of the code, over plain variables. Assumes nothing.
use mathlib.Core.Path.{◌≡◌, ◌∙◌}
use mathlib.Core.List.{List, [], ◌++◌, append_assoc}
use Prim.Native.Nat.{ℕ, ◌+◌}
use native.Mathlib.Omega.{arith}
use lib.ListN.{length, length-append}
use Rattle.octets.specs.Octets.{bytes, pasted}
use Rattle.octets.proofs.Laws.{bytes-length, pasted-front}
use Rattle.hmac_tag.specs.TagInput.{tag_input}
use Rattle.octets.proofs.Writing.{front-all, three-written}

-- three numbers of 8 bytes written one after the other fill 24 bytes
pub lengths-written : (o a b r : List ℕ) (x y z : ℕ) → length o ≡ 24 → a ≡ pasted o 0 (bytes 8 x) → b ≡ pasted a 8 (bytes 8 y) → r ≡ pasted b 16 (bytes 8 z)
    → r ≡ bytes 8 x ++ (bytes 8 y ++ bytes 8 z)
lengths-written o a b r x y z h p q w =
    let lx = bytes-length 8 x in
    let ly = bytes-length 8 y in
    let lz = bytes-length 8 z in
    let l = bytes 8 x ++ (bytes 8 y ++ bytes 8 z) in
    three-written o a b r (bytes 8 x) (bytes 8 y) (bytes 8 z) 8 16 (omega arith) (omega arith) (omega arith) p q w
    ∙ pasted-front o l
    ∙ front-all l o (length l) (simp (length-append, bytes-length) (omega arith))

-- the parts that are fed make the tag's input
pub parts-fed : (l n h m c : List ℕ) (nt : ℕ) → l ≡ bytes 8 (length h + length m) ++ (bytes 8 (length c) ++ bytes 8 nt)
    → ((((([] ++ l) ++ n) ++ h) ++ m) ++ c) ≡ tag_input nt n (h ++ m) c
unfolding tag_input
parts-fed l n h m c nt e = rw (e, length-append h m) (simp append_assoc)
