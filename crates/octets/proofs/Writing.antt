-- SPDX-License-Identifier: MIT
-- Strings written one after the other. Assumes nothing.
use mathlib.Core.Path.{◌≡◌, ◌∙◌, ap, ap₂}
use mathlib.Core.List.{List, ◌++◌, append_assoc, append-nil}
use Prim.Native.Nat.{ℕ, ◌+◌, ◌≤◌}
use native.Mathlib.Omega.{arith}
use lib.ListN.{length, drop, length-append, drop_of_length-le}
use Rattle.octets.specs.Octets.{pasted}
use Rattle.octets.proofs.Laws.{pasted-append}

-- what is written over the whole of a list is what the list then is
pub front-all : (x l : List ℕ) (n : ℕ) → length l ≤ n → x ++ drop n l ≡ x
front-all x l n h = ap (λ (t : List ℕ). x ++ t) (drop_of_length-le l h) ∙ append-nil x

-- three strings written one after the other
pub three-written : (o a b r x y z : List ℕ) (i j : ℕ) → length x + length y + length z ≤ length o → i ≡ length x → j ≡ length x + length y
    → a ≡ pasted o 0 x → b ≡ pasted a i y → r ≡ pasted b j z → r ≡ pasted o 0 (x ++ (y ++ z))
three-written o a b r x y z i j h ei ej p q w =
    let e : i ≡ 0 + length x = omega arith in
    let two : b ≡ pasted o 0 (x ++ y) = q ∙ ap₂ (λ (l : List ℕ) (k : ℕ). pasted l k y) p e ∙ pasted-append o 0 x y (omega arith) in
    let f : j ≡ 0 + length (x ++ y) = simp length-append (omega arith) in
    w
    ∙ ap₂ (λ (l : List ℕ) (k : ℕ). pasted l k z) two f
    ∙ pasted-append o 0 (x ++ y) z (simp length-append (omega arith))
    ∙ ap (pasted o 0) (append_assoc x y z)
