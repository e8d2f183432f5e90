-- SPDX-License-Identifier: MIT
-- The KIDs of RFC 9605, section 5.2, figure 8: six bits of index, four of epoch. Packed and unpacked. Assumes nothing.
use mathlib.Core.Path.{◌≡◌, refl}
use mathlib.Core.List.{List, [], ◌∷◌}
use Prim.Native.Nat.{ℕ, ◌%◌}
use Rattle.group.specs.Group.{group_kid, context_in, index_in, epoch_in}

record Vector : Type 0 where
  epoch : ℕ
  index : ℕ
  context : ℕ
  kid : ℕ

abbrev vectors : List Vector
vectors =
    record { epoch = 14; index = 3; context = 0; kid = 0x3e }
    ∷ record { epoch = 14; index = 7; context = 0; kid = 0x7e }
    ∷ record { epoch = 14; index = 20; context = 0; kid = 0x14e }
    ∷ record { epoch = 15; index = 3; context = 0; kid = 0x3f }
    ∷ record { epoch = 15; index = 5; context = 0; kid = 0x5f }
    ∷ record { epoch = 16; index = 2; context = 2; kid = 0x820 }
    ∷ record { epoch = 16; index = 2; context = 3; kid = 0xc20 }
    ∷ record { epoch = 17; index = 33; context = 0; kid = 0x211 }
    ∷ record { epoch = 17; index = 51; context = 0; kid = 0x331 }
    ∷ []

-- a vector's parts are packed as its KID, and its KID is unpacked as its parts
abbrev Right : Vector → Type 0
Right v =
    (group_kid 6 4 v.context v.index v.epoch ≡ v.kid)
    × (context_in 6 4 v.kid ≡ v.context)
    × (index_in 6 4 v.kid ≡ v.index)
    × (epoch_in 4 v.kid ≡ v.epoch % 16)

abbrev Each : (Vector → Type 0) → List Vector → Type 0
Each P [] = Unit {0}
Each P (v ∷ vs) = P v × Each P vs

pub figure : Each Right vectors
unfolding group_kid context_in index_in epoch_in
figure = (
  (refl, refl, refl, refl),
  ((refl, refl, refl, refl), ((refl, refl, refl, refl), ((refl, refl, refl, refl), ((refl, refl, refl, refl), ((refl, refl, refl, refl), ((refl, refl, refl, refl), ((refl, refl, refl, refl), ((refl, refl, refl, refl), tt)))))))),
)
