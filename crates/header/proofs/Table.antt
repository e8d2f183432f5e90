-- SPDX-License-Identifier: MIT
-- Worked examples of the header, as one table: twelve vectors, written and read, and two longer forms that are read.
-- Assumes nothing.
use mathlib.Core.Path.{◌≡◌, refl}
use mathlib.Core.List.{List, [], ◌∷◌}
use Prim.Native.Nat.{ℕ}
use lib.ListN.{length}
use Rattle.octets.specs.Octets.{number, bytes}
use Rattle.header.specs.Header.{size, flag, code, width, config, header, read_bytes, read_field, with_counter, read_counter, read_header, header_of}

record Vector : Type 0 where
  kid : ℕ
  ctr : ℕ
  encoded : List ℕ

abbrev vectors : List Vector
vectors =
    record { kid = 0x1; ctr = 0xff; encoded = 0x18 ∷ 0xff ∷ [] }
    ∷ record { kid = 0x1; ctr = 0x100; encoded = 0x19 ∷ 0x01 ∷ 0x00 ∷ [] }
    ∷ record { kid = 0x1; ctr = 0xffff; encoded = 0x19 ∷ 0xff ∷ 0xff ∷ [] }
    ∷ record { kid = 0x1; ctr = 0x10000; encoded = 0x1a ∷ 0x01 ∷ 0x00 ∷ 0x00 ∷ [] }
    ∷ record { kid = 0x1; ctr = 0xffff_ffff_ffff_ffff; encoded = 0x1f ∷ 0xff ∷ 0xff ∷ 0xff ∷ 0xff ∷ 0xff ∷ 0xff ∷ 0xff ∷ 0xff ∷ [] }
    ∷ record { kid = 0xff; ctr = 0x0; encoded = 0x80 ∷ 0xff ∷ [] }
    ∷ record { kid = 0xff; ctr = 0x1; encoded = 0x81 ∷ 0xff ∷ [] }
    ∷ record { kid = 0xff; ctr = 0xff; encoded = 0x88 ∷ 0xff ∷ 0xff ∷ [] }
    ∷ record { kid = 0xff; ctr = 0x100; encoded = 0x89 ∷ 0xff ∷ 0x01 ∷ 0x00 ∷ [] }
    ∷ record { kid = 0xffffff; ctr = 0x0; encoded = 0xa0 ∷ 0xff ∷ 0xff ∷ 0xff ∷ [] }
    ∷ record { kid = 0x1000000; ctr = 0x0; encoded = 0xb0 ∷ 0x01 ∷ 0x00 ∷ 0x00 ∷ 0x00 ∷ [] }
    ∷ record { kid = 0x1000000; ctr = 0xff; encoded = 0xb8 ∷ 0x01 ∷ 0x00 ∷ 0x00 ∷ 0x00 ∷ 0xff ∷ [] }
    ∷ []

-- a vector's KID and CTR are written as its bytes, and its bytes are read as that KID and CTR
abbrev Right : Vector → Type 0
Right v =
    (header v.kid v.ctr ≡ v.encoded)
    × (read_header v.encoded ≡ header_of (record { 0 = v.kid }) (record { 0 = v.ctr }) (length v.encoded))

abbrev Each : (Vector → Type 0) → List Vector → Type 0
Each P [] = Unit {0}
Each P (v ∷ vs) = P v × Each P vs

-- every vector is right, and the longer forms 0805 and 9000ff read as CTR 5 and KID 255
table : Each Right vectors
    × (read_header (0x08 ∷ 0x05 ∷ []) ≡ header_of (record { 0 = 0 }) (record { 0 = 5 }) 2)
    × (read_header (0x90 ∷ 0x00 ∷ 0xff ∷ []) ≡ header_of (record { 0 = 0xff }) (record { 0 = 0 }) 3)
unfolding number bytes size flag code width config header read_bytes read_field with_counter read_counter read_header lib.Count.count_leading_zeros
table = (
  (
    (refl, refl),
    (
      (refl, refl),
      (
        (refl, refl),
        (
          (refl, refl),
          (
            (refl, refl),
            ((refl, refl), ((refl, refl), ((refl, refl), ((refl, refl), ((refl, refl), ((refl, refl), ((refl, refl), tt))))))),
          ),
        ),
      ),
    ),
  ),
  refl,
  refl,
)
