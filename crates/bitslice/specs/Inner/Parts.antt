-- SPDX-License-Identifier: MIT
-- Inner: the values of the code as inputs and outputs of the circuit's parts.
-- Assumes nothing.
use Rattle.std.specs.Prelude.{ℕ, ◌-◌, ◌^◌, ◌<◌}
use Rattle.bitslice.specs.declared.Planes.{Planes}
use Rattle.bitslice.specs.declared.Sums as sums
use Rattle.bitslice.specs.declared.Nibble as nibble
use Rattle.bitslice.specs.declared.Inverted as inverted
use Rattle.bitslice.specs.declared.Terms as terms
use Rattle.bitslice.specs.Circuit.{Eight, Sums, Nibble, Inverted, Terms}

-- NOT of a word.
abbrev pub flip_word : ℕ → ℕ
flip_word a = 2 ^ 64 - 1 - a

abbrev pub eight_of : Planes → Eight ℕ
eight_of q =
    record { s0 = q.p7; s1 = q.p6; s2 = q.p5; s3 = q.p4; s4 = q.p3; s5 = q.p2; s6 = q.p1; s7 = q.p0 }

abbrev pub sums_of : sums.Sums → Sums ℕ
sums_of y =
    record { x7 = y.x7; y1 = y.y1; y2 = y.y2; y3 = y.y3; y4 = y.y4; y5 = y.y5; y6 = y.y6; y7 = y.y7; y8 = y.y8; y9 = y.y9; y10 = y.y10; y11 = y.y11; y12 = y.y12; y13 = y.y13; y14 = y.y14; y15 = y.y15; y16 = y.y16; y17 = y.y17; y18 = y.y18; y19 = y.y19; y20 = y.y20; y21 = y.y21 }

abbrev pub nibble_of : nibble.Nibble → Nibble ℕ
nibble_of t =
    record { t21 = t.t21; t22 = t.t22; t23 = t.t23; t24 = t.t24 }

abbrev pub inverted_of : inverted.Inverted → Inverted ℕ
inverted_of v =
    record { t29 = v.t29; t33 = v.t33; t37 = v.t37; t40 = v.t40; t41 = v.t41; t42 = v.t42; t43 = v.t43; t44 = v.t44; t45 = v.t45 }

abbrev pub terms_of : terms.Terms → Terms ℕ
terms_of z =
    record { z0 = z.z0; z1 = z.z1; z2 = z.z2; z3 = z.z3; z4 = z.z4; z5 = z.z5; z6 = z.z6; z7 = z.z7; z8 = z.z8; z9 = z.z9; z10 = z.z10; z11 = z.z11; z12 = z.z12; z13 = z.z13; z14 = z.z14; z15 = z.z15; z16 = z.z16; z17 = z.z17 }

-- The words of a row fit.
pub record Words (q : Planes) : Type 0 where
  pub w0 : q.p0 < 2 ^ 64
  pub w1 : q.p1 < 2 ^ 64
  pub w2 : q.p2 < 2 ^ 64
  pub w3 : q.p3 < 2 ^ 64
  pub w4 : q.p4 < 2 ^ 64
  pub w5 : q.p5 < 2 ^ 64
  pub w6 : q.p6 < 2 ^ 64
  pub w7 : q.p7 < 2 ^ 64
