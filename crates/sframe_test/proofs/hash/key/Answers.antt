-- SPDX-License-Identifier: MIT
use Rattle.std.proofs.Common.{refl, arith}
use mathlib.Core.Logic.{inl, inr}
use Rattle.sframe_test.proofs.hash.key.Goals as goal

pub returns-then-ikm-gt-LARGEST : goal.returns-then-ikm-gt-LARGEST
returns-then-ikm-gt-LARGEST g c = inr (refl, (λ t. omega arith), refl)

pub returns-then-info-gt-LARGEST : goal.returns-then-info-gt-LARGEST
returns-then-info-gt-LARGEST g c = inr (refl, (λ t. omega arith), refl)

pub hkdf_expand-requires : goal.hkdf_expand-requires
hkdf_expand-requires g c =
    let s = g.met.H.Hash.sizes in
    (omega arith, omega arith, omega (arith, s.1))

pub returns : goal.returns
returns g c =
    let s = g.met.H.Hash.sizes in
    inl (refl, record { keyed = omega arith; informed = omega arith; limited = omega (arith, s.1) }, rw c.hkdf_extract-prk.ensures.0 at c.hkdf_expand.ensures)
