-- SPDX-License-Identifier: MIT
-- Unpacking a packed KID gives back its parts, whatever the widths. Assumes nothing.
use mathlib.Core.Path.{◌≡◌, refl, sym, ◌∙◌, ap}
use Prim.Native.Nat.{ℕ, ◌+◌, ◌*◌, ◌/◌, ◌%◌, ◌^◌, ◌<◌}
use native.Mathlib.Nat.{mul_assoc, add-mul, add_comm, mod-lt}
use lib.Arith.{digits_lt}
use lib.Pow.{pow-add, pow_pos, high, low, shr-shr}
use borrow.Author.Tests.{leb-false}
use Rattle.answers.specs.Answers.{first}
use Rattle.answers.proofs.Basics.{passes}
use Rattle.group.specs.Group.{group_kid, context_in, index_in, epoch_in, pack_causes, unpack_causes, given, pack_number, packed, unpack_number, Unpacked}

module _ (S E context index epoch : ℕ) where
  -- in two digits to the base 2 ^ E
  nested : group_kid S E context index epoch ≡ (context * 2 ^ S + index) * 2 ^ E + epoch % 2 ^ E
  unfolding group_kid
  nested =
      ap (λ (k : ℕ). k + epoch % 2 ^ E)
      (ap (λ (k : ℕ). k + index * 2 ^ E) (ap (λ (k : ℕ). context * k) (pow-add 2 S E) ∙ sym (mul_assoc context (2 ^ S) (2 ^ E))) ∙ sym (add-mul (context * 2 ^ S) index (2 ^ E)))

  cut-epoch : epoch % 2 ^ E < 2 ^ E
  cut-epoch = mod-lt epoch (pow_pos E)

  upper : group_kid S E context index epoch / 2 ^ E ≡ context * 2 ^ S + index
  upper = ap (λ (k : ℕ). k / 2 ^ E) nested ∙ high (context * 2 ^ S + index) E cut-epoch

  pub epoch-back : epoch_in E (group_kid S E context index epoch) ≡ epoch % 2 ^ E
  unfolding epoch_in
  epoch-back = ap (λ (k : ℕ). k % 2 ^ E) nested ∙ low (context * 2 ^ S + index) E cut-epoch

  module _ (h : index < 2 ^ S) where
    pub index_back : index_in S E (group_kid S E context index epoch) ≡ index
    unfolding index_in
    index_back = ap (λ (k : ℕ). k % 2 ^ S) upper ∙ low context S h

    pub context-back : context_in S E (group_kid S E context index epoch) ≡ context
    unfolding context_in
    context-back =
        ap (λ (k : ℕ). group_kid S E context index epoch / 2 ^ k) (add_comm S E)
        ∙ sym (shr-shr (group_kid S E context index epoch) E S)
        ∙ ap (λ (k : ℕ). k / 2 ^ S) upper
        ∙ high context S h

    -- what stands below the context has as many bits as the widths say
    pub lower-bits : index * 2 ^ E + epoch % 2 ^ E < 2 ^ (S + E)
    lower-bits = rw (pow-add 2 S E) (digits_lt {q = index} {m = 2 ^ S} {r = epoch % 2 ^ E} {c = 2 ^ E} h cut-epoch)

-- Unpacking a packed number gives back context, index and the low bits of the epoch: one statement over all S and E.
pub parts-back : (S E context index epoch : ℕ) → pack_number S E context index epoch ≡ 0 → Unpacked S E context index epoch (packed S E context index epoch)
unfolding pack_number pack_causes packed unpack_number unpack_causes first
parts-back S E context index epoch e =
    let p = passes (pack_causes S E context index epoch) refl e in
    let h : index < 2 ^ S = leb-false (2 ^ S) index p.1.0 in
    let k : packed S E context index epoch ≡ group_kid S E context index epoch = ap (λ (n : ℕ). given n (group_kid S E context index epoch)) e in
    record {
      answers = rw p.0;
      its-context = ap (context_in S E) k ∙ context-back S E context index epoch h;
      its-index = ap (index_in S E) k ∙ index_back S E context index epoch h;
      its-epoch = ap (epoch_in E) k ∙ epoch-back S E context index epoch;
    }
