-- SPDX-License-Identifier: MIT
use mathlib.Core.Path.{refl, sym, ◌∙◌}
use mathlib.Core.Bool.{true, false}
use Prim.Native.Nat.{◌-◌}
use native.Mathlib.Omega.{arith}
use lib.ListN.{length}
use borrow.Author.Tests.{not-true, not-false}
use Rattle.octets.proofs.Laws.{front-most}
use Rattle.aead.proofs.Laws.{room-left}
use Rattle.ciphers.proofs.Steps.{room-opened, compared-tag, fronted-front, fronted-count}
use Rattle.aes_keys.proofs.Keys16.{context-key, context-ready}
use Rattle.suites.proofs.Laws.{Nt-most}
use mathlib.Core.Bool.{not}
use mathlib.Core.Path.{ap}
use Rattle.ciphers.proofs.decrypt.Goals as goal

pub slice_bounds-context-end : goal.slice_bounds-context-end
slice_bounds-context-end c = sym c.blank-ctx.ensures

pub front-f-requires : goal.front-f-requires
front-f-requires c =
    (context-ready c.context.ensures, c.requires.key_len.1)

pub tag_of-t-requires : goal.tag_of-t-requires
tag_of-t-requires c =
    let pre = c.requires in
    let n = length c.args.sealed.now - c.tag_size-nt.result in record { context = (c.context.ensures, pre.key_len.0, pre.key_len.1); fronted = c.front-f.ensures; header_len_bound = (pre.header_len_bound.0, pre.header_len_bound.1, front-most c.args.sealed.now n _ (omega (arith, pre.header_len_bound.2))) }

pub slice_bounds-equal-end-2 : goal.slice_bounds-equal-end-2
slice_bounds-equal-end-2 c =
    omega (arith, c.tag_of-t.ensures.1, c.tag_size-nt.ensures, Nt-most c.args.suite)

pub returns-then-not-equal : goal.returns-then-not-equal
returns-then-not-equal c =
    let a = c.args in
    let pre = c.requires in
    let e = compared-tag a.suite a.key.now a.nonce.now _ a.sealed.now _ _ _ false c.tag_size-nt.ensures refl (omega (arith, pre.suite_in_bounds.0, c.tag_size-nt.ensures))
    c.tag_of-t.ensures.0 (sym c.equal.ensures ∙ not-true _ (ap not c.if-not-equal.true)) in
    record { value = rw e; out_after = sym (room-left _ a.out.now e) }

pub apply-requires : goal.apply-requires
apply-requires c =
    let a = c.args in
    let pre = c.requires in
    let n = length a.sealed.now - c.tag_size-nt.result in record {
      ready = (
        context-ready c.context.ensures,
        pre.key_len.1,
        front-most a.sealed.now n _ (omega (arith, pre.header_len_bound.2)),
        front-most a.sealed.now n _ (omega (arith, pre.suite_in_bounds.1, c.tag_size-nt.ensures)),
      );
      fronted = fronted-front _ _ _ _ c.front-f.ensures;
    }

pub returns : goal.returns
returns c =
    let a = c.args in
    let pre = c.requires in
    let n = length a.sealed.now - c.tag_size-nt.result in
    let e = compared-tag a.suite a.key.now a.nonce.now _ a.sealed.now _ _ _ true c.tag_size-nt.ensures refl (omega (arith, pre.suite_in_bounds.0, c.tag_size-nt.ensures))
    c.tag_of-t.ensures.0 (sym c.equal.ensures ∙ not-false _ (ap not c.if-not-equal.false)) in
    record { value = rw e; out_after = rw e (room-opened a.suite a.key.now a.nonce.now a.sealed.now a.out.now _ _ n (context-key c.context.ensures) (rw (fronted-count _ _ _ _ c.front-f.ensures) at c.apply.ensures)) }
