-- SPDX-License-Identifier: MIT
use Prim.Native.Nat.{◌≤◌}
use lib.ListN.{length}
use mathlib.Core.Path.{sym}
use native.Mathlib.Omega.{arith}
use Rattle.octets.proofs.Laws.{front-most}
use Rattle.ciphers.proofs.Steps.{front-size, encrypted, fronted-front, fronted-count}
use Rattle.aes_keys.proofs.Keys16.{context-key, context-ready}
use Rattle.suites.proofs.Laws.{Nt-most}
use Rattle.ciphers.proofs.encrypt.Goals as goal

pub slice_bounds-context-end : goal.slice_bounds-context-end
slice_bounds-context-end c = sym c.blank-ctx.ensures

pub front-f-requires : goal.front-f-requires
front-f-requires c =
    (context-ready c.context.ensures, c.requires.key_len.1)

pub apply-requires : goal.apply-requires
apply-requires c =
    let pre = c.requires in
    record { ready = (context-ready c.context.ensures, pre.key_len.1, pre.header_len_bound.2, omega (arith, pre.out_len)); fronted = fronted-front _ _ _ _ c.front-f.ensures }

pub tag_of-t-requires : goal.tag_of-t-requires
tag_of-t-requires c =
    let pre = c.requires in record { context = (c.context.ensures, pre.key_len.0, pre.key_len.1); fronted = c.front-f.ensures; header_len_bound = (pre.header_len_bound.0, pre.header_len_bound.1, front-most _ _ _ pre.header_len_bound.2) }

pub slice_bounds-copy_at-end : goal.slice_bounds-copy_at-end
slice_bounds-copy_at-end c =
    omega (arith, c.tag_of-t.ensures.1, c.tag_size-nt.ensures, Nt-most c.args.suite)

pub copy_at-requires : goal.copy_at-requires
copy_at-requires c =
    let n = c.tag_size-nt.ensures in
    let inside : c.tag_size-nt.result ≤ length c.tag_of-t.result =
    omega (arith, c.tag_of-t.ensures.1, n, Nt-most c.args.suite) in
    omega (arith, front-size c.tag_of-t.result c.tag_size-nt.result inside, c.apply.auto.out, n, c.requires.out_len)

pub returns : goal.returns
returns c =
    let a = c.args in
    let pre = c.requires in
    encrypted a.suite a.key.now _ _ a.plaintext.now a.out.now _ _ _ _ _ (context-key c.context.ensures) pre.out_len c.tag_size-nt.ensures
    (rw (fronted-count _ _ _ _ c.front-f.ensures) at c.apply.ensures) c.tag_of-t.ensures.0 c.copy_at.ensures
