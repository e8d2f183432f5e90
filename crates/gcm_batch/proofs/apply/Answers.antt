-- SPDX-License-Identifier: MIT
use Rattle.gcm_batch.proofs.Batches.{rest-length, counts_behind, front-applied}
use Rattle.gcm_batch.proofs.apply.Goals as goal

pub apply-requires : goal.apply-requires
apply-requires c =
    let l = c.args.input.now in
    let e = c.next-n.ensures in
    let g = c.xor_part.ensures in record { ready = c.requires.ready.0; nonce_len = c.requires.nonce_len; out_len = rest-length l c.args.f.now _ _ e g c.args.out.now c.requires.out_len.0; input_bound = counts_behind l c.args.f.now _ _ e g c.requires.out_len.1 }

pub returns : goal.returns
returns c =
    front-applied c.args.input.now c.args.f.now _ _ c.next-n.ensures c.xor_part.ensures _ _ _ _ c.requires.ready.1
    c.apply.ensures
