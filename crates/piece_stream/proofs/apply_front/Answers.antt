-- SPDX-License-Identifier: MIT
use Rattle.piece_stream.proofs.Laws.{rest-length, rest-counts, front-applied}
use Rattle.piece_stream.proofs.apply_front.Goals as goal

pub apply_from-requires : goal.apply_from-requires
apply_from-requires c =
    let e = c.in_front-n.ensures in
    let g = c.xor_part.ensures in
    let l = c.args.input.now in
    record { ready = c.requires.ready.0; nonce_len = c.requires.ready.1; out_len = rest-length _ _ c.args.f.now l c.args.out.now _ c.args.count c.args.at _ c.requires.blocks e.0 e.1 c.requires.out_len g; input_bound = rest-counts _ _ c.args.f.now l c.args.out.now _ c.args.count c.args.at _ c.requires.blocks e.0 e.1 c.requires.out_len g c.requires.input_bound }

pub returns : goal.returns
returns c =
    let e = c.in_front-n.ensures in
    front-applied _ _ c.args.f.now c.args.input.now c.args.out.now _ c.args.count c.args.at _ c.requires.blocks e.0 e.1 c.requires.out_len
    c.xor_part.ensures _ c.apply_from.ensures
