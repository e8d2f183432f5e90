-- SPDX-License-Identifier: MIT
-- `gcm_batch::encrypt` meets its contract: the ciphertext is at the front, and the tag is copied behind it.
-- Assumes nothing.
use mathlib.Core.Path.{◌≡◌, refl, ap, sym, ◌∙◌}
use mathlib.Core.List.{◌++◌}
use native.Mathlib.Omega.{arith}
use lib.ListN.{length, drop}
use lib.Seq.{length-take-le}
use Rattle.aes_keys.specs.Inner.Keys.{key_of}
use Rattle.gcm.proofs.Laws.{ctr-length}
use Rattle.gcm_batch.proofs.Tags.{front_length, sealed}
use Rattle.gcm_batch.proofs.encrypt.Goals as goal

pub slice_bounds-apply-end-2 : goal.slice_bounds-apply-end-2
slice_bounds-apply-end-2 c =
    sym (length-take-le _ c.args.out.now (omega arith))

pub apply-requires : goal.apply-requires
apply-requires c =
    record { ready = (c.requires.ready.0, c.requires.ready.1); nonce_len = c.requires.nonce_len; out_len = (length-take-le _ c.args.out.now (omega arith), c.requires.header_len_bound.2) }

pub slice_bounds-tag-end-2 : goal.slice_bounds-tag-end-2
slice_bounds-tag-end-2 c =
    let apply-length : length c.apply.new.out ≡ length c.args.plaintext.now = ap length c.apply.ensures ∙ ctr-length _ _ _ _ in
    front_length c.apply.new.out _ _ (apply-length)

pub tag-requires : goal.tag-requires
tag-requires c =
    let apply-length : length c.apply.new.out ≡ length c.args.plaintext.now = ap length c.apply.ensures ∙ ctr-length _ _ _ _ in
    let p = c.requires in
    let x = c.args.plaintext.now in
    let n = front_length c.apply.new.out (drop (length x) c.args.out.now) (length x) (apply-length) in
    record { front = (p.ready.1, p.ready.2); header_len_bound = (p.header_len_bound.0, p.header_len_bound.1, rw (← n) p.header_len_bound.2); out_len = refl }

pub returns : goal.returns
returns c =
    sealed (key_of c.args.ctx.now) c.args.nonce.now (c.args.header.now ++ c.args.metadata.now) c.args.plaintext.now c.args.out.now
    c.apply.new.out _ _ (omega arith) (ap length c.apply.ensures ∙ ctr-length _ _ _ _) c.apply.ensures c.tag.ensures c.copy.ensures
