-- SPDX-License-Identifier: MIT
use Rattle.suites.specs.Suites.{Nt}
use Rattle.piece_line.specs.Line.{hash_after}
use Rattle.suites.specs.declared.sizes.Mode.{Mode}
use Prim.Native.Nat.{ℕ}
use mathlib.Core.List.{[], ◌++◌}
use mathlib.Core.Path.{ap₂}
use Rattle.suites.proofs.Laws.{ctr-sizes}
use native.Mathlib.Omega.{arith}
use mathlib.Core.Path.{sym, ◌∙◌, ap}
use Rattle.pieces.proofs.beginning.begin_hash.Goals as goal

pub begin_hmac-requires : goal.begin_hmac-requires
begin_hmac-requires c =
    let m = sym c.mode.ensures ∙ c.in-CtrHmac.is in
    let k = ctr-sizes c.args.suite m in
    record { key_len = (c.requires.key_len.0 ∙ k.0, c.requires.key_len.1, omega (arith, c.tag_size-nt.ensures, k.1), c.requires.key_len.2); header_len_bound = c.requires.header_len_bound }

pub begin_gcm-requires : goal.begin_gcm-requires
begin_gcm-requires c =
    let m = sym c.mode.ensures ∙ c.in-Gcm.is in
    record { key_len = (c.requires.key_len.0, m, c.requires.key_len.1, c.requires.key_len.2); header_len_bound = (c.requires.header_len_bound.0, c.requires.header_len_bound.1) }

pub returns-in-CtrHmac : goal.returns-in-CtrHmac
returns-in-CtrHmac c =
    let s = c.args in
    let m = sym c.mode.ensures ∙ c.in-CtrHmac.is in
    c.begin_hmac.ensures ∙ ap₂ (λ (x : Mode) (n : ℕ). hash_after x n s.announced s.key.now s.nonce.now (s.header.now ++ s.metadata.now) []) (sym m) c.tag_size-nt.ensures

pub returns-in-Gcm : goal.returns-in-Gcm
returns-in-Gcm c =
    let s = c.args in
    let m = sym c.mode.ensures ∙ c.in-Gcm.is in
    c.begin_gcm.ensures ∙ ap (λ (x : Mode). hash_after x (Nt s.suite) s.announced s.key.now s.nonce.now (s.header.now ++ s.metadata.now) []) (sym m)
