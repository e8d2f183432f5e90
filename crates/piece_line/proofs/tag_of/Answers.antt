-- SPDX-License-Identifier: MIT
use Rattle.suites.specs.Suites.{Nt}
use lib.Seq.{take_all}
use Rattle.suites.proofs.Laws.{gcm-sizes}
use mathlib.Core.Path.{sym, ◌∙◌}
use native.Mathlib.Omega.{arith}
use Rattle.piece_line.proofs.Steps.{context-part}
use Rattle.piece_line.proofs.tag_of.Goals as goal

pub returns-in-CtrHmac : goal.returns-in-CtrHmac
returns-in-CtrHmac c =
    c.hmac_tag.ensures

pub returns-in-Gcm : goal.returns-in-Gcm
returns-in-Gcm c =
    let s = c.args.suite in
    let n = gcm-sizes s (sym c.mode.ensures ∙ c.in-Gcm.is) in
    (take_all (Nt s) _ (omega (arith, c.gcm_tag.ensures.1, n)) ∙ c.gcm_tag.ensures.0, c.gcm_tag.ensures.1)

pub gcm_tag-requires : goal.gcm_tag-requires
gcm_tag-requires c =
    let a = c.args in
    record { state_size_in_bounds = (c.requires.0, c.requires.1, sym c.mode.ensures ∙ c.in-Gcm.is); context = context-part a.state.now _ a.suite _ c.key_end-end.ensures.0 c.context.ensures }
