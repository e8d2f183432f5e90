-- SPDX-License-Identifier: MIT
-- `ciphers::tag_of` meets its contract: each suite's tag by what its front says.
-- Assumes nothing.
use Rattle.aes_keys.proofs.Keys16.{context-key}
use Rattle.ciphers.proofs.Steps.{tag-ctr, tag-gcm}
use Rattle.ciphers.proofs.tag_of.Goals as goal

pub returns-in-None : goal.returns-in-None
returns-in-None c =
    let a = c.args in
    let m = rw c.in-None.is at c.requires.fronted in
    (tag-ctr a.suite _ a.key.now _ _ _ _ m c.tag_size-nt.ensures c.ctr_tag.ensures.0, c.ctr_tag.ensures.1)

pub returns-in-Some : goal.returns-in-Some
returns-in-Some c =
    let a = c.args in
    let m = rw c.in-Some.is at c.requires.fronted in
    (tag-gcm a.suite a.key.now _ _ _ _ _ m.0 c.requires.context.1 (context-key c.requires.context.0) c.gcm_tag.ensures.1 c.gcm_tag.ensures.0, c.gcm_tag.ensures.1)
