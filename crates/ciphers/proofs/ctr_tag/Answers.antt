-- SPDX-License-Identifier: MIT
use borrow.Author.Rules.{rules}
use Rattle.aead.proofs.Laws.{ctr-tag-made}
use Rattle.ciphers.proofs.ctr_tag.Goals as goal

pub returns : goal.returns
returns c =
    let a = c.args in
    (ctr-tag-made a.nt a.key.now _ _ _ _ _ _ c.requires.key_len.2 c.mac-whole.ensures.1 c.mac-whole.ensures.0 c.copy.ensures, search rules)
