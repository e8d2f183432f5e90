-- SPDX-License-Identifier: MIT
-- `aes_keys::fill` meets its contract.
-- Assumes nothing.
use borrow.Author.Rules.{rules}
use Rattle.aes_rows.proofs.Sets.{each_as}
use Rattle.aes_keys.proofs.Words.{Filling, filled}
use Rattle.aes_keys.proofs.fill.Goals as goal

pub returns : goal.returns
returns c =
    let g = c.ranges in
    filled _ _ _ _ _ _ (each_as _ (Filling _ _ _ _) _ _ _ (λ s a b h k. search rules) c.each_row.ensures) g.w0.fits g.w1.fits g.w2.fits g.w3.fits
