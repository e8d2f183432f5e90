-- SPDX-License-Identifier: MIT
use Rattle.answers.proofs.Limits.{long-plaintext, long-metadata}
use Rattle.answers.proofs.too_long.Goals as goal

pub returns-then-plaintext-gt-MAX_PLAINTEXT : goal.returns-then-plaintext-gt-MAX_PLAINTEXT
returns-then-plaintext-gt-MAX_PLAINTEXT c = long-plaintext _ _ c.if-plaintext-gt-MAX_PLAINTEXT.true

pub returns : goal.returns
returns c = long-metadata _ _ c.if-plaintext-gt-MAX_PLAINTEXT.false
