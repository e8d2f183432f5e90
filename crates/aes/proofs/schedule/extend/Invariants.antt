-- SPDX-License-Identifier: MIT
-- `aes::schedule::extend` meets its contract.
-- Assumes nothing.
use mathlib.Core.Path.{◌≡◌}
use Prim.Native.Nat.{◌+◌, ◌*◌, ◌-◌, ◌%◌, ◌≤◌, ◌<◌}
use lib.ListN.{length, get_or, take}
use Rattle.aes.specs.Aes.{expansion}
use Rattle.aes.proofs.schedule.extend.Given as goal

abbrev pub invariant-loop-k : goal.invariant-loop-k
invariant-loop-k g l = record {
  sized : length l.x ≡ 60;
  words : take (l.nk + 2 * l.k) l.x ≡ expansion l.nk l.key (l.nk + 2 * l.k);
  last : l.w ≡ get_or l.x (l.nk + 2 * l.k - 1) 0;
  place : l.nk + 2 * l.k ≡ l.p.j * l.nk + l.p.m;
  inside : l.p.m < l.nk;
  even : l.p.m % 2 ≡ 0;
  round : 1 ≤ l.p.j;
}
