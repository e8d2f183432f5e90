-- SPDX-License-Identifier: MIT
-- `aes_block::table::byte_of` meets its contract.
-- Assumes nothing.
use mathlib.Core.Path.{◌≡◌, refl}
use Prim.Native.Nat.{ℕ, zero, suc, ◌*◌, ◌-◌, ◌/◌, ◌%◌, ◌^◌, ◌<◌}
use native.Mathlib.Omega.{arith}
use Rattle.aes.specs.Aes.{byte}
use Rattle.aes_block.proofs.table.byte_of.Goals as goal

place : (i a : ℕ) → i < 4 → a / 2 ^ (24 - 8 * i) % 256 ≡ byte i a
place zero a h = refl
place (suc zero) a h = refl
place (suc (suc zero)) a h = refl
place (suc (suc (suc zero))) a h = refl
place (suc (suc (suc (suc i)))) a h = absurd (omega arith)

pub returns : goal.returns
returns c = place c.args.i c.args.a c.requires
