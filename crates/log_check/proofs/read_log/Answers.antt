-- SPDX-License-Identifier: MIT
-- What is read to the end of the limited input, behind nothing, is the front of what the input has.
use Rattle.std.proofs.Common.{◌≡◌, IfSome, take, ℕ, List, [], ◌++◌, None, Some, Option, sym, ap, arith}
use Rattle.std.specs.Option.{option_map}
use Rattle.log_check.proofs.read_log.Goals as goal

front : (known : Option (List ℕ)) (n limit : ℕ) (old new : List ℕ) → limit ≡ n → old ≡ [] → IfSome (option_map (take limit) known) (λ xs. new ≡ old ++ xs) → IfSome known (λ xs. new ≡ take n xs)
front None n limit old new e f h = h
front (Some xs) n limit old new e f h = grind (arith, e, f, h)

pub returns : goal.returns
returns g c =
    rw (sym (ap g.R.Read.remaining c.take.ensures.inner))
    (front _ _ _ _ _ c.take.ensures.limit c.new-log.ensures.items c.in_ok-read_to_end.ensures.bytes)
