-- SPDX-License-Identifier: MIT
-- The state that is written, over plain variables. Assumes nothing.
use Rattle.std.specs.Prelude.{Option}
use mathlib.Core.Path.{◌≡◌, refl, sym, ◌∙◌, ap, ap₂}
use mathlib.Core.Bool.{true, false, false≢true}
use mathlib.Core.List.{List, []}
use Prim.Native.Nat.{ℕ}
use Rattle.octets.specs.Octets.{pasted}
use Rattle.suites.specs.Derivation.{nonce}
use Rattle.suites.specs.declared.sizes.Suite.{Suite}
use Rattle.piece_line.specs.Line.{begun}
use Rattle.key_record.specs.Record.{KeyRecord, empty, sending, receiving, retired, is_empty, suite_of, salt_of, key_of}
use Rattle.key_record.specs.Suites.{with_suite}
use Rattle.key_record.specs.Inner.Rows.{Numbered, has_key}
use Rattle.store.specs.Sframe.{sframe}
use Rattle.begin_state.specs.Begin.{first_state}

pub keyed-held : (r : KeyRecord) → has_key r ≡ true → is_empty r ≡ false
keyed-held empty e = absurd (false≢true e)
keyed-held (sending r) e = refl
keyed-held (receiving r w) e = refl
keyed-held (retired r) e = refl

pub first-written : (s : Suite) (held : KeyRecord) (kind ctr announced : ℕ) (aad key salt iv state out : List ℕ) → Numbered s (suite_of held) → key ≡ key_of held → salt ≡ salt_of held → iv ≡ nonce salt ctr
    → out ≡ pasted state 0 (begun kind s announced iv key aad) → out ≡ pasted state 0 (first_state sframe kind held ctr announced aad)
unfolding first_state
first-written s held kind ctr announced aad key salt iv state out f k a i e =
    e ∙ ap₂ (λ (x y : List ℕ). pasted state 0 (begun kind s announced x y aad)) (i ∙ ap (λ (z : List ℕ). nonce z ctr) a) k
    ∙ ap (λ (g : Option Suite). pasted state 0 (with_suite [] (λ z. begun kind z announced (nonce (salt_of held) ctr) (key_of held) aad) g)) (sym f)
