-- SPDX-License-Identifier: MIT
-- The steps of the code, over plain variables. Assumes nothing.
use Rattle.header.specs.Header.{header_of}
use Rattle.std.specs.Prelude.{Option, None}
use mathlib.Core.Path.{◌≡◌, sym, ◌∙◌, ap}
use Prim.Native.Nat.{ℕ}
use Rattle.header.specs.Answers.{read_kid, read_ctr, read_length}
use Rattle.header.specs.declared.Ctr.{Ctr}
use Rattle.header.specs.declared.Kid.{Kid}
use Rattle.header.specs.declared.Header.{Header}

-- what is answered of a header that is read, and of one that is refused
pub header-told : (x r : Option Header) (k : Kid) (c : Ctr) (n : ℕ) → r ≡ x → r ≡ header_of k c n → (k.0 ≡ read_kid x) × (c.0 ≡ read_ctr x) × (n ≡ read_length x)
header-told x r k c n e f = let g : header_of k c n ≡ x = sym f ∙ e in (ap read_kid g, ap read_ctr g, ap read_length g)

pub refusal-told : (x r : Option Header) → r ≡ x → r ≡ None → (0 ≡ read_kid x) × (0 ≡ read_ctr x) × (0 ≡ read_length x)
refusal-told x r e f = let g : None ≡ x = sym f ∙ e in (ap read_kid g, ap read_ctr g, ap read_length g)
