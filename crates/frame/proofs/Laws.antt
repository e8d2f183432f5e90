-- SPDX-License-Identifier: MIT
-- The two parts of a frame: together they are the frame, and where a header is read the first alone is read as it. Assumes nothing.
use mathlib.Core.Path.{◌≡◌, sym, ◌∙◌, ap}
use mathlib.Core.List.{List, [], ◌++◌, append-nil}
use Prim.Native.Nat.{ℕ}
use lib.ListN.{take, take-append-drop}
use Rattle.header.specs.Answers.{read_length}
use Rattle.header.specs.Header.{header_of, read_header}
use Rattle.header.specs.declared.Ctr.{Ctr}
use Rattle.header.specs.declared.Kid.{Kid}
use Rattle.header.proofs.Laws.{header-front}
use Rattle.frame.specs.Frame.{header_bytes, after_header}

pub parts_join : (l : List ℕ) → header_bytes l ++ after_header l ≡ l
parts_join l = take-append-drop (read_length (read_header l)) l

pub header_is : (l : List ℕ) (k : Kid) (c : Ctr) (n : ℕ) → read_header l ≡ header_of k c n → read_header (header_bytes l) ≡ header_of k c n
header_is l k c n e =
    ap (λ (m : ℕ). read_header (take m l)) (ap read_length e)
    ∙ ap read_header (sym (append-nil (take n l)))
    ∙ header-front l [] k c n e
