-- SPDX-License-Identifier: MIT
-- The two parts of a frame: its header, and the bytes after it. A header that is refused has no bytes. Assumes nothing.
use Rattle.std.specs.Prelude.{List, ℕ, take, drop}
use Rattle.header.specs.Header.{read_header}
use Rattle.header.specs.Answers.{read_length}

abbrev pub header_bytes : List ℕ → List ℕ
header_bytes l = take (read_length (read_header l)) l

abbrev pub after_header : List ℕ → List ℕ
after_header l = drop (read_length (read_header l)) l
