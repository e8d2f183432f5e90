-- SPDX-License-Identifier: MIT
use mathlib.Core.Path.{sym, ◌∙◌}
use Rattle.key_record.proofs.Judge.{window-opened, window-highest, window-mask}
use Rattle.key_record.proofs.judging.window_fits.Goals as goal

pub returns-then-has_opened : goal.returns-then-has_opened
returns-then-has_opened c =
    window-opened c.args.row.now _ _ (sym c.has_opened.ensures ∙ c.if-has_opened.true) c.window_in.ensures c.is_sound.ensures

pub returns-then-read_be64-ne0 : goal.returns-then-read_be64-ne0
returns-then-read_be64-ne0 c =
    window-highest c.args.row.now (sym c.has_opened.ensures ∙ c.if-has_opened.false) _ c.read_be64.ensures c.if-read_be64-ne0.true

pub returns : goal.returns
returns c =
    window-mask c.args.row.now (sym c.has_opened.ensures ∙ c.if-has_opened.false) _ c.read_be64.ensures c.if-read_be64-ne0.false _ c.read_be64-2.ensures
