-- SPDX-License-Identifier: MIT
-- What no Add of a list is: one of a KID that was added for sending before, or one for sending with the barred suite. Assumes nothing.
use mathlib.Core.Path.{◌≡◌, refl, sym, ◌∙◌, ap}
use mathlib.Core.Bool.{Bool, true, false}
use mathlib.Core.List.{List, [], ◌∷◌, ◌++◌}
use Prim.Native.Nat.{ℕ, ◌^◌, ◌<◌}
use native.Mathlib.Omega.{arith}
use lib.Dec.{eqb}
use lib.ListN.{length}
use borrow.Author.Tests.{eq-eqb, eqb-true}
use Rattle.octets.specs.Octets.{Octets}
use Rattle.answers.specs.Answers.{Outcome}
use Rattle.answers.proofs.Basics.{Two, yes', no', two}
use Rattle.store.specs.Cipher.{Cipher}
use Rattle.key_record.specs.Record.{empty}
use Rattle.store.specs.Table.{get}
use Rattle.key_record.specs.declared.Role.{Role}
use Rattle.key_record.specs.declared.Role.TheVariants.{Sending, Receiving}
use Rattle.store.proofs.CipherLaws.{Laws}
use Rattle.add_key.specs.Add.{barred, add}
use Rattle.add_key.proofs.Adds.{AddStep, add_step}
use Rattle.judge_seal.specs.Seal.{seal}
use Rattle.judge_open.specs.Open.{opening}
use Rattle.begin_seal.specs.Begin.{seal_begin}
use Rattle.sframe.specs.History.{Call, Add, Remove, Seal, Open, Report, Find, ChangeEpoch, Begin, Piece, End, CheckBegin, CheckPiece, CheckEnd, Typed, AllTyped, Adding, Sealing, Event, added, sealed, opened, other, event, on_line, onward, History, outcome, step, run, start}
use Rattle.sframe.specs.Promises.{is_sender, senders, NeverAgain, NoneBarred}
use Rattle.sframe.proofs.Facts.{Lines}
use Rattle.sframe.proofs.Ledger.{Inv, step_keeps}
use Rattle.sframe.proofs.Lines.{senders-line}

-- an Add that answered 0, and the events before it: its KID has had no Add for sending, and its suite is not barred
abbrev New : (role : Role) (kid suite : ℕ) → List Event → Type 0
New role kid suite log = (senders kid log ≡ []) × (barred role suite ≡ false)

-- of each Add in a list
abbrev pub Fresh : List Event → Type 0
Fresh [] = Unit {0}
Fresh (added a ∷ log) = New a.role a.kid a.suite log × Fresh log
Fresh (sealed x ∷ log) = Fresh log
Fresh (opened x ∷ log) = Fresh log
Fresh (other ∷ log) = Fresh log

-- a call of a line adds nothing
fresh-line : (n : ℕ) (f : Sealing → Sealing) (log : List Event) → Fresh log → Fresh (on_line n f log)
unfolding on_line
fresh-line n f [] p = tt
fresh-line n f (e ∷ log) p = by e (two (eqb (length log) n)) p (fresh-line n f log)
  where
    by : (e : Event) → Two (eqb (length log) n) → Fresh (e ∷ log) → (Fresh log → Fresh (on_line n f log)) → Fresh (on_line n f (e ∷ log))
    by (added a) (yes' t) p r = rw t p
    by (sealed x) (yes' t) p r = rw t p
    by (opened x) (yes' t) p r = rw t p
    by other (yes' t) p r = rw t p
    by (added a) (no' t) p r = rw t ((senders-line a.kid n f log ∙ p.0.0, p.0.1), r p.1)
    by (sealed x) (no' t) p r = rw t (r p)
    by (opened x) (no' t) p r = rw t (r p)
    by other (no' t) p r = rw t (r p)

module _ (cipher : Cipher) (laws : Laws cipher) (lines : Lines cipher) where
  fresh-add : (h : History) (role : Role) (kid suite : ℕ) (base : List ℕ) → kid < 2 ^ 64 → Octets base → Inv cipher lines h → (add cipher h.store role kid suite base).number ≡ 0
      → New role kid suite h.log
  fresh-add h role kid suite base a b i e = by (add cipher h.store role kid suite base) e (add_step cipher laws h.store i.table i.is-stored role kid suite base a b)
    where
      by : (o : Outcome) → o.number ≡ 0 → AddStep cipher h.store i.table role kid suite base o → New role kid suite h.log
      by o z (AddStep.refused d s) = absurd (d z)
      by o z (AddStep.done n k allowed g c st) = (rw g at (i.account.ledger kid), allowed)

  fresh_step : (c : Call) (h : History) → Typed c → Inv cipher lines h → Fresh h.log → Fresh (step cipher c h).log
  unfolding step outcome event onward
  fresh_step (Add role kid suite base) h q i p = by (two (eqb (add cipher h.store role kid suite base).number 0))
    where
      by : Two (eqb (add cipher h.store role kid suite base).number 0) → Fresh (step cipher (Add role kid suite base) h).log
      by (yes' t) = rw t (fresh-add h role kid suite base q.0 q.1 i (eqb-true _ 0 t), p)
      by (no' t) = rw t p
  fresh_step (Remove kid place) h q i p = p
  fresh_step (Seal kid place metadata plaintext offset room) h q i p = by (two (eqb (seal cipher h.store kid metadata plaintext offset room).number 0))
    where
      by : Two (eqb (seal cipher h.store kid metadata plaintext offset room).number 0) → Fresh (step cipher (Seal kid place metadata plaintext offset room) h).log
      by (yes' t) = rw t p
      by (no' t) = rw t p
  fresh_step (Open place metadata frame room) h q i p = by (two (eqb (opening cipher h.store metadata frame room).number 0))
    where
      by : Two (eqb (opening cipher h.store metadata frame room).number 0) → Fresh (step cipher (Open place metadata frame room) h).log
      by (yes' t) = rw t p
      by (no' t) = rw t p
  fresh_step (Report kid) h q i p = p
  fresh_step (Find kid) h q i p = p
  fresh_step (ChangeEpoch width bits) h q i p = p
  fresh_step (Begin kid metadata announced state room) h q i p = by (two (eqb (seal_begin cipher h.store kid metadata announced state room).number 0))
    where
      by : Two (eqb (seal_begin cipher h.store kid metadata announced state room).number 0) → Fresh (step cipher (Begin kid metadata announced state room) h).log
      by (yes' t) = rw t p
      by (no' t) = rw t p
  fresh_step (Piece line piece room) h q i p = fresh-line line _ h.log p
  fresh_step (End line room) h q i p = fresh-line line _ h.log p
  fresh_step (CheckBegin metadata header announced state) h q i p = p
  fresh_step (CheckPiece state piece) h q i p = p
  fresh_step (CheckEnd state tag) h q i p = p

  pub run-fresh : (cs : List Call) (h : History) → AllTyped cs → Inv cipher lines h → Fresh h.log → Fresh (run cipher cs h).log
  unfolding run
  run-fresh [] h q i p = p
  run-fresh (c ∷ cs) h q i p = run-fresh cs (step cipher c h) q.1 (step_keeps cipher laws lines c h q.0 i) (fresh_step c h q.0 i p)

-- ---- from there to the claim

some-not-none : (a : Adding) (l : List Adding) → a ∷ l ≡ [] → ⊥
some-not-none a l e = let n = ap length e in omega arith

-- an Add for sending is among the senders of its KID
among : (kid : ℕ) (between earlier : List Event) (b : Adding) → b.role ≡ Sending → b.kid ≡ kid → senders kid (between ++ (added b ∷ earlier)) ≡ [] → ⊥
unfolding senders
among kid [] earlier b r k e =
    let t : is_sender kid b b.role ≡ true = ap (is_sender kid b) r ∙ eq-eqb b.kid kid k in
    some-not-none b (senders kid earlier) (rw t at e)
among kid (added a ∷ l) earlier b r k e = by (two (is_sender kid a a.role)) (among kid l earlier b r k)
  where
    by : Two (is_sender kid a a.role) → (senders kid (l ++ (added b ∷ earlier)) ≡ [] → ⊥) → ⊥
    by (yes' t) f = some-not-none a _ (rw t at e)
    by (no' t) f = f (rw t at e)
among kid (sealed x ∷ l) earlier b r k e = among kid l earlier b r k e
among kid (opened x ∷ l) earlier b r k e = among kid l earlier b r k e
among kid (other ∷ l) earlier b r k e = among kid l earlier b r k e

fresh_at : (later rest : List Event) (a : Adding) → Fresh (later ++ (added a ∷ rest)) → New a.role a.kid a.suite rest
fresh_at [] rest a p = p.0
fresh_at (added x ∷ later) rest a p = fresh_at later rest a p.1
fresh_at (sealed x ∷ later) rest a p = fresh_at later rest a p
fresh_at (opened x ∷ later) rest a p = fresh_at later rest a p
fresh_at (other ∷ later) rest a p = fresh_at later rest a p

pub fresh-never : (log : List Event) → Fresh log → NeverAgain log
fresh-never log p later between earlier a b e r k = among a.kid between earlier b r (sym k) (fresh_at later (between ++ (added b ∷ earlier)) a (rw e at p)).0

pub fresh-allowed : (log : List Event) → Fresh log → NoneBarred log
fresh-allowed log p later earlier a e = (fresh_at later earlier a (rw e at p)).1
