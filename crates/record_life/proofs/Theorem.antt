-- SPDX-License-Identifier: MIT
-- Every cipher block once: no two of the inputs that are listed under one sending record are equal. Assumes nothing.
use mathlib.Core.Path.{◌≡◌, refl, sym, ◌∙◌, ap}
use mathlib.Core.Bool.{true}
use mathlib.Core.List.{List, [], ◌∷◌, ◌++◌}
use Prim.Native.Nat.{ℕ}
use Rattle.octets.specs.Octets.{Octets}
use Rattle.key_record.specs.Record.{KeyRecord, empty}
use Rattle.store_calls.specs.Calls.{make}
use Rattle.store.specs.Cipher.{Cipher}
use Rattle.store.specs.Sframe.{sframe}
use Rattle.store.specs.Store.{records, sound}
use Rattle.store.specs.Table.{get}
use Rattle.store.proofs.CipherLaws.{Laws}
use Rattle.store_calls.proofs.Keys.{make-stored}
use Rattle.store.proofs.Empties.{empties-get}
use Rattle.store.proofs.Stores.{Stored, sound-stored}
use Rattle.sframe.specs.History.{Call, AllTyped, History, outcome, step, start}
use Rattle.sframe.proofs.Suites.{suites-laws}
use Rattle.cipher_inputs.specs.Blocks.{Once}
use Rattle.record_life.specs.Life.{held_inputs, call_inputs, life_inputs}
use Rattle.record_life.proofs.Lives.{Good, good_none, held-good, move-good}
use Rattle.record_life.proofs.Moves.{Next, call-moves}

life-good : (cipher : Cipher) (laws : Laws cipher) (kid : ℕ) (cs : List Call) (h : History) (rs : List KeyRecord) → Stored h.store rs → AllTyped cs
    → Good cipher (get kid rs) (life_inputs cipher kid cs h)
unfolding life_inputs step
life-good cipher laws kid [] h rs st q = good_none cipher (get kid rs)
life-good cipher laws kid (c ∷ cs) h rs st q =
    let n = call-moves cipher kid h.store rs st laws c h.log q.0 in
    move-good cipher laws (get kid rs) (get kid n.table) (call_inputs cipher kid c h.store (outcome cipher c h.store h.log).number) (life_inputs cipher kid cs (step cipher c h)) n.moves
    (life-good cipher laws kid cs (step cipher c h) n.table n.is-stored q.1)

-- On any sound store, of any suite: over every list of calls, the hash key's input of the record that the store holds and the inputs of
-- the sealings begun under its KID. A sending record of suite 3 can only be one that a store already holds.
pub blocks-once-held : (s : List ℕ) → Octets s → sound s ≡ true → (calls : List Call) → AllTyped calls → (kid : ℕ)
    → Once (held_inputs (get kid (records s)) ++ life_inputs sframe kid calls (record { store = s; log = [] }))
blocks-once-held s o e calls typed kid =
    held-good sframe (get kid (records s)) (life_inputs sframe kid calls (record { store = s; log = [] }))
    (life-good sframe suites-laws kid calls (record { store = s; log = [] }) (records s) (sound-stored s o e) typed)

-- From making: over every list of calls on the store that a Make answering 0 leaves, all that is listed under a KID.
pub blocks-once : (s : List ℕ) → (make s).number ≡ 0 → (calls : List Call) → AllTyped calls → (kid : ℕ) → Once (life_inputs sframe kid calls (start s))
unfolding start
blocks-once s made calls typed kid =
    let m = make-stored s made in
    rw (empties-get kid m.count) at (life-good sframe suites-laws kid calls (start s) _ m.is-stored typed)
