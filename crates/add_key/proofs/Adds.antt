-- SPDX-License-Identifier: MIT
-- What adding a key does to the table. Assumes nothing.
use mathlib.Core.Path.{◌≡◌, refl, sym, ◌∙◌, ap, ap₂}
use mathlib.Core.Bool.{Bool, true, false, not}
use mathlib.Core.List.{List, [], ◌∷◌}
use Prim.Native.Nat.{ℕ, ◌^◌, ◌<◌}
use native.Mathlib.Omega.{arith}
use lib.Dec.{leb}
use lib.ListN.{length}
use borrow.Author.Tests.{eq-eqb, not-false}
use Rattle.octets.specs.Octets.{Octets, both}
use Rattle.answers.specs.Answers.{store_invalid, suite_unknown, sending_barred, base_key_size, kid_held, store_full, ◌if◌, Outcome}
use Rattle.answers.specs.Limits.{base_key_least, base_key_most}
use Rattle.answers.proofs.Basics.{Settled, success, refusal, settle}
use Rattle.store.specs.Cipher.{Cipher}
use Rattle.key_record.specs.Record.{KeyRecord, empty, is_empty, holds}
use Rattle.store.specs.Store.{encode_all, stored}
use Rattle.key_record.specs.Suites.{is_suite}
use Rattle.store.specs.Table.{get, insert, full}
use Rattle.key_record.specs.declared.Role.{Role}
use Rattle.key_record.specs.declared.Role.TheVariants.{Sending, Receiving}
use Rattle.store.proofs.CipherLaws.{Laws}
use Rattle.key_record.proofs.Codec.{Secret, Fit, fresh-in-range}
use Rattle.store.proofs.Stores.{Stored, stored-sound, stored-records, Change, insert-change}
use Rattle.store.proofs.Tables.{empty-is}
use Rattle.add_key.specs.Add.{barred, added, add_causes, add_at, add}

added-holds : (cipher : Cipher) (role : Role) (kid suite : ℕ) (base : List ℕ) → holds kid (added cipher role kid suite base) ≡ true
unfolding holds added
added-holds cipher Sending kid suite base = eq-eqb kid kid refl
added-holds cipher Receiving kid suite base = eq-eqb kid kid refl

pub data AddStep (cipher : Cipher) (s : List ℕ) (rs : List KeyRecord) (role : Role) (kid suite : ℕ) (base : List ℕ) (o : Outcome) : Type 0 where
  done : o.number ≡ 0 → is_suite suite ≡ true → barred role suite ≡ false → get kid rs ≡ empty
      → Change kid (added cipher role kid suite base) rs (insert (added cipher role kid suite base) rs)
      → Stored o.store (insert (added cipher role kid suite base) rs) → AddStep cipher s rs role kid suite base o
  refused : (o.number ≡ 0 → ⊥) → o.store ≡ s → AddStep cipher s rs role kid suite base o

module _ (cipher : Cipher) (laws : Laws cipher) where
  derived : (suite kid : ℕ) (base : List ℕ) → Octets base → is_suite suite ≡ true → Secret suite (cipher.salt suite base kid) (cipher.key suite base kid)
  derived suite kid base o e = record {
    salt-length = laws.salt-length suite base kid e;
    salt-octets = laws.salt-octets suite base kid e o;
    key-length = laws.key-length suite base kid e;
    key-octets = laws.key-octets suite base kid e o;
  }

  added-fit : (role : Role) (kid suite : ℕ) (base : List ℕ) → kid < 2 ^ 64 → Octets base → is_suite suite ≡ true → Fit (added cipher role kid suite base)
  unfolding added
  added-fit Sending kid suite base h o e = (record { known = e; kid-below = h; counter-most = omega arith }, derived suite kid base o e)
  added-fit Receiving kid suite base h o e = (record { known = e; kid-below = h; counter-most = omega arith }, derived suite kid base o e, fresh-in-range)

  module _ (s : List ℕ) (rs : List KeyRecord) (t : Stored s rs) where
    add-on : (role : Role) (kid suite : ℕ) (base : List ℕ) → add cipher s role kid suite base ≡ add_at cipher true rs s role kid suite base
    unfolding add
    add-on role kid suite base = ap₂ (λ (v : Bool) (x : List KeyRecord). add_at cipher v x s role kid suite base) (stored-sound s rs t) (stored-records s rs t)

    pub add_step : (role : Role) (kid suite : ℕ) (base : List ℕ) → kid < 2 ^ 64 → Octets base → AddStep cipher s rs role kid suite base (add cipher s role kid suite base)
    unfolding add_at add_causes
    add_step role kid suite base h b =
        rw (add-on role kid suite base) (by (add_at cipher true rs s role kid suite base) (settle (add_causes true role suite (length base) (get kid rs) rs) s [] (stored (encode_all (insert new rs))) refl))
      where
        new : KeyRecord
        new = added cipher role kid suite base

        by : (o : Outcome) → Settled (add_causes true role suite (length base) (get kid rs) rs) s [] (stored (encode_all (insert (added cipher role kid suite base) rs))) o → AddStep cipher s rs role kid suite base o
        by o (refusal d r) = refused (λ e. d (sym r.number_is ∙ e)) r.store-stays
        by o (success p q) =
            let known : is_suite suite ≡ true = not-false (is_suite suite) p.1.0 in
            let free : is_empty (get kid rs) ≡ true = not-false (is_empty (get kid rs)) p.1.1.1.1.0 in
            let c = insert-change kid rs t.table new (added-fit role kid suite base h b known) (added-holds cipher role kid suite base) free p.1.1.1.1.1.0 in
            done (ap (λ (x : Outcome). x.number) q) known p.1.1.0 (empty-is (get kid rs) free) c
            (record { table = c.table; bytes-are = sym (ap (λ (x : Outcome). x.store) q) })

-- ---- the list of causes

-- written out, of the base key's bytes
pub add-causes-are : (valid : Bool) (role : Role) (held : KeyRecord) (rs : List KeyRecord) (suite : ℕ) (base : List ℕ)
    → add_causes valid role suite (length base) held rs
    ≡ (store_invalid if not valid)
    ∷ (suite_unknown if not (is_suite suite))
    ∷ (sending_barred if barred role suite)
    ∷ (base_key_size if not (both (leb base_key_least (length base)) (leb (length base) base_key_most)))
    ∷ (kid_held if not (is_empty held))
    ∷ (store_full if full rs)
    ∷ []
unfolding add_causes
add-causes-are valid role held rs suite base = refl
