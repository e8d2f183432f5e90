-- SPDX-License-Identifier: MIT
-- What opening does to the table. Assumes nothing.
use Rattle.std.specs.Prelude.{Option, Some, None}
use mathlib.Core.Path.{◌≡◌, refl, sym, ◌∙◌, ap, ap₂}
use mathlib.Core.Bool.{Bool, true, false, false≢true}
use mathlib.Core.List.{List, [], ◌++◌}
use Prim.Native.Nat.{ℕ, ◌^◌, ◌<◌}
use native.Mathlib.Omega.{arith}
use lib.ListN.{length, drop}
use Rattle.octets.specs.Octets.{Octets}
use Rattle.header.specs.Header.{read_header}
use Rattle.header.specs.Answers.{read_kid, read_ctr}
use Rattle.header.specs.declared.Header.{Header}
use Rattle.header.proofs.Laws.{header_read}
use Rattle.answers.specs.Answers.{Outcome}
use Rattle.answers.proofs.Basics.{Settled, success, refusal, settle}
use Rattle.window.specs.Window.{seen, too_old, moved}
use Rattle.window.specs.declared.Window.{Window}
use Rattle.window.proofs.Laws.{moved-fits, moved-below}
use Rattle.key_record.specs.Record.{ReceivingKey, KeyRecord, empty, sending, receiving, retired, holds, noted}
use Rattle.key_record.proofs.Codec.{InRange, Fit}
use Rattle.store.specs.Cipher.{Cipher}
use Rattle.store.specs.Store.{encode_all}
use Rattle.store.specs.Table.{get, put}
use Rattle.store.proofs.Stores.{Stored, stored-sound, stored-records, Change, put-change, get_fit}
use Rattle.store.proofs.Tables.{get_holds}
use Rattle.judge_open.specs.Open.{plain_of, decrypted, open_causes, causes_of_open, open_at, opening}

-- an Open that answered 0: what it found, and what it left
pub record Opened (rs : List KeyRecord) (kid ctr : ℕ) (o : Outcome) (r : ReceivingKey) (w : Window) : Type 0 where
  pub answers : o.number ≡ 0
  pub found : get kid rs ≡ receiving r w
  pub in-range : InRange w
  pub not_seen : seen w ctr ≡ false
  pub not-old : too_old w ctr ≡ false
  pub change : Change kid (receiving r (moved w ctr)) rs (put kid (receiving r (moved w ctr)) rs)
  pub store_is : Stored o.store (put kid (receiving r (moved w ctr)) rs)

pub data OpenStep (s : List ℕ) (rs : List KeyRecord) (kid ctr : ℕ) (o : Outcome) : Type 0 where
  done : (r : ReceivingKey) (w : Window) → Opened rs kid ctr o r w → OpenStep s rs kid ctr o
  refused : (o.number ≡ 0 → ⊥) → o.store ≡ s → OpenStep s rs kid ctr o

-- a frame's counter has 64 bits
ctr-below : (bytes : List ℕ) → Octets bytes → read_ctr (read_header bytes) < 2 ^ 64
ctr-below bytes o = by (read_header bytes) refl
  where
    by : (h : Option Header) → read_header bytes ≡ h → read_ctr (read_header bytes) < 2 ^ 64
    by (Some h) e = rw e (header_read bytes h.kid h.ctr h.length o e).ctr-below
    by None e = rw e (omega arith)

moved-in-range : (w : Window) (ctr : ℕ) → InRange w → seen w ctr ≡ false → too_old w ctr ≡ false → ctr < 2 ^ 64 → InRange (moved w ctr)
moved-in-range w ctr f a b h =
    let m = moved-below w ctr f.in_order_lem a b h f.highest-below f.mask_below in
    record { in_order_lem = moved-fits w ctr f.in_order_lem a b; highest-below = m.0; mask_below = m.1 }

moved_holds : (kid : ℕ) (r : ReceivingKey) (w v : Window) → holds kid (receiving r w) ≡ true → holds kid (receiving r v) ≡ true
unfolding holds
moved_holds kid r w v h = h

module _ (cipher : Cipher) (s : List ℕ) (rs : List KeyRecord) (t : Stored s rs) where
  pub open-on : (metadata bytes room : List ℕ)
      → opening cipher s metadata bytes room ≡ open_at cipher true (read_header bytes) (get (read_kid (read_header bytes)) rs) rs s metadata bytes room
  unfolding opening
  open-on metadata bytes room =
      ap₂ (λ (v : Bool) (x : List KeyRecord). open_at cipher v (read_header bytes) (get (read_kid (read_header bytes)) x) x s metadata bytes room)
      (stored-sound s rs t) (stored-records s rs t)

  module _ (metadata bytes room : List ℕ) (ob : Octets bytes) where
    outcome-of : KeyRecord → Outcome
    outcome-of held =
        let p = plain_of (decrypted cipher (read_header bytes) held metadata bytes) in
        record { number = 0; written = length p; store = encode_all (put (read_kid (read_header bytes)) (noted (read_ctr (read_header bytes)) held) rs); room = p ++ drop (length p) room; state = [] }

    opened-by : (o : Outcome) (held : KeyRecord) → get (read_kid (read_header bytes)) rs ≡ held → Settled (causes_of_open cipher true (read_header bytes) held metadata bytes room) s room (outcome-of held) o
        → OpenStep s rs (read_kid (read_header bytes)) (read_ctr (read_header bytes)) o
    unfolding causes_of_open open_causes outcome-of noted
    opened-by o held g (refusal d r) = refused (λ e. d (sym r.number_is ∙ e)) r.store-stays
    opened-by o empty g (success p q) = absurd (false≢true (sym p.1.1.0))
    opened-by o (sending r) g (success p q) = absurd (false≢true (sym p.1.1.1.0))
    opened-by o (retired r) g (success p q) = absurd (false≢true (sym p.1.1.1.0))
    opened-by o (receiving r w) g (success p q) =
        let kid = read_kid (read_header bytes) in
        let ctr = read_ctr (read_header bytes) in
        let f : Fit (receiving r w) = rw g at (get_fit kid rs t.table.fit) in
        let h : holds kid (receiving r w) ≡ true = rw g at (get_holds kid rs (rw g)) in
        let a = p.1.1.1.1.1.1.1.0 in
        let b = p.1.1.1.1.1.1.1.1.0 in
        let n = moved-in-range w ctr f.2 a b (ctr-below bytes ob) in
        let c = put-change kid rs t.table (receiving r (moved w ctr)) (f.0, f.1, n) (moved_holds kid r w (moved w ctr) h) (rw g) in
        done r w (record {
          answers = ap (λ (x : Outcome). x.number) q;
          found = g;
          in-range = f.2;
          not_seen = a;
          not-old = b;
          change = c;
          store_is = record { table = c.table; bytes-are = sym (ap (λ (x : Outcome). x.store) q) };
        })

    pub open_step : OpenStep s rs (read_kid (read_header bytes)) (read_ctr (read_header bytes)) (opening cipher s metadata bytes room)
    unfolding open_at causes_of_open open_causes outcome-of
    open_step =
        rw (open-on metadata bytes room)
        (opened-by (open_at cipher true (read_header bytes) (get (read_kid (read_header bytes)) rs) rs s metadata bytes room) (get (read_kid (read_header bytes)) rs) refl
        (settle (causes_of_open cipher true (read_header bytes) (get (read_kid (read_header bytes)) rs) metadata bytes room) s room (outcome-of (get (read_kid (read_header bytes)) rs)) refl))
