-- SPDX-License-Identifier: MIT
-- From what every list of calls keeps true to the claims about its sealed frames. Assumes nothing.
use mathlib.Core.Path.{◌≡◌, refl, sym, ◌∙◌, ap}
use mathlib.Core.List.{List, [], ◌∷◌, ◌++◌, append-nil, append_assoc}
use mathlib.Core.Bool.{Bool, true, false}
use Prim.Native.Nat.{ℕ, ◌+◌, ◌^◌, ◌<◌, ◌≤◌}
use native.Mathlib.Omega.{arith}
use lib.ListN.{length, take, drop, length-append, take-append-drop}
use lib.Seq.{take-length, take-append_seam, take_at}
use Rattle.octets.specs.Octets.{Octets}
use Rattle.octets.proofs.Laws.{octets-append}
use Rattle.header.specs.Answers.{read_number}
use Rattle.header.specs.Header.{header_of, header}
use Rattle.header.proofs.Laws.{header-begins}
use Rattle.store.specs.Cipher.{Cipher}
use Rattle.answers.proofs.Basics.{Two, yes', no', two}
use Rattle.store.proofs.CipherLaws.{Laws, Usable}
use Rattle.judge_open.specs.Open.{opening}
use Rattle.window.specs.Window.{seen, too_old}
use Rattle.judge_seal.specs.Frame.{frame_with, frame}
use Rattle.sframe.specs.Promises.{kid_of, ctr_of, Begins, is_sender, senders, OpenedTo, key_from, salt_from, nonce_of, Holds, Frame, Pair, Kept}
use Rattle.sframe.specs.History.{Adding, Sealing, Event, added, sealed, opened, other}
use Rattle.sframe.proofs.Facts.{Each, Lines, body_for, Fact, ctr-fits, fact-reads, fact-kid, fact-ctr, Below, Proper, header-octets, salt-size, salt-bytes, usable-for}
use Rattle.key_record.specs.Suites.{tag_size}
use Rattle.sframe.proofs.Opens.{opens-exactly}

-- ---- a place in the events

pub each_at : (P : Sealing → List Event → Type 0) (later earlier : List Event) (x : Sealing) → Each P (later ++ (sealed x ∷ earlier)) → P x earlier
each_at P [] earlier x p = p.0
each_at P (added a ∷ later) earlier x p = each_at P later earlier x p
each_at P (sealed y ∷ later) earlier x p = each_at P later earlier x p.1
each_at P (opened y ∷ later) earlier x p = each_at P later earlier x p
each_at P (other ∷ later) earlier x p = each_at P later earlier x p

pub each_after : (P : Sealing → List Event → Type 0) (later earlier : List Event) (x : Sealing) → Each P (later ++ (sealed x ∷ earlier)) → Each P earlier
each_after P [] earlier x p = p.1
each_after P (added a ∷ later) earlier x p = each_after P later earlier x p
each_after P (sealed y ∷ later) earlier x p = each_after P later earlier x p.1
each_after P (opened y ∷ later) earlier x p = each_after P later earlier x p
each_after P (other ∷ later) earlier x p = each_after P later earlier x p

senders-append : (kid : ℕ) (l m : List Event) → senders kid (l ++ m) ≡ senders kid l ++ senders kid m
unfolding senders
senders-append kid [] m = refl
senders-append kid (added a ∷ l) m = by (two (is_sender kid a a.role)) (senders-append kid l m)
  where
    by : Two (is_sender kid a a.role) → senders kid (l ++ m) ≡ senders kid l ++ senders kid m → senders kid (added a ∷ (l ++ m)) ≡ senders kid (added a ∷ l) ++ senders kid m
    by (yes' t) e = rw t (ap (λ (r : List Adding). a ∷ r) e)
    by (no' t) e = rw t e
senders-append kid (sealed x ∷ l) m = senders-append kid l m
senders-append kid (opened x ∷ l) m = senders-append kid l m
senders-append kid (other ∷ l) m = senders-append kid l m

-- a list of one that ends in b is b
one-is : (l : List Adding) (a b : Adding) → l ++ (b ∷ []) ≡ a ∷ [] → b ≡ a
one-is [] a b e = cc
one-is (c ∷ l) a b e = absurd (omega (arith, simp length-append at (ap length e)))

-- ---- the bytes of a frame

module _ (cipher : Cipher) (laws : Laws cipher) (lines : Lines cipher) (x : Sealing) (earlier : List Event) (f : Fact cipher lines x earlier) where
  abbrev hd : List ℕ
  hd = header f.kid f.ctr

  abbrev key : List ℕ
  key = key_from cipher f.add

  abbrev iv : List ℕ
  iv = cipher.nonce (salt_from cipher f.add) f.ctr

  usable : Usable f.add.suite key iv (hd ++ x.metadata)
  usable = usable-for cipher laws f.add f.known f.base-octets f.kid f.ctr x.metadata f.kid-below (ctr-fits cipher lines x earlier f) f.metadata-octets

  cut : List ℕ
  cut = lines.cut f.add.suite key iv x.plaintext

  tag : List ℕ
  unfolding cut
  tag = lines.tag f.add.suite key iv (hd ++ x.metadata) cut

  -- what stands after the header
  body : List ℕ
  body = body_for cipher lines f.add f.kid f.ctr x.metadata x.plaintext x.finished

  parts : x.frame ≡ hd ++ body
  unfolding body
  parts = f.frame_is

  -- the RFC's frame of the plaintext
  rfc : List ℕ
  rfc = frame cipher f.add.suite key (salt_from cipher f.add) (kid_of x) (ctr_of x) x.metadata x.plaintext

  rfc-is : rfc ≡ hd ++ (cut ++ tag)
  unfolding rfc frame frame_with cut tag
  rfc-is =
      (λ i. frame cipher f.add.suite key (salt_from cipher f.add) (fact-kid cipher lines x earlier f i) (fact-ctr cipher lines x earlier f i) x.metadata x.plaintext)
      ∙ ap (λ (z : List ℕ). hd ++ z) (lines.encrypt-is f.add.suite key iv (hd ++ x.metadata) x.plaintext usable)

  -- ---- one that is not finished

  head-length : length (header (kid_of x) (ctr_of x)) ≡ length hd
  head-length = λ i. length (header (fact-kid cipher lines x earlier f i) (fact-ctr cipher lines x earlier f i))

  so_far : x.finished ≡ false → x.frame ≡ take (length (header (kid_of x) (ctr_of x)) + length x.plaintext) rfc
  unfolding cut
  so_far e =
      let n : length (hd ++ cut) ≡ length (header (kid_of x) (ctr_of x)) + length x.plaintext = length-append hd cut ∙ (λ i. sym head-length i + lines.cut-length f.add.suite key iv (hd ++ x.metadata) x.plaintext usable i) in
      f.frame_is
      ∙ ap (λ (t : Bool). hd ++ body_for cipher lines f.add f.kid f.ctr x.metadata x.plaintext t) e
      ∙ ap (λ (z : List ℕ). hd ++ z) (append-nil cut)
      ∙ sym (take_at (hd ++ cut) tag (length (header (kid_of x) (ctr_of x)) + length x.plaintext) n)
      ∙ ap (take (length (header (kid_of x) (ctr_of x)) + length x.plaintext)) (append_assoc hd cut tag ∙ sym rfc-is)

  -- ---- one that is finished

  module _ (e : x.finished ≡ true) where
    whole-body : body ≡ cipher.encrypt f.add.suite key iv (hd ++ x.metadata) x.plaintext
    unfolding body
    whole-body =
        ap (body_for cipher lines f.add f.kid f.ctr x.metadata x.plaintext) e
        ∙ sym (lines.encrypt-is f.add.suite key iv (hd ++ x.metadata) x.plaintext usable)

    whole : x.frame ≡ rfc
    unfolding cut tag
    whole = f.frame_is ∙ ap (λ (t : Bool). hd ++ body_for cipher lines f.add f.kid f.ctr x.metadata x.plaintext t) e ∙ sym rfc-is

    frame-octets : Octets x.frame
    frame-octets =
        rw parts (octets-append hd body (header-octets f.kid f.ctr f.kid-below (ctr-fits cipher lines x earlier f))
        (rw whole-body (laws.encrypt-octets f.add.suite key iv (hd ++ x.metadata) x.plaintext usable f.plaintext-octets)))

    body-length : length x.frame ≡ length hd + (length x.plaintext + tag_size f.add.suite)
    body-length =
        ap length parts ∙ length-append hd body
        ∙ ap (λ (k : ℕ). length hd + k) (ap length whole-body ∙ laws.encrypt-length f.add.suite key iv (hd ++ x.metadata) x.plaintext usable f.plaintext-octets)

    -- the header that is received of it is the one that was written
    received : take (length hd) x.frame ≡ hd
    received = ap (take (length hd)) parts ∙ take-append_seam hd body

    behind : x.frame ≡ frame_with cipher f.add.suite key (salt_from cipher f.add) (take (length hd) x.frame) (ctr_of x) x.metadata x.plaintext
    unfolding frame_with
    behind =
        parts ∙ ap (λ (z : List ℕ). hd ++ z) whole-body
        ∙ (λ i. frame_with cipher f.add.suite key (salt_from cipher f.add) (sym received i) (sym (fact-ctr cipher lines x earlier f) i) x.metadata x.plaintext)

    frame-opens : (s room : List ℕ) (h : Holds s (record { suite = f.add.suite; kid = kid_of x; salt = salt_from cipher f.add; key = key_from cipher f.add })) → length x.plaintext ≤ length room
        → seen h.window (ctr_of x) ≡ false → too_old h.window (ctr_of x) ≡ false → OpenedTo x.plaintext (opening cipher s x.metadata x.frame room)
    frame-opens s room h r new young =
        let n = body-length in
        (opens-exactly cipher laws s x.metadata x.frame room (record { suite = f.add.suite; kid = kid_of x; salt = salt_from cipher f.add; key = key_from cipher f.add }) (ctr_of x) (length hd)
        (record {
          offered = record {
            held = h;
            metadata-octets = f.metadata-octets;
            bytes-octets = frame-octets;
            header_is =
                fact-reads cipher lines x earlier f
                ∙ (λ i. header_of (record { 0 = sym (fact-kid cipher lines x earlier f) i }) (record { 0 = sym (fact-ctr cipher lines x earlier f) i }) (length hd));
            plaintext-most = omega (arith, f.plaintext-most, f.announced-most);
            metadata-most = f.metadata-most;
            room-enough = omega arith;
          };
          not_seen = new;
          not-old = young;
        })).yields (record { plaintext = x.plaintext; octets = f.plaintext-octets; is-frame = behind })

  pub frame-holds : Frame cipher x earlier
  unfolding rfc
  frame-holds = record {
    header_read = ap read_number (fact-reads cipher lines x earlier f);
    add = f.add;
    only = ap (λ (k : ℕ). senders k earlier) (fact-kid cipher lines x earlier f) ∙ f.only;
    its-kid = f.add-kid ∙ sym (fact-kid cipher lines x earlier f);
    begun-under = so_far;
    sealed-under = whole;
    opens = frame-opens;
  }

-- ---- two frames

module _ (cipher : Cipher) (laws : Laws cipher) (lines : Lines cipher) (x y : Sealing) (before-x before-y : List Event) (f : Fact cipher lines x before-x) (g : Fact cipher lines y before-y) where
  -- frames of which one begins the other carry the same KID and counter
  same_start : (rest : List ℕ) → y.frame ≡ x.frame ++ rest → (kid_of x ≡ kid_of y) × (ctr_of x ≡ ctr_of y)
  same_start rest e =
      let b = header-begins f.kid f.ctr g.kid g.ctr (body cipher laws lines x before-x f ++ rest) (body cipher laws lines y before-y g) f.kid-below (ctr-fits cipher lines x before-x f) g.kid-below (ctr-fits cipher lines y before-y g)
      (sym (append_assoc (header f.kid f.ctr) (body cipher laws lines x before-x f) rest)
      ∙ ap (λ (l : List ℕ). l ++ rest) (sym (parts cipher laws lines x before-x f))
      ∙ sym e
      ∙ parts cipher laws lines y before-y g)
      in
      (fact-kid cipher lines x before-x f ∙ b.0 ∙ sym (fact-kid cipher lines y before-y g), fact-ctr cipher lines x before-x f ∙ b.1 ∙ sym (fact-ctr cipher lines y before-y g))

  begins-same : Begins x y → (kid_of x ≡ kid_of y) × (ctr_of x ≡ ctr_of y)
  begins-same e =
      same_start (drop (length x.frame) y.frame)
      (sym (take-append-drop (length x.frame) y.frame) ∙ ap (λ (l : List ℕ). l ++ drop (length x.frame) y.frame) e)

-- y was sealed before x
module _ (cipher : Cipher) (laws : Laws cipher) (lines : Lines cipher) (x y : Sealing) (between earlier : List Event)
    (f : Fact cipher lines x (between ++ (sealed y ∷ earlier))) (g : Fact cipher lines y earlier) (below : Below x y earlier) where
  never-same : kid_of x ≡ kid_of y → ctr_of x ≡ ctr_of y → ⊥
  never-same k c = omega (arith, below (sym k))

  one-add : kid_of x ≡ kid_of y → (a b : Adding) → senders (kid_of x) (between ++ (sealed y ∷ earlier)) ≡ a ∷ [] → senders (kid_of y) earlier ≡ b ∷ [] → b ≡ a
  unfolding senders
  one-add k a b p q =
      one-is (senders (kid_of x) between) a b
      (ap (λ (l : List Adding). senders (kid_of x) between ++ l) (sym q ∙ ap (λ (j : ℕ). senders j earlier) (sym k))
      ∙ sym (senders-append (kid_of x) between (sealed y ∷ earlier))
      ∙ p)

  the-add : (a : Adding) → senders (kid_of x) (between ++ (sealed y ∷ earlier)) ≡ a ∷ [] → f.add ≡ a
  the-add a p = one-is [] a f.add (sym f.only ∙ ap (λ (k : ℕ). senders k (between ++ (sealed y ∷ earlier))) (sym (fact-kid cipher lines x (between ++ (sealed y ∷ earlier)) f)) ∙ p)

  nonces : kid_of x ≡ kid_of y → (a b : Adding) → senders (kid_of x) (between ++ (sealed y ∷ earlier)) ≡ a ∷ [] → senders (kid_of y) earlier ≡ b ∷ []
      → nonce_of cipher a x ≡ nonce_of cipher b y → ⊥
  nonces k a b p q e =
      let ba = one-add k a b p q in
      let fa = the-add a p in
      let lx : ctr_of x < 2 ^ 64 = rw (fact-ctr cipher lines x (between ++ (sealed y ∷ earlier)) f) (ctr-fits cipher lines x (between ++ (sealed y ∷ earlier)) f) in
      let ly : ctr_of y < 2 ^ 64 = rw (fact-ctr cipher lines y earlier g) (ctr-fits cipher lines y earlier g) in
      never-same k (laws.nonce-apart (salt_from cipher f.add) (ctr_of x) (ctr_of y)
      (salt-size cipher laws f.add f.known f.base-octets)
      (salt-bytes cipher laws f.add f.known f.base-octets) lx ly
      (ap (λ (d : Adding). nonce_of cipher d x) fa ∙ e ∙ ap (λ (d : Adding). nonce_of cipher d y) (ba ∙ sym fa)))

  pub pair-holds : Pair cipher x (between ++ (sealed y ∷ earlier)) y earlier
  pair-holds = record {
    pairs-apart = never-same;
    nonces-apart = nonces;
    not_equal = λ e. apart (ap (λ (n : ℕ). take n y.frame) (ap length e) ∙ take-length y.frame ∙ sym e);
    not-begins = apart;
    not-begun = λ e. let b = begins-same cipher laws lines y x earlier (between ++ (sealed y ∷ earlier)) g f e in never-same (sym b.0) (sym b.1);
  }
    where
      apart : Begins x y → ⊥
      apart e = let b = begins-same cipher laws lines x y (between ++ (sealed y ∷ earlier)) earlier f g e in never-same b.0 b.1

module _ (cipher : Cipher) (laws : Laws cipher) (lines : Lines cipher) where
  pub kept : (log : List Event) → Each (Proper cipher lines) log → Kept cipher log
  kept log p = record {
    every-frame = λ later earlier x e. frame-holds cipher laws lines x earlier (each_at (Proper cipher lines) later earlier x (rw e at p)).0;
    every-pair = λ later between earlier x y e.
        let l = between ++ (sealed y ∷ earlier) in
        let px = each_at (Proper cipher lines) later l x (rw e at p) in
        let py = each_at (Proper cipher lines) between earlier y (each_after (Proper cipher lines) later l x (rw e at p)) in
        pair-holds cipher laws lines x y between earlier px.0 py.0 (each_at (Below x) between earlier y px.1);
  }
