-- SPDX-License-Identifier: MIT
-- What a call of a line keeps of the events before it. Assumes nothing.
use mathlib.Core.Path.{◌≡◌, refl, ap, sym, ◌∙◌, subst}
use mathlib.Core.Bool.{Bool, true, false, false≢true}
use mathlib.Core.List.{List, [], ◌∷◌, ◌++◌, append-nil, append_assoc}
use Prim.Native.Nat.{ℕ, ◌+◌, ◌≤◌, ◌<◌}
use native.Mathlib.Omega.{arith}
use lib.Dec.{eqb}
use lib.ListN.{length, take, length-append}
use borrow.Author.Tests.{eq-eqb, ne_eqb}
use Rattle.octets.specs.Octets.{Octets, pick}
use Rattle.octets.proofs.Laws.{octets-append}
use Rattle.header.specs.Header.{header}
use Rattle.answers.specs.Answers.{Outcome}
use Rattle.answers.proofs.Basics.{Two, yes', no', two}
use Rattle.pieces.specs.Calls.{Result, seal_piece, seal_end}
use Rattle.store.specs.Cipher.{Cipher}
use Rattle.store.proofs.CipherLaws.{Laws}
use Rattle.sframe.specs.Promises.{kid_of, ctr_of, is_sender, senders, key_from, salt_from}
use Rattle.sframe.specs.History.{Adding, Sealing, Event, added, sealed, opened, other, on_line, state_on, pieced, ended, beside}
use Rattle.sframe.proofs.Facts.{Each, each_map, each_both, Given, Moved, Closed, Step, refused, done, Lines, LineOf, whole, running, body_for, state_for, Fact, ctr-fits, fact-kid, fact-ctr, Below, Proper, given-for}

-- ---- the events of others

pub senders-line : (kid n : ℕ) (f : Sealing → Sealing) (log : List Event) → senders kid (on_line n f log) ≡ senders kid log
unfolding senders on_line
senders-line kid n f [] = refl
senders-line kid n f (e ∷ log) = by e (two (eqb (length log) n)) (senders-line kid n f log)
  where
    by : (e : Event) → Two (eqb (length log) n) → senders kid (on_line n f log) ≡ senders kid log → senders kid (on_line n f (e ∷ log)) ≡ senders kid (e ∷ log)
    by (added a) (yes' t) r = rw t
    by (sealed x) (yes' t) r = rw t
    by (opened x) (yes' t) r = rw t
    by other (yes' t) r = rw t
    by (added a) (no' t) r = rw t (ap (λ (l : List Adding). pick (is_sender kid a a.role) (a ∷ l) l) r)
    by (sealed x) (no' t) r = rw t r
    by (opened x) (no' t) r = rw t r
    by other (no' t) r = rw t r

-- ---- the sealing of a line

-- a property of each sealing is kept on a line, where the change keeps it of the sealing with that state and it does not see the changes
-- of earlier ones
module _ (P : Sealing → List Event → Type 0) (n : ℕ) (f : Sealing → Sealing) where
  pub each_line : (log : List Event) → ((x : Sealing) (l : List Event) → x.state ≡ state_on n log → P x l → P (f x) l)
      → ((x : Sealing) (l : List Event) → P x l → P x (on_line n f l)) → Each P log → Each P (on_line n f log)
  unfolding on_line state_on
  each_line [] h k p = tt
  each_line (e ∷ log) h k p = by e (two (eqb (length log) n)) h p (each_line log)
    where
      by : (e : Event) → Two (eqb (length log) n) → ((x : Sealing) (l : List Event) → x.state ≡ state_on n (e ∷ log) → P x l → P (f x) l) → Each P (e ∷ log)
          → (((x : Sealing) (l : List Event) → x.state ≡ state_on n log → P x l → P (f x) l) → ((x : Sealing) (l : List Event) → P x l → P x (on_line n f l)) → Each P log → Each P (on_line n f log))
          → Each P (on_line n f (e ∷ log))
      by (added a) (yes' t) h p r = rw t p
      by (sealed x) (yes' t) h p r = rw t (h x log (rw t) p.0, p.1)
      by (opened x) (yes' t) h p r = rw t p
      by other (yes' t) h p r = rw t p
      by (added a) (no' t) h p r = rw t (r (λ x l q. h x l (rw t q)) k p)
      by (sealed x) (no' t) h p r = rw t (k x log p.0, r (λ x l q. h x l (rw t q)) k p.1)
      by (opened x) (no' t) h p r = rw t (r (λ x l q. h x l (rw t q)) k p)
      by other (no' t) h p r = rw t (r (λ x l q. h x l (rw t q)) k p)

-- a change that leaves a sealing with its KID and counter
pub record Keeps (cipher : Cipher) (lines : Lines cipher) (x y : Sealing) (l : List Event) : Type 0 where
  pub fact : Fact cipher lines y l
  pub same-kid : kid_of y ≡ kid_of x
  pub same-ctr : ctr_of y ≡ ctr_of x

module _ (cipher : Cipher) (lines : Lines cipher) (n : ℕ) (f : Sealing → Sealing) where
  -- a fact does not see the changes of earlier sealings
  fact-past : (x : Sealing) (l : List Event) → Fact cipher lines x l → Fact cipher lines x (on_line n f l)
  fact-past x l p = record {
    kid = p.kid;
    ctr = p.ctr;
    add = p.add;
    kid-below = p.kid-below;
    ctr-below = p.ctr-below;
    only = senders-line p.kid n f l ∙ p.only;
    add-kid = p.add-kid;
    known = p.known;
    base-octets = p.base-octets;
    metadata-octets = p.metadata-octets;
    metadata-most = p.metadata-most;
    plaintext-octets = p.plaintext-octets;
    announced-most = p.announced-most;
    plaintext-most = p.plaintext-most;
    full = p.full;
    frame_is = p.frame_is;
    tail = p.tail;
    line = p.line;
  }

  -- a property of KID and counter alone is kept
  pub line-keeps : (Q : ℕ → ℕ → Type 0) (log : List Event) → ((x : Sealing) (l : List Event) → x.state ≡ state_on n log → Fact cipher lines x l → Keeps cipher lines x (f x) l)
      → Each (Fact cipher lines) log → Each (λ (y : Sealing) (l : List Event). Q (kid_of y) (ctr_of y)) log → Each (λ (y : Sealing) (l : List Event). Q (kid_of y) (ctr_of y)) (on_line n f log)
  line-keeps Q log keep p q =
      each_map (λ (y : Sealing) (l : List Event). Fact cipher lines y l × Q (kid_of y) (ctr_of y)) (λ (y : Sealing) (l : List Event). Q (kid_of y) (ctr_of y)) (λ y l z. z.1) (on_line n f log)
      (each_line (λ (y : Sealing) (l : List Event). Fact cipher lines y l × Q (kid_of y) (ctr_of y)) n f log
      (λ y l s z. let k = keep y l s z.0 in (k.fact, rw (k.same-kid, k.same-ctr) z.1))
      (λ y l z. (fact-past y l z.0, z.1))
      (each_both (Fact cipher lines) (λ (y : Sealing) (l : List Event). Q (kid_of y) (ctr_of y)) log p q))

  abbrev Keep : List Event → Type 0
  Keep log = (x : Sealing) (l : List Event) → x.state ≡ state_on n log → Fact cipher lines x l → Keeps cipher lines x (f x) l

  facts : (log : List Event) → Each (Proper cipher lines) log → Each (Fact cipher lines) log
  facts log p = each_map (Proper cipher lines) (Fact cipher lines) (λ x l q. q.0) log p

  pub proper-line : (log : List Event) → Keep log → Each (Proper cipher lines) log → Each (Proper cipher lines) (on_line n f log)
  unfolding on_line state_on
  proper-line [] keep p = tt
  proper-line (e ∷ log) keep p = by e (two (eqb (length log) n)) keep p (proper-line log)
    where
      by : (e : Event) → Two (eqb (length log) n) → Keep (e ∷ log) → Each (Proper cipher lines) (e ∷ log)
          → (Keep log → Each (Proper cipher lines) log → Each (Proper cipher lines) (on_line n f log)) → Each (Proper cipher lines) (on_line n f (e ∷ log))
      by (added a) (yes' t) keep p r = rw t p
      by (sealed x) (yes' t) keep p r =
          let k = keep x log (rw t) p.0.0 in
          rw t ((k.fact, each_map (Below x) (Below (f x)) (λ y l b e. rw k.same-ctr (b (e ∙ k.same-kid))) log p.0.1), p.1)
      by (opened x) (yes' t) keep p r = rw t p
      by other (yes' t) keep p r = rw t p
      by (added a) (no' t) keep p r = rw t (r (λ x l q. keep x l (rw t q)) p)
      by (sealed x) (no' t) keep p r =
          let past : Keep log = λ x l q. keep x l (rw t q) in
          rw t ((fact-past x log p.0.0, line-keeps (λ (k c : ℕ). k ≡ kid_of x → c < ctr_of x) log past (facts log p.1) p.0.1), r past p.1)
      by (opened x) (no' t) keep p r = rw t (r (λ x l q. keep x l (rw t q)) p)
      by other (no' t) keep p r = rw t (r (λ x l q. keep x l (rw t q)) p)

-- ---- a piece, and an end

pub none : (q : List ℕ) → length q ≡ 0 → q ≡ []
none [] e = refl
none (x ∷ q) e = absurd (omega arith)

module _ (cipher : Cipher) (laws : Laws cipher) (lines : Lines cipher) (x : Sealing) (l : List Event) (f : Fact cipher lines x l) where
  -- the same sealing with a fact of the same KID and counter
  keeps-by : (y : Sealing) (g : Fact cipher lines y l) → g.kid ≡ f.kid → g.ctr ≡ f.ctr → Keeps cipher lines x y l
  keeps-by y g k c = record {
    fact = g;
    same-kid = fact-kid cipher lines y l g ∙ k ∙ sym (fact-kid cipher lines x l f);
    same-ctr = fact-ctr cipher lines y l g ∙ c ∙ sym (fact-ctr cipher lines x l f);
  }

  -- more of the plaintext, more of the frame
  grown : (plaintext frame state : List ℕ) (finished : Bool) → Octets plaintext → length plaintext ≤ x.announced → (finished ≡ true → length plaintext ≡ x.announced)
      → frame ≡ header f.kid f.ctr ++ body_for cipher lines f.add f.kid f.ctr x.metadata plaintext finished
      → state ≡ state_for cipher lines f.add f.kid f.ctr x.announced x.metadata plaintext f.tail
      → Keeps cipher lines x (record { metadata = x.metadata; announced = x.announced; plaintext = plaintext; frame = frame; finished = finished; state = state }) l
  grown plaintext frame state finished o h full e s =
      keeps-by (record { metadata = x.metadata; announced = x.announced; plaintext = plaintext; frame = frame; finished = finished; state = state })
      (record {
        kid = f.kid;
        ctr = f.ctr;
        add = f.add;
        kid-below = f.kid-below;
        ctr-below = f.ctr-below;
        only = f.only;
        add-kid = f.add-kid;
        known = f.known;
        base-octets = f.base-octets;
        metadata-octets = f.metadata-octets;
        metadata-most = f.metadata-most;
        plaintext-octets = o;
        announced-most = f.announced-most;
        plaintext-most = h;
        full = full;
        frame_is = e;
        tail = f.tail;
        line = running s;
      }) refl refl

  same : Keeps cipher lines x x l
  same = record { fact = f; same-kid = refl; same-ctr = refl }

  suite : ℕ
  suite = f.add.suite

  abbrev key : List ℕ
  key = key_from cipher f.add

  abbrev iv : List ℕ
  iv = cipher.nonce (salt_from cipher f.add) f.ctr

  abbrev aad : List ℕ
  aad = header f.kid f.ctr ++ x.metadata

  abbrev hd : List ℕ
  hd = header f.kid f.ctr

  abbrev ct : List ℕ → List ℕ
  ct p = lines.cut f.add.suite key iv p

  given : Given f.add.suite key iv aad x.announced
  given = given-for cipher laws f.add f.known f.base-octets f.kid f.ctr x.announced x.metadata f.kid-below (ctr-fits cipher lines x l f) f.metadata-octets f.metadata-most f.announced-most

  -- what stands of a frame that is not finished
  unfinished : x.finished ≡ false → x.frame ≡ hd ++ ct x.plaintext
  unfinished e =
      f.frame_is ∙ ap (λ (t : Bool). hd ++ body_for cipher lines f.add f.kid f.ctr x.metadata x.plaintext t) e
      ∙ ap (λ (z : List ℕ). hd ++ z) (append-nil (ct x.plaintext))

  module _ (s : List ℕ) where
    module _ (q : List ℕ) (oq : Octets q) (r : Result) where
      moved_keeps : Moved f.add.suite key iv aad x.announced (length x.plaintext) q (ct x.plaintext) (ct (x.plaintext ++ q)) f.tail r → Keeps cipher lines x (pieced q (beside s r) x) l
      moved_keeps m = rw (eq-eqb r.number 0 m.answers) (by x.finished refl)
        where
          p : List ℕ
          p = x.plaintext

          w : List ℕ
          w = take r.written r.room

          fits : length (x.plaintext ++ q) ≤ x.announced
          fits = rw (length-append x.plaintext q) m.fits

          by : (t : Bool) → x.finished ≡ t
              → Keeps cipher lines x (record { metadata = x.metadata; announced = x.announced; plaintext = x.plaintext ++ q; frame = x.frame ++ take r.written r.room; finished = x.finished; state = r.state }) l
          by false e =
              grown (x.plaintext ++ q) (x.frame ++ w) r.state x.finished (octets-append x.plaintext q f.plaintext-octets oq) fits (λ g. absurd (false≢true (sym e ∙ g)))
              (ap (λ (z : List ℕ). z ++ w) (unfinished e) ∙ append_assoc hd (ct p) w ∙ ap (λ (z : List ℕ). hd ++ z) (sym m.more ∙ sym (append-nil (ct (p ++ q))))
              ∙ ap (λ (t : Bool). hd ++ body_for cipher lines f.add f.kid f.ctr x.metadata (p ++ q) t) (sym e))
              m.state-is
          by true e =
              let z : q ≡ [] = none q (omega (arith, f.full e, m.fits)) in
              let nothing : w ≡ [] = ap (λ (k : ℕ). take k r.room) (m.wrote ∙ ap length z) in
              let all : p ++ q ≡ p = ap (λ (k : List ℕ). p ++ k) z ∙ append-nil p in
              grown (x.plaintext ++ q) (x.frame ++ w) r.state x.finished (octets-append x.plaintext q f.plaintext-octets oq) fits (λ g. ap length all ∙ f.full g)
              (ap (λ (k : List ℕ). x.frame ++ k) nothing ∙ append-nil x.frame ∙ f.frame_is
              ∙ ap (λ (k : List ℕ). hd ++ body_for cipher lines f.add f.kid f.ctr x.metadata k x.finished) (sym all))
              m.state-is

    pub piece-keeps : (q room : List ℕ) → Octets q → Keeps cipher lines x (pieced q (beside s (seal_piece x.state q room)) x) l
    piece-keeps q room oq = by f.line
      where
        stays : (r : Result) → (r.number ≡ 0 → ⊥) → Keeps cipher lines x (pieced q (beside s r) x) l
        stays r d = rw (ne_eqb r.number 0 d) same

        by : LineOf (state_for cipher lines f.add f.kid f.ctr x.announced x.metadata x.plaintext f.tail) x.state → Keeps cipher lines x (pieced q (beside s (seal_piece x.state q room)) x) l
        by (whole e) = stays (seal_piece x.state q room) (rw e (lines.piece-none q room))
        by (running e) = subst (λ (z : List ℕ). Keeps cipher lines x (pieced q (beside s (seal_piece z q room)) x) l) (sym e) (on _ (lines.piece-step f.add.suite key iv aad x.announced given x.plaintext q f.tail room f.plaintext-most))
          where
            on : (r : Result) → Step (Moved f.add.suite key iv aad x.announced (length x.plaintext) q (ct x.plaintext) (ct (x.plaintext ++ q)) f.tail r) r → Keeps cipher lines x (pieced q (beside s r) x) l
            on r (refused d) = stays r d
            on r (done m) = moved_keeps q oq r m

    module _ (r : Result) (m : Closed x.announced (length x.plaintext) (lines.tag f.add.suite key iv aad (ct x.plaintext)) (state_for cipher lines f.add f.kid f.ctr x.announced x.metadata x.plaintext f.tail) r) where
      closed-keeps : Keeps cipher lines x (ended (beside s r) x) l
      closed-keeps = rw (eq-eqb r.number 0 m.answers) (by x.finished refl)
        where
          y : Sealing
          y = record { metadata = x.metadata; announced = x.announced; plaintext = x.plaintext; frame = x.frame ++ take r.written r.room; finished = true; state = r.state }

          by : (t : Bool) → x.finished ≡ t → Keeps cipher lines x (pick x.finished x y) l
          by true e = subst (λ (t : Bool). Keeps cipher lines x (pick t x y) l) (sym e) same
          by false e =
              subst (λ (t : Bool). Keeps cipher lines x (pick t x y) l) (sym e)
              (grown x.plaintext (x.frame ++ take r.written r.room) r.state true f.plaintext-octets f.plaintext-most (λ g. m.full)
              (ap (λ (z : List ℕ). z ++ take r.written r.room) (unfinished e) ∙ append_assoc hd (ct x.plaintext) (take r.written r.room) ∙ ap (λ (z : List ℕ). hd ++ (ct x.plaintext ++ z)) m.tag_is)
              m.state-is)

    pub end-keeps : (room : List ℕ) → Keeps cipher lines x (ended (beside s (seal_end x.state room)) x) l
    end-keeps room = by f.line
      where
        stays : (r : Result) → (r.number ≡ 0 → ⊥) → Keeps cipher lines x (ended (beside s r) x) l
        stays r d = rw (ne_eqb r.number 0 d) same

        by : LineOf (state_for cipher lines f.add f.kid f.ctr x.announced x.metadata x.plaintext f.tail) x.state → Keeps cipher lines x (ended (beside s (seal_end x.state room)) x) l
        by (whole e) = stays (seal_end x.state room) (rw e (lines.end_none room))
        by (running e) = subst (λ (z : List ℕ). Keeps cipher lines x (ended (beside s (seal_end z room)) x) l) (sym e) (on _ (lines.end_step f.add.suite key iv aad x.announced given x.plaintext f.tail room f.plaintext-most))
          where
            on : (r : Result)
                → Step (Closed x.announced (length x.plaintext) (lines.tag f.add.suite key iv aad (ct x.plaintext)) (state_for cipher lines f.add f.kid f.ctr x.announced x.metadata x.plaintext f.tail) r) r
                → Keeps cipher lines x (ended (beside s r) x) l
            on r (refused d) = stays r d
            on r (done m) = closed-keeps r m
