-- SPDX-License-Identifier: MIT
-- What the code of a line comes to, over plain variables. Assumes nothing.
use Rattle.std.specs.Prelude.{Option, Some, None}
use mathlib.Core.Path.{◌≡◌, refl, sym, ◌∙◌, ap, ap₂, subst}
use mathlib.Core.Bool.{Bool, true, false, not}
use mathlib.Core.List.{List, [], ◌∷◌, ◌++◌, append-nil, append_assoc}
use Prim.Native.Nat.{ℕ, zero, suc, ◌+◌, ◌*◌, ◌%◌, ◌-◌, ◌<◌, ◌≤◌}
use native.Mathlib.Nat.{zero-add}
use native.Mathlib.Omega.{arith}
use borrow.Author.Tests.{le-leb, lt-leb, eq-eqb, ne_eqb, leb-true, not-true, not-false}
use borrow.Rule.Slice.PartMut.{put_mid}
use lib.Bits.{bit_xor}
use lib.Dec.{leb, eqb}
use lib.ListN.{length, get_or, take, drop, replicate, length-append, length-drop, drop_of_length-le}
use lib.Seq.{drop_at, take-take, take-append-le, drop-drop, length-take-le}
use Rattle.octets.specs.Octets.{number, bytes, xors, pasted, both, pick}
use Rattle.octets.proofs.Laws.{part-rest, bytes-length}
use Rattle.sha2_common.specs.Sha2.{hash}
use Rattle.sha2_common.specs.Sizes.{sha256}
use Rattle.hmac.specs.Hmac.{extended, masked, opad}
use Rattle.aes_keys.specs.Inner.Keys.{Context, Ready, key_of}
use Rattle.ghash.specs.Ghash.{product, pair}
use Rattle.ghash.specs.Inner.HashKey.{HashKey, hash_key_of}
use Rattle.ghash.proofs.Laws.{hash-key-of}
use Rattle.gcm.specs.Counter.{counter_block}
use Rattle.gcm.specs.Gcm.{hash_key}
use Rattle.gcm_batch.specs.Inner.Front.{Front}
use Rattle.suites.specs.declared.sizes.Suite.{Suite}
use Rattle.suites.specs.declared.sizes.Mode.{Mode}
use Rattle.suites.specs.declared.sizes.Mode.TheVariants.{CtrHmac, Gcm}
use Rattle.suites.specs.Suites.{Nk, Nt, mode_of, suite_of}
use Rattle.aead.specs.Aead.{cipher_key, auth_key, first_count}
use Rattle.suites.proofs.Laws.{Nk-most, Nt-most, ctr-sizes}
use Rattle.aead.proofs.Laws.{whole-key}
use Rattle.piece_stream.specs.CounterFrom.{ctr_from}
use Rattle.piece_stream.proofs.Laws.{from-length}
use Rattle.piece_hash.specs.Held.{fed_hash, digest_of, fed_blocks, blocks_of}
use Rattle.answers.specs.Limits.{max_plaintext}
use Rattle.piece_line.specs.State.{state_size, max_aad, kind_in, suite_in, aad_in, announced_in, taken_in, nonce_in, key_in, hash_in, counts_fit, fits, line_of}
use Rattle.piece_line.specs.Line.{before, hash_more, after, cipher_piece, tag_from, tag_in}

-- ---- fields

pub field-read : (s : List ℕ) (i n r : ℕ) → r ≡ number n (take (length s - i) (drop i s)) → r ≡ number n (drop i s)
field-read s i n r e = e ∙ ap (number n) (part-rest i s)

module _ (s : List ℕ) where
  pub counts-few : aad_in s < 1 → false ≡ counts_fit s
  unfolding counts_fit
  counts-few h = rw (lt-leb 1 (aad_in s) h)

  pub counts-many : max_aad < aad_in s → false ≡ counts_fit s
  unfolding counts_fit
  counts-many h = rw (le-leb 1 (aad_in s) (omega arith), lt-leb (aad_in s) max_aad h)

  pub counts-long : 1 ≤ aad_in s → aad_in s ≤ max_aad → max_plaintext < announced_in s → false ≡ counts_fit s
  unfolding counts_fit
  counts-long h k l = rw (le-leb 1 (aad_in s) h, le-leb (aad_in s) max_aad k, lt-leb (announced_in s) max_plaintext l)

  pub counts-last : (r : Bool) → 1 ≤ aad_in s → aad_in s ≤ max_aad → announced_in s ≤ max_plaintext → r ≡ leb (taken_in s) (announced_in s) → r ≡ counts_fit s
  unfolding counts_fit
  counts-last r h k l e = rw (le-leb 1 (aad_in s) h, le-leb (aad_in s) max_aad k, le-leb (announced_in s) max_plaintext l) e

  pub line-short : (kind : ℕ) → length s < 168 → None ≡ line_of kind s
  unfolding line_of fits
  line-short kind h = rw (lt-leb 168 (length s) h)

  pub line-kind : (kind : ℕ) → 168 ≤ length s → (kind_in s ≡ kind → ⊥) → None ≡ line_of kind s
  unfolding line_of fits
  line-kind kind h d = rw (le-leb 168 (length s) h, ne_eqb (kind_in s) kind d)

  pub line-counts : (kind : ℕ) (r : Bool) → 168 ≤ length s → kind_in s ≡ kind → r ≡ counts_fit s → not r ≡ true → None ≡ line_of kind s
  unfolding line_of fits
  line-counts kind r h d e n =
      let f : counts_fit s ≡ false = sym e ∙ not-true r n in
      rw (le-leb 168 (length s) h, eq-eqb (kind_in s) kind d, f)

  pub line-found : (kind n : ℕ) (r : Bool) (f : Option Suite) → 168 ≤ length s → kind_in s ≡ kind → r ≡ counts_fit s → not r ≡ false → n ≡ get_or s 1 0
      → f ≡ suite_of n → f ≡ line_of kind s
  unfolding line_of fits
  line-found kind n r f h d e m w g =
      let c : counts_fit s ≡ true = sym e ∙ not-false r m in
      rw (le-leb 168 (length s) h, eq-eqb (kind_in s) kind d, c) (g ∙ ap suite_of w)

-- What a line's suite says of its state.
pub record Possible (s : List ℕ) : Type 0 where
  pub sized : 168 ≤ length s
  pub within : taken_in s ≤ announced_in s
  pub most : announced_in s ≤ max_plaintext

both_left : (a b : Bool) → both a b ≡ true → a ≡ true
both_left true b e = refl
both_left false b e = e

both_right : (a b : Bool) → both a b ≡ true → b ≡ true
both_right true b e = e
both_right false b e = absurd (mathlib.Core.Bool.false≢true e)

pub known-possible : (kind : ℕ) (s : List ℕ) (suite : Suite) (f : Option Suite) → f ≡ line_of kind s → f ≡ Some suite → Possible s
unfolding line_of fits counts_fit
known-possible kind s suite f e k = by (fits kind s) refl (sym e ∙ k)
  where
    by : (b : Bool) → fits kind s ≡ b → pick b (suite_in s) None ≡ Some suite → Possible s
    by false p q = absurd (unknown-not q)
      where
        unknown-not : None ≡ Some suite → ⊥
        unknown-not z = let w : ◌≡◌ {A = ℕ} 0 1 = cc in omega arith
    by true p q =
        let a = leb state_size (length s) in
        let b = eqb (kind_in s) kind in
        let t = both_right b (counts_fit s) (both_right a (both b (counts_fit s)) p) in
        let u = both_right (both (leb 1 (aad_in s)) (leb (aad_in s) max_aad)) (both (leb (announced_in s) max_plaintext) (leb (taken_in s) (announced_in s))) t in
        record {
          sized = leb-true state_size (length s) (both_left a (both b (counts_fit s)) p);
          within = leb-true (taken_in s) (announced_in s) (both_right (leb (announced_in s) max_plaintext) (leb (taken_in s) (announced_in s)) u);
          most = leb-true (announced_in s) max_plaintext (both_left (leb (announced_in s) max_plaintext) (leb (taken_in s) (announced_in s)) u);
        }

-- ---- nonce and key

pub nonce-sized : (s : List ℕ) → 168 ≤ length s → length (nonce_in s) ≡ 12
nonce-sized s h = length-take-le 12 (drop 8 s) (rw (length-drop 8 s) (omega arith))

pub key-part : (s : List ℕ) (suite : Suite) (e : ℕ) → e ≡ 20 + Nk suite → take (e - 20) (drop 20 s) ≡ key_in suite s
key-part s suite e q = let d : e - 20 ≡ Nk suite = omega arith in rw d

pub key-sized : (s : List ℕ) (suite : Suite) → 168 ≤ length s → length (key_in suite s) ≡ Nk suite
key-sized s suite h = length-take-le (Nk suite) (drop 20 s) (rw (length-drop 20 s) (omega (arith, Nk-most suite)))

pub part-sized : (s : List ℕ) (suite : Suite) (e : ℕ) → 168 ≤ length s → e ≡ 20 + Nk suite → length (take (e - 20) (drop 20 s)) ≡ Nk suite
part-sized s suite e h q = ap length (key-part s suite e q) ∙ key-sized s suite h

pub context-part : (s ctx : List ℕ) (suite : Suite) (e : ℕ) → e ≡ 20 + Nk suite → Context (cipher_key suite (take (e - 20) (drop 20 s))) ctx
    → Context (cipher_key suite (key_in suite s)) ctx
context-part s ctx suite e q c = subst (λ (k : List ℕ). Context (cipher_key suite k) ctx) (key-part s suite e q) c

pub ready : (k ctx : List ℕ) → Context k ctx → Ready ctx
ready k ctx c = subst (λ (x : List ℕ). Context x ctx) (sym c.keyed) c

-- ---- a piece

ciphered : (s ctx l o : List ℕ) (suite : Suite) (count taken : ℕ) → Context (cipher_key suite (key_in suite s)) ctx → count ≡ first_count (mode_of suite)
    → taken ≡ taken_in s → o ≡ ctr_from (key_of ctx) (nonce_in s) count taken l → o ≡ cipher_piece suite s l
unfolding cipher_piece
ciphered s ctx l o suite count taken c e f g = g ∙ rw (c.keyed, e, f)

-- A part of the state from 72 to 168, lent.
pub lent-hash : (s p h : List ℕ) → 168 ≤ length s → length p ≡ length (take 96 (drop 72 s)) → p ≡ h → put_mid 72 96 s p ≡ pasted s 72 h
unfolding pasted
lent-hash s p h l k e =
    let m : length h ≡ 96 = ap length (sym e) ∙ k ∙ length-take-le 96 (drop 72 s) (rw (length-drop 72 s) (omega arith)) in
    rw (e, m) (ap (λ (t : List ℕ). take 72 s ++ (h ++ t)) (drop-drop 96 72 s))

pub more-hmac : (s c p : List ℕ) (suite : Suite) (a t n : ℕ) → mode_of suite ≡ CtrHmac → a ≡ aad_in s → t ≡ taken_in s → n ≡ 100 + a + t
    → p ≡ fed_hash n (hash_in s) c → p ≡ hash_more (mode_of suite) (key_in suite s) (aad_in s) (taken_in s) (hash_in s) c
more-hmac s c p suite a t n e u v w g =
    let q : n ≡ before (aad_in s) + taken_in s = omega arith in
    g ∙ ap (λ (i : ℕ). fed_hash i (hash_in s) c) q ∙ ap (λ (x : Mode). hash_more x (key_in suite s) (aad_in s) (taken_in s) (hash_in s) c) (sym e)

pub more-gcm : (s c p h : List ℕ) (suite : Suite) (t n : ℕ) → mode_of suite ≡ Gcm → HashKey (hash_key (key_in suite s)) h → t ≡ taken_in s → n ≡ t % 16
    → p ≡ fed_blocks (hash_key_of h) n (hash_in s) c → p ≡ hash_more (mode_of suite) (key_in suite s) (aad_in s) (taken_in s) (hash_in s) c
more-gcm s c p h suite t n e k u v g =
    g ∙ ap₂ (λ (i j : ℕ). fed_blocks i j (hash_in s) c) (hash-key-of k) (v ∙ ap (λ (i : ℕ). i % 16) u)
    ∙ ap (λ (y : Mode). hash_more y (key_in suite s) (aad_in s) (taken_in s) (hash_in s) c) (sym e)

-- The hash key of the key in a state, with GCM.
gcm-key : (s ctx : List ℕ) (suite : Suite) → 168 ≤ length s → mode_of suite ≡ Gcm → Context (cipher_key suite (key_in suite s)) ctx → key_of ctx ≡ key_in suite s
gcm-key s ctx suite l e c = c.keyed ∙ whole-key suite (key_in suite s) e (key-sized s suite l)

pub state-key : (s ctx h : List ℕ) (suite : Suite) → 168 ≤ length s → mode_of suite ≡ Gcm → Context (cipher_key suite (key_in suite s)) ctx
    → HashKey (hash_key (key_of ctx)) h → HashKey (hash_key (key_in suite s)) h
state-key s ctx h suite l e c k = subst (λ (x : List ℕ). HashKey (hash_key x) h) (gcm-key s ctx suite l e c) k

-- A piece that is encrypted, and taken.
pub sealed : (s ctx l o r : List ℕ) (suite : Suite) (count taken : ℕ) (m : Mode) → Context (cipher_key suite (key_in suite s)) ctx → mode_of suite ≡ m → count ≡ first_count m
    → taken ≡ taken_in s → o ≡ ctr_from (key_of ctx) (nonce_in s) count taken l → r ≡ after suite s o
    → (r ≡ after suite s (cipher_piece suite s l)) × (o ≡ cipher_piece suite s l)
sealed s ctx l o r suite count taken m c e f g h k =
    let q : o ≡ cipher_piece suite s l = ciphered s ctx l o suite count taken c (f ∙ ap first_count (sym e)) g h in
    (k ∙ ap (after suite s) q, q)

-- The count is written in front of the hash.
pub taken_in_lem : (s h o r : List ℕ) (suite : Suite) (c : List ℕ) (t : ℕ) → 168 ≤ length s → t ≡ taken_in s
    → h ≡ hash_more (mode_of suite) (key_in suite s) (aad_in s) (taken_in s) (hash_in s) c → o ≡ pasted s 72 h → r ≡ pasted o 68 (bytes 4 (t + length c))
    → r ≡ after suite s c
unfolding after pasted
taken_in_lem s h o r suite c t l u e f g =
    let x = bytes 4 (taken_in s + length c) in
    let lx : length x ≡ 4 = bytes-length 4 (taken_in s + length c) in
    let q : r ≡ take 68 o ++ (x ++ drop (68 + length x) o) = g ∙ ap (λ (i : ℕ). take 68 o ++ (bytes 4 (i + length c) ++ drop (68 + length (bytes 4 (i + length c))) o)) u in
    let lt : length (take 72 s) ≡ 72 = length-take-le 72 s (omega arith) in
    let z = h ++ drop (72 + length h) s in
    let a : take 68 o ≡ take 68 s = ap (take 68) f ∙ take-append-le 68 (take 72 s) z (omega arith) ∙ take-take 68 72 s (omega arith) in
    let b : drop (68 + length x) o ≡ z = ap₂ (λ (i : ℕ) (y : List ℕ). drop (68 + i) y) lx f ∙ drop_at (take 72 s) z 72 lt in
    let d : 72 + length h ≡ 68 + length (x ++ h) = rw (length-append x h) (omega arith) in
    q ∙ ap₂ (λ (i j : List ℕ). i ++ (x ++ j)) a b
    ∙ ap (λ (i : ℕ). take 68 s ++ (x ++ (h ++ drop i s))) d
    ∙ ap (λ (i : List ℕ). take 68 s ++ i) (sym (append_assoc x h (drop (68 + length (x ++ h)) s)))
    ∙ ap (λ (i : List ℕ). take 68 s ++ ((x ++ i) ++ drop (68 + length (x ++ i)) s)) e

-- ---- the end

-- The key of HMAC, with counter mode.
auth-part : (s : List ℕ) (suite : Suite) → mode_of suite ≡ CtrHmac → auth_key (key_in suite s) ≡ take 32 (drop 36 s)
auth-part s suite e =
    ap (λ (n : ℕ). drop 16 (take n (drop 20 s))) (ctr-sizes suite e).0 ∙ inside 16 32 (drop 20 s) ∙ ap (take 32) (drop-drop 16 20 s)
  where
    inside : (a b : ℕ) (l : List ℕ) → drop a (take (a + b) l) ≡ take b (drop a l)
    inside zero b l = ap (λ (n : ℕ). take n l) (zero-add b)
    inside (suc a) b [] = let z : suc a + b ≡ suc (a + b) = omega arith in rw z (sym (none b))
      where
        none : (n : ℕ) → take {A = ℕ} n [] ≡ []
        none zero = refl
        none (suc n) = refl
    inside (suc a) b (x ∷ l) = let z : suc a + b ≡ suc (a + b) = omega arith in rw z (inside a b l)

pub ended-hmac : (s d k o w t z : List ℕ) (suite : Suite) (a v n : ℕ) → mode_of suite ≡ CtrHmac → a ≡ aad_in s → v ≡ taken_in s → n ≡ 100 + a + v
    → d ≡ digest_of n (hash_in s) → k ≡ extended sha256 (take 32 (drop 36 s)) → o ≡ xors k (replicate 64 opad) → w ≡ hash sha256 (o ++ d)
    → length w ≡ 32 → length z ≡ 16 → t ≡ take 16 w ++ drop (length (take 16 w)) z → (take (Nt suite) t ≡ tag_in suite s) × (length t ≡ 16)
unfolding tag_in masked
ended-hmac s d k o w t z suite a v n e ea ev en ed ek eo ew lw lz et =
    let lt : length (take 16 w) ≡ 16 = length-take-le 16 w (omega arith) in
    let r : drop (length (take 16 w)) z ≡ [] = drop_of_length-le z {i = length (take 16 w)} (omega arith) in
    let f : t ≡ take 16 w = et ∙ ap (λ (x : List ℕ). take 16 w ++ x) r ∙ append-nil (take 16 w) in
    let q : n ≡ before (aad_in s) + taken_in s = omega arith in
    let h : w ≡ hash sha256 (xors (extended sha256 (auth_key (key_in suite s))) (replicate 64 opad) ++ digest_of (before (aad_in s) + taken_in s) (hash_in s)) =
    ew ∙ ap₂ (λ (x y : List ℕ). hash sha256 (x ++ y))
    (eo ∙ ap (λ (x : List ℕ). xors x (replicate 64 opad)) (ek ∙ ap (extended sha256) (sym (auth-part s suite e))))
    (ed ∙ ap (λ (i : ℕ). digest_of i (hash_in s)) q) in (
      ap (take (Nt suite)) f ∙ take-take (Nt suite) 16 w (Nt-most suite) ∙ ap (take (Nt suite)) h
          ∙ ap (λ (m : Mode). tag_from m (Nt suite) (key_in suite s) (nonce_in s) (aad_in s) (taken_in s) (hash_in s)) (sym e),
      ap length f ∙ lt,
    )

pub ended-gcm : (s ctx f h o t z : List ℕ) (suite : Suite) (a v n y x r : ℕ) → 168 ≤ length s → mode_of suite ≡ Gcm
    → Context (cipher_key suite (key_in suite s)) ctx → Front (key_of ctx) (nonce_in s) f → HashKey (hash_key (key_of ctx)) h
    → a ≡ aad_in s → v ≡ taken_in s → n ≡ v % 16 → y ≡ blocks_of (hash_key_of h) n (hash_in s) → x ≡ bit_xor y (pair (a * 8) (v * 8))
    → r ≡ product x (hash_key_of h) → length z ≡ 16 → o ≡ bytes 16 r ++ drop 16 z → t ≡ xors o (take 16 (drop 16 f)) → t ≡ tag_in suite s
unfolding tag_in counter_block
ended-gcm s ctx f h o t z suite a v n y x r l e c b k ea ev en ey ex er lz eo et =
    let w : key_of ctx ≡ key_in suite s = gcm-key s ctx suite l e c in
    let g : hash_key_of h ≡ hash_key (key_in suite s) = hash-key-of k ∙ ap hash_key w in
    let d : drop 16 z ≡ [] = drop_of_length-le z {i = 16} (omega arith) in
    let p : a * 8 ≡ 8 * aad_in s = omega arith in
    let q : v * 8 ≡ 8 * taken_in s = omega arith in
    et ∙ rw (eo, d, append-nil (bytes 16 r), er, ex, ey, p, q, en, ev, g, b.each 1 (omega arith), w, e)

pub cipher-length : (suite : Suite) (s l : List ℕ) → length (cipher_piece suite s l) ≡ length l
unfolding cipher_piece
cipher-length suite s l = from-length (cipher_key suite (key_in suite s)) (nonce_in s) (first_count (mode_of suite)) (taken_in s) l
