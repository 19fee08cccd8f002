-- Tables of sets: where a number of a set stands, a set that is put, a number that is added. Assumes nothing.
use mathlib.Core.Path.{◌≡◌, refl, sym, ap, ap₂, ◌∙◌}
use mathlib.Core.Logic.{◌⊎◌, inl, inr, ⊎_elim}
use mathlib.Core.Bool.{Bool, false, ◌&&◌, ◌||◌, or-false}
use mathlib.Core.List.{List}
use Prim.Native.Nat.{ℕ, zero, suc, ◌+◌, ◌*◌, ◌/◌, ◌%◌, ◌^◌, ◌<◌, ◌≤◌}
use native.Mathlib.Omega.{arith}
use native.Mathlib.Nat.{add-zero}
use native.Mathlib.Decide.{ℕ_discrete, dec_lt}
use lib.Bits.{bit_or}
use lib.Dec.{eqb, eqb→eq}
use lib.ListN.{length, get_or, set, length-set, get_or-eq_default}
use lib.Seq.{get_or-set_same, get_or-set_other}
use Rattle.base.specs.Buffers.{zeros}
use Rattle.base.proofs.BufferLaws.{zeros-at, zeros-length}
use Rattle.base.proofs.Tests.{not-false, and_T, T_and, T-same, T-eqb}
use Rattle.boxsets.specs.Words.{bit_at}
use Rattle.boxsets.specs.Sets.{word_at, is_in, set_at, has, Put}
use Rattle.boxsets.specs.declared.Set.{Set}
use Rattle.boxsets.proofs.WordLaws.{or-bit, pow-bit}
use Rattle.boxsets.proofs.MemberLaws.{in-beyond, empty-in}

row_word : (t : List ℕ) (r q : ℕ) → q < 4 → word_at (set_at t r) q ≡ get_or t (4 * r + q) 0
unfolding word_at
row_word t r zero l = rw add-zero
row_word t r (suc zero) l = refl
row_word t r (suc (suc zero)) l = refl
row_word t r (suc (suc (suc zero))) l = refl
row_word t r (suc (suc (suc (suc q)))) l = absurd (omega arith)

-- where number k of set r stands
pub has_word : (t : List ℕ) (r k : ℕ) → k < 256 → has t r k ≡ bit_at (get_or t (4 * r + k / 64) 0) (k % 64)
unfolding has is_in
has_word t r k h = ap (λ (w : ℕ). bit_at w (k % 64)) (row_word t r (k / 64) (omega arith))

pub has-beyond : (t : List ℕ) (r k : ℕ) → 256 ≤ k → has t r k ≡ false
unfolding has
has-beyond t r k h = in-beyond (set_at t r) k h

-- a set by its four words
set_is : (x : Set) (a b c d : ℕ) → a ≡ x.a → b ≡ x.b → c ≡ x.c → d ≡ x.d → ◌≡◌ {A = Set} (record { a = a; b = b; c = c; d = d }) x
set_is x a b c d p q r s = rw (p, q, r, s)

module _ (t : List ℕ) (r : ℕ) (x : Set) (room : 4 * r + 4 ≤ length t) where
  t₁ : List ℕ
  t₁ = set t (4 * r) x.a

  t₂ : List ℕ
  t₂ = set t₁ (4 * r + 1) x.b

  t₃ : List ℕ
  t₃ = set t₂ (4 * r + 2) x.c

  put_other : (i : ℕ) → (i < 4 * r) ⊎ (4 * r + 4 ≤ i) → get_or (set t₃ (4 * r + 3) x.d) i 0 ≡ get_or t i 0
  unfolding t₁ t₂ t₃
  put_other i h =
      get_or-set_other t₃ (4 * r + 3) i x.d 0 (⊎_elim (λ l. omega arith) (λ l. omega arith) h)
      ∙ get_or-set_other t₂ (4 * r + 2) i x.c 0 (⊎_elim (λ l. omega arith) (λ l. omega arith) h)
      ∙ get_or-set_other t₁ (4 * r + 1) i x.b 0 (⊎_elim (λ l. omega arith) (λ l. omega arith) h)
      ∙ get_or-set_other t (4 * r) i x.a 0 (⊎_elim (λ l. omega arith) (λ l. omega arith) h)

  pub put_is : Put t r x (set (set (set (set t (4 * r) x.a) (4 * r + 1) x.b) (4 * r + 2) x.c) (4 * r + 3) x.d)
  unfolding t₁ t₂ t₃
  put_is = record {
    len = simp length-set;
    hit = set_is x _ _ _ _
        (get_or-set_other t₃ (4 * r + 3) (4 * r) x.d 0 (omega arith)
        ∙ get_or-set_other t₂ (4 * r + 2) (4 * r) x.c 0 (omega arith)
        ∙ get_or-set_other t₁ (4 * r + 1) (4 * r) x.b 0 (omega arith)
        ∙ get_or-set_same t (4 * r) x.a 0 (omega arith))
        (get_or-set_other t₃ (4 * r + 3) (4 * r + 1) x.d 0 (omega arith)
        ∙ get_or-set_other t₂ (4 * r + 2) (4 * r + 1) x.c 0 (omega arith)
        ∙ get_or-set_same t₁ (4 * r + 1) x.b 0 (simp length-set (omega arith)))
        (get_or-set_other t₃ (4 * r + 3) (4 * r + 2) x.d 0 (omega arith)
        ∙ get_or-set_same t₂ (4 * r + 2) x.c 0 (simp length-set (omega arith)))
        (get_or-set_same t₃ (4 * r + 3) x.d 0 (simp length-set (omega arith)));
    miss = λ a n. go a (dec_lt a r) n;
  }
    where
      go : (a : ℕ) → Dec (a < r) → (a ≡ r → ⊥) → set_at (set t₃ (4 * r + 3) x.d) a ≡ set_at t a
      go a (yes l) n = set_is (set_at t a) _ _ _ _ (put_other (4 * a) (inl (omega arith))) (put_other (4 * a + 1) (inl (omega arith)))
          (put_other (4 * a + 2) (inl (omega arith))) (put_other (4 * a + 3) (inl (omega arith)))
      go a (no l) n = set_is (set_at t a) _ _ _ _ (put_other (4 * a) (inr (omega arith))) (put_other (4 * a + 1) (inr (omega arith)))
          (put_other (4 * a + 2) (inr (omega arith))) (put_other (4 * a + 3) (inr (omega arith)))

-- one number more
pub add-has : (t : List ℕ) (r k : ℕ) → 4 * r + 4 ≤ length t → k < 256 → (a b : ℕ)
    → has (set t (4 * r + k / 64) (bit_or (get_or t (4 * r + k / 64) 0) (2 ^ (k % 64)))) a b ≡ (has t a b || eqb a r && eqb b k)
add-has t r k room l a b = go (dec_lt b 256)
  where
    u : List ℕ
    u = set t (4 * r + k / 64) (bit_or (get_or t (4 * r + k / 64) 0) (2 ^ (k % 64)))

    same : eqb (b % 64) (k % 64) ≡ (eqb a r && eqb b k) → b < 256 → 4 * a + b / 64 ≡ 4 * r + k / 64 → has u a b ≡ (has t a b || eqb a r && eqb b k)
    same e h i =
        has_word u a b h
        ∙ ap (λ (j : ℕ). bit_at (get_or u j 0) (b % 64)) i
        ∙ ap (λ (w : ℕ). bit_at w (b % 64)) (get_or-set_same t (4 * r + k / 64) (bit_or (get_or t (4 * r + k / 64) 0) (2 ^ (k % 64))) 0 (omega arith))
        ∙ or-bit (get_or t (4 * r + k / 64) 0) (2 ^ (k % 64)) (b % 64)
        ∙ ap₂ ◌||◌ (ap (λ (j : ℕ). bit_at (get_or t j 0) (b % 64)) (sym i) ∙ sym (has_word t a b h)) (pow-bit (k % 64) (b % 64) ∙ e)

    other : (eqb a r && eqb b k) ≡ false → b < 256 → (4 * a + b / 64 ≡ 4 * r + k / 64 → ⊥) → has u a b ≡ (has t a b || eqb a r && eqb b k)
    other e h i =
        has_word u a b h
        ∙ ap (λ (w : ℕ). bit_at w (b % 64)) (get_or-set_other t (4 * r + k / 64) (4 * a + b / 64) (bit_or (get_or t (4 * r + k / 64) 0) (2 ^ (k % 64))) 0 i)
        ∙ sym (has_word t a b h)
        ∙ sym (or-false (has t a b))
        ∙ ap (λ (z : Bool). has t a b || z) (sym e)

    at : b < 256 → Dec (4 * a + b / 64 ≡ 4 * r + k / 64) → has u a b ≡ (has t a b || eqb a r && eqb b k)
    at h (yes i) =
        let ea : a ≡ r = omega arith in
        same (T-same (eqb (b % 64) (k % 64)) (eqb a r && eqb b k)
        (λ z. let e = eqb→eq (b % 64) (k % 64) z in let eb : b ≡ k = omega arith in T_and (eqb a r) (eqb b k) (T-eqb ea) (T-eqb eb))
        (λ z. let e = eqb→eq b k (and_T (eqb a r) (eqb b k) z).1 in let f : b % 64 ≡ k % 64 = ap (λ (j : ℕ). j % 64) e in T-eqb f)) h i
    at h (no i) =
        other (not-false (eqb a r && eqb b k)
        (λ z. let p = and_T (eqb a r) (eqb b k) z in i (ap₂ (λ (y j : ℕ). 4 * y + j / 64) (eqb→eq a r p.0) (eqb→eq b k p.1)))) h i

    go : Dec (b < 256) → has u a b ≡ (has t a b || eqb a r && eqb b k)
    go (yes h) = at h (ℕ_discrete (4 * a + b / 64) (4 * r + k / 64))
    go (no h) =
        let e : (eqb a r && eqb b k) ≡ false
        = not-false (eqb a r && eqb b k) (λ z. let e = eqb→eq b k (and_T (eqb a r) (eqb b k) z).1 in absurd (omega arith)) in
        has-beyond u a b (omega arith) ∙ ap₂ ◌||◌ (sym (has-beyond t a b (omega arith))) (sym e)

-- ---- for upper layers

pub has_in : (t : List ℕ) (r k : ℕ) → has t r k ≡ is_in (set_at t r) k
unfolding has
has_in t r k = refl

-- a set that was put, and the others
pub put-hit : (t : List ℕ) (r : ℕ) (x : Set) (u : List ℕ) → Put t r x u → (k : ℕ) → has u r k ≡ is_in x k
unfolding has
put-hit t r x u p k = ap (λ (y : Set). is_in y k) p.hit

pub put-miss : (t : List ℕ) (r : ℕ) (x : Set) (u : List ℕ) → Put t r x u → (a k : ℕ) → (a ≡ r → ⊥) → has u a k ≡ has t a k
unfolding has
put-miss t r x u p a k n = ap (λ (y : Set). is_in y k) (p.miss a n)

-- the sets of a table of zeros
pub zeros-has : (n r k : ℕ) → has (zeros n) r k ≡ false
unfolding has
zeros-has n r k = empty-in (set_at (zeros n) r) (at (4 * r)) (at (4 * r + 1)) (at (4 * r + 2)) (at (4 * r + 3)) k
  where
    at : (i : ℕ) → get_or (zeros n) i 0 ≡ 0
    at i = go (dec_lt i n)
      where
        go : Dec (i < n) → get_or (zeros n) i 0 ≡ 0
        go (yes l) = zeros-at n i l
        go (no l) = get_or-eq_default (zeros n) 0 (rw zeros-length (omega arith))
