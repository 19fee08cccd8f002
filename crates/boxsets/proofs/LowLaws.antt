-- The lowest number of a set, and the set without it. Assumes nothing.
use mathlib.Core.Path.{◌≡◌, refl, sym, subst}
use mathlib.Core.Bool.{Bool, true, false, not, ◌&&◌}
use Rattle.std.specs.Prelude.{Some as some}
use Prim.Native.Nat.{ℕ, zero, suc, ◌+◌, ◌*◌, ◌/◌, ◌%◌, ◌^◌, ◌<◌}
use native.Mathlib.Omega.{arith}
use native.Mathlib.Decide.{ℕ_discrete, dec_lt}
use borrow.Author.Tests.{eq-eqb, ne_eqb}
use lib.Bits.{bit_or, or_add_and, and_le_l, and_le_r}
use lib.Count.{count_trailing_zeros}
use lib.Dec.{T, eqb, eqb→eq}
use Rattle.base.specs.Search.{lowest}
use Rattle.base.proofs.SearchLaws.{lowest-some}
use Rattle.base.proofs.Tests.{T-eqb, T-same, and_T, not-false, false-not}
use Rattle.boxsets.specs.Words.{bit_at}
use Rattle.boxsets.specs.Sets.{word_at, is_in, low}
use Rattle.boxsets.specs.declared.Set.{Set}
use Rattle.boxsets.proofs.WordLaws.{zero_bit}
use Rattle.boxsets.proofs.LeastLaws.{least-is, least-end, least-found}
use Rattle.boxsets.proofs.LowBitLaws.{trailing-lowest, word-zero}
use Rattle.boxsets.proofs.MemberLaws.{in-at, in-beyond, empty-in, with_word, with-here, with-other}

-- ---- by the first word that is not 0

module _ (x : Set) where
  -- the words below q are 0
  abbrev pub Zeros : ℕ → Type 0
  Zeros q = (p : ℕ) → p < q → word_at x p ≡ 0

  pub zeros₀ : Zeros 0
  zeros₀ p h = absurd (omega arith)

  pub zeros₁ : x.a ≡ 0 → Zeros 1
  unfolding word_at
  zeros₁ e zero h = e
  zeros₁ e (suc p) h = absurd (omega arith)

  pub zeros₂ : x.a ≡ 0 → x.b ≡ 0 → Zeros 2
  unfolding word_at
  zeros₂ e f zero h = e
  zeros₂ e f (suc zero) h = f
  zeros₂ e f (suc (suc p)) h = absurd (omega arith)

  pub zeros₃ : x.a ≡ 0 → x.b ≡ 0 → x.c ≡ 0 → Zeros 3
  unfolding word_at
  zeros₃ e f g zero h = e
  zeros₃ e f g (suc zero) h = f
  zeros₃ e f g (suc (suc zero)) h = g
  zeros₃ e f g (suc (suc (suc p))) h = absurd (omega arith)

module _ (x : Set) (q r : ℕ) (few : q < 4) (none : Zeros x q) (found : lowest (bit_at (word_at x q)) 64 ≡ some r) where
  small : r < 64
  small = (lowest-some (bit_at (word_at x q)) 64 r found).0

  below : (j : ℕ) → j < q * 64 + r → T (is_in x j) → ⊥
  unfolding is_in
  below j h t = go (dec_lt (j / 64) q)
    where
      go : Dec (j / 64 < q) → ⊥
      go (yes l) = false-not (bit_at 0 (j % 64)) (zero_bit (j % 64)) (subst (λ (w : ℕ). T (bit_at w (j % 64))) (none (j / 64) l) t)
      go (no l) =
          let s = small in
          let e : j / 64 ≡ q = omega arith in
          (lowest-some (bit_at (word_at x q)) 64 r found).2 (j % 64) (omega arith) (subst (λ (p : ℕ). T (bit_at (word_at x p) (j % 64))) e t)

  pub low-at : low x ≡ q * 64 + r
  unfolding low
  low-at =
      let s = small in
      least-is (is_in x) 256 (q * 64 + r) (omega arith) (subst T (sym (in-at x q r s)) (lowest-some (bit_at (word_at x q)) 64 r found).1) below

  -- with that bit dropped from the word
  pub dropped-at : (y : Set) (w : ℕ) → word_at y q ≡ w → ((b : ℕ) → bit_at w b ≡ (bit_at (word_at x q) b && not (eqb b r)))
      → ((p : ℕ) → (p ≡ q → ⊥) → word_at y p ≡ word_at x p) → (k : ℕ) → is_in y k ≡ (is_in x k && not (eqb k (low x)))
  unfolding is_in
  dropped-at y w here bits others k = rw low-at (go small (ℕ_discrete (k / 64) q))
    where
      and_yes : (b : Bool) → b ≡ (b && true)
      and_yes true = refl
      and_yes false = refl

      go : r < 64 → Dec (k / 64 ≡ q) → bit_at (word_at y (k / 64)) (k % 64) ≡ (bit_at (word_at x (k / 64)) (k % 64) && not (eqb k (q * 64 + r)))
      go s (yes e) =
          let same : eqb (k % 64) r ≡ eqb k (q * 64 + r)
          = T-same (eqb (k % 64) r) (eqb k (q * 64 + r))
          (λ t. let f = eqb→eq (k % 64) r t in let g : k ≡ q * 64 + r = omega arith in T-eqb g)
          (λ t. let f = eqb→eq k (q * 64 + r) t in let g : k % 64 ≡ r = omega arith in T-eqb g) in
          rw (e, here, bits (k % 64), same)
      go s (no n) =
          let f : k ≡ q * 64 + r → ⊥ = λ e. n (omega arith) in
          rw (others (k / 64) n, ne_eqb k (q * 64 + r) f) (and_yes (bit_at (word_at x (k / 64)) (k % 64)))

pub dropped-word : (x : Set) (q w : ℕ) → q < 4 → Zeros x q → 0 < word_at x q → word_at x q < 2 ^ 64
    → ((l b : ℕ) → lowest (bit_at (word_at x q)) 64 ≡ some l → bit_at w b ≡ (bit_at (word_at x q) b && not (eqb b l)))
    → (k : ℕ) → is_in (with_word x q w) k ≡ (is_in x k && not (eqb k (low x)))
dropped-word x q w l z pos fits bits =
    let found = trailing-lowest (word_at x q) pos fits in
    dropped-at x q (count_trailing_zeros 64 (word_at x q)) l z found (with_word x q w) w (with-here x q w l) (λ b. bits (count_trailing_zeros 64 (word_at x q)) b found) (with-other x q w)

-- ---- nothing in the set

pub low-none : (x : Set) → x.a ≡ 0 → x.b ≡ 0 → x.c ≡ 0 → x.d ≡ 0 → low x ≡ 256
unfolding low
low-none x e f g h = least-end (is_in x) 256 (λ j l t. false-not (is_in x j) (empty-in x e f g h j) t)

-- upper layers go by these
pub low-in : (x : Set) → low x < 256 → T (is_in x (low x))
unfolding low
low-in x = (least-found (is_in x) 256).0

pub low-least : (x : Set) (j : ℕ) → j < low x → T (is_in x j) → ⊥
unfolding low
low-least x = (least-found (is_in x) 256).1

or-zero : (x y : ℕ) → bit_or x y ≡ 0 → (x ≡ 0) × (y ≡ 0)
or-zero x y e =
    let s = or_add_and x y in
    let l = and_le_l x y in
    let r = and_le_r x y in
    (omega arith, omega arith)

pub empty-test : (x : Set) → ((q : ℕ) → word_at x q < 2 ^ 64) → eqb (bit_or (bit_or (bit_or x.a x.b) x.c) x.d) 0 ≡ eqb (low x) 256
unfolding word_at
empty-test x fits = T-same (eqb (bit_or (bit_or (bit_or x.a x.b) x.c) x.d) 0) (eqb (low x) 256)
    (λ t.
    let h₁ = or-zero (bit_or (bit_or x.a x.b) x.c) x.d (eqb→eq (bit_or (bit_or (bit_or x.a x.b) x.c) x.d) 0 t) in
    let h₂ = or-zero (bit_or x.a x.b) x.c h₁.0 in
    let h₃ = or-zero x.a x.b h₂.0 in
    T-eqb (low-none x h₃.0 h₃.1 h₂.1 h₁.1))
    (λ t.
    let e = eqb→eq (low x) 256 t in
    rw (no_word 0 (omega arith) e, no_word 1 (omega arith) e, no_word 2 (omega arith) e, no_word 3 (omega arith) e) tt)
  where
    no_word : (q : ℕ) → q < 4 → low x ≡ 256 → word_at x q ≡ 0
    no_word q l e = word-zero (word_at x q) (fits q) (λ b h t. low-least x (q * 64 + b) (omega arith) (subst T (sym (in-at x q b h)) t))

pub words-fit : (x : Set) → x.a < 2 ^ 64 → x.b < 2 ^ 64 → x.c < 2 ^ 64 → x.d < 2 ^ 64 → (q : ℕ) → word_at x q < 2 ^ 64
unfolding word_at
words-fit x e f g h zero = e
words-fit x e f g h (suc zero) = f
words-fit x e f g h (suc (suc zero)) = g
words-fit x e f g h (suc (suc (suc zero))) = h
words-fit x e f g h (suc (suc (suc (suc q)))) = omega arith

-- with a number left the set is not empty, and without it the lowest number rises: the measure of a walk over the numbers
pub low-rises : (x y : Set) → ((k : ℕ) → is_in y k ≡ (is_in x k && not (eqb k (low x)))) → low x < 256 → low x < low y
low-rises x y h l = go (dec_lt (low x) (low y)) (low-in y)
  where
    go : Dec (low x < low y) → (low y < 256 → T (is_in y (low y))) → low x < low y
    go (yes u) t = u
    go (no n) t =
        let s = subst T (h (low y)) (t (omega arith)) in
        let p = and_T (is_in x (low y)) (not (eqb (low y) (low x))) s in
        absurd (at (ℕ_discrete (low y) (low x)) p.0 p.1)
      where
        at : Dec (low y ≡ low x) → T (is_in x (low y)) → T (not (eqb (low y) (low x))) → ⊥
        at (yes e) u v = subst (λ (b : Bool). T (not b)) (eq-eqb (low y) (low x) e) v
        at (no m) u v = low-least x (low y) (omega arith) u

-- a set that has no lowest number has none
pub none_in : (x : Set) → low x ≡ 256 → (k : ℕ) → is_in x k ≡ false
none_in x e k = go (dec_lt k 256)
  where
    go : Dec (k < 256) → is_in x k ≡ false
    go (yes l) = not-false (is_in x k) (low-least x k (omega arith))
    go (no l) = in-beyond x k (omega arith)
