-- Membership, by the four words. Assumes nothing.
use mathlib.Core.Path.{◌≡◌, refl, sym, ap, ◌∙◌}
use mathlib.Core.Bool.{Bool, false, cond}
use Prim.Native.Nat.{ℕ, zero, suc, ◌+◌, ◌*◌, ◌/◌, ◌%◌, ◌^◌, ◌<◌, ◌≤◌}
use native.Mathlib.Omega.{arith}
use native.Mathlib.Decide.{ℕ_discrete}
use borrow.Author.Tests.{ne_eqb}
use lib.Arith.{digits_div, digits_mod}
use lib.Dec.{eqb, eqb→eq}
use Rattle.base.proofs.Tests.{T-eqb, T-same}
use Rattle.boxsets.specs.Words.{bit_at}
use Rattle.boxsets.specs.Sets.{word_at, is_in}
use Rattle.boxsets.specs.declared.Set.{Set}
use Rattle.boxsets.proofs.WordLaws.{zero_bit, pow-bit}

-- number b of word q
pub in-at : (x : Set) (q b : ℕ) → b < 64 → is_in x (q * 64 + b) ≡ bit_at (word_at x q) b
unfolding is_in
in-at x q b h = rw (digits_div q h, digits_mod q h)

-- ---- two sets, word by word

-- a set by its words
abbrev pub both : (ℕ → ℕ → ℕ) → Set → Set → Set
both g x y = record { a = g x.a y.a; b = g x.b y.b; c = g x.c y.c; d = g x.d y.d }

both_word : (g : ℕ → ℕ → ℕ) → g 0 0 ≡ 0 → (x y : Set) (q : ℕ) → word_at (both g x y) q ≡ g (word_at x q) (word_at y q)
unfolding word_at
both_word g z x y zero = refl
both_word g z x y (suc zero) = refl
both_word g z x y (suc (suc zero)) = refl
both_word g z x y (suc (suc (suc zero))) = refl
both_word g z x y (suc (suc (suc (suc q)))) = sym z

-- what holds of each bit of words holds of each number
pub both-in : (g : ℕ → ℕ → ℕ) (f : Bool → Bool → Bool) → ((u v b : ℕ) → bit_at (g u v) b ≡ f (bit_at u b) (bit_at v b)) → g 0 0 ≡ 0
    → (x y : Set) (k : ℕ) → is_in (both g x y) k ≡ f (is_in x k) (is_in y k)
unfolding is_in
both-in g f h z x y k =
    ap (λ (w : ℕ). bit_at w (k % 64)) (both_word g z x y (k / 64)) ∙ h (word_at x (k / 64)) (word_at y (k / 64)) (k % 64)

-- no number from 256 on is in a set
word-beyond : (x : Set) (q : ℕ) → 4 ≤ q → word_at x q ≡ 0
unfolding word_at
word-beyond x zero l = absurd (omega arith)
word-beyond x (suc zero) l = absurd (omega arith)
word-beyond x (suc (suc zero)) l = absurd (omega arith)
word-beyond x (suc (suc (suc zero))) l = absurd (omega arith)
word-beyond x (suc (suc (suc (suc q)))) l = refl

pub in-beyond : (x : Set) (k : ℕ) → 256 ≤ k → is_in x k ≡ false
unfolding is_in
in-beyond x k h = ap (λ (w : ℕ). bit_at w (k % 64)) (word-beyond x (k / 64) (omega arith)) ∙ zero_bit (k % 64)

-- where all words are 0, nothing is in the set
empty-word : (x : Set) → x.a ≡ 0 → x.b ≡ 0 → x.c ≡ 0 → x.d ≡ 0 → (q : ℕ) → word_at x q ≡ 0
unfolding word_at
empty-word x e f g h zero = e
empty-word x e f g h (suc zero) = f
empty-word x e f g h (suc (suc zero)) = g
empty-word x e f g h (suc (suc (suc zero))) = h
empty-word x e f g h (suc (suc (suc (suc q)))) = refl

pub empty-in : (x : Set) → x.a ≡ 0 → x.b ≡ 0 → x.c ≡ 0 → x.d ≡ 0 → (k : ℕ) → is_in x k ≡ false
unfolding is_in
empty-in x e f g h k = ap (λ (w : ℕ). bit_at w (k % 64)) (empty-word x e f g h (k / 64)) ∙ zero_bit (k % 64)

-- ---- another word

-- the set with another word q
abbrev pub with_word : Set → ℕ → ℕ → Set
with_word x q w = record { a = cond (eqb q 0) w x.a; b = cond (eqb q 1) w x.b; c = cond (eqb q 2) w x.c; d = cond (eqb q 3) w x.d }

pub with-here : (x : Set) (q w : ℕ) → q < 4 → word_at (with_word x q w) q ≡ w
unfolding word_at
with-here x zero w l = refl
with-here x (suc zero) w l = refl
with-here x (suc (suc zero)) w l = refl
with-here x (suc (suc (suc zero))) w l = refl
with-here x (suc (suc (suc (suc q)))) w l = absurd (omega arith)

pub with-other : (x : Set) (q w p : ℕ) → (p ≡ q → ⊥) → word_at (with_word x q w) p ≡ word_at x p
unfolding word_at
with-other x q w zero n = rw (ne_eqb q 0 (λ e. n (sym e)))
with-other x q w (suc zero) n = rw (ne_eqb q 1 (λ e. n (sym e)))
with-other x q w (suc (suc zero)) n = rw (ne_eqb q 2 (λ e. n (sym e)))
with-other x q w (suc (suc (suc zero))) n = rw (ne_eqb q 3 (λ e. n (sym e)))
with-other x q w (suc (suc (suc (suc p)))) n = refl

-- the set of one number: one word of an empty set
abbrev none : Set
none = record { a = 0; b = 0; c = 0; d = 0 }

abbrev pub one_word : ℕ → ℕ → Set
one_word q w = with_word none q w

pub single-in : (q k : ℕ) → q < 4 → k / 64 ≡ q → (j : ℕ) → is_in (one_word q (2 ^ (k % 64))) j ≡ eqb j k
unfolding is_in
single-in q k l e j = go (ℕ_discrete (j / 64) q)
  where
    go : Dec (j / 64 ≡ q) → bit_at (word_at (one_word q (2 ^ (k % 64))) (j / 64)) (j % 64) ≡ eqb j k
    go (yes i) =
        ap (λ (p : ℕ). bit_at (word_at (one_word q (2 ^ (k % 64))) p) (j % 64)) i
        ∙ ap (λ (w : ℕ). bit_at w (j % 64)) (with-here none q (2 ^ (k % 64)) l)
        ∙ pow-bit (k % 64) (j % 64)
        ∙ T-same (eqb (j % 64) (k % 64)) (eqb j k)
        (λ t. let f = eqb→eq (j % 64) (k % 64) t in let g : j ≡ k = omega arith in T-eqb g)
        (λ t. let f = eqb→eq j k t in let g : j % 64 ≡ k % 64 = ap (λ (z : ℕ). z % 64) f in T-eqb g)
    go (no n) =
        ap (λ (w : ℕ). bit_at w (j % 64)) (with-other none q (2 ^ (k % 64)) (j / 64) n ∙ empty-word none refl refl refl refl (j / 64))
        ∙ zero_bit (j % 64)
        ∙ sym (ne_eqb j k (λ f. n (ap (λ (z : ℕ). z / 64) f ∙ e)))

-- a set without numbers, with the bit of one number in its word
pub added-in : (x : Set) → ((j : ℕ) → is_in x j ≡ false) → (q k : ℕ) → q < 4 → k / 64 ≡ q → (j : ℕ) → is_in (with_word x q (2 ^ (k % 64))) j ≡ eqb j k
unfolding is_in
added-in x empty q k l e j = go (ℕ_discrete (j / 64) q)
  where
    go : Dec (j / 64 ≡ q) → bit_at (word_at (with_word x q (2 ^ (k % 64))) (j / 64)) (j % 64) ≡ eqb j k
    go (yes i) =
        ap (λ (p : ℕ). bit_at (word_at (with_word x q (2 ^ (k % 64))) p) (j % 64)) i
        ∙ ap (λ (w : ℕ). bit_at w (j % 64)) (with-here x q (2 ^ (k % 64)) l)
        ∙ pow-bit (k % 64) (j % 64)
        ∙ T-same (eqb (j % 64) (k % 64)) (eqb j k)
        (λ t. let f = eqb→eq (j % 64) (k % 64) t in let g : j ≡ k = omega arith in T-eqb g)
        (λ t. let f = eqb→eq j k t in let g : j % 64 ≡ k % 64 = ap (λ (z : ℕ). z % 64) f in T-eqb g)
    go (no n) =
        ap (λ (w : ℕ). bit_at w (j % 64)) (with-other x q (2 ^ (k % 64)) (j / 64) n)
        ∙ empty j
        ∙ sym (ne_eqb j k (λ f. n (ap (λ (z : ℕ). z / 64) f ∙ e)))
