-- A set joined to some sets of a table. Assumes nothing.
use mathlib.Core.Path.{◌≡◌, refl, sym, ap, ◌∙◌}
use mathlib.Core.Bool.{Bool, true, false, not, ◌&&◌, ◌||◌, or-false}
use mathlib.Core.List.{List}
use Rattle.std.specs.Prelude.{Some as some}
use Prim.Native.Nat.{ℕ, zero, suc, ◌+◌, ◌*◌, ◌/◌, ◌%◌, ◌<◌}
use native.Mathlib.Omega.{arith}
use native.Mathlib.Decide.{ℕ_discrete}
use borrow.Author.Tests.{eq-eqb, ne_eqb}
use lib.Dec.{eqb}
use lib.ListN.{length}
use Rattle.base.specs.Search.{lowest}
use Rattle.base.proofs.SearchLaws.{lowest-some}
use Rattle.base.proofs.Tests.{T_true}
use Rattle.boxsets.specs.Words.{bit_at}
use Rattle.boxsets.specs.Sets.{word_at, is_in, in_word, set_at, has, Put, Joins}
use Rattle.boxsets.specs.declared.Set.{Set}
use Rattle.boxsets.specs.Members.{TakesLowest}
use Rattle.boxsets.proofs.WordLaws.{zero_bit, eqb-shifted}
use Rattle.boxsets.proofs.TakesLaws.{takes-split}

-- ---- a word's numbers, one by one

and_yes : (b : Bool) → (b && true) ≡ b
and_yes true = refl
and_yes false = refl

-- without its lowest bit, a word has its other numbers
pub word_next : (q w v l : ℕ) → lowest (bit_at w) 64 ≡ some l → ((b : ℕ) → bit_at v b ≡ (bit_at w b && not (eqb b l))) → (a : ℕ)
    → in_word q w a ≡ (eqb a (64 * q + l) || in_word q v a)
unfolding in_word
word_next q w v l e d a =
    let s = lowest-some (bit_at w) 64 l e in
    go s.0 (T_true (bit_at w l) s.1) (ℕ_discrete (a / 64) q) (ℕ_discrete (a % 64) l)
  where
    go : l < 64 → bit_at w l ≡ true → Dec (a / 64 ≡ q) → Dec (a % 64 ≡ l)
        → (eqb (a / 64) q && bit_at w (a % 64)) ≡ (eqb a (64 * q + l) || eqb (a / 64) q && bit_at v (a % 64))
    go h t (no n) m =
        let f : a ≡ 64 * q + l → ⊥ = λ z. n (omega arith) in
        rw (ne_eqb (a / 64) q n, ne_eqb a (64 * q + l) f)
    go h t (yes y) (yes z) =
        let f : a ≡ 64 * q + l = omega arith in
        rw (eq-eqb (a / 64) q y, eq-eqb a (64 * q + l) f, z, t)
    go h t (yes y) (no n) =
        let f : a ≡ 64 * q + l → ⊥ = λ z. n (omega arith) in
        rw (eq-eqb (a / 64) q y, ne_eqb a (64 * q + l) f, d (a % 64), ne_eqb (a % 64) l n) (sym (and_yes (bit_at w (a % 64))))

pub word_none : (q a : ℕ) → in_word q 0 a ≡ false
unfolding in_word
word_none q a = rw (zero_bit (a % 64)) (go (eqb (a / 64) q))
  where
    go : (b : Bool) → (b && false) ≡ false
    go true = refl
    go false = refl

-- the numbers of a set are those of its words
pub words-in : (x : Set) (a : ℕ) → is_in x a ≡ (in_word 0 x.a a || (in_word 1 x.b a || (in_word 2 x.c a || in_word 3 x.d a)))
unfolding is_in in_word word_at
words-in x a = go (a / 64)
  where
    go : (q : ℕ) → bit_at (word_at x q) (a % 64)
        ≡ (eqb q 0 && bit_at x.a (a % 64) || (eqb q 1 && bit_at x.b (a % 64) || (eqb q 2 && bit_at x.c (a % 64) || eqb q 3 && bit_at x.d (a % 64))))
    go zero = sym (or-false (bit_at x.a (a % 64)))
    go (suc zero) = sym (or-false (bit_at x.b (a % 64)))
    go (suc (suc zero)) = sym (or-false (bit_at x.c (a % 64)))
    go (suc (suc (suc zero))) = refl
    go (suc (suc (suc (suc q)))) =
        rw (
          ne_eqb (suc (suc (suc (suc q)))) 0 (omega arith),
          ne_eqb (suc (suc (suc (suc q)))) 1 (omega arith),
          ne_eqb (suc (suc (suc (suc q)))) 2 (omega arith),
          ne_eqb (suc (suc (suc (suc q)))) 3 (omega arith),
        ) (zero_bit (a % 64))

-- ---- one set of the table

pub put-joined : (t u : List ℕ) (r : ℕ) (x y : Set) → Put t r y u → ((b : ℕ) → is_in y b ≡ (is_in (set_at t r) b || is_in x b)) → (a b : ℕ)
    → has u a b ≡ (has t a b || eqb a r && is_in x b)
unfolding has
put-joined t u r x y p h a b = go (ℕ_discrete a r)
  where
    go : Dec (a ≡ r) → is_in (set_at u a) b ≡ (is_in (set_at t a) b || eqb a r && is_in x b)
    go (yes e) = rw (eq-eqb a r e, e) (ap (λ (z : Set). is_in z b) p.hit ∙ h b)
    go (no n) = rw (ne_eqb a r n) (ap (λ (z : Set). is_in z b) (p.miss a n) ∙ sym (or-false (is_in (set_at t a) b)))

-- ---- the walk over numbers: what is joined, and what the numbers to come still ask for, make up the whole

-- p holds of the numbers that the walk goes over, and q of those to come
pub record Left (from : ℕ) (p q : ℕ → Bool) (x : Set) (t u : List ℕ) : Type 0 where
  pub len : length u ≡ length t
  pub each : (a b : ℕ) → (has u (from + a) b || q a && is_in x b) ≡ (has t (from + a) b || p a && is_in x b)
  pub before : (r b : ℕ) → r < from → has u r b ≡ has t r b

regroup : (h e p x : Bool) → ((h || e && x) || p && x) ≡ (h || (e || p) && x)
regroup true e p x = refl
regroup false true p true = refl
regroup false true true false = refl
regroup false true false false = refl
regroup false false p x = refl

pub left-none : (from : ℕ) (p q : ℕ → Bool) (x : Set) (t : List ℕ) → ((a : ℕ) → q a ≡ p a) → Left from p q x t t
left-none from p q x t e = record {
  len = refl;
  each = λ a b. ap (λ (z : Bool). has t (from + a) b || z && is_in x b) (e a);
  before = λ r b l. refl;
}

-- z was read, and y, which has x too, was put in its place
pub left-next : {from k : ℕ} {p q r : ℕ → Bool} {t u w : List ℕ} (x y z : Set) → TakesLowest q k r → z ≡ set_at u (from + k)
    → ((b : ℕ) → is_in y b ≡ (is_in z b || is_in x b)) → Put u (from + k) y w → Left from p q x t u → Left from p r x t w
left-next {from} {k} {p} {q} {r} {t} {u} {w} x y z takes read joins put left = record {
  len = put.len ∙ left.len;
  each = λ a b.
      ap (λ (z : Bool). z || r a && is_in x b)
      (put-joined u w (from + k) x y put joined (from + a) b ∙ ap (λ (z : Bool). has u (from + a) b || z && is_in x b) (eqb-shifted from a k))
      ∙ regroup (has u (from + a) b) (eqb a k) (r a) (is_in x b)
      ∙ ap (λ (z : Bool). has u (from + a) b || z && is_in x b) (sym (takes-split takes a))
      ∙ left.each a b;
  before = λ i b l.
      put-joined u w (from + k) x y put joined i b
      ∙ ap (λ (z : Bool). has u i b || z && is_in x b) (ne_eqb i (from + k) (omega arith))
      ∙ or-false (has u i b)
      ∙ left.before i b l;
}
  where
    joined : (b : ℕ) → is_in y b ≡ (is_in (set_at u (from + k)) b || is_in x b)
    joined b = joins b ∙ ap (λ (z : Set). is_in z b || is_in x b) read

pub left_end : {from : ℕ} {p q : ℕ → Bool} {x : Set} {t u : List ℕ} → ((a : ℕ) → q a ≡ false) → Left from p q x t u → Joins from p x t u
left_end {from} {p} {q} {x} {t} {u} none left = record {
  len = left.len;
  each = λ a b.
      sym (or-false (has u (from + a) b))
      ∙ ap (λ (z : Bool). has u (from + a) b || z && is_in x b) (sym (none a))
      ∙ left.each a b;
  before = left.before;
}
