-- Lists of numbers: what the tests of `specs/Order.antt` say of a list with one more number, and how long a list with no number
-- twice can be. Assumes nothing.
use mathlib.Core.Path.{◌≡◌, refl, sym, subst}
use mathlib.Core.Logic.{⊎_elim}
use mathlib.Core.Bool.{Bool, true, false, not, ◌&&◌, ◌||◌}
use mathlib.Core.List.{List, [], ◌∷◌, ◌++◌}
use Prim.Native.Nat.{ℕ, ◌<◌, ◌≤◌}
use native.Mathlib.Omega.{arith}
use lib.Dec.{T, T_not, not_T, eqb, eqb→eq, eqb_refl}
use lib.ListN.{length}
use Rattle.base.specs.Search.{select}
use Rattle.list_meaning.specs.Order.{any_of, all_of, distinct}
use Rattle.base.proofs.Tests.{or-T, and_T, T_and, T-or₁, T-or₂, T-eqb}
use Rattle.base.proofs.SelectLaws.{select-fewer}

-- ---- one more number

pub any_of-snoc : (t : ℕ → Bool) (l : List ℕ) (k : ℕ) → any_of t (l ++ (k ∷ [])) ≡ (any_of t l || t k)
unfolding any_of
any_of-snoc t [] k = flat (t k)
  where
    flat : (b : Bool) → (b || false) ≡ b
    flat true = refl
    flat false = refl
any_of-snoc t (j ∷ l) k = rw (any_of-snoc t l k) (regroup (t j) (any_of t l) (t k))
  where
    regroup : (a b c : Bool) → (a || (b || c)) ≡ ((a || b) || c)
    regroup true b c = refl
    regroup false b c = refl

pub all_of-snoc : (t : ℕ → Bool) (l : List ℕ) (k : ℕ) → T (all_of t l) → T (t k) → T (all_of t (l ++ (k ∷ [])))
unfolding all_of
all_of-snoc t [] k a h = T_and (t k) true h tt
all_of-snoc t (j ∷ l) k a h = let b = and_T (t j) (all_of t l) a in T_and (t j) _ b.0 (all_of-snoc t l k b.1 h)

pub distinct_snoc : (l : List ℕ) (k : ℕ) → T (distinct l) → (T (any_of (eqb k) l) → ⊥) → T (distinct (l ++ (k ∷ [])))
unfolding any_of distinct
distinct_snoc [] k d n = tt
distinct_snoc (j ∷ l) k d n =
    let b = and_T (not (any_of (eqb j) l)) (distinct l) d in
    T_and (not (any_of (eqb j) (l ++ (k ∷ [])))) _
    (not_T (any_of (eqb j) (l ++ (k ∷ [])))
    (λ t.
    ⊎_elim (T_not (any_of (eqb j) l) b.0) (λ e. n (T-or₁ (eqb k j) (any_of (eqb k) l) (T-eqb (sym (eqb→eq j k e)))))
    (or-T (any_of (eqb j) l) (eqb j k) (rw any_of-snoc at t))))
    (distinct_snoc l k b.1 (λ h. n (T-or₂ (eqb k j) (any_of (eqb k) l) h)))

-- a number of the list at which a test holds
pub any_of-has : (t : ℕ → Bool) (l : List ℕ) (k : ℕ) → T (any_of (eqb k) l) → T (t k) → T (any_of t l)
unfolding any_of
any_of-has t [] k h r = h
any_of-has t (j ∷ l) k h r =
    ⊎_elim (λ e. T-or₁ (t j) (any_of t l) (subst (λ (i : ℕ). T (t i)) (eqb→eq k j e) r)) (λ s. T-or₂ (t j) (any_of t l) (any_of-has t l k s r))
    (or-T (eqb k j) (any_of (eqb k) l) h)

-- ---- how many

-- k apart, the numbers of the list pass the test and are not k
all_but : (t : ℕ → Bool) (k : ℕ) (l : List ℕ) → T (all_of t l) → (T (any_of (eqb k) l) → ⊥) → T (all_of (λ j. t j && not (eqb k j)) l)
unfolding all_of any_of
all_but t k [] a n = tt
all_but t k (j ∷ l) a n =
    let b = and_T (t j) (all_of t l) a in
    T_and (t j && not (eqb k j)) _
    (T_and (t j) _ b.0 (not_T (eqb k j) (λ e. n (T-or₁ (eqb k j) _ e))))
    (all_but t k l b.1 (λ h. n (T-or₂ (eqb k j) _ h)))

-- a list with no number twice is no longer than there are numbers for it
pub room : (t : ℕ → Bool) (n : ℕ) (l : List ℕ) → ((k : ℕ) → T (t k) → k < n) → T (all_of t l) → T (distinct l) → length l ≤ length (select t n)
unfolding all_of distinct
room t n [] w a d = omega arith
room t n (k ∷ l) w a d =
    let b = and_T (t k) (all_of t l) a in
    let e = and_T (not (any_of (eqb k) l)) (distinct l) d in
    let r = room (λ j. t j && not (eqb k j)) n l (λ j h. w j (and_T (t j) _ h).0) (all_but t k l b.1 (T_not (any_of (eqb k) l) e.0)) e.1 in
    let s =
    select-fewer (λ j. t j && not (eqb k j)) t n (λ j z h. (and_T (t j) _ h).0) k (w k b.0)
    (λ h. T_not (eqb k k) (and_T (t k) _ h).1 (eqb_refl k)) b.0 in
    omega arith
