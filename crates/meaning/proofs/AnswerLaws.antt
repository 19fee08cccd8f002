-- Laws of the answers: "overrides" goes one way, no pair has certificates of both signs, and denied by default is said exactly
-- if no arrow of the mode reaches the pair. Assumes nothing.
use mathlib.Core.Path.{◌≡◌, refl, sym, subst, ◌∙◌}
use mathlib.Core.Logic.{⊎_elim, ◌≢◌}
use mathlib.Core.Bool.{Bool, true, false, not, ◌&&◌, ◌||◌}
use Rattle.std.specs.Prelude.{Option, None as none, Some as some}
use Prim.Native.Nat.{ℕ, ◌<◌, ◌≤◌}
use native.Mathlib.Omega.{arith}
use lib.Dec.{T, T_not, eqb, eqb→eq}
use Rattle.base.specs.Search.{lowest}
use Rattle.tables.specs.Rows.{Picture, arrow_count, arrow_at}
use Rattle.tables.specs.declared.Arrow.{Arrow}
use Rattle.base.proofs.Tests.{or-T, and_T, T_and, T-eqb, T_true, true-T, not-false, false-not}
use Rattle.base.proofs.SearchLaws.{every-at, every-is, lowest-some, lowest-none}
use Rattle.base.proofs.SelectLaws.{lowest-nothing}
use Rattle.meaning.specs.Meaning.{positive, negative, has_mode, reaches, nests, level, overrides, settle, hits, certifies, answer}
use Rattle.meaning.specs.declared.Entry.TheVariants.{Default}

-- ---- "overrides" by tests of nesting alone

-- where b is not nested in a, they are level unless a is nested in b
level-open : (pic : Picture) (a b : ℕ) → nests pic a b ≡ false → level pic a b ≡ not (nests pic b a)
unfolding level
level-open pic a b e = go (eqb a b) refl
  where
    go : (t : Bool) → eqb a b ≡ t → t || not (nests pic a b) && not (nests pic b a) ≡ not (nests pic b a)
    go false q = rw e
    go true q =
        let same : a ≡ b = eqb→eq a b (true-T (eqb a b) q) in
        let back : nests pic b a ≡ false = subst (λ (z : ℕ). nests pic z a ≡ false) same (subst (λ (z : ℕ). nests pic a z ≡ false) (sym same) e) in
        rw back

module _ (pic : Picture) (p n : Arrow) where
  pub outer-tail : nests pic p.tail n.tail ≡ true → overrides pic p n ≡ false
  unfolding overrides
  outer-tail e = rw e

  pub outer-head : nests pic p.tail n.tail ≡ false → nests pic p.head n.head ≡ true → overrides pic p n ≡ false
  unfolding overrides
  outer-head e h = rw (e, h)

  pub no_outer : nests pic p.tail n.tail ≡ false → nests pic p.head n.head ≡ false
      → overrides pic p n ≡ (nests pic n.tail p.tail || nests pic n.head p.head)
  unfolding overrides
  no_outer e h =
      rw (e, h, level-open pic p.tail n.tail e, level-open pic p.head n.head h)
      (neither (nests pic n.tail p.tail) (nests pic n.head p.head))
    where
      neither : (x y : Bool) → not (not x && not y) ≡ (x || y)
      neither true y = refl
      neither false true = refl
      neither false false = refl

  -- overrides, by the four tests of nesting alone
  pub overrides-is : overrides pic p n ≡
      (not (nests pic p.tail n.tail || nests pic p.head n.head) && (nests pic n.tail p.tail || nests pic n.head p.head))
  overrides-is = go (nests pic p.tail n.tail) (nests pic p.head n.head) refl refl
    where
      go : (t h : Bool) → nests pic p.tail n.tail ≡ t → nests pic p.head n.head ≡ h
          → overrides pic p n ≡ (not (t || h) && (nests pic n.tail p.tail || nests pic n.head p.head))
      go true h e f = outer-tail e
      go false true e f = outer-head e f
      go false false e f = no_outer e f

-- of two arrows at most one overrides the other
pub overrides-asym : (pic : Picture) (p n : Arrow) → T (overrides pic p n) → T (overrides pic n p) → ⊥
overrides-asym pic p n h k =
    let (a, b) = no_end p n h in
    let (c, d) = no_end n p k in
    subst T {y = false} (no_outer pic p n a b ∙ rw (c, d)) h
  where
    no_end : (p n : Arrow) → T (overrides pic p n) → (nests pic p.tail n.tail ≡ false) × (nests pic p.head n.head ≡ false)
    no_end p n t =
        let tails : nests pic p.tail n.tail ≡ false = not-false _ (λ i. false-not _ (outer-tail pic p n (T_true _ i)) t) in
        (tails, not-false _ (λ i. false-not _ (outer-head pic p n tails (T_true _ i)) t))

module _ (pic : Picture) (m u f : ℕ) where
  -- what a hit is
  pub hit : (s k : ℕ) → (arrow_at pic.arrows k).mode ≡ m → (arrow_at pic.arrows k).sign ≡ s → T (reaches pic (arrow_at pic.arrows k) u f) → T (hits pic m s u f k)
  unfolding hits has_mode
  hit s k e i r =
      T_and (eqb (arrow_at pic.arrows k).mode m) _ (T-eqb e)
      (T_and (eqb (arrow_at pic.arrows k).sign s) (reaches pic (arrow_at pic.arrows k) u f) (T-eqb i) r)

  pub hit-mode : (s k : ℕ) → T (hits pic m s u f k) → (arrow_at pic.arrows k).mode ≡ m
  unfolding hits has_mode
  hit-mode s k t = eqb→eq (arrow_at pic.arrows k).mode m (and_T (eqb (arrow_at pic.arrows k).mode m) _ t).0

  hit-rest : (s k : ℕ) → T (hits pic m s u f k) → T (eqb (arrow_at pic.arrows k).sign s) × T (reaches pic (arrow_at pic.arrows k) u f)
  unfolding hits has_mode
  hit-rest s k t =
      and_T (eqb (arrow_at pic.arrows k).sign s) (reaches pic (arrow_at pic.arrows k) u f) (and_T (eqb (arrow_at pic.arrows k).mode m) _ t).1

  pub hit-sign : (s k : ℕ) → T (hits pic m s u f k) → (arrow_at pic.arrows k).sign ≡ s
  hit-sign s k t = eqb→eq (arrow_at pic.arrows k).sign s (hit-rest s k t).0

  pub hit-reaches : (s k : ℕ) → T (hits pic m s u f k) → T (reaches pic (arrow_at pic.arrows k) u f)
  hit-reaches s k t = (hit-rest s k t).1

  -- a certificate reaches the pair, and overrides each arrow of the other sign that does
  pub certifies-hits : (s o k : ℕ) → T (certifies pic m s o u f k) → T (hits pic m s u f k)
  unfolding certifies
  certifies-hits s o k t = (and_T (hits pic m s u f k) _ t).0

  pub certifies-over : (s o k : ℕ) → T (certifies pic m s o u f k) → (j : ℕ) → j < arrow_count pic.arrows
      → T (hits pic m o u f j) → T (overrides pic (arrow_at pic.arrows k) (arrow_at pic.arrows j))
  unfolding certifies
  certifies-over s o k t j l h =
      ⊎_elim (λ n. absurd (T_not (hits pic m o u f j) n h)) (λ r. r)
      (or-T (not (hits pic m o u f j)) (overrides pic (arrow_at pic.arrows k) (arrow_at pic.arrows j))
      (every-at (λ j. not (hits pic m o u f j) || overrides pic (arrow_at pic.arrows k) (arrow_at pic.arrows j)) (arrow_count pic.arrows)
      (and_T (hits pic m s u f k) _ t).1 j l))

  pub certifies-is : (s o k : ℕ) → T (hits pic m s u f k)
      → ((j : ℕ) → j < arrow_count pic.arrows → T (hits pic m o u f j) → T (overrides pic (arrow_at pic.arrows k) (arrow_at pic.arrows j)))
      → T (certifies pic m s o u f k)
  unfolding certifies
  certifies-is s o k h over =
      T_and (hits pic m s u f k) _ h
      (every-is (λ j. not (hits pic m o u f j) || overrides pic (arrow_at pic.arrows k) (arrow_at pic.arrows j)) (arrow_count pic.arrows)
      (λ j l. either (hits pic m o u f j) _ (over j l)))
    where
      either : (a b : Bool) → (T a → T b) → T (not a || b)
      either true b g = g tt
      either false b g = tt

  -- no pair has certificates of both signs
  pub one-sign : (i j : ℕ) → i < arrow_count pic.arrows → j < arrow_count pic.arrows
      → T (certifies pic m positive negative u f i) → T (certifies pic m negative positive u f j) → ⊥
  one-sign i j li lj p n =
      overrides-asym pic (arrow_at pic.arrows i) (arrow_at pic.arrows j)
      (certifies-over positive negative i p j lj (certifies-hits negative positive j n))
      (certifies-over negative positive j n i li (certifies-hits positive negative i p))

  -- ---- denied by default

  -- no arrow of the mode reaches the pair
  abbrev pub Unreached : Type 0
  Unreached = (k : ℕ) → k < arrow_count pic.arrows → (arrow_at pic.arrows k).mode ≡ m → T (reaches pic (arrow_at pic.arrows k) u f) → ⊥

  -- an arrow that no opposite arrow meets is a certificate
  unopposed : (s o k : ℕ) → T (hits pic m s u f k) → ((j : ℕ) → j < arrow_count pic.arrows → T (hits pic m o u f j) → ⊥)
      → T (certifies pic m s o u f k)
  unopposed s o k h n = certifies-is s o k h (λ j l t. absurd (n j l t))

  -- where no arrow of either sign hits, the answer is the default
  pub unhit-default : ((k : ℕ) → k < arrow_count pic.arrows → T (hits pic m positive u f k) → ⊥)
      → ((k : ℕ) → k < arrow_count pic.arrows → T (hits pic m negative u f k) → ⊥) → answer pic m u f ≡ Default
  unfolding answer settle
  unhit-default p n =
      rw (
        lowest-nothing (certifies pic m positive negative u f) (arrow_count pic.arrows) (λ k l t. p k l (certifies-hits positive negative k t)),
        lowest-nothing (certifies pic m negative positive u f) (arrow_count pic.arrows) (λ k l t. n k l (certifies-hits negative positive k t)),
        lowest-nothing (hits pic m positive u f) (arrow_count pic.arrows) p,
      )

  pub unreached-default : Unreached → answer pic m u f ≡ Default
  unreached-default n = unhit-default (none-hit positive) (none-hit negative)
    where
      none-hit : (s k : ℕ) → k < arrow_count pic.arrows → T (hits pic m s u f k) → ⊥
      none-hit s k l t = n k l (hit-mode s k t) (hit-reaches s k t)

  -- where the signs are 0 and 1, as check 7 says
  pub default-unreached : ((k : ℕ) → k < arrow_count pic.arrows → (arrow_at pic.arrows k).sign ≤ 1) → answer pic m u f ≡ Default → Unreached
  unfolding answer settle
  default-unreached signs e k l o r =
      go
      (lowest (certifies pic m positive negative u f) (arrow_count pic.arrows)) refl
      (lowest (certifies pic m negative positive u f) (arrow_count pic.arrows)) refl
      (lowest (hits pic m positive u f) (arrow_count pic.arrows)) refl
      (lowest (hits pic m negative u f) (arrow_count pic.arrows)) refl
      e
    where
      -- of sign 1 or 0
      one_of : (T (hits pic m positive u f k) → ⊥) → (T (hits pic m negative u f k) → ⊥) → ⊥
      one_of p n =
          let a : (arrow_at pic.arrows k).sign ≢ 1 = λ i. p (hit positive k o i r) in
          let b : (arrow_at pic.arrows k).sign ≢ 0 = λ i. n (hit negative k o i r) in
          omega (arith, signs k l)

      go : (a : Option ℕ) → lowest (certifies pic m positive negative u f) (arrow_count pic.arrows) ≡ a
          → (b : Option ℕ) → lowest (certifies pic m negative positive u f) (arrow_count pic.arrows) ≡ b
          → (c : Option ℕ) → lowest (hits pic m positive u f) (arrow_count pic.arrows) ≡ c
          → (d : Option ℕ) → lowest (hits pic m negative u f) (arrow_count pic.arrows) ≡ d
          → settle a b c d ≡ Default → ⊥
      go (some k) p b q c r d s e = let z : ◌≡◌ {A = ℕ} 0 1 = cc in omega arith
      go none p (some k) q c r d s e = let z : ◌≡◌ {A = ℕ} 0 1 = cc in omega arith
      go none p none q (some i) r (some j) s e = let z : ◌≡◌ {A = ℕ} 0 1 = cc in omega arith
      go none p none q (some i) r none s e =
          let g = lowest-some _ _ i r in lowest-none _ _ p i g.0 (unopposed positive negative i g.1 (lowest-none _ _ s))
      go none p none q none r (some j) s e =
          let g = lowest-some _ _ j s in lowest-none _ _ q j g.0 (unopposed negative positive j g.1 (lowest-none _ _ r))
      go none p none q none r none s e = one_of (lowest-none _ _ r k l) (lowest-none _ _ s k l)
