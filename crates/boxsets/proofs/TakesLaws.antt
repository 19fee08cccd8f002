-- A walk over the numbers of a set, one by one: what a turn takes, and what it leaves. Assumes nothing.
use mathlib.Core.Path.{◌≡◌, refl, sym, ap, subst, ◌∙◌}
use mathlib.Core.Bool.{Bool, true, false, not, ◌&&◌, ◌||◌, cond}
use mathlib.Core.List.{List}
use Prim.Native.Nat.{ℕ, ◌+◌, ◌-◌, ◌<◌}
use native.Mathlib.Omega.{arith}
use native.Mathlib.Decide.{ℕ_discrete, dec_lt}
use borrow.Author.Tests.{eq-eqb, ne_eqb}
use lib.Dec.{T, eqb}
use lib.ListN.{length, get_or, set, length-set}
use lib.Seq.{get_or-set_same, get_or-set_other}
use Rattle.base.specs.Steps.{any_below}
use Rattle.base.proofs.AnyLaws.{any_none, any_same, any-take}
use Rattle.base.proofs.SelectLaws.{lowest-nothing}
use Rattle.base.proofs.Tests.{and_T, T_true, false-not}
use Rattle.boxsets.specs.Sets.{least}
use Rattle.boxsets.specs.Members.{TakesLowest}
use Rattle.boxsets.proofs.LeastLaws.{least-is, least-found}

-- ---- for whom a loop goes over the numbers: those before a turn are the one that it takes, and those left

pub takes-split : {p q : ℕ → Bool} {k : ℕ} → TakesLowest p k q → (j : ℕ) → p j ≡ (eqb j k || q j)
takes-split {p} {q} {k} t j = go (ℕ_discrete j k)
  where
    and_yes : (b : Bool) → b ≡ (b && true)
    and_yes true = refl
    and_yes false = refl

    go : Dec (j ≡ k) → p j ≡ (eqb j k || q j)
    go (yes e) = rw (eq-eqb j k e) (T_true (p j) (subst (λ (i : ℕ). T (p i)) (sym e) t.there))
    go (no n) = rw (ne_eqb j k n) (and_yes (p j) ∙ sym (rw (ne_eqb j k n) at (t.others j)))

pub takes-fewer : {p q : ℕ → Bool} {k : ℕ} → TakesLowest p k q → (j : ℕ) → T (q j) → T (p j)
takes-fewer {p} {q} {k} t j h = (and_T (p j) (not (eqb j k)) (subst T (t.others j) h)).0

-- the same of a test that agrees with the first
pub takes-same : {p r q : ℕ → Bool} {k : ℕ} → ((j : ℕ) → p j ≡ r j) → TakesLowest p k q → TakesLowest r k q
takes-same {p} {r} {q} {k} e t = record {
  below = t.below;
  there = subst T (e k) t.there;
  lowest = λ j l h. t.lowest j l (subst T (sym (e j)) h);
  others = λ j. rw (sym (e j)) (t.others j);
}

-- ---- by the lowest number at which a test holds

pub takes-least : {p q : ℕ → Bool} {k : ℕ} → TakesLowest p k q → least p 256 ≡ k
takes-least {p} {q} {k} t = least-is p 256 k t.below t.there t.lowest

-- the measure of a walk
pub takes-less : {p q : ℕ → Bool} {k : ℕ} → TakesLowest p k q → 256 - least q 256 < 256 - least p 256
takes-less {p} {q} {k} t = go (dec_lt k (least q 256)) (least-found q 256)
  where
    go : Dec (k < least q 256) → ((least q 256 < 256 → T (q (least q 256))) × ((j : ℕ) → j < least q 256 → T (q j) → ⊥))
        → 256 - least q 256 < 256 - least p 256
    go (yes l) f = omega (arith, takes-least t, t.below)
    go (no n) f =
        let b : least q 256 < 256 = omega (arith, t.below) in
        let h = subst T (t.others (least q 256)) (f.0 b) in
        let a = and_T (p (least q 256)) (not (eqb (least q 256) k)) h in
        absurd (at (ℕ_discrete (least q 256) k) a.0 a.1)
      where
        at : Dec (least q 256 ≡ k) → T (p (least q 256)) → T (not (eqb (least q 256) k)) → ⊥
        at (yes e) u v = subst (λ (b : Bool). T (not b)) (eq-eqb (least q 256) k e) v
        at (no m) u v = t.lowest (least q 256) (omega arith) u

-- ---- a walk that looks for a test at the numbers

module _ (test : ℕ → Bool) where
  -- the test holds at one of the numbers
  abbrev pub at_some : (p : ℕ → Bool) → Bool
  at_some p = any_below (λ k. p k && test k) 256

  -- p holds of the numbers that the walk goes over, and q of those to come: these say what all do
  pub record Seeks (p q : ℕ → Bool) : Type 0 where
    pub same : at_some q ≡ at_some p

  pub seeks-none : (p q : ℕ → Bool) → ((j : ℕ) → q j ≡ p j) → Seeks p q
  seeks-none p q e = record { same = any_same _ _ 256 (λ k l. ap (λ (b : Bool). b && test k) (e k)) }

  takes-some : {k : ℕ} {q r : ℕ → Bool} → TakesLowest q k r → at_some q ≡ (test k || at_some r)
  takes-some {k} {q} {r} t = any-take q r test k 256 t.below (takes-split t)

  pub seeks-next : {k : ℕ} {p q r : ℕ → Bool} → TakesLowest q k r → test k ≡ false → Seeks p q → Seeks p r
  seeks-next {k} {p} {q} {r} t e s = record { same = sym (takes-some t ∙ rw e) ∙ s.same }

  pub seeks-found : {k : ℕ} {p q r : ℕ → Bool} → TakesLowest q k r → test k ≡ true → Seeks p q → at_some p ≡ true
  seeks-found {k} {p} {q} {r} t e s = sym s.same ∙ takes-some t ∙ rw e

  pub seeks-end : {p q : ℕ → Bool} → ((j : ℕ) → q j ≡ false) → Seeks p q → at_some p ≡ false
  seeks-end {p} {q} none s =
      sym s.same
      ∙ any_none (λ k. q k && test k) 256
      (lowest-nothing (λ k. q k && test k) 256 (λ j l u. false-not (q j) (none j) (and_T (q j) (test j) u).0))

-- ---- a walk that writes the same number at a place for each of the numbers

module _ (at number : ℕ) where
  -- what is written, and what the numbers to come still ask for, make up the whole
  pub record Places (p q : ℕ → Bool) (s t : List ℕ) : Type 0 where
    pub len : length t ≡ length s
    pub each : (a : ℕ) → cond (q a) number (get_or t (at + a) 0) ≡ cond (p a) number (get_or s (at + a) 0)
    pub before : (i : ℕ) → i < at → get_or t i 0 ≡ get_or s i 0
    pub within : (a : ℕ) → T (q a) → T (p a)

  pub places-none : (p q : ℕ → Bool) (s : List ℕ) → ((a : ℕ) → q a ≡ p a) → Places p q s s
  places-none p q s e = record {
    len = refl;
    each = λ a. ap (λ (b : Bool). cond b number (get_or s (at + a) 0)) (e a);
    before = λ i l. refl;
    within = λ a h. subst T (e a) h;
  }

  cond-or : (e v : Bool) (z : ℕ) → cond v number (cond e number z) ≡ cond (e || v) number z
  cond-or true true z = refl
  cond-or true false z = refl
  cond-or false v z = refl

  set-at : (t : List ℕ) (k a : ℕ) → at + k < length t → get_or (set t (at + k) number) (at + a) 0 ≡ cond (eqb a k) number (get_or t (at + a) 0)
  set-at t k a l = go (ℕ_discrete a k)
    where
      go : Dec (a ≡ k) → get_or (set t (at + k) number) (at + a) 0 ≡ cond (eqb a k) number (get_or t (at + a) 0)
      go (yes e) = rw (eq-eqb a k e, e) (get_or-set_same t (at + k) number 0 l)
      go (no n) = rw (ne_eqb a k n) (get_or-set_other t (at + k) (at + a) number 0 (omega arith))

  pub places-next : {k : ℕ} {p q r : ℕ → Bool} {s t : List ℕ} → TakesLowest q k r → at + k < length t → Places p q s t
      → Places p r s (set t (at + k) number)
  places-next {k} {p} {q} {r} {s} {t} takes there w = record {
    len = length-set t (at + k) number ∙ w.len;
    each = λ a.
        ap (λ (z : ℕ). cond (r a) number z) (set-at t k a there)
        ∙ cond-or (eqb a k) (r a) (get_or t (at + a) 0)
        ∙ ap (λ (b : Bool). cond b number (get_or t (at + a) 0)) (sym (takes-split takes a))
        ∙ w.each a;
    before = λ i l. get_or-set_other t (at + k) i number 0 (omega arith) ∙ w.before i l;
    within = λ a h. w.within a (takes-fewer takes a h);
  }

  pub places-end : {p q : ℕ → Bool} {s t : List ℕ} → ((a : ℕ) → q a ≡ false) → Places p q s t
      → (a : ℕ) → get_or t (at + a) 0 ≡ cond (p a) number (get_or s (at + a) 0)
  places-end {p} {q} {s} {t} none w a = ap (λ (b : Bool). cond b number (get_or t (at + a) 0)) (sym (none a)) ∙ w.each a
