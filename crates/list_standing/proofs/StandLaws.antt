-- How an arrow stands, by sets: what each standing says, that what is spent stays so, and what the marks say. Assumes nothing.
use mathlib.Core.Path.{◌≡◌, refl, ◌∙◌}
use mathlib.Core.Bool.{Bool, true, false, not, cond, ◌&&◌}
use mathlib.Core.List.{List}
use Prim.Native.Nat.{ℕ}
use lib.Dec.{T, eqb}
use Rattle.base.proofs.Tests.{and_T, not-false, false-not}
use Rattle.tables.specs.declared.Arrow.{Arrow}
use Rattle.boxsets.specs.Sets.{is_in, set_at, has}
use Rattle.boxsets.specs.declared.Set.{Set}
use Rattle.boxsets.proofs.WalkLaws.{in-below}
use Rattle.meaning.specs.Meaning.{positive}
use Rattle.list_standing.specs.Steps.{some_in, wrong_at, standing_of, standing_by}
use Rattle.list_standing.specs.declared.Standing.TheVariants.{Spent, Free}
use Rattle.list_standing.proofs.SomeLaws.{some-found, some_is}

-- ---- how an arrow stands

-- of the files that a user has left, those that would be wrong
pub wrong-are : (files met bad : Set) (left granted : List ℕ) (sign u : ℕ) → ((f : ℕ) → is_in met f ≡ (is_in files f && has left u f))
    → ((f : ℕ) → is_in bad f ≡ (is_in met f && cond (eqb sign positive) (not (has granted u f)) (has granted u f))) → (f : ℕ)
    → is_in bad f ≡ (is_in files f && wrong_at left granted sign u f)
unfolding wrong_at
wrong-are files met bad left granted sign u met-are bad-are f = bad-are f ∙ rw (met-are f) (regroup (is_in files f) (has left u f) _)
  where
    regroup : (a b c : Bool) → ((a && b) && c) ≡ (a && (b && c))
    regroup true b c = refl
    regroup false b c = refl

-- only what is left can be wrong
wrong-left : (left granted : List ℕ) (sign u f : ℕ) → T (wrong_at left granted sign u f) → T (has left u f)
unfolding wrong_at
wrong-left left granted sign u f t = (and_T (has left u f) _ t).0

module _ (users files : Set) (left granted : List ℕ) (sign : ℕ) where
  abbrev wrong : Bool
  wrong = some_in (is_in users) files (wrong_at left granted sign)

  abbrev new : Bool
  new = some_in (is_in users) files (has left)

  pub stands-spent : new ≡ false → Spent ≡ standing_of wrong new
  unfolding standing_of
  stands-spent e = rw (not-false wrong none, e)
    where
      none : T wrong → ⊥
      none t =
          let r = some-found files (wrong_at left granted sign) (is_in users) t in
          false-not new e
          (some_is files (has left) (is_in users) r.0 r.1 (in-below users r.0 r.2) r.2 r.3 (wrong-left left granted sign r.0 r.1 r.4))

-- ---- what is spent stays so when less is left

pub spent-new : (wrong new : Bool) → standing_of wrong new ≡ Spent → (T wrong → ⊥) × (T new → ⊥)
unfolding standing_of
spent-new true new e = cc
spent-new false true e = cc
spent-new false false e = (λ t. t, λ t. t)

pub new-spent : (wrong new : Bool) → (T wrong → ⊥) → (T new → ⊥) → standing_of wrong new ≡ Spent
unfolding standing_of
new-spent wrong new n m = rw (not-false wrong n, not-false new m)

-- an arrow whose pairs are not left
pub nothing_left : (closure granted left : List ℕ) (a : Arrow)
    → ((u f : ℕ) → T (is_in (set_at closure a.tail) u) → T (is_in (set_at closure a.head) f) → T (has left u f) → ⊥)
    → standing_by closure left granted a ≡ Spent
unfolding standing_by
nothing_left closure granted left a none =
    let users = is_in (set_at closure a.tail) in
    let files = set_at closure a.head in
    new-spent (some_in users files (wrong_at left granted a.sign)) (some_in users files (has left))
    (λ t.
    let r = some-found files (wrong_at left granted a.sign) users t in
    none r.0 r.1 r.2 r.3 (wrong-left left granted a.sign r.0 r.1 r.4))
    (λ t. let r = some-found files (has left) users t in none r.0 r.1 r.2 r.3 r.4)

pub spent-stays : (closure granted left left' : List ℕ) → ((u f : ℕ) → T (has left' u f) → T (has left u f)) → (a : Arrow)
    → standing_by closure left granted a ≡ Spent → standing_by closure left' granted a ≡ Spent
unfolding standing_by
spent-stays closure granted left left' fewer a e =
    let users = set_at closure a.tail in
    let files = set_at closure a.head in
    let none = (spent-new (some_in (is_in users) files (wrong_at left granted a.sign)) (some_in (is_in users) files (has left)) e).1 in
    nothing_left closure granted left' a
    (λ u f i j h. none (some_is files (has left) (is_in users) u f (in-below users u i) i j (fewer u f h)))

-- ---- an arrow is free if it would give no pair that is left the wrong answer, and reaches one

new-free : (wrong new : Bool) → standing_of wrong new ≡ Free → (wrong ≡ false) × (new ≡ true)
unfolding standing_of
new-free true new e = cc
new-free false true e = (refl, refl)
new-free false false e = cc

module _ (closure left granted : List ℕ) (a : Arrow) where
  abbrev users : ℕ → Bool
  users = is_in (set_at closure a.tail)

  abbrev files : Set
  files = set_at closure a.head

  abbrev wrong_pair : ℕ → ℕ → Bool
  wrong_pair u f = has left u f && cond (eqb a.sign positive) (not (has granted u f)) (has granted u f)

  pub free-parts : standing_by closure left granted a ≡ Free → (some_in users files wrong_pair ≡ false) × (some_in users files (has left) ≡ true)
  unfolding standing_by wrong_at
  free-parts e = new-free (some_in users files wrong_pair) (some_in users files (has left)) e

  pub parts_free : some_in users files wrong_pair ≡ false → some_in users files (has left) ≡ true → standing_by closure left granted a ≡ Free
  unfolding standing_by standing_of wrong_at
  parts_free e i = rw (e, i)
