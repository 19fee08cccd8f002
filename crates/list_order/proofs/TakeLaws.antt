-- An arrow's files are taken from what each of its users has left, and the arrow is spent then. Assumes nothing.
use mathlib.Core.Path.{◌≡◌, refl, ◌∙◌}
use mathlib.Core.Bool.{Bool, true, false, not, ◌&&◌}
use mathlib.Core.List.{List}
use Prim.Native.Nat.{ℕ}
use native.Mathlib.Decide.{ℕ_discrete}
use borrow.Author.Tests.{eq-eqb, ne_eqb}
use lib.Dec.{T, T_not}
use lib.ListN.{length}
use Rattle.base.proofs.Tests.{and_T, T_and}
use Rattle.tables.specs.declared.Arrow.{Arrow}
use Rattle.boxsets.specs.Sets.{is_in, set_at, has, Put}
use Rattle.boxsets.specs.declared.Set.{Set}
use Rattle.boxsets.specs.Members.{TakesLowest}
use Rattle.boxsets.proofs.TakesLaws.{takes-split}
use Rattle.boxsets.proofs.TableLaws.{put-hit, put-miss}
use Rattle.list_standing.specs.Steps.{standing_by}
use Rattle.list_standing.specs.declared.Standing.TheVariants.{Spent}
use Rattle.list_standing.proofs.StandLaws.{nothing_left}
use Rattle.list_order.specs.Steps.{Takes}

-- p holds of the users that the walk goes over, and q of those to come: what is left, and what those still lose
pub record Taking (p q : ℕ → Bool) (files : Set) (left left' : List ℕ) : Type 0 where
  pub len : length left' ≡ length left
  pub each : (u f : ℕ) → (has left' u f && not (q u && is_in files f)) ≡ (has left u f && not (p u && is_in files f))

pub taking-next : {k : ℕ} {p q r : ℕ → Bool} {s t u : List ℕ} (files kept : Set) → TakesLowest q k r
    → ((f : ℕ) → is_in kept f ≡ (has t k f && not (is_in files f))) → Put t k kept u → Taking p q files s t → Taking p r files s u
taking-next {k} {p} {q} {r} {s} {t} {u} files kept takes kept-are put so_far = record {
  len = put.len ∙ so_far.len;
  each = λ a f. go a f (ℕ_discrete a k) ∙ so_far.each a f;
}
  where
    once : (a b c : Bool) → ((a && not c) && not (b && c)) ≡ (a && not c)
    once true true true = refl
    once true true false = refl
    once true false true = refl
    once true false false = refl
    once false b c = refl

    go : (a f : ℕ) → Dec (a ≡ k) → (has u a f && not (r a && is_in files f)) ≡ (has t a f && not (q a && is_in files f))
    go a f (yes i) =
        rw (takes-split takes a, eq-eqb a k i, i, put-hit t k kept u put f, kept-are f) (once (has t k f) (r k) (is_in files f))
    go a f (no n) = rw (put-miss t k kept u put a f n, takes-split takes a, ne_eqb a k n)

-- ---- what is taken is gone

pub left-fewer : (users : ℕ → Bool) (files : Set) (left left' : List ℕ) → Takes users files left left'
    → (u f : ℕ) → T (has left' u f) → T (has left u f)
left-fewer users files left left' t u f h = (and_T (has left u f) (not (users u && is_in files f)) (rw (t.each u f) at h)).0

-- an arrow whose files were taken is spent
pub taken-spent : (closure granted left left' : List ℕ) (a : Arrow)
    → Takes (is_in (set_at closure a.tail)) (set_at closure a.head) left left' → standing_by closure left' granted a ≡ Spent
taken-spent closure granted left left' a t =
    nothing_left closure granted left' a
    (λ u f i j h.
    let both = is_in (set_at closure a.tail) u && is_in (set_at closure a.head) f in
    T_not both (and_T (has left u f) (not both) (rw (t.each u f) at h)).1
    (T_and (is_in (set_at closure a.tail) u) (is_in (set_at closure a.head) f) i j))
