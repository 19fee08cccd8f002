-- What one turn of each loop that fills the closure does to its sets. Assumes nothing.
use mathlib.Core.Path.{◌≡◌, refl, sym, ap, ap₂, ◌∙◌}
use mathlib.Core.Bool.{Bool, true, false, ◌&&◌, ◌||◌, or-false}
use mathlib.Core.List.{List, []}
use Prim.Native.Nat.{ℕ, ◌+◌, ◌*◌, ◌-◌, ◌<◌}
use native.Mathlib.Nat.{zero-add}
use native.Mathlib.Numerals.{add-one}
use native.Mathlib.Omega.{arith}
use borrow.Author.Tests.{ne_eqb}
use lib.Dec.{eqb}
use lib.ListN.{drop}
use Rattle.base.specs.Buffers.{zeros}
use Rattle.base.proofs.BufferLaws.{zeros-length}
use Rattle.tables.proofs.RowLaws.{rows-from}
use Rattle.boxsets.specs.Sets.{is_in, set_at, has, Added, Joins}
use Rattle.boxsets.specs.declared.Set.{Set}
use Rattle.boxsets.proofs.WordLaws.{eqb-turned, eqb-shifted}
use Rattle.boxsets.proofs.MemberLaws.{in-beyond}
use Rattle.boxsets.proofs.TableLaws.{has_in, zeros-has}
use Rattle.containment.specs.Contains.{direct}
use Rattle.containment.specs.Steps.{Both, Turns, through, rounds, closure_words}
use Rattle.containment.proofs.RowBoxes.{RowBoxes}

pub both-same : (n : ℕ) (f g : ℕ → ℕ → Bool) (t : List ℕ) → ((a b : ℕ) → f a b ≡ g a b) → Both n f t → Both n g t
both-same n f g t e s = record { len = s.len; down = λ a b l. s.down a b l ∙ e a b; up = λ a b l. s.up a b l ∙ e a b }

-- ---- a pair of boxes, added both ways

module _ (f : ℕ → ℕ → Bool) (o i : ℕ) (t u v : List ℕ) (ho : o < 256) (hi : i < 256) (h : Added t o i u) (g : Added u (256 + i) o v) where
  pair-down : (a b : ℕ) → a < 256 → has v a b ≡ (has t a b || eqb a o && eqb b i)
  pair-down a b l =
      g.each a b
      ∙ ap (λ (z : Bool). has u a b || z && eqb b o) (ne_eqb a (256 + i) (omega arith))
      ∙ or-false (has u a b)
      ∙ h.each a b

  and-turned : (p q : Bool) → (p && q) ≡ (q && p)
  and-turned true true = refl
  and-turned true false = refl
  and-turned false true = refl
  and-turned false false = refl

  pair-up : (a b : ℕ) → has v (256 + b) a ≡ (has t (256 + b) a || eqb a o && eqb b i)
  pair-up a b =
      g.each (256 + b) a
      ∙ ap₂ ◌||◌
      (h.each (256 + b) a ∙ ap (λ (z : Bool). has t (256 + b) a || z && eqb a i) (ne_eqb (256 + b) o (omega arith)) ∙ or-false (has t (256 + b) a))
      (ap (λ (z : Bool). z && eqb a o) (eqb-shifted 256 b i) ∙ and-turned (eqb b i) (eqb a o))

  pub pair-added : Both 256 f t → Both 256 (λ a b. f a b || eqb a o && eqb b i) v
  pair-added s = record {
    len = g.len ∙ h.len ∙ s.len;
    down = λ a b l. pair-down a b l ∙ ap (λ (z : Bool). z || eqb a o && eqb b i) (s.down a b l);
    up = λ a b l. pair-up a b ∙ ap (λ (z : Bool). z || eqb a o && eqb b i) (s.up a b l);
  }

-- ---- mark_rows

pub marked-none : (t : List ℕ) → t ≡ zeros closure_words → Both 256 (direct []) t
unfolding direct
marked-none t e = rw e (record {
  len = zeros-length closure_words;
  down = λ a b l. zeros-has closure_words a b;
  up = λ a b l. zeros-has closure_words (256 + b) a;
})

or_turned : (p q : Bool) → (p || q) ≡ (q || p)
or_turned true true = refl
or_turned true false = refl
or_turned false true = refl
or_turned false false = refl

-- row k - 1
pub mark-row : {k : ℕ} {rows t u v : List ℕ} {o i : ℕ} → RowBoxes 256 rows k o i → Added t o i u → Added u (256 + i) o v
    → Both 256 (direct (drop (2 * k) rows)) t → Both 256 (direct (drop (2 * (k - 1)) rows)) v
unfolding direct
mark-row {k} {rows} {t} {u} {v} {o} {i} r h g s =
    let f = direct (drop (2 * k) rows) in
    rw (rows-from rows k r.above r.most, ← r.o_is, ← r.i-is)
    (both-same 256 (λ a b. f a b || eqb a o && eqb b i) (λ a b. eqb o a && eqb i b || f a b) v
    (λ a b. rw (eqb-turned a o, eqb-turned b i) (or_turned (f a b) (eqb o a && eqb i b)))
    (pair-added f o i t u v r.o-below r.i-below h g s))

-- ---- round

module _ (k : ℕ) (t : List ℕ) (l : k < 256) where
  -- where one side of box k is empty there is no way through it
  pub round-down : ((b : ℕ) → is_in (set_at t k) b ≡ false) → Turns (λ f. through f k) t t
  unfolding through
  round-down z = record {
    len = refl;
    says = λ f s. both-same 256 f (through f k) t
        (λ a b. sym (rw (sym (s.down k b l) ∙ has_in t k b ∙ z b) (none (f a b) (f a k)))) s;
  }
    where
      none : (p q : Bool) → (p || q && false) ≡ p
      none true q = refl
      none false true = refl
      none false false = refl

  pub round_up : ((a : ℕ) → is_in (set_at t (256 + k)) a ≡ false) → Turns (λ f. through f k) t t
  unfolding through
  round_up z = record {
    len = refl;
    says = λ f s. both-same 256 f (through f k) t (λ a b. sym (rw (sym (s.up a k l) ∙ has_in t (256 + k) a ∙ z a) (or-false (f a b)))) s;
  }

  -- else each box above k gets what k has, and each box below it what has k
  joined-turns : (u v : List ℕ) → Joins 0 (is_in (set_at t (256 + k))) (set_at t k) t u → Joins 256 (is_in (set_at t k)) (set_at t (256 + k)) u v
      → Turns (λ f. through f k) t v
  unfolding through
  joined-turns u v h g = record {
    len = g.len ∙ h.len;
    says = λ f s. record {
      len = g.len ∙ h.len ∙ s.len;
      down = λ a b la.
          g.before a b la
          ∙ rw zero-add at (h.each a b)
          ∙ rw (← has_in t (256 + k) a, ← has_in t k b, s.down a b la, s.up a k l, s.down k b l);
      up = λ a b lb.
          g.each b a
          ∙ ap (λ (z : Bool). z || is_in (set_at t k) b && is_in (set_at t (256 + k)) a) (other b a)
          ∙ rw (← has_in t (256 + k) a, ← has_in t k b, s.up a b lb, s.up a k l, s.down k b l) (turned (f a b) (f k b) (f a k));
    };
  }
    where
      other : (b a : ℕ) → has u (256 + b) a ≡ has t (256 + b) a
      other b a =
          rw zero-add at (h.each (256 + b) a)
          ∙ ap (λ (z : Bool). has t (256 + b) a || z && is_in (set_at t k) a) (in-beyond (set_at t (256 + k)) (256 + b) (omega arith))
          ∙ or-false (has t (256 + b) a)

      turned : (p q r : Bool) → (p || q && r) ≡ (p || r && q)
      turned true q r = refl
      turned false true true = refl
      turned false true false = refl
      turned false false true = refl
      turned false false false = refl

  pub round-joined : (x y : Set) → x ≡ set_at t k → y ≡ set_at t (256 + k) → (u v : List ℕ) → Joins 0 (is_in y) x t u → Joins 256 (is_in x) y u v
      → Turns (λ f. through f k) t v
  round-joined x y ex ey u v h g = joined-turns u v (rw (ex, ey) at h) (rw (ex, ey) at g)

-- ---- close

pub rounds-none : (t : List ℕ) → Turns (λ f. rounds f 0) t t
unfolding rounds
rounds-none t = record { len = refl; says = λ f s. s }

pub rounds-more : (k : ℕ) (t u v : List ℕ) → Turns (λ f. rounds f k) t u → Turns (λ f. through f k) u v → Turns (λ f. rounds f (k + 1)) t v
unfolding rounds
rounds-more k t u v h g = record { len = g.len ∙ h.len; says = λ f s. rw add-one (g.says (rounds f k) (h.says f s)) }
