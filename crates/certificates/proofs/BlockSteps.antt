-- The files that an arrow's opposites take from it, in the three steps of `unblocked`. Assumes nothing.
use mathlib.Core.Path.{◌≡◌, refl, sym, ap, ap₂, subst, ◌∙◌}
use mathlib.Core.Bool.{Bool, true, false, not, ◌&&◌, ◌||◌}
use mathlib.Core.List.{List}
use Prim.Native.Nat.{ℕ, ◌+◌, ◌*◌, ◌<◌}
use lib.Dec.{T}
use lib.ListN.{length}
use Rattle.base.specs.Steps.{any_below}
use Rattle.base.proofs.Tests.{and_T}
use Rattle.tables.specs.Rows.{Picture}
use Rattle.tables.specs.declared.Arrow.{Arrow}
use Rattle.containment.specs.Contains.{around}
use Rattle.meaning.specs.Meaning.{nests}
use Rattle.boxsets.specs.Sets.{is_in, has}
use Rattle.boxsets.specs.declared.Set.{Set}
use Rattle.mode_sets.specs.Mode.{heads_of}
use Rattle.mode_sets.specs.Steps.{ModeSets}
use Rattle.mode_sets.proofs.HeadLaws.{heads-bound}
use Rattle.certificates.specs.Blocks.{in_one, blocks}
use Rattle.certificates.specs.Steps.{Drawn, NearBy, sign_number}
use Rattle.certificates.specs.declared.Near.{Near}
use Rattle.certificates.proofs.OutsideLaws.{in-same, in_either}
use Rattle.certificates.proofs.SignLaws.{sign-small}
use Rattle.certificates.proofs.NearLaws.{nested-set, nesting-set, heads-set}

and-swap : (a b c : Bool) → ((a && b) && c) ≡ ((a && c) && b)
and-swap true true true = refl
and-swap true true false = refl
and-swap true false true = refl
and-swap true false false = refl
and-swap false b c = refl

module _ (pic : Picture) (m o u : ℕ) (p : Arrow) where
  -- the three parts of `blocks`: heads nested in p's, heads of arrows whose tail is nested in p's, and heads of arrows neither of whose
  -- ends has p's nested in it
  abbrev pub head_blocks : ℕ → Bool
  head_blocks g = heads_of pic.arrows m o (λ t. around pic.rows t u) g && nests pic p.head g

  abbrev pub tail_blocks : ℕ → Bool
  tail_blocks g = heads_of pic.arrows m o (λ t. around pic.rows t u && nests pic p.tail t) g

  abbrev pub level_blocks : ℕ → Bool
  level_blocks g =
      heads_of pic.arrows m o (λ t. around pic.rows t u && not (nests pic t p.tail)) g && not (nests pic g p.head)

  pub blocks-apart : (f : ℕ) → in_one pic (blocks pic m o u p) f ≡ (in_one pic head_blocks f || (in_one pic tail_blocks f || in_one pic level_blocks f))
  unfolding blocks
  blocks-apart f =
      in_either pic head_blocks (λ g. tail_blocks g || level_blocks g) f
      ∙ ap (λ (b : Bool). in_one pic head_blocks f || b) (in_either pic tail_blocks level_blocks f)

-- the files of a set in none of the boxes, where a set has the boxes of a test: what `outside_all` gives
abbrev pub Outside : (pic : Picture) (files y r : Set) → Type 0
Outside pic files y r =
    ((g : ℕ) → T (is_in y g) → g < length pic.boxes) → (f : ℕ) → is_in r f ≡ (is_in files f && not (in_one pic (is_in y) f))

step : (pic : Picture) (files y r : Set) (boxes : ℕ → Bool) → ((g : ℕ) → is_in y g ≡ boxes g)
    → ((g : ℕ) → T (boxes g) → g < length pic.boxes) → Outside pic files y r
    → (f : ℕ) → is_in r f ≡ (is_in files f && not (in_one pic boxes f))
step pic files y r boxes e bound told f =
    told (λ g t. bound g (subst T (e g) t)) f ∙ ap (λ (b : Bool). is_in files f && not b) (in-same pic (is_in y) boxes e f)

-- what the steps know: the sets of the picture, and the arrow's ends are boxes
pub record Known (pic : Picture) (m u : ℕ) (closure heads : List ℕ) (x : Near) (p : Arrow) : Type 0 where
  pub drawn : Drawn pic closure
  pub sets : ModeSets pic.arrows m heads
  pub asked : ℕ → Bool
  pub near : NearBy pic m (sign_number x.sign) u asked x
  pub tail-in : p.tail < length pic.boxes
  pub head_in : p.head < length pic.boxes

module _ (pic : Picture) (m u : ℕ) (closure heads : List ℕ) (x : Near) (p : Arrow) (known : Known pic m u closure heads x p) where
  bound : (tails : ℕ → Bool) (g : ℕ) → T (heads_of pic.arrows m (sign_number x.sign) tails g) → g < length pic.boxes
  bound tails g t = heads-bound pic.arrows m pic.boxes known.drawn.arrows-sound (sign_number x.sign) tails g t

  module _ (t h : ℕ) (tail-is : t ≡ p.tail) (head-is : h ≡ p.head) where
    -- what is nested in the tail or in the head, and what they are nested in
    nested : (b c : ℕ) → b ≡ c → c < length pic.boxes → (y : Set)
        → ((k : ℕ) → is_in y k ≡ (has closure b k && not (has closure (256 + b) k))) → (k : ℕ) → is_in y k ≡ nests pic c k
    nested b c e l y told k = nested-set pic closure known.drawn b (rw e l) y told k ∙ ap (λ (z : ℕ). nests pic z k) e

    nesting : (b c : ℕ) → b ≡ c → c < length pic.boxes → (y : Set)
        → ((k : ℕ) → is_in y k ≡ (has closure (256 + b) k && not (has closure b k))) → (k : ℕ) → is_in y k ≡ nests pic k c
    nesting b c e l y told k = nesting-set pic closure known.drawn b (rw e l) y told k ∙ ap (λ (z : ℕ). nests pic k z) e

    -- the heads nested in the arrow's
    pub take_head : (files inner y r : Set)
        → ((k : ℕ) → is_in inner k ≡ (has closure h k && not (has closure (256 + h) k)))
        → ((k : ℕ) → is_in y k ≡ (is_in x.heads k && is_in inner k))
        → Outside pic files y r
        → (f : ℕ) → is_in r f ≡ (is_in files f && not (in_one pic (head_blocks pic m (sign_number x.sign) u p) f))
    take_head files inner y r told-inner told-y =
        step pic files y r (head_blocks pic m (sign_number x.sign) u p)
        (λ g. told-y g ∙ ap₂ ◌&&◌ (known.near.heads-are g) (nested h p.head head-is known.head_in inner told-inner g))
        (λ g s. bound all g (and_T (heads_of pic.arrows m (sign_number x.sign) all g) (nests pic p.head g) s).0)
      where
        all : ℕ → Bool
        all v = around pic.rows v u

    -- the heads of the arrows whose tail is nested in the arrow's
    pub take-tail : (files inner from y r : Set)
        → ((k : ℕ) → is_in inner k ≡ (has closure t k && not (has closure (256 + t) k)))
        → ((k : ℕ) → is_in from k ≡ (is_in x.tails k && is_in inner k))
        → ((g : ℕ) → is_in y g ≡ any_below (λ k. is_in from k && has heads (256 * sign_number x.sign + k) g) 256)
        → Outside pic files y r
        → (f : ℕ) → is_in r f ≡ (is_in files f && not (in_one pic (tail_blocks pic m (sign_number x.sign) u p) f))
    take-tail files inner from y r told-inner told-from told-y =
        step pic files y r (tail_blocks pic m (sign_number x.sign) u p)
        (heads-set pic m closure heads known.drawn known.sets (sign_number x.sign) (sign-small x.sign) tails from y
        (λ k.
        told-from k
        ∙ ap₂ ◌&&◌ (known.near.tails-are k) (nested t p.tail tail-is known.tail-in inner told-inner k)
        ∙ and-swap (around pic.rows k u) _ (nests pic p.tail k))
        told-y)
        (bound tails)
      where
        tails : ℕ → Bool
        tails v = around pic.rows v u && nests pic p.tail v

    -- the heads of the arrows neither of whose ends has the arrow's nested in it
    pub take_level : (files outer-tail from reach outer-head y r : Set)
        → ((k : ℕ) → is_in outer-tail k ≡ (has closure (256 + t) k && not (has closure t k)))
        → ((k : ℕ) → is_in from k ≡ (is_in x.tails k && not (is_in outer-tail k)))
        → ((g : ℕ) → is_in reach g ≡ any_below (λ k. is_in from k && has heads (256 * sign_number x.sign + k) g) 256)
        → ((k : ℕ) → is_in outer-head k ≡ (has closure (256 + h) k && not (has closure h k)))
        → ((g : ℕ) → is_in y g ≡ (is_in reach g && not (is_in outer-head g)))
        → Outside pic files y r
        → (f : ℕ) → is_in r f ≡ (is_in files f && not (in_one pic (level_blocks pic m (sign_number x.sign) u p) f))
    take_level files outer-tail from reach outer-head y r told-tail told-from told-reach told-head told-y =
        step pic files y r (level_blocks pic m (sign_number x.sign) u p)
        (λ g.
        told-y g
        ∙ ap₂ (λ (a b : Bool). a && not b)
        (heads-set pic m closure heads known.drawn known.sets (sign_number x.sign) (sign-small x.sign) tails from reach
        (λ k.
        told-from k
        ∙ ap₂ (λ (a b : Bool). a && not b) (known.near.tails-are k) (nesting t p.tail tail-is known.tail-in outer-tail told-tail k)
        ∙ and-swap (around pic.rows k u) _ (not (nests pic k p.tail)))
        told-reach g)
        (nesting h p.head head-is known.head_in outer-head told-head g))
        (λ g s. bound tails g (and_T (heads_of pic.arrows m (sign_number x.sign) tails g) (not (nests pic g p.head)) s).0)
      where
        tails : ℕ → Bool
        tails v = around pic.rows v u && not (nests pic v p.tail)

-- ---- the three steps together

-- what the first, two or three steps leave is what all leave, where nothing is left before the last
module _ (pic : Picture) (m o u : ℕ) (p : Arrow) (f : ℕ) (files : Bool) where
  steps : ((((files && not (in_one pic (head_blocks pic m o u p) f)) && not (in_one pic (tail_blocks pic m o u p) f)))
      && not (in_one pic (level_blocks pic m o u p) f)) ≡ (files && not (in_one pic (blocks pic m o u p) f))
  steps =
      apart files (in_one pic (head_blocks pic m o u p) f) (in_one pic (tail_blocks pic m o u p) f) (in_one pic (level_blocks pic m o u p) f)
      ∙ ap (λ (b : Bool). files && not b) (sym (blocks-apart pic m o u p f))
    where
      apart : (a x y z : Bool) → (((a && not x) && not y) && not z) ≡ (a && not (x || (y || z)))
      apart false x y z = refl
      apart true true y z = refl
      apart true false true z = refl
      apart true false false z = refl

  pub one-step : (first : Bool) → first ≡ (files && not (in_one pic (head_blocks pic m o u p) f)) → first ≡ false
      → first ≡ (files && not (in_one pic (blocks pic m o u p) f))
  one-step first e none_left =
      none_left
      ∙ ap (λ (b : Bool). (b && not (in_one pic (tail_blocks pic m o u p) f)) && not (in_one pic (level_blocks pic m o u p) f)) (sym none_left ∙ e)
      ∙ steps

  pub two_steps : (first second : Bool) → first ≡ (files && not (in_one pic (head_blocks pic m o u p) f))
      → second ≡ (first && not (in_one pic (tail_blocks pic m o u p) f)) → second ≡ false
      → second ≡ (files && not (in_one pic (blocks pic m o u p) f))
  two_steps first second e i none_left =
      none_left
      ∙ ap (λ (b : Bool). b && not (in_one pic (level_blocks pic m o u p) f))
      (sym none_left ∙ i ∙ ap (λ (b : Bool). b && not (in_one pic (tail_blocks pic m o u p) f)) e)
      ∙ steps

  pub three-steps : (first second third : Bool) → first ≡ (files && not (in_one pic (head_blocks pic m o u p) f))
      → second ≡ (first && not (in_one pic (tail_blocks pic m o u p) f))
      → third ≡ (second && not (in_one pic (level_blocks pic m o u p) f))
      → third ≡ (files && not (in_one pic (blocks pic m o u p) f))
  three-steps first second third e i j =
      j
      ∙ ap (λ (b : Bool). b && not (in_one pic (level_blocks pic m o u p) f))
      (i ∙ ap (λ (b : Bool). b && not (in_one pic (tail_blocks pic m o u p) f)) e)
      ∙ steps
