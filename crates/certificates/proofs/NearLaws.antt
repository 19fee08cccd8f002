-- What the code's sets say of a picture, by its closure and the sets of a mode: nesting, heads from some tails, and the arrows of a sign
-- around a user. Assumes nothing.
use mathlib.Core.Path.{◌≡◌, refl, sym, ap, ap₂, subst, ◌∙◌}
use mathlib.Core.Logic.{⊎_elim}
use mathlib.Core.Bool.{Bool, true, false, not, ◌&&◌}
use mathlib.Core.List.{List}
use Prim.Native.Nat.{ℕ, ◌+◌, ◌*◌, ◌<◌, ◌≤◌}
use native.Mathlib.Omega.{arith}
use lib.Dec.{T, T_not, not_T, eqb}
use lib.ListN.{length}
use Rattle.base.specs.Steps.{any_below}
use Rattle.base.proofs.Tests.{and_T, T_and, T-same}
use Rattle.base.proofs.AnyLaws.{any_same}
use Rattle.tables.specs.Rows.{Picture, arrow_count}
use Rattle.containment.specs.Contains.{contains, around}
use Rattle.containment.proofs.ContainsLaws.{around-cases, around-self, contains-around, contains-trans, irreflexive}
use Rattle.meaning.specs.Meaning.{nests}
use Rattle.meaning.proofs.ModeLaws.{nests-is}
use Rattle.boxsets.specs.Sets.{is_in, has}
use Rattle.boxsets.specs.declared.Set.{Set}
use Rattle.mode_sets.specs.Mode.{heads_of, tails_below}
use Rattle.mode_sets.specs.Steps.{ModeSets}
use Rattle.mode_sets.proofs.HeadLaws.{tail-there, heads-bound, heads-by-tail}
use Rattle.certificates.specs.Blocks.{in_one}
use Rattle.certificates.specs.Steps.{Drawn, NearBy}
use Rattle.certificates.specs.declared.Near.{Near}
use Rattle.certificates.proofs.ReachLaws.{reached-is}
use Rattle.certificates.proofs.OutsideLaws.{in-same}

-- where not both hold of two boxes that one is nested in the other and the other way round, nesting is "around, and not the other way"
nested-by : (pic : Picture) (a b : ℕ) → (T (contains pic.rows a b) → T (around pic.rows b a) → ⊥)
    → (around pic.rows a b && not (around pic.rows b a)) ≡ nests pic a b
nested-by pic a b one_way =
    T-same (around pic.rows a b && not (around pic.rows b a)) (contains pic.rows a b)
    (λ t.
    let p = and_T (around pic.rows a b) (not (around pic.rows b a)) t in
    ⊎_elim
    (λ e. absurd (T_not (around pic.rows b a) p.1 (subst (λ (z : ℕ). T (around pic.rows z a)) e (around-self pic.rows a))))
    (λ c. c)
    (around-cases pic.rows a b p.0))
    (λ t.
    T_and (around pic.rows a b) (not (around pic.rows b a)) (contains-around pic.rows a b t)
    (not_T (around pic.rows b a) (one_way t)))
    ∙ sym (nests-is pic a b)

module _ (pic : Picture) (closure : List ℕ) (d : Drawn pic closure) (b : ℕ) (there : b < length pic.boxes) where
  no_loop : T (contains pic.rows b b) → ⊥
  no_loop = irreflexive pic.boxes pic.rows d.no-loops b there

  -- what `nested_in` gives
  pub nested-set : (x : Set) → ((k : ℕ) → is_in x k ≡ (has closure b k && not (has closure (256 + b) k))) → (k : ℕ) → is_in x k ≡ nests pic b k
  nested-set x told k =
      told k
      ∙ ap₂ (λ (p q : Bool). p && not q) (d.closed.down b k there) (d.closed.up k b there)
      ∙ nested-by pic b k
      (λ t back.
      ⊎_elim (λ e. no_loop (subst (λ (z : ℕ). T (contains pic.rows b z)) e t)) (λ c. no_loop (contains-trans pic.rows b k b t c))
      (around-cases pic.rows k b back))

  -- what `nesting` gives
  pub nesting-set : (x : Set) → ((k : ℕ) → is_in x k ≡ (has closure (256 + b) k && not (has closure b k))) → (k : ℕ) → is_in x k ≡ nests pic k b
  nesting-set x told k =
      told k
      ∙ ap₂ (λ (p q : Bool). p && not q) (d.closed.up k b there) (d.closed.down b k there)
      ∙ nested-by pic k b
      (λ t back.
      ⊎_elim (λ e. no_loop (subst (λ (z : ℕ). T (contains pic.rows z b)) (sym e) t)) (λ c. no_loop (contains-trans pic.rows b k b c t))
      (around-cases pic.rows b k back))

module _ (pic : Picture) (m : ℕ) (closure heads : List ℕ) (d : Drawn pic closure) (sets : ModeSets pic.arrows m heads) where
  -- the tails of the mode's arrows of a sign
  abbrev tails-of : (s t : ℕ) → Bool
  tails-of s t = tails_below pic.arrows m (arrow_count pic.arrows) s t

  -- what `heads_of` gives, of a set of tails
  pub heads-set : (s : ℕ) → s ≤ 1 → (tails : ℕ → Bool) (x r : Set) → ((t : ℕ) → is_in x t ≡ (tails t && tails-of s t))
      → ((g : ℕ) → is_in r g ≡ any_below (λ t. is_in x t && has heads (256 * s + t) g) 256)
      → (g : ℕ) → is_in r g ≡ heads_of pic.arrows m s tails g
  heads-set s small tails x r e told g =
      told g
      ∙ any_same (λ t. is_in x t && has heads (256 * s + t) g) (λ t. (tails t && tails-of s t) && heads_of pic.arrows m s (λ y. eqb y t) g) 256
      (λ t l. ap₂ ◌&&◌ (e t) (sets.heads-are s t g small l))
      ∙ heads-by-tail pic.arrows m s tails g 256
      (λ k l. let few = d.rows-sound.few-boxes in omega (arith, tail-there pic.boxes pic.arrows d.arrows-sound k l))

  -- what `arrows_near` makes
  module _ (s u : ℕ) (small : s ≤ 1) (there : u < length pic.boxes) (x : Near) (asked out : Set) where
    pub near-made : ((t : ℕ) → is_in x.tails t ≡ (has closure (256 + u) t && has heads (512 + s) t))
        → ((g : ℕ) → is_in x.heads g ≡ any_below (λ t. is_in x.tails t && has heads (256 * s + t) g) 256)
        → (((g : ℕ) → T (is_in x.heads g) → g < length pic.boxes)
        → (f : ℕ) → is_in out f ≡ (is_in asked f && not (in_one pic (is_in x.heads) f)))
        → ((f : ℕ) → is_in x.files f ≡ (is_in asked f && not (is_in out f)))
        → NearBy pic m s u (is_in asked) x
    near-made tails told-heads told-out told-files = record {
      tails-are = tails-are;
      heads-are = heads-are;
      files-are = λ f.
          told-files f
          ∙ ap (λ (b : Bool). is_in asked f && not b) (told-out bounds f)
          ∙ twice (is_in asked f) (in_one pic (is_in x.heads) f)
          ∙ ap (λ (b : Bool). is_in asked f && b)
          (in-same pic (is_in x.heads) (heads_of pic.arrows m s (λ t. around pic.rows t u)) heads-are f ∙ reached-is pic d.arrows-sound m s u f);
    }
      where
        tails-are : (t : ℕ) → is_in x.tails t ≡ (around pic.rows t u && tails-of s t)
        tails-are t = tails t ∙ ap₂ ◌&&◌ (d.closed.up t u there) (sets.tails-are s t small)

        heads-are : (g : ℕ) → is_in x.heads g ≡ heads_of pic.arrows m s (λ t. around pic.rows t u) g
        heads-are = heads-set s small (λ t. around pic.rows t u) x.tails x.heads tails-are told-heads

        bounds : (g : ℕ) → T (is_in x.heads g) → g < length pic.boxes
        bounds g t =
            heads-bound pic.arrows m pic.boxes d.arrows-sound s (λ t. around pic.rows t u) g (subst T (heads-are g) t)

        twice : (a b : Bool) → (a && not (a && not b)) ≡ (a && b)
        twice true true = refl
        twice true false = refl
        twice false b = refl
