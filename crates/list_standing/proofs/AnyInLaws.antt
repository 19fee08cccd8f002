-- A test at the numbers of a set, word by word: `while rest != 0 { let k = 64 * q + low_bit(rest); rest = drop_bit(rest); .. }`.
-- Assumes nothing.
use mathlib.Core.Path.{◌≡◌, refl, sym, ap, ◌∙◌}
use mathlib.Core.Bool.{Bool, true, false, not, ◌&&◌, ◌||◌}
use Rattle.std.specs.Prelude.{Some as some}
use Prim.Native.Nat.{ℕ, ◌+◌, ◌*◌, ◌<◌}
use native.Mathlib.Omega.{arith}
use lib.Dec.{eqb}
use Rattle.base.specs.Search.{lowest}
use Rattle.base.specs.Steps.{any_below}
use Rattle.base.proofs.SearchLaws.{lowest-some}
use Rattle.base.proofs.Tests.{and_T, not-false, false-not}
use Rattle.base.proofs.AnyLaws.{any_found, any_same, any-or, any-take}
use Rattle.boxsets.specs.Words.{bit_at}
use Rattle.boxsets.specs.Sets.{is_in, in_word}
use Rattle.boxsets.specs.declared.Set.{Set}
use Rattle.boxsets.proofs.JoinLaws.{words-in, word_next, word_none}
use Rattle.list_standing.specs.Steps.{Tells}

-- one of the numbers at which the test holds
abbrev pub some_at : (numbers p : ℕ → Bool) → Bool
some_at numbers p = any_below (λ k. numbers k && p k) 256

-- the numbers not looked at yet say what all of the word do
abbrev pub Rests : (says : ℕ → Bool → Type 0) (q word rest : ℕ) → Type 0
Rests says q word rest = (p : ℕ → Bool) → Tells says p → some_at (in_word q word) p ≡ some_at (in_word q rest) p

module _ (says : ℕ → Bool → Type 0) (q word : ℕ) where
  pub rests-end : Rests says q word 0 → (p : ℕ → Bool) → Tells says p → false ≡ some_at (in_word q word) p
  rests-end s p t =
      sym (s p t
      ∙ not-false (some_at (in_word q 0) p)
      (λ some.
      let r = any_found (λ k. in_word q 0 k && p k) 256 some in
      false-not (in_word q 0 r.0) (word_none q r.0) (and_T (in_word q 0 r.0) (p r.0) r.2).0))

  -- one number, and what the test says of it
  module _ (rest next l : ℕ) (low-is : lowest (bit_at rest) 64 ≡ some l) (drop : (b : ℕ) → bit_at next b ≡ (bit_at rest b && not (eqb b l)))
      (words : q < 4) (b : Bool) (said : says (64 * q + l) b) (s : Rests says q word rest) where
    here : (p : ℕ → Bool) → Tells says p → some_at (in_word q word) p ≡ (b || some_at (in_word q next) p)
    here p t =
        let k = 64 * q + l in
        let small : k < 256 = omega (arith, (lowest-some (bit_at rest) 64 l low-is).0) in
        s p t
        ∙ any-take (in_word q rest) (in_word q next) p k 256 small (word_next q rest next l low-is drop)
        ∙ ap (λ (x : Bool). x || some_at (in_word q next) p) (sym (t k b small said))

    pub rests-found : b ≡ true → (p : ℕ → Bool) → Tells says p → true ≡ some_at (in_word q word) p
    rests-found e p t = sym (here p t ∙ rw e)

    pub rests-more : b ≡ false → Rests says q word next
    rests-more e p t = here p t ∙ rw e

-- numbers of two kinds
some-both : (p x y z : ℕ → Bool) → ((k : ℕ) → z k ≡ (x k || y k)) → some_at z p ≡ (some_at x p || some_at y p)
some-both p x y z e =
    any_same (λ k. z k && p k) (λ k. x k && p k || y k && p k) 256 (λ k l. ap (λ (b : Bool). b && p k) (e k) ∙ spread (x k) (y k) (p k))
    ∙ any-or (λ k. x k && p k) (λ k. y k && p k) 256
  where
    spread : (a b c : Bool) → ((a || b) && c) ≡ (a && c || b && c)
    spread true true true = refl
    spread true true false = refl
    spread true false true = refl
    spread true false false = refl
    spread false b c = refl

-- the numbers of a set, word by word
pub some_words : (p : ℕ → Bool) (x : Set) → some_at (is_in x) p
    ≡ (((some_at (in_word 0 x.a) p || some_at (in_word 1 x.b) p) || some_at (in_word 2 x.c) p) || some_at (in_word 3 x.d) p)
some_words p x =
    some-both p three (in_word 3 x.d) (is_in x)
    (λ k. words-in x k ∙ turned (in_word 0 x.a k) (in_word 1 x.b k) (in_word 2 x.c k) (in_word 3 x.d k))
    ∙ ap (λ (b : Bool). b || some_at (in_word 3 x.d) p)
    (some-both p two (in_word 2 x.c) three (λ k. refl)
    ∙ ap (λ (b : Bool). b || some_at (in_word 2 x.c) p) (some-both p (in_word 0 x.a) (in_word 1 x.b) two (λ k. refl)))
  where
    two : ℕ → Bool
    two k = in_word 0 x.a k || in_word 1 x.b k

    three : ℕ → Bool
    three k = two k || in_word 2 x.c k

    turned : (a b c d : Bool) → (a || (b || (c || d))) ≡ (((a || b) || c) || d)
    turned true b c d = refl
    turned false true c d = refl
    turned false false c d = refl
