-- Lists that are joined, as a fold. Assumes nothing.
use mathlib.Core.Path.{◌≡◌, refl, sym, ap, ◌∙◌}
use mathlib.Core.List.{List, [], ◌++◌, append_assoc, append-nil}
use Prim.Native.Nat.{ℕ, zero, suc, ◌+◌}
use native.Mathlib.Numerals.{add-one}
use Rattle.base.proofs.FoldLaws.{fold, fold-none, fold_more, Chains}
use Rattle.blocks.specs.Blocks.{joined}

pub joined-none : (f : ℕ → List ℕ) → joined f 0 ≡ []
unfolding joined
joined-none f = refl

pub joined-more : (f : ℕ → List ℕ) (n : ℕ) → joined f (n + 1) ≡ joined f n ++ f n
unfolding joined
joined-more f n = rw add-one

pub joined-fold : (f : ℕ → List ℕ) (n : ℕ) → joined f n ≡ fold [] ◌++◌ f n
unfolding joined
joined-fold f zero = sym (fold-none [] ◌++◌ f)
joined-fold f (suc n) = ap (λ (x : List ℕ). x ++ f n) (joined-fold f n) ∙ sym (fold_more [] ◌++◌ f n)

pub append-chains : Chains {A = List ℕ} [] ◌++◌
append-chains = record { assoc = append_assoc; left = λ a. refl; right = append-nil }
