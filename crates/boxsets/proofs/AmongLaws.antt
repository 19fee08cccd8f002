-- The numbers of a list. Assumes nothing.
use mathlib.Core.Path.{◌≡◌, sym, ap, ap₂, ◌∙◌}
use mathlib.Core.Bool.{false, ◌||◌}
use mathlib.Core.List.{List}
use Prim.Native.Nat.{ℕ, ◌+◌, ◌<◌}
use lib.Dec.{T, eqb, eqb→eq, eqb_refl}
use lib.ListN.{length, get_or}
use Rattle.base.specs.Steps.{any_below}
use Rattle.base.proofs.AnyLaws.{any-zero, any-more, any-is, any_found}
use Rattle.boxsets.specs.Sets.{is_in, among}
use Rattle.boxsets.specs.declared.Set.{Set}
use Rattle.boxsets.proofs.WordLaws.{eqb-turned}

pub among-is : (xs : List ℕ) (i : ℕ) → i < length xs → T (among xs (get_or xs i 0))
unfolding among
among-is xs i l = any-is (λ j. eqb (get_or xs j 0) (get_or xs i 0)) (length xs) i l (eqb_refl (get_or xs i 0))

pub among-found : (xs : List ℕ) (k : ℕ) → T (among xs k) → (i : ℕ) × (i < length xs) × (get_or xs i 0 ≡ k)
unfolding among
among-found xs k t =
    let f = any_found (λ j. eqb (get_or xs j 0) k) (length xs) t in
    (f.0, f.1, eqb→eq (get_or xs f.0 0) k f.2)

-- ---- a loop that joins them one by one

-- the set has the first i of them
abbrev pub Taken : List ℕ → ℕ → Set → Type 0
Taken xs i x = (k : ℕ) → is_in x k ≡ any_below (λ j. eqb (get_or xs j 0) k) i

pub taken_none : (xs : List ℕ) (x : Set) → ((k : ℕ) → is_in x k ≡ false) → Taken xs 0 x
taken_none xs x e k = e k ∙ sym (any-zero _)

pub taken_more : (xs : List ℕ) (i v : ℕ) (x y z : Set) → v ≡ get_or xs i 0 → ((k : ℕ) → is_in y k ≡ eqb k v)
    → ((k : ℕ) → is_in z k ≡ (is_in x k || is_in y k)) → Taken xs i x → Taken xs (i + 1) z
taken_more xs i v x y z e h g t k =
    rw any-more (g k ∙ ap₂ ◌||◌ (t k) (h k ∙ eqb-turned k v ∙ ap (λ (u : ℕ). eqb u k) e))

pub taken-all : (xs : List ℕ) (x : Set) → Taken xs (length xs) x → (k : ℕ) → is_in x k ≡ among xs k
unfolding among
taken-all xs x t = t
