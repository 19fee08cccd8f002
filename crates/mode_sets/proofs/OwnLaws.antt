-- The mode's arrows that repeat no lower one: how many there are, and that they have the lowest arrow of each test that holds of what an
-- arrow repeats if it holds of the arrow. Assumes nothing.
use mathlib.Core.Path.{◌≡◌, refl, sym, ◌∙◌}
use mathlib.Core.Bool.{Bool, not, ◌&&◌}
use mathlib.Core.List.{List}
use Rattle.std.specs.Prelude.{Option, None as none, Some as some}
use Prim.Native.Nat.{ℕ, ◌<◌, ◌≤◌}
use lib.Dec.{T, not_T}
use lib.ListN.{length, get_or}
use Rattle.base.specs.Search.{lowest, select}
use Rattle.base.specs.Steps.{any_below}
use Rattle.base.proofs.Tests.{and_T, T_and}
use Rattle.base.proofs.SearchLaws.{lowest-some, lowest-none}
use Rattle.base.proofs.SelectLaws.{select-found, select-within, selected-lowest, selected-nothing, lowest-is, lowest-nothing}
use Rattle.base.proofs.BufferLaws.{select-most}
use Rattle.base.proofs.AnyLaws.{any_found}
use Rattle.tables.specs.Rows.{arrow_count}
use Rattle.meaning.specs.Meaning.{has_mode, mode_arrows}
use Rattle.meaning.proofs.ModeLaws.{mode-select}
use Rattle.mode_sets.specs.Mode.{same, is_own, own_arrows}

module _ (arrows : List ℕ) (m : ℕ) where
  pub own-select : own_arrows arrows m ≡ select (is_own arrows m) (arrow_count arrows)
  unfolding own_arrows
  own-select = refl

  own-has : (k : ℕ) → T (is_own arrows m k) → T (has_mode arrows m k)
  unfolding is_own
  own-has k t = (and_T (has_mode arrows m k) (not (any_below (same arrows k) k)) t).0

  -- each is the number of an arrow of the mode
  pub own-found : (i : ℕ) → i < length (own_arrows arrows m)
      → (get_or (own_arrows arrows m) i 0 < arrow_count arrows) × T (has_mode arrows m (get_or (own_arrows arrows m) i 0))
  unfolding own_arrows
  own-found i l = let f = select-found (is_own arrows m) (arrow_count arrows) i l in (f.0, own-has (get_or (own_arrows arrows m) i 0) f.1)

  pub own-most : length (own_arrows arrows m) ≤ arrow_count arrows
  unfolding own_arrows
  own-most = select-most (is_own arrows m) (arrow_count arrows)

  -- no more than the mode has arrows
  pub own-mode-most : length (own_arrows arrows m) ≤ length (mode_arrows arrows m)
  own-mode-most =
      rw (own-select, mode-select) (select-within (is_own arrows m) (has_mode arrows m) (arrow_count arrows) (λ k h t. own-has k t))

  -- a test that holds only of the mode's arrows, and of a lower arrow that an arrow repeats if it holds of the arrow
  module _ (p : ℕ → Bool) (only : (k : ℕ) → T (p k) → T (has_mode arrows m k))
      (again : (k j : ℕ) → j < k → k < arrow_count arrows → T (same arrows k j) → T (p k) → T (p j)) where
    -- the lowest arrow at which it holds repeats no lower one
    pub lowest-own : (k : ℕ) → lowest p (arrow_count arrows) ≡ some k → T (is_own arrows m k)
    unfolding is_own
    lowest-own k e =
        let g = lowest-some p (arrow_count arrows) k e in
        T_and (has_mode arrows m k) (not (any_below (same arrows k) k)) (only k g.1)
        (not_T (any_below (same arrows k) k)
        (λ a. let r = any_found (same arrows k) k a in g.2 r.0 r.1 (again k r.0 r.1 g.0 r.2 g.1)))

    -- so it is the lowest of those among them
    own-lowest : lowest (λ k. p k && is_own arrows m k) (arrow_count arrows) ≡ lowest p (arrow_count arrows)
    own-lowest = go (lowest p (arrow_count arrows)) refl
      where
        both : ℕ → Bool
        both k = p k && is_own arrows m k

        go : (r : Option ℕ) → lowest p (arrow_count arrows) ≡ r → lowest both (arrow_count arrows) ≡ r
        go none e =
            lowest-nothing both (arrow_count arrows)
            (λ j l t. lowest-none p (arrow_count arrows) e j l (and_T (p j) (is_own arrows m j) t).0)
        go (some k) e =
            let g = lowest-some p (arrow_count arrows) k e in
            lowest-is both (arrow_count arrows) k g.0 (T_and (p k) (is_own arrows m k) g.1 (lowest-own k e))
            (λ j l t. g.2 j l (and_T (p j) (is_own arrows m j) t).0)

    -- the first place at which it holds has the lowest arrow
    pub own_first : (i : ℕ) → i < length (own_arrows arrows m) → T (p (get_or (own_arrows arrows m) i 0))
        → ((j : ℕ) → j < i → T (p (get_or (own_arrows arrows m) j 0)) → ⊥)
        → lowest p (arrow_count arrows) ≡ some (get_or (own_arrows arrows m) i 0)
    unfolding own_arrows
    own_first i l t before =
        sym own-lowest
        ∙ selected-lowest (is_own arrows m) (λ k. p k && is_own arrows m k) (λ k s. (and_T (p k) (is_own arrows m k) s).1) (arrow_count arrows) i l
        (T_and (p (get_or (own_arrows arrows m) i 0)) (is_own arrows m (get_or (own_arrows arrows m) i 0)) t
        (select-found (is_own arrows m) (arrow_count arrows) i l).1)
        (λ j h s. before j h (and_T (p (get_or (own_arrows arrows m) j 0)) (is_own arrows m (get_or (own_arrows arrows m) j 0)) s).0)

    -- no place, no arrow at all
    pub own-nothing : ((i : ℕ) → i < length (own_arrows arrows m) → T (p (get_or (own_arrows arrows m) i 0)) → ⊥)
        → lowest p (arrow_count arrows) ≡ none
    unfolding own_arrows
    own-nothing no_place =
        sym own-lowest
        ∙ selected-nothing (is_own arrows m) (λ k. p k && is_own arrows m k) (λ k s. (and_T (p k) (is_own arrows m k) s).1) (arrow_count arrows)
        (λ j h s. no_place j h (and_T (p (get_or (own_arrows arrows m) j 0)) (is_own arrows m (get_or (own_arrows arrows m) j 0)) s).0)
