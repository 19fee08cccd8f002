-- Document 02, P3, "the same list on two machines": what stands at each place of the list. `fixed-order` (proofs/FixedLaws.antt)
-- says that there is exactly one such list, `greedy`. A pair is given by the numbers of its boxes. Assumes nothing.
use Rattle.std.specs.Prelude.{List, [], ◌∷◌, ◌++◌, ℕ, ◌<◌, T, length, get_or, take}
use Rattle.tables.specs.Rows.{Picture}
use Rattle.list_meaning.specs.Lists.{of_mode}
use Rattle.list_meaning.specs.Condition.{Pair, arrow_reaches, Reaches, Honest}

module _ (pic : Picture) (m : ℕ) where
  -- arrow k of the mode can follow while the list stays honest, and reaches a pair that nothing earlier reached
  pub record CanFollow (l : List ℕ) (k : ℕ) : Type 0 where
    pub of-mode : T (of_mode pic.arrows m k)
    pub stays-honest : Honest pic m (l ++ (k ∷ []))
    pub user : ℕ
    pub file : ℕ
    pub is-pair : Pair pic user file
    pub reaches : T (arrow_reaches pic user file k)
    pub nothing-earlier : Reaches pic l user file → ⊥

  -- the lowest-numbered such arrow
  pub record Lowest (l : List ℕ) (k : ℕ) : Type 0 where
    pub can-follow : CanFollow l k
    pub none-lower : (j : ℕ) → j < k → CanFollow l j → ⊥

  -- at each place stands the lowest-numbered such arrow, by the list before it; the list ends when there is none
  pub record FixedOrder (l : List ℕ) : Type 0 where
    pub at-each-place : (i : ℕ) → i < length l → Lowest (take i l) (get_or l i 0)
    pub ends : (k : ℕ) → CanFollow l k → ⊥
