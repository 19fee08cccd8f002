-- The marks of places whose arrows are spent. Assumes nothing.
use mathlib.Core.Path.{◌≡◌, refl, sym, ap, ◌∙◌}
use Rattle.std.specs.Prelude.{None as none, Some as some}
use mathlib.Core.Bool.{Bool, true, false, not, cond}
use mathlib.Core.List.{List}
use Prim.Native.Nat.{ℕ, ◌+◌, ◌-◌, ◌<◌, ◌≤◌}
use native.Mathlib.Omega.{arith}
use lib.ListN.{length, get_or, take, drop, replicate, length-drop}
use Rattle.base.proofs.SearchLaws.{some-none}
use borrow.Author.Tests.{ltb-false}
use Rattle.std.proofs.lemmas.List.{get_or-replicate, get_or-drop, get_or-take, length-take-le}
use Rattle.std.specs.List.{position, position_or_len}
use Rattle.std.proofs.lemmas.List.Sums.{prefix_len_passes}
use Rattle.std.proofs.lemmas.List.Quantifiers.{position-Some}
use Rattle.list_order.specs.Steps.{Done, MarkedTo}

-- no place is marked at first
pub none-marked : (closure arrows own left granted : List ℕ) (n : ℕ) → length own ≤ n → Done closure arrows own left granted (replicate n false)
none-marked closure arrows own left granted n h i l e = let z = get_or-replicate n i false false (omega arith) in cc

-- ---- the first place that is not marked

module _ (done : List Bool) (from : ℕ) where
  abbrev rest : List Bool
  rest = take (length done - from) (drop from done)

  -- the places of the rest
  len : length rest ≡ length done - from
  len = length-take-le (length done - from) (drop from done) (omega (arith, length-drop from done))

  marked-at : (i : ℕ) → from ≤ i → i < length done → not (get_or rest (i - from) false) ≡ false → get_or done i false ≡ true
  marked-at i h b e =
      let at : from + (i - from) ≡ i = omega arith in
      let is = get_or-take (length done - from) (drop from done) (i - from) false (omega arith) ∙ get_or-drop from done (i - from) false in
      ap (λ (j : ℕ). get_or done j false) (sym at) ∙ sym is ∙ yes (get_or rest (i - from) false) e
    where
      yes : (b : Bool) → not b ≡ false → b ≡ true
      yes true q = refl
      yes false q = sym q

  pub open-some : (k : ℕ) → position not rest ≡ some k → (from + k ≤ length done) × MarkedTo done from (from + k)
  open-some k e =
      let p = position-Some not rest k false e in
      let most : from + k ≤ length done = omega (arith, p.0, len) in
      (most, λ i h b. marked-at i h (omega arith) (p.2 (i - from) (omega arith)))

  pub open-none : position not rest ≡ none → MarkedTo done from (length done)
  open-none e i h b = marked-at i h b (none-at (get_or rest (i - from) false) (prefix_len_passes (λ x. not (not x)) rest (i - from) false (omega (arith, past, len))))
    where
      far : (b : Bool) → cond b (some (position_or_len not rest)) none ≡ none → b ≡ false
      far true q = absurd (some-none q)
      far false q = refl

      past : length rest ≤ position_or_len not rest
      past = ltb-false (position_or_len not rest) (length rest) (far _ e)

      none-at : (b : Bool) → not (not b) ≡ true → not b ≡ false
      none-at true q = refl
      none-at false q = sym q
