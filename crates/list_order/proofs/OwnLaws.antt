-- The mode's arrows that repeat no lower one are all that the list needs: the lowest arrow that can be added is one of them, so the
-- list has no more places than there are. Assumes nothing.
use mathlib.Core.Path.{◌≡◌, refl, sym, ap, ◌∙◌}
use mathlib.Core.Bool.{Bool, ◌&&◌}
use mathlib.Core.List.{List, [], ◌∷◌}
use Rattle.std.specs.Prelude.{Option, None as none, Some as some}
use Prim.Native.Nat.{ℕ, suc, ◌<◌, ◌≤◌}
use native.Mathlib.Omega.{arith}
use lib.Dec.{T, ltb, ltb→lt, lt→ltb}
use lib.ListN.{length, get_or, length-append}
use Rattle.base.proofs.Tests.{and_T, T_and}
use Rattle.base.proofs.SelectLaws.{select-within}
use Rattle.tables.specs.Rows.{Picture, arrow_count, arrow_at}
use Rattle.meaning.specs.Meaning.{has_mode}
use Rattle.meaning.proofs.ModeLaws.{has_mode-is}
use Rattle.mode_sets.specs.Mode.{same, is_own, own_arrows}
use Rattle.mode_sets.proofs.SameLaws.{same_parts}
use Rattle.mode_sets.proofs.OwnLaws.{own-select, own-found, lowest-own, own_first, own-nothing}
use Rattle.list_meaning.specs.Lists.{of_mode}
use Rattle.list_meaning.specs.Order.{all_of}
use Rattle.list_meaning.specs.Greedy.{addable, next, list_to}
use Rattle.list_meaning.proofs.CallerLaws.{all_of-none, of_mode-is, next-is-lowest}
use Rattle.list_meaning.proofs.CountLaws.{all_of-snoc, room}
use Rattle.list_meaning.proofs.GreedyLaws.{of_mode-there, of_mode-has, addable-own, addable-same}
use Rattle.list_meaning.proofs.NextLaws.{next-some, to-next, to-holds, to-grown}

-- ---- the arrows that can be added

module _ (pic : Picture) (m : ℕ) where
  -- of the mode, by their places among the numbers
  pub own-mode : (i : ℕ) → i < length (own_arrows pic.arrows m) → T (of_mode pic.arrows m (get_or (own_arrows pic.arrows m) i 0))
  own-mode i h =
      let f = own-found pic.arrows m i h in
      of_mode-is pic.arrows m (get_or (own_arrows pic.arrows m) i 0) f.0 f.1

  module _ (l : List ℕ) where
    mode_of : (k : ℕ) → T (addable pic m l k) → T (has_mode pic.arrows m k)
    mode_of k t = of_mode-has pic.arrows m k (addable-own pic m l k t)

    repeat-of : (k j : ℕ) → j < k → k < arrow_count pic.arrows → T (same pic.arrows k j) → T (addable pic m l k) → T (addable pic m l j)
    repeat-of k j h b s t =
        let e = same_parts pic.arrows k j s in
        let there : j < arrow_count pic.arrows = omega arith in
        let is : arrow_at pic.arrows j ≡ arrow_at pic.arrows k = rw (e.0, e.1, e.2, e.3) in
        let mine : T (has_mode pic.arrows m j) = rw (has_mode-is, ← e.2) (rw has_mode-is at (mode_of k t)) in
        addable-same pic m l j k is (of_mode-is pic.arrows m j there mine) t

    -- the first place whose arrow can be added has the next one, and where there is none the list has ended
    pub own-next : (r : ℕ) → r < length (own_arrows pic.arrows m) → T (addable pic m l (get_or (own_arrows pic.arrows m) r 0))
        → ((i : ℕ) → i < r → T (addable pic m l (get_or (own_arrows pic.arrows m) i 0)) → ⊥)
        → next pic m l ≡ some (get_or (own_arrows pic.arrows m) r 0)
    own-next r h t b = next-is-lowest pic m l ∙ own_first pic.arrows m (addable pic m l) mode_of repeat-of r h t b

    pub own-end : ((i : ℕ) → i < length (own_arrows pic.arrows m) → T (addable pic m l (get_or (own_arrows pic.arrows m) i 0)) → ⊥)
        → next pic m l ≡ none
    own-end b = next-is-lowest pic m l ∙ own-nothing pic.arrows m (addable pic m l) mode_of repeat-of b

    next-own : (k : ℕ) → next pic m l ≡ some k → T (is_own pic.arrows m k)
    next-own k e = lowest-own pic.arrows m (addable pic m l) mode_of repeat-of k (sym (next-is-lowest pic m l) ∙ e)

  -- ---- the list has no more places than there are such arrows

  abbrev own : ℕ → Bool
  own k = ltb k (arrow_count pic.arrows) && is_own pic.arrows m k

  to-own : (n : ℕ) → T (all_of own (list_to pic m n))
  to-own =
      to-holds pic m (λ l. T (all_of own l)) (all_of-none own)
      (λ l k a e.
      all_of-snoc own l k a
      (T_and (ltb k (arrow_count pic.arrows)) (is_own pic.arrows m k)
      (lt→ltb k (arrow_count pic.arrows) (of_mode-there pic.arrows m k (addable-own pic m l k (next-some pic m l k e).0)))
      (next-own l k e)))

  pub to_room : (n : ℕ) → length (list_to pic m n) ≤ length (own_arrows pic.arrows m)
  to_room n =
      let c = arrow_count pic.arrows in
      let w = select-within own (is_own pic.arrows m) c (λ k h t. (and_T (ltb k c) (is_own pic.arrows m k) t).1) in
      rw own-select
      (omega (arith, room own c (list_to pic m n) (λ k t. ltb→lt k c (and_T (ltb k c) (is_own pic.arrows m k) t).0) (to-own n) (to-grown pic m n).once))

  -- where they are all listed, it has ended
  pub own-full : (n : ℕ) → length (list_to pic m n) ≡ n → length (own_arrows pic.arrows m) ≤ n → next pic m (list_to pic m n) ≡ none
  own-full n e h = go (next pic m (list_to pic m n)) refl
    where
      go : (o : Option ℕ) → next pic m (list_to pic m n) ≡ o → o ≡ none
      go none i = refl
      go (some k) i =
          let more = ap length (to-next pic m n k i) ∙ length-append (list_to pic m n) (k ∷ []) in
          absurd (omega (arith, more, to_room (suc n)))
