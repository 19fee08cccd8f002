-- The rows are the pair lines of the listing, what was seen in them says the last line, and rows follow each other. Assumes nothing.
use mathlib.Core.Path.{◌≡◌, refl, sym, ap, ap₂, ◌∙◌}
use mathlib.Core.Bool.{Bool, true, false, cond}
use mathlib.Core.List.{List, [], ◌++◌}
use Rattle.std.specs.Prelude.{None as none}
use Prim.Native.Nat.{ℕ, ◌+◌, ◌/◌, ◌%◌}
use native.Mathlib.Nat.{zero-add, add_assoc}
use borrow.Author.Tests.{ltb-false}
use lib.ListN.{length, get_or}
use Rattle.base.specs.Search.{or_else, select}
use Rattle.base.proofs.FoldLaws.{fold, fold_same, fold-add, fold-grid, fold-select, first-fold, or_else-chains, Chains}
use Rattle.tables.specs.Rows.{Picture}
use Rattle.tables.specs.Refusals.{verdict_of}
use Rattle.meaning.specs.Meaning.{mode_arrows}
use Rattle.meaning.specs.Pairs.{users, files, pairs, user_at, file_at, unclear_fault, any_unclear}
use Rattle.meaning.proofs.ClearLaws.{any-unclear, unused-clear}
use Rattle.meaning.proofs.ModeLaws.{answer_at_lem}
use Rattle.meaning.proofs.PairLaws.{pairs-are, user-read, file-read, unclear-is}
use Rattle.blocks.specs.Blocks.{joined}
use Rattle.blocks.proofs.JoinedLaws.{joined-fold, append-chains}
use Rattle.lines.specs.Lines.{line_text}
use Rattle.listing.specs.Listing.{used, pair_line, mode_text}
use Rattle.listing.specs.PairRows.{used_modes, user_line, user_unclear, row_text, row_unclear, line_rows, row_mode, row_user, rows_from, seen_before}

module _ (pic : Picture) where
  abbrev U : ℕ
  U = length (users pic)

  abbrev F : ℕ
  F = length (files pic)

  -- ---- what is made of all pairs of the modes with an arrow, row by row

  module _ {A : Type 0} (e : A) (op : A → A → A) (law : Chains e op) (g : ℕ → ℕ → ℕ → A) where
    -- of the files of a user, and of all pairs in a mode
    abbrev by_row : ℕ → ℕ → A
    by_row m u = fold e op (λ c. g m u (get_or (files pic) c 0)) F

    abbrev by_mode : ℕ → A
    by_mode m = fold e op (λ p. g m (user_at pic p) (file_at pic p)) (pairs pic)

    mode-rows : (m : ℕ) → fold e op (λ i. by_row m (get_or (users pic) i 0)) U ≡ by_mode m
    mode-rows m =
        let at : ℕ → ℕ → A = λ i c. g m (get_or (users pic) i 0) (get_or (files pic) c 0) in
        sym (fold-grid e op law at F U)
        ∙ ap (λ (n : ℕ). fold e op (λ p. at (p / F) (p % F)) n) (pairs-are pic (users pic) (files pic) refl refl 0)
        ∙ fold_same e op (λ p. at (p / F) (p % F)) (λ p. g m (user_at pic p) (file_at pic p)) (pairs pic)
        (λ p l. ap₂ (g m) (user-read pic (users pic) (files pic) refl refl p) (file-read pic (users pic) (files pic) refl refl p))

    by_rows : fold e op (λ r. by_row (row_mode pic r) (row_user pic r)) (line_rows pic)
        ≡ fold e op (λ m. cond (used pic.arrows m) (by_mode m) e) 8
    unfolding line_rows used_modes
    by_rows =
        let modes = select (used pic.arrows) 8 in
        fold-grid e op law (λ j i. by_row (get_or modes j 0) (get_or (users pic) i 0)) U (length modes)
        ∙ fold_same e op (λ j. fold e op (λ i. by_row (get_or modes j 0) (get_or (users pic) i 0)) U) (λ j. by_mode (get_or modes j 0)) (length modes)
        (λ j l. mode-rows (get_or modes j 0))
        ∙ fold-select e op law (used pic.arrows) by_mode 8

  -- ---- the text

  abbrev text_of : ℕ → ℕ → ℕ → List ℕ
  text_of m u f = line_text (user_line pic m u f)

  -- the text of row r
  abbrev row_at : ℕ → List ℕ
  row_at r = row_text pic (row_mode pic r) (row_user pic r) (files pic) F

  pairs-text : (m : ℕ) → by_mode [] ◌++◌ append-chains text_of m ≡ joined (λ p. line_text (pair_line pic m p)) (pairs pic)
  unfolding pair_line user_line
  pairs-text m =
      fold_same [] ◌++◌ (λ p. text_of m (user_at pic p) (file_at pic p)) (λ p. line_text (pair_line pic m p)) (pairs pic) (λ p l. rw (answer_at_lem pic m p))
      ∙ sym (joined-fold (λ p. line_text (pair_line pic m p)) (pairs pic))

  pub rows_whole : rows_from pic 0 (line_rows pic) ≡ joined (mode_text pic) 8
  unfolding rows_from mode_text
  rows_whole =
      joined-fold (λ k. row_at (0 + k)) (line_rows pic)
      ∙ fold_same [] ◌++◌ (λ k. row_at (0 + k)) (λ r. by_row [] ◌++◌ append-chains text_of (row_mode pic r) (row_user pic r)) (line_rows pic)
      (λ r l. rw (zero-add r) (joined-fold (λ c. text_of (row_mode pic r) (row_user pic r) (get_or (files pic) c 0)) F))
      ∙ by_rows [] ◌++◌ append-chains text_of
      ∙ fold_same [] ◌++◌ (λ m. cond (used pic.arrows m) (by_mode [] ◌++◌ append-chains text_of m) []) (mode_text pic) 8
      (λ m l. ap (λ (x : List ℕ). cond (used pic.arrows m) x []) (pairs-text m))
      ∙ sym (joined-fold (mode_text pic) 8)

  -- n rows, then k rows from there on, are n + k rows
  pub rows_join : (from n k : ℕ) → rows_from pic from (n + k) ≡ rows_from pic from n ++ rows_from pic (from + n) k
  unfolding rows_from
  rows_join from n k =
      joined-fold (λ i. row_at (from + i)) (n + k)
      ∙ fold-add [] ◌++◌ append-chains (λ i. row_at (from + i)) n k
      ∙ ap₂ ◌++◌ (sym (joined-fold (λ i. row_at (from + i)) n))
      (fold_same [] ◌++◌ (λ i. row_at (from + (n + i))) (λ i. row_at (from + n + i)) k (λ i l. ap row_at (sym (add_assoc from n i)))
      ∙ sym (joined-fold (λ i. row_at (from + n + i)) k))

  -- ---- the first unclear pair

  -- a mode that is not used has none
  only-used : (m : ℕ) (b : Bool) → used pic.arrows m ≡ b → cond b (unclear_fault pic m) none ≡ unclear_fault pic m
  unfolding used
  only-used m true e = refl
  only-used m false e = sym (unused-clear pic m (ltb-false 0 (length (mode_arrows pic.arrows m)) e))

  pairs-unclear : (m : ℕ) → by_mode none or_else or_else-chains (user_unclear pic) m ≡ unclear_fault pic m
  unfolding user_unclear
  pairs-unclear m = sym (first-fold (λ p. user_unclear pic m (user_at pic p) (file_at pic p)) (pairs pic)) ∙ simp (← answer_at_lem) (sym (unclear-is pic m))

  pub seen-whole : seen_before pic (line_rows pic) ≡ verdict_of (any_unclear pic)
  unfolding seen_before
  seen-whole = ap verdict_of (
      first-fold (λ r. row_unclear pic (row_mode pic r) (row_user pic r) (files pic)) (line_rows pic)
      ∙ fold_same none or_else (λ r. row_unclear pic (row_mode pic r) (row_user pic r) (files pic))
      (λ r. by_row none or_else or_else-chains (user_unclear pic) (row_mode pic r) (row_user pic r)) (line_rows pic)
      (λ r l. first-fold (λ c. user_unclear pic (row_mode pic r) (row_user pic r) (get_or (files pic) c 0)) F)
      ∙ by_rows none or_else or_else-chains (user_unclear pic)
      ∙ fold_same none or_else (λ m. cond (used pic.arrows m) (by_mode none or_else or_else-chains (user_unclear pic) m) none) (unclear_fault pic) 8
      (λ m l. rw (pairs-unclear m) (only-used m (used pic.arrows m) refl))
      ∙ sym (first-fold (unclear_fault pic) 8)
      ∙ sym (any-unclear pic))
