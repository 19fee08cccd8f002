-- For the crates above: the first unclear pair mode by mode, and modes without an unclear pair or without an arrow. Assumes nothing.
use mathlib.Core.Path.{◌≡◌, refl, ap, ◌∙◌}
use Rattle.std.specs.Prelude.{None as none}
use Prim.Native.Nat.{ℕ, ◌<◌, ◌≤◌}
use native.Mathlib.Omega.{arith}
use lib.Dec.{T}
use lib.ListN.{length}
use Rattle.base.specs.Search.{first, select}
use Rattle.tables.specs.Rows.{Picture, user, file, arrow_count, arrow_at}
use Rattle.tables.specs.Atoms.{atom}
use Rattle.tables.specs.declared.Refusal.TheVariants.{UnclearPair}
use Rattle.base.proofs.Tests.{T-eqb}
use Rattle.base.proofs.SearchLaws.{first-nothing}
use Rattle.base.proofs.SelectLaws.{select_has}
use Rattle.meaning.specs.Meaning.{has_mode, mode_arrows, answer, is_unclear, byte_of}
use Rattle.meaning.specs.Pairs.{pairs, user_at, file_at, unclear_fault, any_unclear}
use Rattle.meaning.proofs.AnswerLaws.{unreached-default}
use Rattle.meaning.proofs.PairLaws.{unclear_at, unclear-is, unclear-none}
use Rattle.meaning.proofs.ModeLaws.{mode-select, answer_at_lem}
use Rattle.meaning.proofs.MatrixLaws.{unclear-first}
use Rattle.meaning.proofs.RowPairs.{first_pair-nothing}

module _ (pic : Picture) where
  -- the first unclear pair, mode by mode
  pub any-unclear : any_unclear pic ≡ first (unclear_fault pic) 8
  unfolding any_unclear
  any-unclear = refl

  module _ (m : ℕ) where
    -- a mode in which no pair is unclear
    pub all-clear : ((u f : ℕ) → T (atom pic.boxes pic.rows user u) → T (atom pic.boxes pic.rows file f)
        → T (is_unclear (answer pic m u f)) → ⊥) → unclear_fault pic m ≡ none
    all-clear clear = unclear-first pic m ∙ first_pair-nothing pic (λ u f. is_unclear (answer pic m u f)) (UnclearPair m) clear

    no-arrow : length (mode_arrows pic.arrows m) ≤ 0 → (k : ℕ) → k < arrow_count pic.arrows → (arrow_at pic.arrows k).mode ≡ m → ⊥
    unfolding has_mode
    no-arrow few k l e =
        let there = select_has (has_mode pic.arrows m) (arrow_count pic.arrows) k l (T-eqb e) in
        let less : length (select (has_mode pic.arrows m) (arrow_count pic.arrows)) ≤ 0 = rw mode-select at few in
        omega (arith, there.1)

    -- no pair is unclear in a mode without an arrow
    pub unused-clear : length (mode_arrows pic.arrows m) ≤ 0 → unclear_fault pic m ≡ none
    unfolding is_unclear byte_of
    unused-clear few =
        unclear-is pic m
        ∙ first-nothing (unclear_at pic m) (pairs pic)
        (λ p l.
        unclear-none pic m p
        (ap is_unclear
        (answer_at_lem pic m p
        ∙ unreached-default pic m (user_at pic p) (file_at pic p) (λ k b e t. no-arrow few k b e))))
