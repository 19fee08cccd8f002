-- `lists::stages::list_mode` meets its contract: check 12 refuses, or the list follows. Assumes nothing.
use mathlib.Core.Path.{◌≡◌, sym, ap, ◌∙◌}
use mathlib.Core.List.{List, ◌++◌}
use Prim.Native.Nat.{ℕ}
use native.Mathlib.Nat.{le_trans}
use Rattle.std.specs.Prelude.{Err}
use borrow.Author.Rules.{rules}
use lib.ListN.{drop, replicate}
use Rattle.base.specs.Buffers.{written, zeros}
use Rattle.base.proofs.BufferLaws.{filled-first, zeros-is}
use Rattle.tables.proofs.Verdicts.{passed, refused}
use Rattle.meaning.specs.Pairs.{unclear_fault}
use Rattle.mode_sets.specs.Mode.{own_arrows}
use Rattle.user_kinds.proofs.TakenLaws.{room}
use Rattle.list_meaning.proofs.CallLaws.{listing-refused, listing-done}
use Rattle.lists.proofs.OwnPart.{OwnPart, own-part}
use Rattle.lists.proofs.stages.list_mode.Goals.{In_ok-unclear, After-fill}
use Rattle.lists.proofs.stages.list_mode.Goals as goal

pub sort_mode-count-requires : goal.sort_mode-count-requires
sort_mode-count-requires c =
    (c.requires.small.0, c.requires.small.1, room 512 (c.filled-own.ensures ∙ zeros-is 512), c.filled-granted.ensures ∙ zeros-is 1024)

-- check 12 refuses
pub returns-in_err-unclear : goal.returns-in_err-unclear
returns-in_err-unclear c pic ready pairs-are =
    let a = c.args in
    let e : c.from_residual.result ≡ Err c.in_err-unclear.field-0.0 = search rules in
    rw e
    (listing-refused pic a.asked.mode a.out.now a.work.now _
    (refused (unclear_fault pic a.asked.mode) _ (sym (c.sort_mode-count.ensures.check12 pic ready).said ∙ c.in_err-unclear.was)))

-- the mode's arrows
part : (c : In_ok-unclear) →
    let a = c.args in
    OwnPart a.arrows.now a.asked.mode c.sort_mode-count.result.0 c.sort_mode-count.new.own
part c =
    own-part c.args.arrows.now c.args.asked.mode _ _ _ (c.sort_mode-count.ensures.count, c.sort_mode-count.ensures.own_after) c.requires.small.0
    (room 512 (c.filled-own.ensures ∙ zeros-is 512))

pub slice_bounds-own-end : goal.slice_bounds-own-end
slice_bounds-own-end c = (part (goal.at.slice_bounds-own-end c).In_ok-unclear).within

pub slice_bounds-list_clear-end : goal.slice_bounds-list_clear-end
slice_bounds-list_clear-end c = (part (goal.at.slice_bounds-list_clear-end c).In_ok-unclear).len

pub list_clear-requires-clause-small : goal.list_clear-requires-clause-small
list_clear-requires-clause-small c =
    let own = part (goal.at.list_clear-requires-clause-small c).In_ok-unclear in
    (c.requires.small.0, own.numbers, own.few)

pub list_clear-requires-clause-own_in_bounds : goal.list_clear-requires-clause-own_in_bounds
list_clear-requires-clause-own_in_bounds c =
    let own = part (goal.at.list_clear-requires-clause-own_in_bounds c).In_ok-unclear in
    (le_trans own.most c.requires.mode_in_bounds.0, c.requires.mode_in_bounds.0)

cleared : (c : After-fill) → c.fill.new.self ++ drop c.args.asked.pairs c.args.work.now ≡ written (zeros c.args.asked.pairs) c.args.work.now
cleared c =
    let n = c.args.asked.pairs in
    let set : c.fill.new.self ≡ replicate n 0 = search rules in
    rw (← zeros-is n) (filled-first 0 n c.fill.new.self c.args.work.now set)

pub returns : goal.returns
returns c pic ready pairs-are =
    let a = c.args in
    let m = a.asked.mode in
    let s = c.sort_mode-count.ensures.check12 pic ready in
    let clear = passed (unclear_fault pic m) (sym s.said ∙ c.in_ok-unclear.was) in
    listing-done pic m a.out.now a.work.now clear c.list_clear.result _ _
    (c.list_clear.ensures pic
    (record {
      drawn = ready.drawn;
      arrows-are = ready.arrows-are;
      own-are = (part (goal.at.returns c).In_ok-unclear).are ∙ ap (λ (xs : List ℕ). own_arrows xs m) ready.arrows-are;
      clear = clear;
      says = s.says clear;
    })
    ready)
    (cleared (goal.at.returns c).After-fill ∙ ap (λ (n : ℕ). written (zeros n) a.work.now) pairs-are)
