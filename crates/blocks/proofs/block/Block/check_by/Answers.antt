-- Each refusal is that of its definition, in their order. Assumes nothing.
use Rattle.std.proofs.Common.{◌≡◌, Err, sym, ◌∙◌, rules}
use Rattle.tables.proofs.Verdicts.{refuses, passes}
use Rattle.blocks.specs.Blocks.{wrong_check, block_fault}
use Rattle.blocks.specs.Steps.{number32}
use Rattle.blocks.proofs.block.Block.check_by.Goals as goal

pub returns-in_err-refuse_if : goal.returns-in_err-refuse_if
unfolding block_fault wrong_check number32
returns-in_err-refuse_if c =
    let e : c.from_residual.result ≡ Err c.in_err-refuse_if.field-0.0 = search rules in
    let one = rw (c.computed_check.ensures, c.stored_check.ensures) at c.refuse_if.ensures in
    e ∙ refuses _ _ _ (sym one ∙ c.in_err-refuse_if.was)

pub returns-in_err-refuse_if-2 : goal.returns-in_err-refuse_if-2
unfolding block_fault wrong_check number32
returns-in_err-refuse_if-2 c =
    let e : c.from_residual-in_err-refuse_if-2.result ≡ Err c.in_err-refuse_if-2.field-0.0 = search rules in
    let one = rw (c.computed_check.ensures, c.stored_check.ensures) at c.refuse_if.ensures in
    let two = rw (c.wrong.ensures, c.requires) at c.refuse_if-2.ensures in
    e ∙ refuses _ _ _ (sym two ∙ c.in_err-refuse_if-2.was) ∙ passes _ _ (sym one ∙ c.in_ok-refuse_if.was)

pub returns : goal.returns
unfolding block_fault wrong_check number32
returns c =
    let one = rw (c.computed_check.ensures, c.stored_check.ensures) at c.refuse_if.ensures in
    let two = rw (c.wrong.ensures, c.requires) at c.refuse_if-2.ensures in
    let three = rw (c.wrong_filler.ensures, c.requires) at c.refuse_if-3.ensures in
    three ∙ passes _ _ (sym two ∙ c.in_ok-refuse_if-2.was) ∙ passes _ _ (sym one ∙ c.in_ok-refuse_if.was)
