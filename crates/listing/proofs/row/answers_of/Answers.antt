-- `listing::row::answers_of` meets its contract: the sets and arrows are those of the mode, and the files are asked for. Assumes nothing.
use mathlib.Core.Path.{◌∙◌}
use borrow.Author.Rules.{rules}
use Rattle.base.proofs.BufferLaws.{zeros-is}
use Rattle.listing.proofs.AskLaws.{own-there, own-length, own-sized, own-moded, answered}
use Rattle.listing.proofs.row.answers_of.Goals as goal

pub take_mode-count-requires : goal.take_mode-count-requires
take_mode-count-requires c = (c.requires.0, search rules, c.filled-heads.ensures ∙ zeros-is 2056)

pub slice_bounds-own-end : goal.slice_bounds-own-end
slice_bounds-own-end c =
    let told = c.take_mode-count.ensures in
    own-there c.args.mode c.requires.0 c.filled-own.ensures (told.value, told.own_after)

pub slice_bounds-answer_row-end : goal.slice_bounds-answer_row-end
slice_bounds-answer_row-end c =
    let told = c.take_mode-count.ensures in
    own-length c.args.mode c.requires.0 c.filled-own.ensures (told.value, told.own_after)

pub answer_row-requires : goal.answer_row-requires
answer_row-requires c =
    let told = c.take_mode-count.ensures in
    let pre = c.requires in
    (own-sized c.args.mode pre.0 c.filled-own.ensures (told.value, told.own_after) told.mode_sets (search rules), pre.1, pre.3)

pub returns : goal.returns
returns c =
    let told = c.take_mode-count.ensures in
    let small = c.requires.0 in
    λ pic d e l.
    answered c.args.files.now c.of-asked.result _ c.answer_row.new.numbers c.of-asked.ensures
    (c.answer_row.ensures pic _ d (own-moded c.args.mode small c.filled-own.ensures (told.value, told.own_after) told.mode_sets e) l)
