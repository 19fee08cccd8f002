-- `user_rows::walk::sort_row` meets its contract. Assumes nothing.
use mathlib.Core.Path.{sym, ap, ◌∙◌}
use mathlib.Core.Bool.{Bool, ◌||◌}
use Rattle.boxsets.specs.Sets.{is_in}
use Rattle.boxsets.proofs.WalkLaws.{empty-none}
use Rattle.user_rows.proofs.RowSorts.{sorted, sorted-clear}
use Rattle.user_rows.proofs.walk.sort_row.Goals as goal

-- both signs reach none of the files
pub returns-then-is_empty : goal.returns-then-is_empty
returns-then-is_empty c pic m d md there =
    let a = c.args in
    sorted-clear pic m a.user c.around_user-x.result a.asked c.bitand-clash.result (c.around_user-x.ensures.around_by pic m d md.sets there)
    (empty-none c.bitand-clash.result (sym c.is_empty.ensures ∙ c.if-is_empty.true)) c.bitand-clash.ensures

pub returns : goal.returns
returns c pic m d md there =
    let a = c.args in
    let x = c.around_user-x in
    sorted pic m a.user a.closure.now a.heads.now a.arrows.now a.own.now d md there x.result x.ensures.user_value
    a.asked c.bitand-clash.result (x.ensures.around_by pic m d md.sets there) c.walk-found.result (λ f. 0) (λ new. Unit {0})
    (λ p n asked e me near in_it within. c.walk-found.ensures p n asked e me near in_it within (λ f. 0) tt)
    c.bitand-clash.ensures c.bitor.result
    (λ f. c.bitor.ensures f ∙ ap (λ (b : Bool). b || is_in c.walk-found.result.granted f) (c.sub.ensures f))
