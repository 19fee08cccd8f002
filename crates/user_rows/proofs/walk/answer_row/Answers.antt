-- `user_rows::walk::answer_row` meets its contract. Assumes nothing.
use mathlib.Core.Path.{◌≡◌, refl, ap, ◌∙◌}
use mathlib.Core.List.{List}
use Prim.Native.Nat.{ℕ}
use lib.ListN.{get_or}
use Rattle.user_rows.proofs.RowSorts.{answered}
use Rattle.user_rows.proofs.BlankLaws.{blank-at}
use Rattle.user_rows.proofs.walk.answer_row.Goals as goal

pub returns : goal.returns
returns c pic m d md there =
    let a = c.args in
    let x = c.around_user-x in
    let old : ℕ → ℕ = λ f. get_or a.numbers.now f 0 in
    let numbers : ℕ → ℕ = λ f. get_or c.walk.new.numbers f 0 in
    answered pic m a.user a.closure.now a.heads.now a.arrows.now a.own.now d md there x.result x.ensures.user_value
    a.asked c.bitor-reached.result (x.ensures.around_by pic m d md.sets there) c.walk.result old
    (λ new. (f : ℕ) → numbers f ≡ new f)
    (λ p n asked e me near in_it within. c.walk.ensures p n asked e me near in_it within old (λ f. refl)) c.bitor-reached.ensures
    (λ f l. ap (λ (z : List ℕ). get_or z f 0) c.requires.2 ∙ blank-at f l) numbers (λ new told. told)
