-- `user_rows::walk::entry_of` meets its contract. Assumes nothing.
use Rattle.std.specs.Prelude.{Option}
use Rattle.std.specs.Option.{unwrap_or}
use mathlib.Core.Path.{sym, ap, ◌∙◌}
use Prim.Native.Nat.{ℕ}
use Rattle.user_rows.proofs.EntryLaws.{give-granted, give-unclear, give-denied, give-default}
use Rattle.user_rows.proofs.walk.entry_of.Goals as goal

pub returns-then-contains : goal.returns-then-contains
returns-then-contains c pic asked d arrows-are u-there f-there asked-f sorts number_is =
    let a = c.args in
    give-granted pic a.mode a.u a.f asked a.row sorts asked-f a.number number_is (sym c.contains.ensures ∙ c.if-contains.true)

pub returns-then-contains-2 : goal.returns-then-contains-2
returns-then-contains-2 c pic asked d arrows-are u-there f-there asked-f sorts number_is =
    let a = c.args in
    give-unclear pic a.mode a.u a.f asked a.row sorts asked-f (sym c.contains-2.ensures ∙ c.if-contains-2.true)
    c.unwrap_or.result c.unwrap_or-then-contains-2.result
    (λ k e. c.unwrap_or.ensures ∙ ap (λ (o : Option ℕ). unwrap_or o 65535) (c.first_hit.ensures pic d arrows-are u-there f-there ∙ e))
    (λ k e.
    c.unwrap_or-then-contains-2.ensures
    ∙ ap (λ (o : Option ℕ). unwrap_or o 65535) (c.first_hit-then-contains-2.ensures pic d arrows-are u-there f-there ∙ e))

pub returns-then-number-lt-NONE : goal.returns-then-number-lt-NONE
returns-then-number-lt-NONE c pic asked d arrows-are u-there f-there asked-f sorts number_is =
    let a = c.args in
    give-denied pic a.mode a.u a.f asked a.row sorts asked-f a.number number_is d.arrows-sound.few-arrows
    (sym c.contains.ensures ∙ c.if-contains.false) (sym c.contains-2.ensures ∙ c.if-contains-2.false) c.if-number-lt-NONE.true

pub returns : goal.returns
returns c pic asked d arrows-are u-there f-there asked-f sorts number_is =
    let a = c.args in
    give-default pic a.mode a.u a.f asked a.row sorts asked-f a.number number_is d.arrows-sound.few-arrows
    (sym c.contains.ensures ∙ c.if-contains.false) (sym c.contains-2.ensures ∙ c.if-contains-2.false) c.if-number-lt-NONE.false
