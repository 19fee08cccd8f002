-- `judging::judge_modes` meets its contract: no mode before m has an unclear pair. Assumes nothing.
use mathlib.Core.Path.{◌≡◌, sym, ap, ◌∙◌}
use Prim.Native.Nat.{ℕ}
use borrow.Author.Rules.{rules}
use Rattle.std.specs.Prelude.{Err}
use Rattle.base.proofs.SearchLaws.{first-zero, first_more, first-here}
use Rattle.tables.specs.Rows.{Picture, user, file}
use Rattle.tables.specs.Atoms.{atom, atoms}
use Rattle.tables.specs.Refusals.{verdict_of}
use Rattle.tables.proofs.Verdicts.{passed, refused}
use Rattle.boxsets.specs.Sets.{is_in}
use Rattle.meaning.specs.Pairs.{unclear_fault}
use Rattle.meaning.proofs.ClearLaws.{any-unclear}
use Rattle.certificates.specs.Steps.{Drawn}
use Rattle.judging.proofs.judge_modes.Goals.{After-judge_mode}
use Rattle.judging.proofs.judge_modes.Goals as goal

-- what was found for mode m
judged : (c : After-judge_mode) →
    let a = c.args in
    (pic : Picture) → Drawn pic a.closure.now → a.arrows.now ≡ pic.arrows → a.users.now ≡ atoms pic.boxes pic.rows user
    → ((f : ℕ) → is_in a.files f ≡ atom pic.boxes pic.rows file f)
    → c.judge_mode.result ≡ verdict_of (unclear_fault pic c.loop-m.m)
judged c pic d o us fs = c.judge_mode.ensures pic d o us fs (rw o at (c.clashing-both.ensures c.loop-m.m))

pub loop-m-init : goal.loop-m-init
loop-m-init c pic d o us fs = first-zero (unclear_fault pic)

pub returns-in_err-judge_mode : goal.returns-in_err-judge_mode
returns-in_err-judge_mode c pic d o us fs =
    let l = c.loop-m in
    let same : c.from_residual.result ≡ Err c.in_err-judge_mode.field-0.0 = search rules in
    same
    ∙ sym (ap verdict_of
    (any-unclear pic
    ∙ first-here (unclear_fault pic) 8 l.m _ (l.invariant pic d o us fs)
    (refused _ _ (sym (judged (goal.at.returns-in_err-judge_mode c).After-judge_mode pic d o us fs) ∙ c.in_err-judge_mode.was))
    (search rules)))

pub loop-m-preserved : goal.loop-m-preserved
loop-m-preserved c pic d o us fs =
    let l = c.loop-m in
    first_more (unclear_fault pic) l.m (l.invariant pic d o us fs)
    (passed _ (sym (judged (goal.at.loop-m-preserved c).After-judge_mode pic d o us fs) ∙ c.in_ok-judge_mode.was))

pub returns : goal.returns
returns c pic d o us fs =
    let e : c.loop-m.m ≡ 8 = search rules in
    sym (ap verdict_of (any-unclear pic ∙ rw e at (c.loop-m.invariant pic d o us fs)))
