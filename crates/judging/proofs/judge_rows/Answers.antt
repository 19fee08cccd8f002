-- `judging::judge_rows` meets its contract: no file of the users before i is unclear. Assumes nothing.
use mathlib.Core.Path.{◌≡◌, sym, ap, ◌∙◌}
use Prim.Native.Nat.{◌<◌}
use native.Mathlib.Omega.{arith}
use borrow.Author.Rules.{rules}
use borrow.Author.Tests.{eq-eqb, ne_eqb}
use lib.ListN.{length, get_or}
use Rattle.base.proofs.BufferLaws.{zeros-is}
use Rattle.tables.specs.Rows.{Picture, user}
use Rattle.tables.specs.Atoms.{atoms}
use Rattle.tables.specs.Refusals.{verdict_of}
use Rattle.boxsets.specs.Sets.{is_in}
use Rattle.meaning.specs.Pairs.{users}
use Rattle.meaning.proofs.RowPairs.{rows_start}
use Rattle.certificates.specs.Steps.{Drawn}
use Rattle.user_rows.specs.Steps.{Moded, Sorts}
use Rattle.user_kinds.proofs.AlikeLaws.{noted-none}
use Rattle.user_kinds.proofs.AtomLaws.{listed_at}
use Rattle.user_kinds.proofs.RowLaws.{unclear, clear-more, clear-found, clear-end}
use Rattle.judging.proofs.judge_rows.Goals.{After-sort_row-row}
use Rattle.judging.proofs.judge_rows.Goals as goal

-- the row of the user
row-sorts : (c : After-sort_row-row) →
    let a = c.args in
    let u = c.from-u.result in
    (pic : Picture) → Drawn pic a.closure.now → Moded pic a.mode a.heads.now a.arrows.now a.own.now
    → a.users.now ≡ atoms pic.boxes pic.rows user
    → (u ≡ get_or (users pic) c.loop-i.i 0) × (c.loop-i.i < length (users pic))
    × Sorts pic a.mode u (is_in a.files) c.sort_row-row.result
row-sorts c pic d o us =
    let a = c.args in
    let at = listed_at pic.boxes pic.rows user a.users.now us c.loop-i.i _ (search rules) c.from-u.ensures in
    (at.0, at.1, c.sort_row-row.ensures pic a.mode d o at.2)

pub loop-i-init : goal.loop-i-init
loop-i-init c = record {
  noted = noted-none _ (c.filled-notes.ensures ∙ zeros-is _);
  clear = λ pic d o us fs. rows_start pic (unclear pic c.args.mode);
}

pub returns-in-Some : goal.returns-in-Some
returns-in-Some c pic d o us fs =
    let a = c.args in
    let s = row-sorts (goal.at.returns-in-Some c).After-sort_row-row pic d o us in
    let found = c.in-Some.ensures in
    rw c.from.ensures
    (clear-found pic a.mode c.loop-i.i c.from-u.result a.files c.sort_row-row.result s.0 fs s.2 (c.loop-i.invariant.clear pic d o us fs)
    c.in-Some.f s.1 found.1 (ne_eqb _ _ (λ e. omega (arith, found))))

pub loop-i-preserved : goal.loop-i-preserved
loop-i-preserved c =
    let a = c.args in record {
      noted = c.alike.ensures.upper_bound.1;
      clear = λ pic d o us fs.
          let s = row-sorts (goal.at.loop-i-preserved c).After-sort_row-row pic d o us in
          clear-more pic a.mode c.loop-i.i c.from-u.result a.files c.sort_row-row.result s.0 fs s.2
          (c.loop-i.invariant.clear pic d o us fs) (eq-eqb _ _ c.in_default.ensures);
    }

pub returns : goal.returns
returns c pic d o us fs =
    let l = c.loop-i in
    let a = c.args in
    let e : l.i ≡ length a.users.now = search rules in
    sym (ap verdict_of (clear-end pic a.mode (rw (e, us) at (l.invariant.clear pic d o us fs))))
