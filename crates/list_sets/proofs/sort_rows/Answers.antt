-- `list_sets::sort_rows` meets its contract: no pair of the first i users is unclear, and each of them has her granted files. Assumes
-- nothing.
use mathlib.Core.Path.{◌∙◌}
use native.Mathlib.Omega.{arith}
use Rattle.base.proofs.BufferLaws.{zeros-is}
use Rattle.user_kinds.proofs.AlikeLaws.{noted-none}
use Rattle.list_sets.proofs.SortLaws.{sorting-none, sorting-alike, sorting-more, sorting-found, sorting-end}
use Rattle.list_sets.proofs.sort_rows.Goals as goal

pub loop-i-init : goal.loop-i-init
loop-i-init c = record {
  noted = noted-none _ (c.filled-notes.ensures ∙ zeros-is 107);
  sorted = λ pic r o. sorting-none c.requires.2;
}

-- a user before is answered alike
pub loop-i-preserved-then-j-i : goal.loop-i-preserved-then-j-i
loop-i-preserved-then-j-i c = record {
  noted = c.alike-j.ensures.upper_bound.1;
  sorted = λ pic r o.
      sorting-alike r (c.loop-i.invariant.sorted pic r o) c.if-j-i.true (c.alike-j.ensures.alike pic _ r.drawn o.sets r.users-are)
      c.from-u.ensures c.from.ensures (rw c.set_at-known.ensures at c.put_set.ensures);
}

pub returns-in-Some : goal.returns-in-Some
returns-in-Some c pic r o =
    rw c.from-in-Some.ensures
    (sorting-found r (c.loop-i.invariant.sorted pic r o) c.from-u.ensures c.loop-i-test.true
    (c.sort_row-row.ensures pic _ r.drawn o) c.in-Some.ensures.0 c.in-Some.ensures.1)

pub loop-i-preserved : goal.loop-i-preserved
loop-i-preserved c = record {
  noted = c.alike-j.ensures.upper_bound.1;
  sorted = λ pic r o.
      sorting-more r (c.loop-i.invariant.sorted pic r o) c.from-u.ensures c.loop-i-test.true
      (c.sort_row-row.ensures pic _ r.drawn o) c.in_default.ensures c.put_set-in-loop-i.ensures;
}

pub returns : goal.returns
returns c pic r o = sorting-end r (c.loop-i.invariant.sorted pic r o) (omega arith)
