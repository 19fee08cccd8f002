use Rattle.tables.specs.Rows.{Picture}
use Rattle.user_rows.specs.Steps.{Ready, Moded}
use Rattle.user_kinds.specs.Steps.{Noted}
use Rattle.list_sets.proofs.SortLaws.{Sorting}
use Rattle.list_sets.proofs.sort_rows.Given as goal

abbrev pub invariant-loop-i : goal.invariant-loop-i
invariant-loop-i l = record {
  noted : Noted l.i l.notes;
  sorted : (pic : Picture) → Ready pic l.closure l.arrows l.users l.asked.files → Moded pic l.asked.mode l.heads l.arrows l.own
      → Sorting pic l.asked.mode l.users l.i l.granted;
}
