use mathlib.Core.Path.{◌≡◌}
use Prim.Native.Nat.{ℕ}
use Rattle.tables.specs.Rows.{Picture, user, file}
use Rattle.tables.specs.Atoms.{atom, atoms}
use Rattle.boxsets.specs.Sets.{is_in}
use Rattle.certificates.specs.Steps.{Drawn}
use Rattle.user_rows.specs.Steps.{Moded}
use Rattle.user_kinds.specs.Steps.{Noted}
use Rattle.user_kinds.proofs.RowLaws.{Clear}
use Rattle.judging.proofs.judge_rows.Given as goal

abbrev pub invariant-loop-i : goal.invariant-loop-i
invariant-loop-i l = record {
  noted : Noted l.i l.notes;
  clear :
      (pic : Picture) → Drawn pic l.closure → Moded pic l.mode l.heads l.arrows l.own → l.users ≡ atoms pic.boxes pic.rows user
      → ((f : ℕ) → is_in l.files f ≡ atom pic.boxes pic.rows file f) → Clear pic l.mode l.i;
}
