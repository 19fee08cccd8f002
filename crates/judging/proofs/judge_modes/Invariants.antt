use Rattle.std.specs.Prelude.{None as none}
use mathlib.Core.Path.{◌≡◌}
use Prim.Native.Nat.{ℕ}
use Rattle.base.specs.Search.{first}
use Rattle.tables.specs.Rows.{Picture, user, file}
use Rattle.tables.specs.Atoms.{atom, atoms}
use Rattle.boxsets.specs.Sets.{is_in}
use Rattle.meaning.specs.Pairs.{unclear_fault}
use Rattle.certificates.specs.Steps.{Drawn}
use Rattle.judging.proofs.judge_modes.Given as goal

abbrev pub invariant-loop-m : goal.invariant-loop-m
invariant-loop-m l =
    (pic : Picture) → Drawn pic l.closure → l.arrows ≡ pic.arrows → l.users ≡ atoms pic.boxes pic.rows user
    → ((f : ℕ) → is_in l.files f ≡ atom pic.boxes pic.rows file f) → first (unclear_fault pic) l.m ≡ none
