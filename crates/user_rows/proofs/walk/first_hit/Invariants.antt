use Prim.Native.Nat.{◌≤◌}
use Rattle.tables.specs.Rows.{arrow_count}
use Rattle.certificates.specs.Steps.{sign_number}
use Rattle.user_rows.proofs.StepLaws.{NoHit}
use Rattle.user_rows.proofs.walk.first_hit.Given as goal

abbrev pub invariant-loop-k : goal.invariant-loop-k
invariant-loop-k l = (l.k ≤ arrow_count l.arrows) × NoHit l.closure l.arrows l.mode (sign_number l.sign) l.u l.f l.k
