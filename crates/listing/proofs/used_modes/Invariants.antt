use Prim.Native.Nat.{◌≤◌}
use Rattle.base.proofs.BufferLaws.{Selected}
use Rattle.listing.specs.Listing.{used}
use Rattle.listing.proofs.used_modes.Given as goal

abbrev pub invariant-loop-m : goal.invariant-loop-m
invariant-loop-m l = (l.m ≤ 8) × Selected (used l.arrows) l.initial.out l.m l.count l.out
