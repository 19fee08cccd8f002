use mathlib.Core.Path.{◌≡◌}
use Prim.Native.Nat.{◌*◌, ◌-◌}
use lib.ListN.{length}
use Rattle.tables.specs.Rows.{Picture}
use Rattle.listing.specs.Steps.{Fits, Prepared, Stands}
use Rattle.listing.proofs.ChunkLaws.{Filling}
use Rattle.listing.proofs.fill.Given as goal

abbrev pub invariant-loop-place : goal.invariant-loop-place
invariant-loop-place l =
    Fits l.users l.place × (l.count ≡ l.place.used * length l.users) × (length l.pen.out.now ≡ length l.initial.pen.out.now)
    × (l.pen.out.ghost_name ≡ l.initial.pen.out.ghost_name)
    × ((pic : Picture) → Prepared pic l.closure l.arrows l.users l.files → Stands pic l.initial.place → Filling pic l.initial.place l.initial.pen.out.now l.pen.out.now l.pen.at l.place)

abbrev pub decreases-loop-place : goal.decreases-loop-place
decreases-loop-place l = l.count - l.place.row
