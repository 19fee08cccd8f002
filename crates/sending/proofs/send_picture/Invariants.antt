use Rattle.std.proofs.Common.{◌≡◌, ◌-◌, length}
use Rattle.tables.specs.Rows.{shown}
use Rattle.listing.specs.PairRows.{line_rows}
use Rattle.listing.specs.Steps.{Stands}
use Rattle.sending.proofs.Going.{Gone, Grown}
use Rattle.sending.proofs.send_picture.Given as goal

abbrev pub invariant-loop-place : goal.invariant-loop-place
invariant-loop-place g l =
    let pic = shown l.t in
    Stands pic l.place × (l.count ≡ line_rows pic) × (65536 ≡ length l.out)
    × Gone pic l.place l.check.state × Grown pic l.place (g.W.Write.contents l.fn.to) (g.W.Write.contents l.to)

abbrev pub decreases-loop-place : goal.decreases-loop-place
decreases-loop-place g l = l.count - l.place.row
