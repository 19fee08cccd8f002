use lib.ListN.{get_or}
use Rattle.cells.specs.Steps.{byte_in, Emitted}
use Rattle.cells.proofs.emit_row.Given as goal

abbrev pub invariant-loop-j : goal.invariant-loop-j
invariant-loop-j l =
    Emitted (λ k. byte_in l.row (get_or l.files k 0)) l.at l.j l.initial.bytes l.bytes
    × Emitted (λ k. get_or l.found (get_or l.files k 0) 0) l.at l.j l.initial.numbers l.numbers
