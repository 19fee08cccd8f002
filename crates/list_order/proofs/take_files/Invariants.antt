use Rattle.boxsets.specs.Sets.{is_in}
use Rattle.boxsets.specs.Members.{to_come}
use Rattle.list_order.proofs.TakeLaws.{Taking}
use Rattle.boxsets.specs.Members.{to_come}
use Rattle.list_order.proofs.take_files.Given as goal

abbrev pub invariant-loop-u : goal.invariant-loop-u
invariant-loop-u l = Taking (is_in l.fn.users) (to_come l.u-iterator) l.files l.initial.left l.left
