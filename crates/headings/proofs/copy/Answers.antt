-- `headings::copy` meets its contract: the first places are copied, the others kept. Assumes nothing.
use mathlib.Core.Path.{◌≡◌, sym, ◌∙◌}
use mathlib.Core.List.{List, [], ◌++◌}
use Prim.Native.Nat.{ℕ, ◌≤◌}
use native.Mathlib.Nat.{zero-add}
use native.Mathlib.Omega.{arith}
use lib.ListN.{length, take, drop}
use lib.Seq.{length-take-le, sets-eq}
use Rattle.base.specs.Buffers.{written}
use Rattle.base.proofs.BufferLaws.{written_none, written-run}
use Rattle.headings.proofs.copy.Goals as goal

copied : (xs old : List ℕ) → length xs ≤ length old → xs ++ drop (length xs) old ≡ written xs old
copied xs old l = sym (rw zero-add at (sets-eq xs old 0 (omega arith))) ∙ (rw written_none at (written-run [] xs old (omega arith)))

pub returns : goal.returns
returns c =
    let n : length (take c.args.n c.args.numbers.now) ≡ c.args.n = length-take-le c.args.n c.args.numbers.now c.requires.0 in
    rw c.copy_from_slice.ensures.after (rw n at (copied (take c.args.n c.args.numbers.now) c.args.out.now (omega arith)))
