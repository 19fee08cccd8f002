-- `boxsets::Set::contains` meets its contract: the bit is shifted down to the lowest place. Assumes nothing.
use mathlib.Core.Path.{◌≡◌}
use Prim.Native.Nat.{◌/◌, ◌%◌}
use native.Mathlib.Omega.{arith}
use Rattle.boxsets.specs.Sets.{word_at, is_in}
use Rattle.boxsets.proofs.WordLaws.{low-shifted}
use Rattle.boxsets.proofs.Set.contains.Goals.{in-0, in-1, in-2, in_default}
use Rattle.boxsets.proofs.Set.contains.Goals as goal

pub returns : goal.returns
unfolding is_in word_at
returns c =
    let k = c.args.k in
    elim c.match-k-div64.branch [
      | in-0 w ↦ rw (w.in-0.is, w.word-is) (low-shifted (k % 64) c.args.self.a)
      | in-1 w ↦ rw (w.in-1.is, w.word-is) (low-shifted (k % 64) c.args.self.b)
      | in-2 w ↦ rw (w.in-2.is, w.word-is) (low-shifted (k % 64) c.args.self.c)
      | in_default w ↦ let e : k / 64 ≡ 3 = omega arith in rw (e, w.word-is) (low-shifted (k % 64) c.args.self.d)
    ]
