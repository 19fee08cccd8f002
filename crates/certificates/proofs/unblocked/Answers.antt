-- `certificates::unblocked` meets its contract, in three steps: each takes the files in one part of `blocks`. Assumes nothing.
use mathlib.Core.Path.{◌≡◌, sym, ◌∙◌}
use mathlib.Core.Bool.{Bool, not, ◌&&◌}
use Prim.Native.Nat.{ℕ, ◌<◌}
use lib.ListN.{length}
use Rattle.tables.specs.Rows.{Picture}
use Rattle.boxsets.specs.Sets.{is_in}
use Rattle.boxsets.proofs.WalkLaws.{empty-none}
use Rattle.mode_sets.specs.Steps.{ModeSets}
use Rattle.certificates.specs.Blocks.{in_one}
use Rattle.certificates.specs.Steps.{Drawn, NearBy, sign_number}
use Rattle.certificates.proofs.BlockSteps.{Known, head_blocks, tail_blocks, level_blocks, take_head}
use Rattle.certificates.proofs.BlockSteps.{take-tail, take_level, one-step, two_steps, three-steps}
use Rattle.certificates.proofs.unblocked.Goals.{After-outside_all, After-outside_all-by_head, After-outside_all-by_tail, Start}
use Rattle.certificates.proofs.unblocked.Goals as goal

-- what is known of the picture at the start
abbrev KnownAt : Start → Picture → ℕ → ℕ → Type 0
KnownAt c pic m u = Known pic m u c.args.closure.now c.args.heads.now c.args.near.now c.args.a

known : (s : Start) (pic : Picture) (m u : ℕ) (asked : ℕ → Bool) → Drawn pic s.args.closure.now
    → ModeSets pic.arrows m s.args.heads.now → NearBy pic m (sign_number s.args.near.now.sign) u asked s.args.near.now
    → (s.args.a.tail < length pic.boxes) × (s.args.a.head < length pic.boxes) × (u < length pic.boxes) → KnownAt s pic m u
known s pic m u asked d sets near there = record {
  drawn = d;
  sets = sets;
  asked = asked;
  near = near;
  tail-in = there.0;
  head_in = there.1;
}

module _ (pic : Picture) (m u : ℕ) where
  by-head : (c : After-outside_all-by_head) → Known pic m u c.args.closure.now c.args.heads.now c.args.near.now c.args.a → (f : ℕ)
      → is_in c.outside_all-by_head.result f
      ≡ (is_in c.args.files f && not (in_one pic (head_blocks pic m (sign_number c.args.near.now.sign) u c.args.a) f))
  by-head c k =
      let a = c.args in
      take_head pic m u a.closure.now a.heads.now a.near.now a.a k
      c.from-tail.result c.from-head.result c.from-tail.ensures c.from-head.ensures
      a.files c.nested_in.result c.bitand.result c.outside_all-by_head.result
      c.nested_in.ensures c.bitand.ensures (c.outside_all-by_head.ensures pic k.drawn)

  by-tail : (c : After-outside_all-by_tail) → Known pic m u c.args.closure.now c.args.heads.now c.args.near.now c.args.a → (f : ℕ)
      → is_in c.outside_all-by_tail.result f
      ≡ (is_in c.outside_all-by_head.result f
      && not (in_one pic (tail_blocks pic m (sign_number c.args.near.now.sign) u c.args.a) f))
  by-tail c k =
      let a = c.args in
      take-tail pic m u a.closure.now a.heads.now a.near.now a.a k
      c.from-tail.result c.from-head.result c.from-tail.ensures c.from-head.ensures
      c.outside_all-by_head.result c.nested_in-2.result c.bitand-inner.result c.heads_of.result c.outside_all-by_tail.result
      c.nested_in-2.ensures c.bitand-inner.ensures c.heads_of.ensures (c.outside_all-by_tail.ensures pic k.drawn)

  by_level : (c : After-outside_all) → Known pic m u c.args.closure.now c.args.heads.now c.args.near.now c.args.a → (f : ℕ)
      → is_in c.outside_all.result f
      ≡ (is_in c.outside_all-by_tail.result f
      && not (in_one pic (level_blocks pic m (sign_number c.args.near.now.sign) u c.args.a) f))
  by_level c k =
      let a = c.args in
      take_level pic m u a.closure.now a.heads.now a.near.now a.a k
      c.from-tail.result c.from-head.result c.from-tail.ensures c.from-head.ensures
      c.outside_all-by_tail.result c.nesting.result c.sub.result c.heads_of-level.result c.nesting-2.result
      c.sub-2.result c.outside_all.result
      c.nesting.ensures c.sub.ensures c.heads_of-level.ensures c.nesting-2.ensures c.sub-2.ensures
      (c.outside_all.ensures pic k.drawn)

pub returns-then-is_empty : goal.returns-then-is_empty
returns-then-is_empty c pic m u asked d sets near there f =
    let k = known (goal.at.returns-then-is_empty c).Start pic m u asked d sets near there in
    one-step pic m (sign_number c.args.near.now.sign) u c.args.a f (is_in c.args.files f) (is_in c.outside_all-by_head.result f)
    (by-head pic m u (goal.at.returns-then-is_empty c).After-outside_all-by_head k f)
    (empty-none c.outside_all-by_head.result (sym c.is_empty.ensures ∙ c.if-is_empty.true) f)

pub returns-then-is_empty-2 : goal.returns-then-is_empty-2
returns-then-is_empty-2 c pic m u asked d sets near there f =
    let k = known (goal.at.returns-then-is_empty-2 c).Start pic m u asked d sets near there in
    two_steps pic m (sign_number c.args.near.now.sign) u c.args.a f (is_in c.args.files f) (is_in c.outside_all-by_head.result f)
    (is_in c.outside_all-by_tail.result f)
    (by-head pic m u (goal.at.returns-then-is_empty-2 c).After-outside_all-by_head k f)
    (by-tail pic m u (goal.at.returns-then-is_empty-2 c).After-outside_all-by_tail k f)
    (empty-none c.outside_all-by_tail.result (sym c.is_empty-2.ensures ∙ c.if-is_empty-2.true) f)

pub returns : goal.returns
returns c pic m u asked d sets near there f =
    let k = known (goal.at.returns c).Start pic m u asked d sets near there in
    three-steps pic m (sign_number c.args.near.now.sign) u c.args.a f (is_in c.args.files f) (is_in c.outside_all-by_head.result f)
    (is_in c.outside_all-by_tail.result f) (is_in c.outside_all.result f)
    (by-head pic m u (goal.at.returns c).After-outside_all-by_head k f)
    (by-tail pic m u (goal.at.returns c).After-outside_all-by_tail k f)
    (by_level pic m u c k f)
