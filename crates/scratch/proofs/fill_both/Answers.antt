-- `scratch::fill_both` meets its contract: after n rounds a way is a chain of rows; check 10 and the scratch read that, and then each box
-- joins its own sets. Assumes nothing.
use mathlib.Core.Path.{ap, ◌∙◌}
use Prim.Native.Nat.{◌≤◌}
use native.Mathlib.Omega.{arith}
use lib.ListN.{length}
use Rattle.tables.specs.Refusals.{verdict_of}
use Rattle.containment.specs.Contains.{direct, contains}
use Rattle.containment.specs.Steps.{Both}
use Rattle.containment.proofs.ClosureLaws.{sound-below, both_fewer, closed-both, own-loops, closure-is}
use Rattle.scratch.proofs.fill_both.Goals.{After-close, After-mark_rows}
use Rattle.scratch.proofs.fill_both.Goals as goal

-- the rows' pairs are there
module _ (c : After-mark_rows) where
  few : length c.args.boxes.now ≤ 256
  few = c.requires.sound_rows.few-boxes

  marked : Both 256 (direct c.args.rows.now) c.mark_rows.new.closure
  marked = c.mark_rows.ensures

-- the sets say what contains what
module _ (c : After-close) where
  closed : Both 256 (contains c.args.rows.now) c.close.new.closure
  closed =
      let a = c.args in
      closed-both (length a.boxes.now) a.rows.now c.mark_rows.new.closure c.close.new.closure
      (sound-below a.boxes.now a.rows.now (length a.boxes.now) (omega arith) c.requires.sound_rows) (marked (goal.at.After-close c).After-mark_rows) c.close.ensures

pub mark_rows-requires : goal.mark_rows-requires
mark_rows-requires c =
    record {
      rows_below = sound-below c.args.boxes.now c.args.rows.now 256 c.requires.sound_rows.few-boxes c.requires.sound_rows;
      closure_value = c.requires.closure_value;
    }

pub close-requires : goal.close-requires
close-requires c = few (goal.at.close-requires c).After-mark_rows

pub check_loops-loops-requires : goal.check_loops-loops-requires
check_loops-loops-requires c = few (goal.at.check_loops-loops-requires c).After-mark_rows

pub fill_scratch-requires : goal.fill_scratch-requires
fill_scratch-requires c =
    let n = length c.args.boxes.now in record {
      rows_below = (sound-below c.args.boxes.now c.args.rows.now n (omega arith) c.requires.sound_rows, few (goal.at.fill_scratch-requires c).After-mark_rows, c.requires.boxes_in_bounds);
      both = both_fewer 256 n (contains c.args.rows.now) c.close.new.closure (few (goal.at.fill_scratch-requires c).After-mark_rows) (closed (goal.at.fill_scratch-requires c).After-close);
    }

pub add_selves-requires : goal.add_selves-requires
add_selves-requires c = few (goal.at.add_selves-requires c).After-mark_rows

pub returns : goal.returns
returns c =
    let a = c.args in
    let n = length a.boxes.now in record {
      value = c.check_loops-loops.ensures
          ∙ ap verdict_of (own-loops a.boxes.now a.rows.now c.close.new.closure (few (goal.at.returns c).After-mark_rows) (closed (goal.at.returns c).After-close));
      scratch_after = c.fill_scratch.ensures;
      closure = closure-is n a.rows.now c.close.new.closure c.add_selves.new.closure (few (goal.at.returns c).After-mark_rows) (closed (goal.at.returns c).After-close) c.add_selves.ensures;
    }
