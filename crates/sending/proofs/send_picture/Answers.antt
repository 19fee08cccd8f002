-- `sending::send_picture` meets its contract: the first line, buffers of rows and the last line follow each other. Assumes nothing.
use mathlib.Core.Path.{◌≡◌, refl, sym, ◌∙◌}
use native.Mathlib.Omega.{arith}
use borrow.Author.Rules.{rules}
use Rattle.std.proofs.lemmas.Result.{on_ok_weaker, IfOk-at_ok}
use lib.ListN.{take}
use Rattle.std.specs.Io.KnownBytes.{Appends}
use Rattle.blocks.specs.Fnv.{fnv_fold}
use Rattle.blocks.specs.declared.fnv.Check.{Check}
use Rattle.tables.specs.Rows.{shown}
use Rattle.listing.specs.PairRows.{line_rows}
use Rattle.listing.specs.Steps.{Stands, Filled}
use Rattle.listing.proofs.FileLaws.{counts-are}
use Rattle.listing.proofs.StandLaws.{prepared-in-range, stands-fit, rows_are}
use Rattle.sending.proofs.Going.{gone-first, gone-more, gone-all, grown-first, grown-more, grown-all}
use Rattle.sending.proofs.send_picture.Goals.{After-fill-chunk, After-start-place}
use Rattle.sending.proofs.send_picture.Given.{Over}
use Rattle.sending.proofs.send_picture.Goals as goal

-- the place is the first
begins : (g : Over) → (c : After-start-place g) → Stands (shown c.args.t) c.start-place.result
begins g c = c.start-place.ensures.stands (shown c.args.t) refl

-- what a buffer holds
chunk : (g : Over) → (c : After-fill-chunk g)
    → Filled (shown c.args.t) c.loop-place.place c.loop-place.out c.fill-chunk.new.out c.fill-chunk.result
chunk g c = c.fill-chunk.ensures (shown c.args.t) c.requires c.loop-place.invariant.0

pub row_count-count-requires : goal.row_count-count-requires
row_count-count-requires g c = ((prepared-in-range c.requires).few-users, (stands-fit c.requires (begins g c)).few-used)

pub loop-place-init : goal.loop-place-init
loop-place-init g c =
    let b = begins g (goal.at.loop-place-init g c).After-start-place in
    let made = rw (← counts-are c.args.t.boxes.now c.args.t.rows.now c.args.t.arrows.now) at c.counts_line-first.ensures in (
      b,
      c.row_count-count.ensures ∙ sym (rows_are c.requires b),
      search rules,
      gone-first c.start-place.result c.start-place.ensures.row_value c.fresh.ensures made c.in_ok-check.ensures.check,
      grown-first c.start-place.result c.start-place.ensures.row_value made c.in_ok-check.ensures.bytes,
    )

pub fill-chunk-requires : goal.fill-chunk-requires
fill-chunk-requires g c =
    let d = c.requires in
    let sized = prepared-in-range d in
    record {
      in_range = (sized, stands-fit d c.loop-place.invariant.0);
      files_in_bounds = omega (arith, sized.few-files, c.loop-place.invariant.2);
    }

pub loop-place-preserved : goal.loop-place-preserved
loop-place-preserved g c =
    let l = c.loop-place in
    let put = chunk g (goal.at.loop-place-preserved g c).After-fill-chunk in
    let sent = c.send-in-loop-place.ensures in
    let part = take c.fill-chunk.result.bytes c.fill-chunk.new.out in (
      put.stands,
      l.invariant.1,
      search rules,
      gone-more l.invariant.3 put (IfOk-at_ok (λ (check : Check). check.state ≡ fnv_fold l.check.state part) c.in_ok-check-2.was sent.check),
      grown-more _ l.invariant.4 put (IfOk-at_ok (λ (check : Check). Appends (g.W.Write.contents l.to) (g.W.Write.contents c.send-in-loop-place.new.to) part) c.in_ok-check-2.was sent.bytes),
    )

pub returns : goal.returns
returns g c =
    let l = c.loop-place in
    let all : l.place.row ≡ line_rows (shown c.args.t) =
    omega (arith, c.loop-place-test.false, l.invariant.0.within, l.invariant.1) in
    let last = rw c.in_numbers.ensures at c.last_line-last.ensures in
    record {
      check = gone-all l.invariant.3 c.send-2.result l.invariant.0 all last c.send-2.ensures.check;
      bytes = on_ok_weaker c.send-2.result (λ w. grown-all (g.W.Write.contents c.send-2.new.to) l.invariant.4 l.invariant.0 all last w)
          c.send-2.ensures.bytes;
    }
