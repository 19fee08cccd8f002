-- `listing::row::put_row` meets its contract: the lines of the files so far stand behind each other. Assumes nothing.
use mathlib.Core.Path.{◌≡◌, refl, ◌∙◌}
use Prim.Native.Nat.{ℕ, ◌<◌}
use native.Mathlib.Omega.{arith}
use lib.ListN.{length, get_or}
use Rattle.tables.specs.Rows.{Picture, file}
use Rattle.meaning.specs.Meaning.{answer, number_of}
use Rattle.boxsets.specs.Sets.{among}
use Rattle.boxsets.proofs.AmongLaws.{among-is}
use Rattle.certificates.specs.Steps.{Drawn}
use Rattle.user_rows.specs.Steps.{Sorts}
use Rattle.user_rows.proofs.BlankLaws.{blank-is}
use Rattle.listing.proofs.StandLaws.{atom-in}
use Rattle.listing.proofs.RowLaws.{row-none, line-more, row-unclear}
use Rattle.listing.proofs.row.put_row.Goals.{After-from-f, At-loop-file}
use Rattle.listing.proofs.row.put_row.Goals as goal

-- the answers are those of the user
told : (c : At-loop-file) (pic : Picture) → let a = c.args in let u = c.from-u.result in
    Drawn pic a.closure.now → a.arrows.now ≡ pic.arrows → a.user < length pic.boxes
    → (u < length pic.boxes) × Sorts pic a.mode u (among a.files.now) c.answers_of-row.result
    × ((i : ℕ) → i < length a.files.now
    → get_or c.answers_of-row.new.numbers (get_or a.files.now i 0) 0
    ≡ number_of (answer pic a.mode u (get_or a.files.now i 0)))
told c pic d e l =
    let there : c.from-u.result < length pic.boxes = rw c.from-u.ensures l in
    let known = c.answers_of-row.ensures pic d e there in
    (there, known.0, known.1)

-- the file is a box number
file-small : (c : After-from-f) → c.from-f.result < 256
file-small c =
    rw c.from-f.ensures (c.requires.small.2 c.loop-file.file-index c.loop-file-test.true)

pub answers_of-row-requires : goal.answers_of-row-requires
answers_of-row-requires c =
    let pre = c.requires.small in
    (pre.0, rw c.from-u.ensures pre.1, pre.2, c.filled-numbers.ensures ∙ blank-is)

pub loop-file-init : goal.loop-file-init
loop-file-init c = (omega arith, refl, refl, omega arith, λ pic d e l w. row-none _)

pub offset_bounds-numbers-f : goal.offset_bounds-numbers-f
offset_bounds-numbers-f c = omega (arith, file-small (goal.at.offset_bounds-numbers-f c).After-from-f)

pub entry_of-e-requires : goal.entry_of-e-requires
entry_of-e-requires c =
    let pre = c.requires.small in
    (pre.0, rw c.from-u.ensures pre.1, file-small (goal.at.entry_of-e-requires c).After-from-f)

pub line-requires : goal.line-requires
line-requires c =
    let inv = c.loop-file.invariant in
    omega (arith, inv.1, inv.3, c.loop-file-test.true, c.requires.files_in_bounds)

pub loop-file-preserved : goal.loop-file-preserved
loop-file-preserved c =
    let a = c.args in
    let inv = c.loop-file.invariant in
    let line = c.line.ensures.put in (
      omega (arith, c.loop-file-test.true),
      line.same ∙ inv.1,
      c.line.ensures.same_buffer ∙ inv.2,
      omega (arith, line.ends, line.short, inv.3),
      λ pic d e l w.
          let i = c.loop-file.file-index in
          let ef = c.from-f.ensures in
          let below = c.loop-file-test.true in
          let known = told (goal.at.loop-file-preserved c).At-loop-file pic d e l in
          let entry =
          c.entry_of-e.ensures pic (among a.files.now) d e known.0 (rw ef (atom-in pic file w i below))
          (rw ef (among-is a.files.now i below)) known.1 (rw ef (known.2 i below)) in
          line-more pic a.mode a.user a.files.now i _ _ _ (inv.4 pic d e l w) entry c.from-u.ensures ef line,
    )

pub returns : goal.returns
returns c =
    let a = c.args in
    let inv = c.loop-file.invariant in
    let all : c.loop-file.file-index ≡ length a.files.now = omega (arith, inv.0, c.loop-file-test.false) in record {
      same_buffer = inv.2;
      out_len_unchanged = inv.1;
      row_put = λ pic d e l w. record {
        put = rw all at (inv.4 pic d e l w);
        unclear-is =
            row-unclear pic a.mode a.user a.files.now _ _ _ c.first_unclear.ensures c.from-u.ensures w
            (told (goal.at.returns c).At-loop-file pic d e l).1;
      };
    }
