-- What has gone out of a listing, by its check. Assumes nothing.
use mathlib.Core.Path.{◌≡◌, ◌∙◌}
use mathlib.Core.List.{List, [], ◌++◌, append_assoc, append-nil}
use Prim.Native.Nat.{ℕ, ◌+◌, ◌-◌}
use native.Mathlib.Omega.{arith}
use native.Mathlib.Nat.{zero-add}
use lib.ListN.{take}
use Rattle.std.specs.Prelude.{Result, IfOk}
use Rattle.std.specs.Io.KnownBytes.{Appends}
use Rattle.std.proofs.lemmas.Result.{IfOk-weaker}
use Rattle.std.proofs.KnownBytes.{Appends-trans}
use Rattle.std.specs.declared.option.Option.{Option}
use Rattle.tables.specs.Rows.{Picture}
use Rattle.blocks.specs.declared.fnv.Check.{Check}
use Rattle.sending.specs.Steps.{SentAll}
use Rattle.blocks.specs.Fnv.{fnv_fold, fnv1a}
use Rattle.blocks.proofs.MadeBlocks.{check-more}
use Rattle.lines.specs.Lines.{line_text}
use Rattle.lines.specs.Steps.{Holds}
use Rattle.lines.specs.declared.Line.TheVariants.{Last}
use Rattle.listing.specs.Listing.{in_numbers, counts_line, picture_listing}
use Rattle.listing.specs.PairRows.{line_rows, rows_from}
use Rattle.listing.specs.Steps.{Stands, Filled}
use Rattle.listing.specs.declared.Place.{Place}
use Rattle.listing.specs.declared.Chunk.{Chunk}
use Rattle.listing.proofs.ChunkLaws.{rows_none}
use Rattle.listing.proofs.WholeLaws.{rows_whole, rows_join, seen-whole}
use Rattle.listing.proofs.FileLaws.{held, listing-parts}

-- a text, and what a buffer held after it
pub sent-more : (before : List ℕ) {text old new : List ℕ} {n state after : ℕ} → state ≡ fnv1a before → Holds text old new n
    → after ≡ fnv_fold state (take n new) → after ≡ fnv1a (before ++ text)
sent-more before {text} e h s = s ∙ rw (e, held h) (check-more before text)

-- the same of a call that sends it
pub sent-part : {E : Type 0} (before : List ℕ) {text old new : List ℕ} {n state : ℕ} (sent : Result Check E) → state ≡ fnv1a before
    → Holds text old new n → IfOk sent (λ check. check.state ≡ fnv_fold state (take n new)) → SentAll (before ++ text) sent
sent-part before {text} {old} {new} {n} {state} sent e h s =
    IfOk-weaker sent (λ check. check.state ≡ fnv_fold state (take n new)) (λ check. check.state ≡ fnv1a (before ++ text))
    (λ check o. sent-more before e h o) s

-- the first line and the rows up to a place
pub record Gone (pic : Picture) (p : Place) (state : ℕ) : Type 0 where
  pub check-is : state ≡ fnv1a (line_text (counts_line pic) ++ rows_from pic 0 p.row)

pub gone-first : {pic : Picture} {old new : List ℕ} {n start after : ℕ} (p : Place) → p.row ≡ 0 → start ≡ fnv1a []
    → Holds (line_text (counts_line pic)) old new n → after ≡ fnv_fold start (take n new) → Gone pic p after
gone-first {pic} p z e h s = record { check-is = sent-more [] e h s ∙ rw (z, rows_none pic 0, append-nil) }

module _ {pic : Picture} {p : Place} {old new : List ℕ} {state : ℕ} (g : Gone pic p state) where
  pub gone-more : {c : Chunk} {after : ℕ} → Filled pic p old new c → after ≡ fnv_fold state (take c.bytes new) → Gone pic c.next after
  gone-more {c} f s =
      let k = c.next.row - p.row in
      let there : p.row + k ≡ c.next.row = omega (arith, f.onward) in
      let joins : rows_from pic 0 (p.row + k) ≡ rows_from pic 0 p.row ++ rows_from pic p.row k = rows_join pic 0 p.row k ∙ rw zero-add in
      record {
        check-is =
            sent-more (line_text (counts_line pic) ++ rows_from pic 0 p.row) g.check-is f.holds s
            ∙ rw (append_assoc, ← joins, there);
      }

  -- with the last line it is the listing
  pub gone-all : {E : Type 0} {n : ℕ} (sent : Result Check E) → Stands pic p → p.row ≡ line_rows pic
      → Holds (line_text (Last (in_numbers p.seen))) old new n → IfOk sent (λ check. check.state ≡ fnv_fold state (take n new))
      → SentAll (picture_listing pic) sent
  gone-all sent w e h s =
      rw (listing-parts pic, ← rows_whole pic, ← seen-whole pic, ← e, ← w.seen_are, ← append_assoc)
      (sent-part (line_text (counts_line pic) ++ rows_from pic 0 p.row) sent g.check-is h s)

-- the same of what a writer holds, if that is known, before the first line and after the rows up to a place
pub record Grown (pic : Picture) (p : Place) (a b : Option (List ℕ)) : Type 0 where
  pub grew : Appends a b (line_text (counts_line pic) ++ rows_from pic 0 p.row)

pub grown-first : {pic : Picture} {a b : Option (List ℕ)} {old new : List ℕ} {n : ℕ} (p : Place) → p.row ≡ 0
    → Holds (line_text (counts_line pic)) old new n → Appends a b (take n new) → Grown pic p a b
grown-first {pic} p z h w = record { grew = rw (z, rows_none pic 0, append-nil, ← held h) w }

module _ {pic : Picture} {p : Place} {a b : Option (List ℕ)} (c : Option (List ℕ)) {old new : List ℕ} (g : Grown pic p a b) where
  pub grown-more : {k : Chunk} → Filled pic p old new k → Appends b c (take k.bytes new) → Grown pic k.next a c
  grown-more {k} f w =
      let m = k.next.row - p.row in
      let there : p.row + m ≡ k.next.row = omega (arith, f.onward) in
      let joins : rows_from pic 0 (p.row + m) ≡ rows_from pic 0 p.row ++ rows_from pic p.row m = rows_join pic 0 p.row m ∙ rw zero-add in
      record {
        grew = rw (← there, joins, ← append_assoc, ← held f.holds) (Appends-trans a b c _ _ g.grew w);
      }

  -- with the last line it is the listing
  pub grown-all : {n : ℕ} → Stands pic p → p.row ≡ line_rows pic → Holds (line_text (Last (in_numbers p.seen))) old new n
      → Appends b c (take n new) → Appends a c (picture_listing pic)
  grown-all s e h w =
      let all = rw (held h) at (Appends-trans a b c _ _ g.grew w) in
      rw (s.seen_are, e, seen-whole pic, rows_whole pic, append_assoc, ← listing-parts pic) at all
