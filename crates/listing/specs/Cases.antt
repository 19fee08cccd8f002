-- The listings of the lettered pictures A to J (document 01), of one with a default answer, and of groups that have emptied (document 02,
-- P6); B's is the document's text. Numbers in decimal. Assumes nothing.
use Rattle.std.specs.Prelude.{◌≡◌, refl, List, [], ◌∷◌, map, ℕ, ◌*◌, length}
use Rattle.std.specs.Prelude.{None as none}
use Prim.Native.String.{String}
use Rattle.base.specs.Search.{or_else, given, first, lowest, every, select}
use Rattle.base.specs.Buffers.{zeros}
use Rattle.tables.specs.Rows.{Picture, side_of, is_group, on_side}
use Rattle.tables.specs.Atoms.{outer, atom, atoms, pair_count}
use Rattle.tables.specs.Faults.{ragged_fault, count_fault, byte_fault, names_no_box, across_sides, wrong_ends, wrong_mode}
use Rattle.tables.specs.Faults.{row_fault, table_fault, room_fault}
use Rattle.containment.specs.Contains.{contains, around, loop_fault}
use Rattle.scratch.specs.Scratch.{scratch_fault, early_fault, picture_fault}
use Rattle.meaning.specs.Cases.{picture-A, picture-B, picture-C, picture-D, picture-E, picture-F, picture-G}
use Rattle.meaning.specs.Cases.{picture-H, picture-I, picture-J, emptied-group, emptied-both, groups-left}
use Rattle.meaning.specs.Meaning.{has_mode, mode_arrows, reaches, nests, level, overrides, settle, hits, certifies, answer, byte_of, is_unclear}
use Rattle.meaning.specs.Pairs.{user_at, file_at, answer_at, unclear_fault, any_unclear}
use Rattle.blocks.specs.Blocks.{joined}
use Rattle.lines.specs.Text.{text, digit, decimal_to, decimal, line}
use Rattle.lines.specs.Lines.{answer_fields, three_fields, line_text}
use Rattle.listing.specs.Listing.{used, counts_line, pair_line, mode_text, picture_listing}
use Rattle.listing.specs.Files.{refused_or, listing_of}

-- the listing of a picture, with a scratch that suffices
unfoldable pub listed : Picture → List ℕ
listed pic =
    let n = length pic.boxes in
    listing_of pic (zeros (n * n))

-- users 0 and 1, file 2; an arrow from 0 to 2 in mode 7
unfoldable pub picture-default : Picture
picture-default = record { boxes = 0 ∷ 0 ∷ 1 ∷ []; rows = []; arrows = 0 ∷ 2 ∷ 7 ∷ 1 ∷ [] }

unfoldable pub table : List (Picture × String)
table =
    (picture-A, "boxes 0 containments 0 arrows 0\naccepted\n")
    ∷ (picture-B, "boxes 4 containments 2 arrows 2\n0 0 3 pos 0\n0 1 3 neg 1\naccepted\n")
    ∷ (picture-C, "boxes 2 containments 0 arrows 2\n0 0 1 ambig 0 1\nambiguous 0 0 1\n")
    ∷ (picture-D, "boxes 4 containments 2 arrows 2\n0 0 3 ambig 0 1\nambiguous 0 0 3\n")
    ∷ (picture-E, "boxes 4 containments 2 arrows 3\n0 0 3 pos 2\naccepted\n")
    ∷ (picture-F, "boxes 4 containments 2 arrows 2\n0 0 2 ambig 0 1\nambiguous 0 0 2\n")
    ∷ (picture-G, "boxes 2 containments 0 arrows 0\naccepted\n")
    ∷ (picture-H, "refused 10 0 0 0\n")
    ∷ (picture-I, "boxes 3 containments 1 arrows 2\n0 0 2 pos 0\naccepted\n")
    ∷ (picture-J, "boxes 12 containments 12 arrows 4\n0 0 6 neg 1\n0 0 7 pos 0\n0 1 6 pos 2\n0 1 7 neg 3\naccepted\n")
    ∷ (picture-default, "boxes 3 containments 0 arrows 1\n7 0 2 pos 0\n7 1 2 neg -\naccepted\n")
    ∷ (emptied-group, "boxes 3 containments 0 arrows 1\n0 0 2 neg -\naccepted\n")
    ∷ (emptied-both, "boxes 2 containments 0 arrows 1\naccepted\n")
    ∷ (groups-left, "boxes 7 containments 3 arrows 3\n0 0 4 pos 0\n0 1 4 pos 0\naccepted\n")
    ∷ []

pub listings-right : map (λ c. listed c.0) table ≡ map (λ c. text c.1) table
unfolding listed table picture-A picture-B picture-C picture-D picture-E picture-F picture-G picture-H picture-I picture-J
    picture-default emptied-group emptied-both groups-left text digit decimal_to decimal line answer_fields three_fields line_text used counts_line pair_line mode_text
    picture_listing refused_or listing_of joined zeros or_else given first lowest every select side_of is_group on_side outer atom atoms pair_count
    ragged_fault count_fault byte_fault names_no_box across_sides wrong_ends wrong_mode row_fault table_fault room_fault contains around
    loop_fault scratch_fault early_fault picture_fault has_mode mode_arrows reaches nests level overrides settle hits certifies
    answer byte_of is_unclear user_at file_at answer_at unclear_fault any_unclear
listings-right = refl

-- the document's text for the picture of case B
pub case-B : picture_listing picture-B
    ≡ text "boxes 4 containments 2 arrows 2\n0 0 3 pos 0\n0 1 3 neg 1\naccepted\n"
unfolding picture-B text digit decimal_to decimal line answer_fields three_fields line_text used counts_line pair_line mode_text picture_listing
    joined or_else given first lowest every select side_of is_group on_side outer atom atoms pair_count contains around has_mode mode_arrows reaches
    nests level overrides settle hits certifies answer byte_of is_unclear user_at file_at answer_at unclear_fault any_unclear
case-B = refl

-- which is not refused
pub passes-B : picture_fault picture-B (zeros 65536) ≡ none
unfolding picture-B zeros or_else given first lowest every select side_of is_group on_side outer atom atoms pair_count
    ragged_fault count_fault byte_fault names_no_box across_sides wrong_ends wrong_mode row_fault table_fault room_fault contains around
    loop_fault scratch_fault early_fault picture_fault
passes-B = refl

-- one digit, more, and zeros inside
pub numbers-right : map decimal (0 ∷ 7 ∷ 10 ∷ 1024 ∷ 32769 ∷ []) ≡ map text ("0" ∷ "7" ∷ "10" ∷ "1024" ∷ "32769" ∷ [])
unfolding text digit decimal_to decimal
numbers-right = refl
