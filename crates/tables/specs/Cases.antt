-- Box bytes worked by hand (document 02, P6): two tables, and the theorems that the definitions say the same (`atoms-right`,
-- `faults-right`). Assumes nothing.
use Rattle.std.specs.Prelude.{◌≡◌, refl, List, [], ◌∷◌, map, ℕ}
use Rattle.std.specs.Prelude.{Option, None as none, Some as some}
use Rattle.base.specs.Search.{or_else, given, first, select}
use Rattle.tables.specs.Rows.{picture, user, file, side_of, is_group, on_side}
use Rattle.tables.specs.Atoms.{outer, atom, atoms}
use Rattle.tables.specs.declared.Refusal.TheVariants.{BadByte, AcrossSides, WrongEnds}
use Rattle.tables.specs.Faults.{ragged_fault, count_fault, byte_fault, names_no_box, across_sides, wrong_ends, wrong_mode}
use Rattle.tables.specs.Faults.{row_fault, table_fault}
use Rattle.tables.specs.declared.Refusal.{Refusal}

-- boxes and containments, and their atomic users and files
pub record Boxes : Type 0 where
  pub boxes : List ℕ
  pub rows : List ℕ
  pub users : List ℕ
  pub files : List ℕ

unfoldable pub box_table : List Boxes
box_table =
    -- a group that has emptied, and a folder: with bytes 0 and 1 they would be a user and a file
    record { boxes = 0 ∷ 2 ∷ 1 ∷ []; rows = []; users = 0 ∷ []; files = 2 ∷ [] }
    ∷ record { boxes = 0 ∷ 0 ∷ 1 ∷ []; rows = []; users = 0 ∷ 1 ∷ []; files = 2 ∷ [] }
    ∷ record { boxes = 0 ∷ 3 ∷ 1 ∷ []; rows = []; users = 0 ∷ []; files = 2 ∷ [] }
    -- a box of byte 0 that holds an empty group only
    ∷ record { boxes = 0 ∷ 0 ∷ 2 ∷ 1 ∷ []; rows = 1 ∷ 2 ∷ []; users = 0 ∷ []; files = 3 ∷ [] }
    -- no atomic box at all
    ∷ record { boxes = 2 ∷ 3 ∷ []; rows = []; users = []; files = [] }
    -- groups and folders that hold something
    ∷ record { boxes = 0 ∷ 2 ∷ 3 ∷ 1 ∷ []; rows = 1 ∷ 0 ∷ 2 ∷ 3 ∷ []; users = 0 ∷ []; files = 3 ∷ [] }
    ∷ []

unfoldable pub compute_boxes : Boxes → Boxes
compute_boxes c = record { boxes = c.boxes; rows = c.rows; users = atoms c.boxes c.rows user; files = atoms c.boxes c.rows file }

pub atoms-right : map compute_boxes box_table ≡ box_table
unfolding compute_boxes box_table select side_of is_group on_side outer atom atoms
atoms-right = refl

-- a picture, and its fault by checks 1 to 7
pub record Faulty : Type 0 where
  pub boxes : List ℕ
  pub rows : List ℕ
  pub arrows : List ℕ
  pub fault : Option Refusal

unfoldable pub fault_table : List Faulty
fault_table =
    -- 3: a byte above 3
    record { boxes = 0 ∷ 1 ∷ 2 ∷ 3 ∷ []; rows = []; arrows = []; fault = none }
    ∷ record { boxes = 0 ∷ 4 ∷ 1 ∷ []; rows = []; arrows = []; fault = some (BadByte 1) }
    -- 5 goes by side
    ∷ record { boxes = 0 ∷ 2 ∷ 2 ∷ []; rows = 0 ∷ 1 ∷ 1 ∷ 0 ∷ 1 ∷ 2 ∷ []; arrows = []; fault = none }
    ∷ record { boxes = 1 ∷ 3 ∷ 3 ∷ []; rows = 0 ∷ 1 ∷ 1 ∷ 0 ∷ 1 ∷ 2 ∷ []; arrows = []; fault = none }
    ∷ record { boxes = 0 ∷ 3 ∷ []; rows = 0 ∷ 1 ∷ []; arrows = []; fault = some (AcrossSides 0) }
    ∷ record { boxes = 2 ∷ 3 ∷ []; rows = 0 ∷ 1 ∷ []; arrows = []; fault = some (AcrossSides 0) }
    ∷ record { boxes = 2 ∷ 3 ∷ []; rows = 1 ∷ 0 ∷ []; arrows = []; fault = some (AcrossSides 0) }
    ∷ record { boxes = 2 ∷ 1 ∷ []; rows = 0 ∷ 0 ∷ 1 ∷ 0 ∷ []; arrows = []; fault = some (AcrossSides 1) }
    -- 6 goes by side
    ∷ record { boxes = 2 ∷ 3 ∷ []; rows = []; arrows = 0 ∷ 1 ∷ 0 ∷ 1 ∷ []; fault = none }
    ∷ record { boxes = 3 ∷ 3 ∷ []; rows = []; arrows = 0 ∷ 1 ∷ 0 ∷ 1 ∷ []; fault = some (WrongEnds 0) }
    ∷ record { boxes = 2 ∷ 2 ∷ []; rows = []; arrows = 0 ∷ 1 ∷ 0 ∷ 1 ∷ []; fault = some (WrongEnds 0) }
    ∷ []

unfoldable pub compute_faulty : Faulty → Faulty
compute_faulty c = record { boxes = c.boxes; rows = c.rows; arrows = c.arrows; fault = table_fault (picture c.boxes c.rows c.arrows) }

pub faults-right : map compute_faulty fault_table ≡ fault_table
unfolding compute_faulty fault_table or_else given first side_of on_side
    ragged_fault count_fault byte_fault names_no_box across_sides wrong_ends wrong_mode row_fault table_fault
faults-right = refl
