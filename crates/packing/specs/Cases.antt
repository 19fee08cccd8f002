-- Pictures A and B (document 01) packed, and lengths at the capacities: bytes written out, and the theorems that the definitions say the
-- same (`packed-right`, `lengths-right`). Assumes nothing.
use Rattle.std.specs.Prelude.{◌≡◌, refl, List, [], ◌∷◌, ◌++◌, ℕ, length}
use Rattle.base.specs.Buffers.{zeros}
use Rattle.tables.specs.Rows.{Picture}
use Rattle.blocks.specs.Fnv.{fnv_fold, fnv1a}
use Rattle.blocks.specs.Blocks.{by_kind, capacity, record_size, joined}
use Rattle.packing.specs.Packed.{bytes16, bytes32, box_bytes, containment_bytes, arrow_bytes}
use Rattle.packing.specs.Packed.{head_bytes, covered, block_of, least, blocks_for}
use Rattle.packing.specs.Packed.{rows_of, record_bytes, blocks_of, first_of, count_in, kind_block, kind_bytes, packed}

-- A: no boxes
abbrev pub picture-A : Picture
picture-A = record { boxes = []; rows = []; arrows = [] }

-- B: users 0 and 1 in group 2, file 3; arrow 0 gives user 0 the file, arrow 1 denies it to the group
abbrev pub picture-B : Picture
picture-B = record {
  boxes = 0 ∷ 0 ∷ 0 ∷ 1 ∷ [];
  rows = 2 ∷ 0 ∷ 2 ∷ 1 ∷ [];
  arrows = 0 ∷ 3 ∷ 0 ∷ 1 ∷ 2 ∷ 3 ∷ 0 ∷ 0 ∷ [];
}

-- two boxes, and so many numbers of each table; the length goes by them alone
abbrev pub picture-of : (rows arrows : ℕ) → Picture
picture-of rows arrows = record { boxes = zeros 2; rows = zeros rows; arrows = zeros arrows }

-- the bytes of A, and those of B block by block: head and records, filler, check
unfoldable pub bytes-A : List ℕ
bytes-A = 1 ∷ zeros 507 ++ (132 ∷ 169 ∷ 245 ∷ 179 ∷ [])

unfoldable pub bytes-B : List ℕ
bytes-B =
    (1 ∷ 0 ∷ 0 ∷ 0 ∷ 4 ∷ 0 ∷ 0 ∷ 0 ∷ 0 ∷ 0 ∷ 0 ∷ 1 ∷ [])
    ++ zeros 496 ++ (211 ∷ 116 ∷ 71 ∷ 42 ∷ [])
    ++ (2 ∷ 0 ∷ 1 ∷ 0 ∷ 2 ∷ 0 ∷ 0 ∷ 0 ∷ 2 ∷ 0 ∷ 0 ∷ 0 ∷ 2 ∷ 0 ∷ 1 ∷ 0 ∷ [])
    ++ zeros 492 ++ (5 ∷ 23 ∷ 79 ∷ 245 ∷ [])
    ++ (3 ∷ 0 ∷ 2 ∷ 0 ∷ 2 ∷ 0 ∷ 0 ∷ 0 ∷ 0 ∷ 0 ∷ 3 ∷ 0 ∷ 0 ∷ 1 ∷ 2 ∷ 0 ∷ 3 ∷ 0 ∷ 0 ∷ 0 ∷ [])
    ++ zeros 488 ++ (115 ∷ 116 ∷ 220 ∷ 197 ∷ [])

-- two boxes with 125 containments and 83 arrows, and with one more of each
unfoldable pub lengths : List ℕ
lengths = length (packed (picture-of 250 332)) ∷ length (packed (picture-of 252 336)) ∷ []

pub packed-right : (packed picture-A ≡ bytes-A) × (packed picture-B ≡ bytes-B)
unfolding
    zeros fnv_fold fnv1a by_kind capacity record_size joined bytes16 bytes32 box_bytes containment_bytes arrow_bytes head_bytes
    covered block_of least blocks_for rows_of record_bytes blocks_of first_of count_in kind_block kind_bytes packed bytes-A bytes-B
packed-right = (refl, refl)

pub lengths-right : lengths ≡ 1536 ∷ 2560 ∷ []
unfolding
    lengths zeros fnv_fold fnv1a by_kind capacity record_size joined bytes16 bytes32 box_bytes containment_bytes
    arrow_bytes head_bytes covered block_of least blocks_for rows_of record_bytes blocks_of first_of count_in kind_block kind_bytes packed
lengths-right = refl
