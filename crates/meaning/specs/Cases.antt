-- The lettered pictures A to J (document 01), and pictures of groups that have emptied (document 02, P6). What is said of them are two
-- tables: `lettered` specs/Cases. Assumes nothing.
use Rattle.std.specs.Prelude.{[], ◌∷◌, ◌++◌}
use Rattle.tables.specs.Rows.{Picture}

-- no boxes
unfoldable pub picture-A : Picture
picture-A = record { boxes = []; rows = []; arrows = [] }

-- users 0 and 1 in group 2, file 3
unfoldable pub picture-B : Picture
picture-B = record {
  boxes = 0 ∷ 0 ∷ 0 ∷ 1 ∷ [];
  rows = 2 ∷ 0 ∷ 2 ∷ 1 ∷ [];
  arrows = 0 ∷ 3 ∷ 0 ∷ 1 ∷ 2 ∷ 3 ∷ 0 ∷ 0 ∷ [];
}

-- user 0, file 1, arrows + and − between them
unfoldable pub picture-C : Picture
picture-C = record { boxes = 0 ∷ 1 ∷ []; rows = []; arrows = 0 ∷ 1 ∷ 0 ∷ 1 ∷ 0 ∷ 1 ∷ 0 ∷ 0 ∷ [] }

-- user 0 in groups 1 and 2, file 3; arrow 0 from 1 is +, arrow 1 from 2 is −
unfoldable pub picture-D : Picture
picture-D = record {
  boxes = 0 ∷ 0 ∷ 0 ∷ 1 ∷ [];
  rows = 1 ∷ 0 ∷ 2 ∷ 0 ∷ [];
  arrows = 1 ∷ 3 ∷ 0 ∷ 1 ∷ 2 ∷ 3 ∷ 0 ∷ 0 ∷ [];
}

-- D and arrow 2, + from 0 to 3
unfoldable pub picture-E : Picture
picture-E = record {
  boxes = picture-D.boxes;
  rows = picture-D.rows;
  arrows = picture-D.arrows ++ (0 ∷ 3 ∷ 0 ∷ 1 ∷ []);
}

-- user 0 in group 1, file 2 in folder 3; arrow 0 from 1 to 2 is +, arrow 1 from 0 to 3 is −
unfoldable pub picture-F : Picture
picture-F = record {
  boxes = 0 ∷ 0 ∷ 1 ∷ 1 ∷ [];
  rows = 1 ∷ 0 ∷ 3 ∷ 2 ∷ [];
  arrows = 1 ∷ 2 ∷ 0 ∷ 1 ∷ 0 ∷ 3 ∷ 0 ∷ 0 ∷ [];
}

-- user 0, file 1, no arrow
unfoldable pub picture-G : Picture
picture-G = record { boxes = 0 ∷ 1 ∷ []; rows = []; arrows = [] }

-- user 0, containment 0-0
unfoldable pub picture-H : Picture
picture-H = record { boxes = 0 ∷ []; rows = 0 ∷ 0 ∷ []; arrows = [] }

-- user 0 in group 1, file 2; arrow 0 from 1 and arrow 1 from 0, both +
unfoldable pub picture-I : Picture
picture-I = record {
  boxes = 0 ∷ 0 ∷ 1 ∷ [];
  rows = 1 ∷ 0 ∷ [];
  arrows = 1 ∷ 2 ∷ 0 ∷ 1 ∷ 0 ∷ 2 ∷ 0 ∷ 1 ∷ [];
}

-- the ring: users 0, 1; groups 2 (holds 0, 5), 3 (holds 0), 4 (holds 3, 1), 5 (holds 1); files 6, 7; folders 8 (holds 7),
-- 9 (holds 8, 6), 10 (holds 6), 11 (holds 10, 7); arrows 2 to 8 +, 3 to 9 −, 4 to 10 +, 5 to 11 −
unfoldable pub picture-J : Picture
picture-J = record {
  boxes = 0 ∷ 0 ∷ 0 ∷ 0 ∷ 0 ∷ 0 ∷ 1 ∷ 1 ∷ 1 ∷ 1 ∷ 1 ∷ 1 ∷ [];
  rows =
      2 ∷ 0 ∷ 2 ∷ 5 ∷ 3 ∷ 0 ∷ 4 ∷ 3 ∷ 4 ∷ 1 ∷ 5 ∷ 1
      ∷ 8 ∷ 7 ∷ 9 ∷ 8 ∷ 9 ∷ 6 ∷ 10 ∷ 6 ∷ 11 ∷ 10 ∷ 11 ∷ 7 ∷ [];
  arrows = 2 ∷ 8 ∷ 0 ∷ 1 ∷ 3 ∷ 9 ∷ 0 ∷ 0 ∷ 4 ∷ 10 ∷ 0 ∷ 1 ∷ 5 ∷ 11 ∷ 0 ∷ 0 ∷ [];
}

-- user 0, emptied group 1, file 2; an arrow from 1 is +
unfoldable pub emptied-group : Picture
emptied-group = record { boxes = 0 ∷ 2 ∷ 1 ∷ []; rows = []; arrows = 1 ∷ 2 ∷ 0 ∷ 1 ∷ [] }

-- user 0, box 1 around emptied group 2, file 3; arrow 0 from 1 is +, arrow 1 from 0 is −
unfoldable pub around-emptied : Picture
around-emptied = record {
  boxes = 0 ∷ 0 ∷ 2 ∷ 1 ∷ [];
  rows = 1 ∷ 2 ∷ [];
  arrows = 1 ∷ 3 ∷ 0 ∷ 1 ∷ 0 ∷ 3 ∷ 0 ∷ 0 ∷ [];
}

-- an emptied group and an emptied folder, and an arrow between them
unfoldable pub emptied-both : Picture
emptied-both = record { boxes = 2 ∷ 3 ∷ []; rows = []; arrows = 0 ∷ 1 ∷ 0 ∷ 1 ∷ [] }

-- users 0 and 1 in group 2, emptied group 3, file 4 in folder 5, emptied folder 6; arrow 0 from 2 to 5 is +, arrow 1 from 3 to 5 is −,
-- arrow 2 from 2 to 6 is −
unfoldable pub groups-left : Picture
groups-left = record {
  boxes = 0 ∷ 0 ∷ 2 ∷ 2 ∷ 1 ∷ 3 ∷ 3 ∷ [];
  rows = 2 ∷ 0 ∷ 2 ∷ 1 ∷ 5 ∷ 4 ∷ [];
  arrows = 2 ∷ 5 ∷ 0 ∷ 1 ∷ 3 ∷ 5 ∷ 0 ∷ 0 ∷ 2 ∷ 6 ∷ 0 ∷ 0 ∷ [];
}
