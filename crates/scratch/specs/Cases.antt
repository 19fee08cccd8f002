-- Tables of containments and their scratch, worked by hand (document 02, P2): one table, and the theorem that the definitions say the
-- same (`scratches-right`). Assumes nothing.
use Rattle.std.specs.Prelude.{◌≡◌, refl, List, [], ◌∷◌, map, ℕ, ◌+◌, ◌*◌, replicate}
use Rattle.std.specs.Prelude.{Option, None as none, Some as some}
use Rattle.base.specs.Search.{or_else, given, first}
use Rattle.base.specs.Steps.{bit}
use Rattle.base.specs.Buffers.{build, written}
use Rattle.tables.specs.declared.Refusal.TheVariants.{InItself}
use Rattle.tables.specs.declared.Refusal.{Refusal}
use Rattle.containment.specs.Contains.{direct, contains, loop_fault}
use Rattle.scratch.specs.Scratch.{drawn, scratch_bytes}
use Rattle.scratch.specs.Steps.{filled}

pub record Case : Type 0 where
  -- so many boxes, and the rows
  pub count : ℕ
  pub rows : List ℕ
  -- the scratch at the end; each needed place held 9, and so did one beyond them
  pub scratch : List ℕ
  -- 10, if a box contains itself
  pub loop : Option Refusal

unfoldable pub scratches : List Case
scratches =
    -- boxes 0 and 2 are joined directly and through 1
    record {
      count = 3;
      rows = 0 ∷ 1 ∷ 1 ∷ 2 ∷ 0 ∷ 2 ∷ [];
      scratch =
          0 ∷ 2 ∷ 2
          ∷ 0 ∷ 0 ∷ 2
          ∷ 0 ∷ 0 ∷ 0
          ∷ 9 ∷ [];
      loop = none;
    }
    -- through 1 only
    ∷ record {
      count = 3;
      rows = 0 ∷ 1 ∷ 1 ∷ 2 ∷ [];
      scratch =
          0 ∷ 2 ∷ 1
          ∷ 0 ∷ 0 ∷ 2
          ∷ 0 ∷ 0 ∷ 0
          ∷ 9 ∷ [];
      loop = none;
    }
    -- a repeated row
    ∷ record {
      count = 2;
      rows = 0 ∷ 1 ∷ 0 ∷ 1 ∷ [];
      scratch =
          0 ∷ 2
          ∷ 0 ∷ 0
          ∷ 9 ∷ [];
      loop = none;
    }
    -- a box in itself
    ∷ record { count = 1; rows = 0 ∷ 0 ∷ []; scratch = 2 ∷ 9 ∷ []; loop = some (InItself 0) }
    -- two boxes in each other
    ∷ record {
      count = 2;
      rows = 0 ∷ 1 ∷ 1 ∷ 0 ∷ [];
      scratch =
          1 ∷ 2
          ∷ 2 ∷ 1
          ∷ 9 ∷ [];
      loop = some (InItself 0);
    }
    -- a box in another and in itself
    ∷ record {
      count = 2;
      rows = 0 ∷ 1 ∷ 1 ∷ 1 ∷ [];
      scratch =
          0 ∷ 2
          ∷ 0 ∷ 2
          ∷ 9 ∷ [];
      loop = some (InItself 1);
    }
    -- the rows of picture J
    ∷ record {
      count = 12;
      rows =
          2 ∷ 0 ∷ 2 ∷ 5 ∷ 3 ∷ 0 ∷ 4 ∷ 3 ∷ 4 ∷ 1 ∷ 5 ∷ 1
          ∷ 8 ∷ 7 ∷ 9 ∷ 8 ∷ 9 ∷ 6 ∷ 10 ∷ 6 ∷ 11 ∷ 10 ∷ 11 ∷ 7 ∷ [];
      scratch =
          0 ∷ 0 ∷ 0 ∷ 0 ∷ 0 ∷ 0 ∷ 0 ∷ 0 ∷ 0 ∷ 0 ∷ 0 ∷ 0
          ∷ 0 ∷ 0 ∷ 0 ∷ 0 ∷ 0 ∷ 0 ∷ 0 ∷ 0 ∷ 0 ∷ 0 ∷ 0 ∷ 0
          ∷ 2 ∷ 1 ∷ 0 ∷ 0 ∷ 0 ∷ 2 ∷ 0 ∷ 0 ∷ 0 ∷ 0 ∷ 0 ∷ 0
          ∷ 2 ∷ 0 ∷ 0 ∷ 0 ∷ 0 ∷ 0 ∷ 0 ∷ 0 ∷ 0 ∷ 0 ∷ 0 ∷ 0
          ∷ 1 ∷ 2 ∷ 0 ∷ 2 ∷ 0 ∷ 0 ∷ 0 ∷ 0 ∷ 0 ∷ 0 ∷ 0 ∷ 0
          ∷ 0 ∷ 2 ∷ 0 ∷ 0 ∷ 0 ∷ 0 ∷ 0 ∷ 0 ∷ 0 ∷ 0 ∷ 0 ∷ 0
          ∷ 0 ∷ 0 ∷ 0 ∷ 0 ∷ 0 ∷ 0 ∷ 0 ∷ 0 ∷ 0 ∷ 0 ∷ 0 ∷ 0
          ∷ 0 ∷ 0 ∷ 0 ∷ 0 ∷ 0 ∷ 0 ∷ 0 ∷ 0 ∷ 0 ∷ 0 ∷ 0 ∷ 0
          ∷ 0 ∷ 0 ∷ 0 ∷ 0 ∷ 0 ∷ 0 ∷ 0 ∷ 2 ∷ 0 ∷ 0 ∷ 0 ∷ 0
          ∷ 0 ∷ 0 ∷ 0 ∷ 0 ∷ 0 ∷ 0 ∷ 2 ∷ 1 ∷ 2 ∷ 0 ∷ 0 ∷ 0
          ∷ 0 ∷ 0 ∷ 0 ∷ 0 ∷ 0 ∷ 0 ∷ 2 ∷ 0 ∷ 0 ∷ 0 ∷ 0 ∷ 0
          ∷ 0 ∷ 0 ∷ 0 ∷ 0 ∷ 0 ∷ 0 ∷ 1 ∷ 2 ∷ 0 ∷ 0 ∷ 2 ∷ 0
          ∷ 9 ∷ [];
      loop = none;
    }
    ∷ []

-- the same rows, with what the definitions say
unfoldable pub compute : Case → Case
compute c = record {
  count = c.count;
  rows = c.rows;
  scratch = filled c.count c.rows (replicate {A = ℕ} (c.count * c.count + 1) 9);
  loop = loop_fault (replicate {A = ℕ} c.count 0) c.rows;
}

pub scratches-right : map compute scratches ≡ scratches
unfolding compute scratches bit or_else given first build written direct contains loop_fault drawn scratch_bytes
scratches-right = refl
