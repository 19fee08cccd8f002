-- Document 02, P5: where rows stand, written out, and the theorem that the definition says the same (`walks-right`). Assumes nothing.
use Rattle.std.specs.Prelude.{◌≡◌, refl, List, [], ◌∷◌}
use Rattle.block_parts.specs.Walks.{walk_at}
use Rattle.block_parts.specs.declared.Walk.{Walk}

-- the walk, by capacity and row: the last and the first row of a block, and the last rows of full tables
unfoldable pub walks : List Walk
walks = walk_at 125 124 ∷ walk_at 125 125 ∷ walk_at 125 1023 ∷ walk_at 83 82 ∷ walk_at 83 511 ∷ walk_at 500 255 ∷ []

pub walks-right : walks
    ≡ record { row = 124; block = 0; place = 124 }
    ∷ record { row = 125; block = 1; place = 0 }
    ∷ record { row = 1023; block = 8; place = 23 }
    ∷ record { row = 82; block = 0; place = 82 }
    ∷ record { row = 511; block = 6; place = 13 }
    ∷ record { row = 255; block = 0; place = 255 }
    ∷ []
unfolding walks
walks-right = refl
