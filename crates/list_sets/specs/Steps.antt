-- What the functions ask of and promise each other. Assumes nothing.
use Rattle.std.specs.Prelude.{◌≡◌, List, ℕ, Result, Ok, Err}
use Rattle.std.specs.Prelude.{None as none}
use Rattle.tables.specs.Rows.{Picture}
use Rattle.tables.specs.Refusals.{verdict_of}
use Rattle.tables.specs.declared.Refusal.{Refusal}
use Rattle.meaning.specs.Pairs.{unclear_fault}
use Rattle.list_meaning.specs.Steps.{Table, granted_to}

-- what check 12 says, and the granted files where it passes
pub record Check12 (pic : Picture) (mode : ℕ) (r : Result Unit Refusal) (granted : List ℕ) : Type 0 where
  pub said : r ≡ verdict_of (unclear_fault pic mode)
  pub says : unclear_fault pic mode ≡ none → Table pic (granted_to pic mode) granted
