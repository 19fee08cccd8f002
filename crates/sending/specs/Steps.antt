-- What the functions promise each other. Assumes nothing.
use Rattle.std.specs.Prelude.{◌≡◌, IfOk, OnOk, List, ℕ, Result}
use Rattle.std.specs.Io.KnownBytes.{Appends}
use Rattle.std.specs.declared.option.Option.{Option}
use Rattle.blocks.specs.Fnv.{fnv1a}
use Rattle.blocks.specs.declared.fnv.Check.{Check}

-- unless a write failed, what went out has the check of the text
abbrev pub SentAll : {E : Type 0} (text : List ℕ) (sent : Result Check E) → Type 0
SentAll text sent = IfOk sent (λ check. check.state ≡ fnv1a text)

-- unless a write failed, what a writer holds, if that is known, grew by the text
abbrev pub WroteAll : {E : Type 0} (old new : Option (List ℕ)) (text : List ℕ) (sent : Result Check E) → Type 0
WroteAll old new text sent = OnOk sent (Appends old new text)
