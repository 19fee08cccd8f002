-- The first of two that is there. Assumes nothing.
use mathlib.Core.Path.{◌≡◌, refl}
use Rattle.std.specs.Prelude.{Option, None as none, Some as some}
use Rattle.base.specs.Search.{or_else}

-- one that is not there, and one that is, before others
pub past : {A : Type 0} (a b : Option A) → a ≡ none → or_else a b ≡ b
unfolding or_else
past a b e = rw e

pub stop : {A : Type 0} (a b : Option A) {r : A} → a ≡ some r → or_else a b ≡ some r
unfolding or_else
stop a b e = rw e

pub or_else-assoc : {A : Type 0} (a b c : Option A) → or_else (or_else a b) c ≡ or_else a (or_else b c)
unfolding or_else
or_else-assoc none b c = refl
or_else-assoc (some x) b c = refl
