-- `meaning::granting` meets its contract: the first case has the arrow, the other three have none. Assumes nothing.
use mathlib.Core.Path.{◌≡◌, refl}
use Prim.Native.Nat.{ℕ}
use Rattle.meaning.specs.declared.Entry.TheVariants.{Granted, Denied, Default, Unclear}
use Rattle.meaning.specs.declared.Entry.{Entry}
use Rattle.meaning.specs.Meaning.{byte_of, is_granted, number_of}
use Rattle.meaning.specs.Steps.{granting_of}
use Rattle.meaning.proofs.granting.Goals as goal

-- an entry that is not the first variant grants nothing
others : (e : Entry) → ((k : ℕ) → e ≡ Granted k → ⊥) → 65535 ≡ granting_of e
unfolding granting_of is_granted number_of byte_of
others (Granted k) h = absurd (h k refl)
others (Denied k) h = refl
others Default h = refl
others (Unclear p n) h = refl

pub returns : goal.returns
unfolding granting_of is_granted number_of byte_of
returns c = rw c.in-Granted.is

pub returns-in_default : goal.returns-in_default
returns-in_default c = others c.args.e c.in_default.not-Granted
