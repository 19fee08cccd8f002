-- The reply for one entry, by the fault: for the crates above. Assumes nothing.
use mathlib.Core.Path.{◌≡◌, refl}
use Rattle.std.specs.Prelude.{None as none, Some as some}
use Rattle.tables.specs.declared.Refusal.{Refusal}
use Rattle.meaning.specs.declared.Entry.{Entry}
use Rattle.answers.specs.Calls.{reply_of}
use Rattle.std.specs.Prelude.{Ok, Err}

pub reply-answered : (e : Entry) → reply_of none e ≡ Ok e
unfolding reply_of
reply-answered e = refl

pub reply-refused : (r : Refusal) (e : Entry) → reply_of (some r) e ≡ Err r
unfolding reply_of
reply-refused r e = refl
