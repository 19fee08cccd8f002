-- The numbers by which a call answers across the C boundary (`include/rights.h`). Assumes nothing.
use Rattle.std.specs.Prelude.{Option, None as none, Some as some}
use Rattle.std.specs.Prelude.{ℕ}
use Rattle.tables.specs.Refusals.{numbers_of}
use Rattle.tables.specs.declared.Refusal.{Refusal}
use Rattle.meaning.specs.declared.Entry.{Entry}
use Rattle.meaning.specs.declared.Entry.TheVariants.{Granted, Denied, Default, Unclear}
use Rattle.rights_c.specs.declared.Reply.{Reply}

-- its kind, a refusal's number, and three numbers; 0 where nothing is named
abbrev pub reply : (kind number a b c : ℕ) → Reply
reply kind number a b c = record { kind = kind; number = number; a = a; b = b; c = c }

-- kind 5, done
abbrev pub done_reply : (a b c : ℕ) → Reply
done_reply a b c = reply 5 0 a b c

-- a call's reply, by the fault that was found, if any: kind 4, refused, with the refusal's number and its three numbers
abbrev pub reply_by : (fault : Option Refusal) (done : Reply) → Reply
reply_by none done = done
reply_by (some r) done = let n = numbers_of r in reply 4 n.number n.first n.second n.third

-- one entry: kind 0 denied and 1 granted, with the arrow; 2 unclear, with the positive and the negative arrow; 3 denied by default
abbrev pub entry_reply : (e : Entry) → Reply
entry_reply (Denied k) = reply 0 0 k 0 0
entry_reply (Granted k) = reply 1 0 k 0 0
entry_reply (Unclear p n) = reply 2 0 p n 0
entry_reply Default = reply 3 0 0 0 0
