-- What the functions that turn the answer of a call into a reply promise; what the calls promise does not speak of it. Assumes nothing.
use Rattle.std.specs.Prelude.{Result, Ok, Err}
use Rattle.tables.specs.Refusals.{numbers_of}
use Rattle.tables.specs.declared.Refusal.{Refusal}
use Rattle.blocks.specs.declared.Counts.{Counts}
use Rattle.rights_c.specs.Replies.{reply, done_reply}
use Rattle.rights_c.specs.declared.Reply.{Reply}

-- a refusal
abbrev pub refused_reply : (r : Refusal) → Reply
refused_reply r = let n = numbers_of r in reply 4 n.number n.first n.second n.third

-- a call's answer, where f is the reply of what it answers when it is not refused
abbrev pub answer_reply : {A : Type 0} (f : A → Reply) (answer : Result A Refusal) → Reply
answer_reply f (Ok x) = f x
answer_reply f (Err r) = refused_reply r

-- reading: the three row counts
abbrev pub counts_reply : (counts : Counts) → Reply
counts_reply c = done_reply c.boxes c.containments c.arrows
