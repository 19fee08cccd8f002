-- What the answer of each call is as a reply, by the call's fault. Assumes nothing.
use mathlib.Core.Path.{◌≡◌, refl, sym, ap}
use mathlib.Core.List.{List}
use Rattle.std.specs.Prelude.{Option, None as none, Some as some, Result, Ok, Err}
use Prim.Native.Nat.{ℕ}
use lib.ListN.{length}
use Rattle.base.specs.Search.{or_else}
use Rattle.tables.specs.Rows.{Picture, user, file}
use Rattle.tables.specs.Atoms.{atoms}
use Rattle.tables.specs.Refusals.{verdict_of}
use Rattle.tables.specs.declared.Refusal.{Refusal}
use Rattle.meaning.specs.declared.Entry.{Entry}
use Rattle.answers.specs.Calls.{reply_of}
use Rattle.answers.proofs.ReplyLaws.{reply-answered, reply-refused}
use Rattle.list_meaning.specs.Greedy.{greedy, order_fault}
use Rattle.list_meaning.specs.Calls.{list_answer}
use Rattle.list_meaning.proofs.CallLaws.{list_written, list-refused}
use Rattle.headings.specs.Calls.{headings_of}
use Rattle.headings.proofs.HeadingLaws.{headings-written, headings-refused}
use Rattle.blocks.specs.Reads.{answer_of}
use Rattle.blocks.specs.declared.Counts.{Counts}
use Rattle.packing.specs.Packed.{packed}
use Rattle.packing.specs.Packs.{pack_fault, pack_answer}
use Rattle.packing.proofs.CallLaws.{pack-refused, pack-done}
use Rattle.rights_c.specs.Replies.{done_reply, reply_by, entry_reply}
use Rattle.rights_c.specs.Steps.{answer_reply, counts_reply}
use Rattle.rights_c.specs.declared.Reply.{Reply}

-- a call that answers x where it finds no fault, and else the fault
by-fault : {A : Type 0} (f : A → Reply) (x : A) (answer : Option Refusal → Result A Refusal) → answer none ≡ Ok x
    → ((r : Refusal) → answer (some r) ≡ Err r) → (fault : Option Refusal) → answer_reply f (answer fault) ≡ reply_by fault (f x)
by-fault f x answer done stopped none = ap (answer_reply f) done
by-fault f x answer done stopped (some r) = ap (answer_reply f) (stopped r)

-- the same, where the fault is found on the way
found-fault : {A : Type 0} (f : A → Reply) (x : A) (answer : Result A Refusal) (fault : Option Refusal) → (fault ≡ none → answer ≡ Ok x)
    → ((r : Refusal) → fault ≡ some r → answer ≡ Err r) → answer_reply f answer ≡ reply_by fault (f x)
found-fault f x answer none done stopped = ap (answer_reply f) (done refl)
found-fault f x answer (some r) done stopped = ap (answer_reply f) (stopped r refl)

pub verdict-reply : (fault : Option Refusal) → answer_reply (λ _. done_reply 0 0 0) (verdict_of fault) ≡ reply_by fault (done_reply 0 0 0)
verdict-reply = by-fault (λ _. done_reply 0 0 0) tt verdict_of refl (λ r. refl)

pub asked-reply : (fault : Option Refusal) (e : Entry) → answer_reply entry_reply (reply_of fault e) ≡ reply_by fault (entry_reply e)
asked-reply fault e = by-fault entry_reply e (λ o. reply_of o e) (reply-answered e) (λ r. reply-refused r e) fault

pub heading-reply : (boxes rows : List ℕ) (fault : Option Refusal)
    → answer_reply (λ p. done_reply p.0 p.1 0) (headings_of boxes rows fault)
    ≡ reply_by fault (done_reply (length (atoms boxes rows user)) (length (atoms boxes rows file)) 0)
heading-reply boxes rows =
    by-fault (λ p. done_reply p.0 p.1 0) _ (headings_of boxes rows) (headings-written boxes rows) (headings-refused boxes rows)

pub read-reply : (fault : Option Refusal) (counts : Counts)
    → answer_reply counts_reply (answer_of fault counts) ≡ reply_by fault (counts_reply counts)
read-reply fault counts = by-fault counts_reply counts (λ o. answer_of o counts) refl (λ r. refl) fault

pub list-reply : (pic : Picture) (m : ℕ) (fault : Option Refusal)
    → answer_reply (λ n. done_reply n 0 0) (list_answer pic m fault)
    ≡ reply_by (or_else fault (order_fault pic m)) (done_reply (length (greedy pic m)) 0 0)
list-reply pic m fault = found-fault (λ n. done_reply n 0 0) _ _ _ (list_written pic m fault) (list-refused pic m fault)

pub pack-reply : (pic : Picture) (lent : List ℕ)
    → answer_reply (λ n. done_reply n 0 0) (pack_answer pic lent) ≡ reply_by (pack_fault pic lent) (done_reply (length (packed pic)) 0 0)
pack-reply pic lent =
    found-fault (λ n. done_reply n 0 0) _ _ _ (λ e. sym (pack-done pic lent e).0) (λ r e. sym (pack-refused pic lent r e).0)
