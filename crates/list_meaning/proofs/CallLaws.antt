-- What the call answers and leaves, stage by stage. Assumes nothing.
use mathlib.Core.Path.{◌≡◌, refl, sym, ap, ◌∙◌}
use mathlib.Core.List.{List}
use Rattle.std.specs.Prelude.{Option, None as none, Some as some}
use Prim.Native.Nat.{ℕ, ◌*◌, ◌≤◌}
use native.Mathlib.Omega.{arith}
use lib.ListN.{length, replicate, length-replicate}
use Rattle.base.specs.Search.{or_else}
use Rattle.base.specs.Buffers.{written, zeros}
use Rattle.base.proofs.Options.{past, stop, or_else-assoc}
use Rattle.base.proofs.BufferLaws.{written_over}
use Rattle.tables.specs.Rows.{Picture, no_arrow}
use Rattle.tables.specs.Faults.{table_fault, room_fault}
use Rattle.tables.specs.declared.Refusal.{Refusal}
use Rattle.tables.proofs.TableLaws.{both-none, room-passed}
use Rattle.scratch.specs.Scratch.{mode_early}
use Rattle.containment.specs.Contains.{loop_fault}
use Rattle.scratch.proofs.ScratchLaws.{scratch-room}
use Rattle.scratch.proofs.PictureLaws.{mode-parts}
use Rattle.meaning.specs.Pairs.{pairs, unclear_fault}
use Rattle.list_meaning.specs.Greedy.{greedy, order_fault, listed_of, places_of}
use Rattle.list_meaning.specs.Calls.{list_early, list_before, list_answer, list_after, work_after}
use Rattle.list_meaning.specs.Steps.{Listing}
use Rattle.list_meaning.specs.Lists.{list_room}
use Rattle.std.specs.Prelude.{Result, Ok, Err}
use Rattle.list_meaning.proofs.GreedyLaws.{mode-room}
use Rattle.list_meaning.proofs.NextLaws.{greedy-grown}

module _ (pic : Picture) (m : ℕ) where
  -- what is answered and left by the list places, where checks 1 to 12 found nothing
  abbrev pub Answered : Result ℕ Refusal → List ℕ → List ℕ → Type 0
  Answered r out out' = (r ≡ list_answer pic m none) × (out' ≡ list_after pic m none out)

  -- there is a list, or 13 is said
  pub answered-list : order_fault pic m ≡ none → (out : List ℕ) → Answered (Ok (length (greedy pic m))) out (written (greedy pic m) out)
  unfolding list_answer listed_of list_after places_of
  answered-list e out = (rw (past none _ refl, e), rw e)

  pub answered-none : (x : Refusal) → order_fault pic m ≡ some x → (out : List ℕ)
      → Answered (Err x) out (written (replicate (list_room pic m) no_arrow) out)
  unfolding list_answer listed_of list_after places_of
  answered-none x e out = (rw (past none _ refl, e), rw e)

  -- the answer by the fault of the whole call
  pub list_written : (fault : Option Refusal) → or_else fault (order_fault pic m) ≡ none → list_answer pic m fault ≡ Ok (length (greedy pic m))
  unfolding list_answer listed_of
  list_written fault e = rw e

  pub list-refused : (fault : Option Refusal) (x : Refusal) → or_else fault (order_fault pic m) ≡ some x → list_answer pic m fault ≡ Err x
  unfolding list_answer listed_of
  list-refused fault x e = rw e

  -- ---- checks 1 to 9

  module _ (s out work : List ℕ) where
    -- one after the other
    pub early-is : list_early pic m s out work
        ≡ or_else (mode_early pic s m) (or_else (room_fault 3 (length out) (list_room pic m)) (room_fault 4 (length work) (pairs pic)))
    unfolding list_early
    early-is = refl

    -- where they pass, there is room
    pub record Rooms : Type 0 where
      pub no-fault : table_fault pic ≡ none
      pub scratch-room : length pic.boxes * length pic.boxes ≤ length s
      pub out-room : list_room pic m ≤ length out
      pub work-room : pairs pic ≤ length work

    pub rooms : list_early pic m s out work ≡ none → Rooms
    unfolding list_early
    rooms e =
        let a = both-none (mode_early pic s m) _ e in
        let early = mode-parts pic s m a.0 in
        let b = both-none (room_fault 3 (length out) (list_room pic m)) _ a.1 in
        record {
          no-fault = early.0;
          scratch-room = scratch-room (length pic.boxes) s early.1;
          out-room = room-passed 3 (length out) (list_room pic m) b.0;
          work-room = room-passed 4 (length work) (pairs pic) b.1;
        }

-- ---- check 13

module _ (pic : Picture) (m : ℕ) (count : ℕ) (out old : List ℕ) (counted : count ≡ length (greedy pic m)) (listed : out ≡ written (greedy pic m) old) where
  -- nothing is left: the list is the answer
  pub finish-written : order_fault pic m ≡ none → Answered pic m (Ok count) old out
  finish-written e = rw (counted, listed) (answered-list pic m e old)

  -- a pair is left: 65,535 in each needed place
  pub finish-refused : (x : Refusal) → order_fault pic m ≡ some x → (need : ℕ) → need ≡ list_room pic m → need ≤ length old
      → Answered pic m (Err x) old (written (replicate need no_arrow) out)
  finish-refused x e need is room =
      let blanks : List ℕ = replicate need no_arrow in
      let n : length blanks ≡ need = length-replicate {A = ℕ} need no_arrow in
      let short = mode-room pic m (greedy pic m) (greedy-grown pic m) in
      let a = answered-none pic m x e old in (
        a.0,
        ap (written blanks) listed
            ∙ written_over blanks (greedy pic m) old (omega (arith, short)) (omega arith)
            ∙ ap (λ (k : ℕ). written (replicate k no_arrow) old) is
            ∙ a.1,
      )

-- ---- once checks 1 to 10 have passed

module _ (pic : Picture) (m : ℕ) (out work : List ℕ) where
  -- check 12 refuses
  pub listing-refused : (x : Refusal) → unclear_fault pic m ≡ some x → Listing pic m out work (Err x) out work
  unfolding list_answer listed_of list_after work_after
  listing-refused x e = record { answered = rw (e, stop (some x) _ refl); list-after = rw e; work-after = rw e }

  -- it passes
  pub listing-done : unclear_fault pic m ≡ none → (r : Result ℕ Refusal) (out' work' : List ℕ) → Answered pic m r out out'
      → work' ≡ written (zeros (pairs pic)) work → Listing pic m out work r out' work'
  unfolding work_after
  listing-done e r out' work' a w = record { answered = rw e a.0; list-after = rw e a.1; work-after = rw e w }

-- ---- how the call ends

module _ (pic : Picture) (m : ℕ) (s out work : List ℕ) where
  abbrev early : Option Refusal
  early = list_early pic m s out work

  -- checks 1 to 10
  abbrev pub ten_fault : Option Refusal
  ten_fault = or_else early (loop_fault pic.boxes pic.rows)

  -- what the call answers, and the list places and the work bytes at the end
  abbrev pub ListEnds : Result ℕ Refusal → List ℕ → List ℕ → Type 0
  ListEnds r out' work' =
      (r ≡ list_answer pic m (list_before pic m s out work))
      × (out' ≡ list_after pic m (list_before pic m s out work) out) × (work' ≡ work_after pic m (list_before pic m s out work) work)

  before-is : list_before pic m s out work ≡ or_else ten_fault (unclear_fault pic m)
  unfolding list_before
  before-is = sym (or_else-assoc early (loop_fault pic.boxes pic.rows) (unclear_fault pic m))

  pub end_refused : (x : Refusal) → ten_fault ≡ some x → ListEnds (Err x) out work
  unfolding list_answer listed_of list_after work_after
  end_refused x e =
      let f = before-is ∙ stop ten_fault (unclear_fault pic m) e in
      (rw (f, stop (some x) _ refl), rw f, rw f)

  pub end-listing : ten_fault ≡ none → (r : Result ℕ Refusal) (out' work' : List ℕ) → Listing pic m out work r out' work' → ListEnds r out' work'
  end-listing e r out' work' g =
      let f = before-is ∙ past ten_fault (unclear_fault pic m) e in
      (rw f g.answered, rw f g.list-after, rw f g.work-after)

  -- what the closure is made for
  pub ten-none : ten_fault ≡ none → Rooms pic m s out work × (loop_fault pic.boxes pic.rows ≡ none)
  ten-none e = let b = both-none early _ e in (rooms pic m s out work b.0, b.1)
