-- The sets show the list: which arrow they let follow, and how taking an arrow's files goes on with them. Assumes nothing.
use mathlib.Core.Path.{◌≡◌, refl, sym, ap, ap₂, fun_ext, ◌∙◌}
use mathlib.Core.Bool.{Bool, true, false, not, cond, ◌&&◌, ◌||◌}
use mathlib.Core.List.{List, [], ◌∷◌, ◌++◌}
use Rattle.std.specs.Prelude.{None as none}
use Prim.Native.Nat.{ℕ, ◌<◌}
use native.Mathlib.Omega.{arith}
use lib.Dec.{T, T_not, not_T, eqb}
use lib.ListN.{length}
use Rattle.tables.specs.Rows.{Picture, user, file, arrow_count, arrow_at}
use Rattle.tables.specs.Atoms.{atom}
use Rattle.tables.proofs.GroupLaws.{on_side-there}
use Rattle.tables.proofs.AtomPlaces.{atom-there}
use Rattle.base.proofs.Tests.{T?, and_T, T_and, T_true, true-T, not-false, false-not}
use Rattle.containment.proofs.ClosureLaws.{within_in}
use Rattle.boxsets.specs.Sets.{is_in, set_at, has}
use Rattle.boxsets.specs.declared.Set.{Set}
use Rattle.boxsets.proofs.WalkLaws.{in-below}
use Rattle.meaning.specs.Meaning.{positive, reaches, answer}
use Rattle.meaning.specs.Pairs.{pairs, user_at, file_at, unclear_fault}
use Rattle.meaning.proofs.ModeLaws.{reaches-is, answer_at_lem}
use Rattle.meaning.proofs.PairLaws.{pair_place, user_at-atom, file_at-atom}
use Rattle.meaning.proofs.MatrixLaws.{clear-pair}
use Rattle.certificates.specs.Steps.{Drawn}
use Rattle.list_meaning.specs.Order.{meets, right, any_of}
use Rattle.list_meaning.specs.Lists.{of_mode}
use Rattle.list_meaning.specs.Greedy.{addable}
use Rattle.list_meaning.specs.Steps.{Table, unreached, granted_to}
use Rattle.list_meaning.proofs.CallerLaws.{gives-clear, meets-is, any-meets, right_is}
use Rattle.list_meaning.proofs.CountLaws.{any_of-snoc}
use Rattle.list_meaning.proofs.GreedyLaws.{adds, adds-new, addable-is}
use Rattle.list_standing.specs.Steps.{some_in, standing_by}
use Rattle.list_standing.specs.declared.Standing.TheVariants.{Free}
use Rattle.list_standing.proofs.SomeLaws.{some-found, some_is}
use Rattle.list_standing.proofs.StandLaws.{free-parts, parts_free}
use Rattle.list_order.specs.Steps.{Takes}

-- the answer is wrong, by whether the pair is granted
abbrev wrong_for : (sign : ℕ) (granted : Bool) → Bool
wrong_for sign granted = cond (eqb sign positive) (not granted) granted

module _ (pic : Picture) (closure : List ℕ) (drawn : Drawn pic closure) where
  -- (u, f) is a pair
  abbrev pub IsPair : ℕ → ℕ → Type 0
  IsPair u f = T (atom pic.boxes pic.rows user u) × T (atom pic.boxes pic.rows file f)

  user-below : (u : ℕ) → T (atom pic.boxes pic.rows user u) → u < 256
  user-below u a = omega (arith, atom-there pic.boxes pic.rows user u a, drawn.rows-sound.few-boxes)

  -- the arrow's sets are those of its ends
  ends-in : (k : ℕ) → k < arrow_count pic.arrows → (u f : ℕ)
      → (is_in (set_at closure (arrow_at pic.arrows k).tail) u && is_in (set_at closure (arrow_at pic.arrows k).head) f)
      ≡ reaches pic (arrow_at pic.arrows k) u f
  ends-in k l u f =
      let t = on_side-there pic.boxes user (arrow_at pic.arrows k).tail (drawn.arrows-sound.tail-user k l) in
      let h = on_side-there pic.boxes file (arrow_at pic.arrows k).head (drawn.arrows-sound.head-file k l) in
      ap₂ ◌&&◌
      (within_in (length pic.boxes) pic.rows closure drawn.closed (arrow_at pic.arrows k).tail u t)
      (within_in (length pic.boxes) pic.rows closure drawn.closed (arrow_at pic.arrows k).head f h)
      ∙ sym (reaches-is pic (arrow_at pic.arrows k) u f)

  -- a table that says a test at pairs
  at_pair : (test : ℕ → ℕ → Bool) (t : List ℕ) → Table pic test t → (u f : ℕ) → IsPair u f → has t u f ≡ test u f
  at_pair test t says u f p =
      says.each u f (user-below u p.0)
      ∙ rw (T_true (atom pic.boxes pic.rows user u) p.0, T_true (atom pic.boxes pic.rows file f) p.1)

  says-pair : (test : ℕ → ℕ → Bool) (t : List ℕ) → Table pic test t → (u f : ℕ) → u < 256 → T (has t u f) → IsPair u f × T (test u f)
  says-pair test t says u f l h =
      let b = and_T (atom pic.boxes pic.rows user u && atom pic.boxes pic.rows file f) (test u f) (rw (says.each u f l) at h) in
      (and_T (atom pic.boxes pic.rows user u) (atom pic.boxes pic.rows file f) b.0, b.1)

  module _ (l left : List ℕ) (tl : Table pic (unreached pic l) left) (k : ℕ) (there : k < arrow_count pic.arrows) where
    abbrev tails : Set
    tails = set_at closure (arrow_at pic.arrows k).tail

    abbrev heads : Set
    heads = set_at closure (arrow_at pic.arrows k).head

    -- ---- some pair of the arrow that is left, at which a test holds

    module _ (test : ℕ → ℕ → Bool) where
      abbrev left_and : ℕ → ℕ → Bool
      left_and u f = has left u f && test u f

      some-place : T (some_in (is_in tails) heads left_and)
          → (p : ℕ) × (p < pairs pic) × T (meets pic p k) × (T (any_of (meets pic p) l) → ⊥) × T (test (user_at pic p) (file_at pic p))
      some-place t =
          let r = some-found heads left_and (is_in tails) t in
          let u = r.0 in
          let f = r.1 in
          let h = and_T (has left u f) (test u f) r.4 in
          let s = says-pair (unreached pic l) left tl u f (in-below tails u r.2) h.0 in
          let q = pair_place pic u f s.0.0 s.0.1 in
          let reach = rw (ends-in k there u f) at (T_and (is_in tails u) (is_in heads f) r.2 r.3) in
          let gone : T (unreached pic l (user_at pic q.0) (file_at pic q.0)) = rw (q.2, q.3) s.1 in (
            q.0,
            q.1,
            rw (meets-is pic q.0 k, q.2, q.3) reach,
            T_not (any_of (meets pic q.0) l) (rw (any-meets pic l q.0) gone),
            rw (q.2, q.3) h.1,
          )

      place-some : (p : ℕ) → p < pairs pic → T (meets pic p k) → (T (any_of (meets pic p) l) → ⊥) → T (test (user_at pic p) (file_at pic p))
          → T (some_in (is_in tails) heads left_and)
      place-some p b r n t =
          let u = user_at pic p in
          let f = file_at pic p in
          let e = and_T (is_in tails u) (is_in heads f) (rw (ends-in k there u f) (rw (meets-is pic p k) at r)) in
          let h : T (has left u f) =
          rw (at_pair (unreached pic l) left tl u f (user_at-atom pic p b, file_at-atom pic p b), ← any-meets pic l p) (not_T (any_of (meets pic p) l) n) in
          some_is heads left_and (is_in tails) u f (in-below tails u e.0) e.0 e.1 (T_and (has left u f) (test u f) h t)

    abbrev any_pair : ℕ → ℕ → Bool
    any_pair u f = true

    abbrev wrong : (granted : List ℕ) → ℕ → ℕ → Bool
    wrong granted u f = wrong_for (arrow_at pic.arrows k).sign (has granted u f)

    -- ---- so an arrow of the mode is free by the sets exactly if it can be added to the list

    module _ (m : ℕ) (of : T (of_mode pic.arrows m k)) (clear : unclear_fault pic m ≡ none) (granted : List ℕ)
        (tg : Table pic (granted_to pic m) granted) where
      wrong-is : (p : ℕ) → p < pairs pic → wrong granted (user_at pic p) (file_at pic p) ≡ not (right pic m p k)
      wrong-is p b =
          let u = user_at pic p in
          let f = file_at pic p in
          let pair : IsPair u f = (user_at-atom pic p b, file_at-atom pic p b) in
          rw (at_pair (granted_to pic m) granted tg u f pair, right_is pic m p k, answer_at_lem pic m p)
          (gives-clear (arrow_at pic.arrows k).sign (answer pic m u f) (drawn.arrows-sound.sign-most k there)
          (clear-pair pic m clear u f pair.0 pair.1))

      new-test : some_in (is_in tails) heads (has left) ≡ some_in (is_in tails) heads (left_and any_pair)
      new-test = ap (some_in (is_in tails) heads) (fun_ext (λ u. fun_ext (λ f. sym (flat (has left u f)))))
        where
          flat : (b : Bool) → (b && true) ≡ b
          flat true = refl
          flat false = refl

      pub free-addable : standing_by closure left granted (arrow_at pic.arrows k) ≡ Free → T (addable pic m l k)
      free-addable e =
          let s = free-parts closure left granted (arrow_at pic.arrows k) e in
          let r = some-place any_pair (true-T _ (sym new-test ∙ s.1)) in
          addable-is pic m l k of
          (λ p b z n. right-if p b z n (T? (right pic m p k)) (false-not _ s.0))
          r.0 r.1 r.2 r.3
        where
          right-if : (p : ℕ) → p < pairs pic → T (meets pic p k) → (T (any_of (meets pic p) l) → ⊥) → Dec (T (right pic m p k))
              → (T (some_in (is_in tails) heads (left_and (wrong granted))) → ⊥) → T (right pic m p k)
          right-if p b z n (yes y) none' = y
          right-if p b z n (no d) none' =
              absurd (none' (place-some (wrong granted) p b z n (rw (wrong-is p b) (not_T (right pic m p k) d))))

      pub addable-free : T (addable pic m l k) → standing_by closure left granted (arrow_at pic.arrows k) ≡ Free
      addable-free t =
          let a = adds pic m l k t in
          let n = adds-new pic m l k t in
          parts_free closure left granted (arrow_at pic.arrows k)
          (not-false _
          (λ z.
          let r = some-place (wrong granted) z in
          T_not (right pic m r.0 k) (rw (wrong-is r.0 r.1) at r.4) (a.1 r.0 r.1 r.2 r.3)))
          (new-test ∙ T_true _ (place-some any_pair n.0 n.1 n.2 n.3 tt))

    -- ---- taking the arrow's files goes on to the list with the arrow at its end

    pub taken-shown : (left' : List ℕ) → Takes (is_in tails) heads left left' → Table pic (unreached pic (l ++ (k ∷ []))) left'
    taken-shown left' t = record {
      len = t.len ∙ tl.len;
      each = λ u f b.
          t.each u f
          ∙ rw (tl.each u f b, ends-in k there u f, any_of-snoc)
          (regroup (atom pic.boxes pic.rows user u && atom pic.boxes pic.rows file f)
          (any_of (λ j. reaches pic (arrow_at pic.arrows j) u f) l) (reaches pic (arrow_at pic.arrows k) u f));
    }
      where
        regroup : (a r t : Bool) → ((a && not r) && not t) ≡ (a && not (r || t))
        regroup true true t = refl
        regroup true false t = refl
        regroup false r t = refl
