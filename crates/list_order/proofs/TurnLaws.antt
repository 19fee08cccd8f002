-- The loop that writes the list, turn by turn. Assumes nothing.
use mathlib.Core.Path.{◌≡◌, refl, sym, ap, ◌∙◌}
use mathlib.Core.Bool.{Bool, true, false}
use mathlib.Core.List.{List, [], ◌∷◌, ◌++◌}
use Rattle.std.specs.Prelude.{None as none}
use Prim.Native.Nat.{ℕ, ◌+◌, ◌<◌, ◌≤◌}
use native.Mathlib.Decide.{ℕ_discrete, dec_lt}
use native.Mathlib.Numerals.{add-one}
use native.Mathlib.Omega.{arith}
use lib.Dec.{T}
use lib.ListN.{length, get_or, set, take, replicate, length-append, length-set}
use lib.Seq.{get_or-set_other}
use Rattle.std.proofs.lemmas.List.{get_or-take}
use Rattle.base.specs.Buffers.{written}
use Rattle.base.proofs.BufferLaws.{written_none, written-more}
use Rattle.tables.specs.Rows.{Picture, arrow_count, arrow_at}
use Rattle.boxsets.specs.Sets.{is_in, set_at}
use Rattle.mode_sets.specs.Mode.{own_arrows}
use Rattle.list_meaning.specs.Greedy.{addable, next, list_to}
use Rattle.list_meaning.specs.Steps.{Table, unreached}
use Rattle.list_meaning.proofs.GreedyLaws.{of_mode-there}
use Rattle.list_meaning.proofs.NextLaws.{to-next, greedy-is}
use Rattle.list_meaning.proofs.CallerLaws.{to_none}
use Rattle.list_standing.specs.Steps.{standing_by}
use Rattle.list_standing.specs.declared.Standing.TheVariants.{Spent, Free}
use Rattle.list_standing.proofs.StandLaws.{spent-stays}
use Rattle.list_order.specs.Steps.{Done, SpentBefore, MarkedTo, NoneFree, NextFree, Takes, Clear, Ordered}
use Rattle.list_order.proofs.TakeLaws.{left-fewer, taken-spent}
use Rattle.list_order.proofs.MarkLaws.{none-marked}
use Rattle.list_order.proofs.GrowLaws.{free-addable, addable-free, taken-shown}
use Rattle.list_order.proofs.OwnLaws.{own-mode, own-next, own-end, own-full, to_room}

module _ (pic : Picture) (m : ℕ) (closure arrows own granted out₀ : List ℕ) where
  abbrev To : ℕ → List ℕ
  To = list_to pic m

  -- the first places of the list, in the list places and in what is left
  pub record Growing (left out : List ℕ) (count : ℕ) : Type 0 where
    pub counted : length (To count) ≡ count
    pub listed : out ≡ written (To count) out₀
    pub shown : Table pic (unreached pic (To count)) left

  pub growing-none : (left : List ℕ) → Table pic (unreached pic []) left → Growing left out₀ 0
  growing-none left t = record {
    counted = ap length (to_none pic m);
    listed = rw (to_none pic m) (sym (written_none out₀));
    shown = rw (to_none pic m) t;
  }

  module _ (d : Clear pic m closure arrows own granted) (fits : length own ≤ length out₀) (left out : List ℕ) (count : ℕ) (g : Growing left out count) where
    ended : next pic m (To count) ≡ none → Ordered pic m out₀ count out left
    ended e =
        let whole = greedy-is pic m count g.counted e in
        record { counted = sym (ap length whole ∙ g.counted); listed = rw whole g.listed; shown = rw whole g.shown }

    -- every arrow is listed
    pub growing-full : length own ≤ count → Ordered pic m out₀ count out left
    growing-full h = ended (own-full pic m count g.counted (rw (← d.own-are) h))

    abbrev numbers : List ℕ
    numbers = own_arrows pic.arrows m

    there : (i : ℕ) → i < length numbers → get_or numbers i 0 < arrow_count pic.arrows
    there i h = of_mode-there pic.arrows m (get_or numbers i 0) (own-mode pic m i h)

    can : (i : ℕ) → i < length numbers → standing_by closure left granted (arrow_at pic.arrows (get_or numbers i 0)) ≡ Free
        → T (addable pic m (To count) (get_or numbers i 0))
    can i h =
        free-addable pic closure d.drawn (To count) left g.shown (get_or numbers i 0) (there i h) m (own-mode pic m i h) d.clear
        granted d.says

    -- no place before r is free
    cannot : (r : ℕ) → r ≤ length numbers → NoneFree closure arrows own left granted r
        → (i : ℕ) → i < r → T (addable pic m (To count) (get_or numbers i 0)) → ⊥
    cannot r h f i b t =
        let l : i < length numbers = omega arith in
        (rw (d.arrows-are, d.own-are) at f) i b
        (addable-free pic closure d.drawn (To count) left g.shown (get_or numbers i 0) (there i l) m (own-mode pic m i l) d.clear
        granted d.says t)

    -- none is
    pub growing-done : NoneFree closure arrows own left granted (length own) → Ordered pic m out₀ count out left
    growing-done f =
        let all = ap length d.own-are in
        ended (own-end pic m (To count) (λ i l. cannot (length own) (omega arith) f i (omega arith)))

    -- r is the first place whose arrow is free: the arrow is listed, and its files are taken
    module _ (r : ℕ) (f : NextFree closure arrows own left granted r) where
      by : NextFree closure pic.arrows numbers left granted r
      by = rw (d.arrows-are, d.own-are) at f

      one_more : To (count + 1) ≡ To count ++ (get_or numbers r 0 ∷ [])
      one_more =
          ap To (add-one count)
          ∙ to-next pic m count (get_or numbers r 0)
          (own-next pic m (To count) r by.there (can r by.there by.holds) (cannot r (omega (arith, by.there)) f.none_before))

      one-longer : length (To (count + 1)) ≡ count + 1
      one-longer = ap length one_more ∙ length-append (To count) (get_or numbers r 0 ∷ []) ∙ ap (λ (n : ℕ). n + 1) g.counted

      pub growing-next : (left' : List ℕ)
          → Takes (is_in (set_at closure (arrow_at arrows (get_or own r 0)).tail)) (set_at closure (arrow_at arrows (get_or own r 0)).head) left left'
          → Growing left' (set out count (get_or own r 0)) (count + 1)
      growing-next left' t =
          let k = get_or numbers r 0 in
          let most : count < length out₀ = omega (arith, one-longer, to_room pic m (count + 1), ap length d.own-are, fits) in
          let written-here = rw g.counted at (written-more (To count) out₀ k (rw g.counted most)) in
          rw d.own-are
          (record {
            counted = one-longer;
            listed = rw (one_more, g.listed) written-here;
            shown =
                rw one_more
                (taken-shown pic closure d.drawn (To count) left g.shown k (there r by.there) left' (rw (d.arrows-are, d.own-are) at t));
          })

-- the loop as a whole: how it stands, whatever picture the sets are of
pub record Ordering (closure arrows own granted left₀ out₀ left out : List ℕ) (done : List Bool) (count from : ℕ) : Type 0 where
  pub out-len : length out ≡ length out₀
  pub marked : Done closure arrows own left granted done
  pub from-most : from ≤ length own
  pub before : SpentBefore closure arrows own left granted from
  pub grows : (pic : Picture) (m : ℕ) → Clear pic m closure arrows own granted → Table pic (unreached pic []) left₀
      → Growing pic m closure arrows own granted out₀ left out count

module _ (closure arrows own granted left₀ out₀ : List ℕ) where
  pub ordering-none : (n : ℕ) → length own ≤ n → Ordering closure arrows own granted left₀ out₀ left₀ out₀ (replicate n false) 0 0
  ordering-none n h = record {
    out-len = refl;
    marked = none-marked closure arrows own left₀ granted n h;
    from-most = omega arith;
    before = λ i l. absurd (omega arith);
    grows = λ pic m d t. growing-none pic m closure arrows own granted out₀ left₀ t;
  }

  module _ (fits : length own ≤ length out₀) {left out : List ℕ} {done : List Bool} {count from : ℕ}
      (o : Ordering closure arrows own granted left₀ out₀ left out done count from) where
    -- what is promised
    abbrev pub Promise : Type 0
    Promise = (pic : Picture) (m : ℕ) → Clear pic m closure arrows own granted → Table pic (unreached pic []) left₀ → Ordered pic m out₀ count out left

    pub ordering-full : count ≡ length own → (pic : Picture) (m : ℕ) → Clear pic m closure arrows own granted → Table pic (unreached pic []) left₀
        → Ordered pic m out₀ (length own) out left
    ordering-full e pic m d t =
        rw e at (growing-full pic m closure arrows own granted out₀ d fits left out count (o.grows pic m d t) (omega arith))

    pub ordering-done : NoneFree closure arrows own left granted (length own) → Promise
    ordering-done f pic m d t = growing-done pic m closure arrows own granted out₀ d fits left out count (o.grows pic m d t) f

    -- the arrow at r is listed, and is spent then
    module _ {r : ℕ} (f : NextFree closure arrows own left granted r) {left' : List ℕ}
        (t : Takes (is_in (set_at closure (arrow_at arrows (get_or own r 0)).tail)) (set_at closure (arrow_at arrows (get_or own r 0)).head) left left') where
      stays : (i : ℕ) → standing_by closure left granted (arrow_at arrows (get_or own i 0)) ≡ Spent
          → standing_by closure left' granted (arrow_at arrows (get_or own i 0)) ≡ Spent
      stays i = spent-stays closure granted left left' (left-fewer _ _ left left' t) (arrow_at arrows (get_or own i 0))

      marks : (done' : List Bool) → Done closure arrows own left granted done' → Done closure arrows own left' granted (set done' r true)
      marks done' m' i b e = go (ℕ_discrete i r)
        where
          go : Dec (i ≡ r) → standing_by closure left' granted (arrow_at arrows (get_or own i 0)) ≡ Spent
          go (yes y) = rw y (taken-spent closure granted left left' (arrow_at arrows (get_or own r 0)) t)
          go (no d) = stays i (m' i b (sym (get_or-set_other done' r i true false d) ∙ e))

      pub ordering-next : (done' : List Bool) (from' : ℕ) → Done closure arrows own left granted done' → from' ≤ length own
          → MarkedTo (take (length own) (set done' r true)) from from'
          → Ordering closure arrows own granted left₀ out₀ left' (set out count (get_or own r 0)) (set done' r true) (count + 1) from'
      ordering-next done' from' m' most to = record {
        out-len = length-set out count (get_or own r 0) ∙ o.out-len;
        marked = marks done' m';
        from-most = most;
        before = λ i b. go i b (dec_lt i from);
        grows = λ pic m d s. growing-next pic m closure arrows own granted out₀ d fits left out count (o.grows pic m d s) r f left' t;
      }
        where
          go : (i : ℕ) → i < from' → Dec (i < from) → standing_by closure left' granted (arrow_at arrows (get_or own i 0)) ≡ Spent
          go i b (yes y) = stays i (o.before i y)
          go i b (no n) =
              marks done' m' i (omega arith) (sym (get_or-take (length own) (set done' r true) i false (omega arith)) ∙ to i (omega arith) b)
