-- The walk over a mode's own arrows that answers a row: its start, a turn, places that are passed, and its end. Assumes nothing.
use mathlib.Core.Path.{◌≡◌, refl, sym, ap, subst, ◌∙◌}
use mathlib.Core.Bool.{Bool, true, false, not, ◌&&◌, ◌||◌, cond, or-false}
use mathlib.Core.List.{List}
use Rattle.std.specs.Prelude.{Some as some}
use Prim.Native.Nat.{ℕ, ◌+◌, ◌<◌, ◌≤◌}
use native.Mathlib.Omega.{arith}
use native.Mathlib.Decide.{dec_lt}
use lib.Dec.{T, T_not, not_T, eqb}
use lib.ListN.{length, get_or}
use Rattle.base.specs.Search.{lowest}
use Rattle.base.proofs.Tests.{T?, true-T, false-not, and_T, T_and, T_true, not-false}
use Rattle.tables.specs.Rows.{Picture, arrow_count, arrow_at}
use Rattle.tables.specs.declared.Arrow.{Arrow}
use Rattle.meaning.specs.Meaning.{positive, has_mode}
use Rattle.boxsets.specs.Sets.{is_in, has}
use Rattle.boxsets.specs.declared.Set.{Set}
use Rattle.mode_sets.specs.Mode.{own_arrows}
use Rattle.mode_sets.specs.Steps.{ModeSets}
use Rattle.mode_sets.proofs.OwnLaws.{own-found}
use Rattle.certificates.specs.Steps.{Drawn}
use Rattle.user_rows.specs.Row.{shows}
use Rattle.user_rows.specs.Steps.{Moded, AroundBy, Walked}
use Rattle.user_rows.specs.declared.around.Around.{Around}
use Rattle.user_rows.proofs.ShowLaws.{shows-around, own-shown}

module _ (pic : Picture) (m u : ℕ) (files : ℕ → Bool) (before : ℕ → ℕ) where
  abbrev place : ℕ → ℕ
  place i = get_or (own_arrows pic.arrows m) i 0

  module _ (left granted : ℕ → Bool) (after : ℕ → ℕ) (i : ℕ) (w : Walked pic m u files left granted before after i) where
    -- places whose arrow is a certificate of none of the files, as those not around the user
    walk-pass : (r : ℕ) → ((j : ℕ) → i ≤ j → j < r → (f : ℕ) → T (shows pic m u f (place j)) → ⊥) → Walked pic m u files left granted before after r
    walk-pass r away = record {
      left_open = λ f t. let o = w.left_open f t in (o.0, λ j l. go f j l (o.1 j) (dec_lt j i));
      gone-shown = w.gone-shown;
      others = w.others;
    }
      where
        go : (f j : ℕ) → j < r → (j < i → T (shows pic m u f (place j)) → ⊥) → Dec (j < i) → T (shows pic m u f (place j)) → ⊥
        go f j l below (yes h) = below h
        go f j l below (no h) = away j (omega arith) l f

    -- a turn: the files left at which the place's arrow is a certificate are taken away, get its number, and are granted if it is positive
    module _ (k : ℕ) (at : k ≡ place i) (there : i < length (own_arrows pic.arrows m)) (hit next won : ℕ → Bool) (new : ℕ → ℕ)
        (hit-is : (f : ℕ) → hit f ≡ (left f && shows pic m u f k)) (next-is : (f : ℕ) → next f ≡ (left f && not (hit f)))
        (won-is : (f : ℕ) → won f ≡ (granted f || (hit f && eqb (arrow_at pic.arrows k).sign positive)))
        (New-is : (f : ℕ) → new f ≡ cond (hit f) k (after f)) where
      hit-parts : (f : ℕ) → T (hit f) → T (left f) × T (shows pic m u f k)
      hit-parts f t = and_T (left f) (shows pic m u f k) (subst T (hit-is f) t)

      next-parts : (f : ℕ) → T (next f) → T (left f) × (T (hit f) → ⊥)
      next-parts f t = let p = and_T (left f) (not (hit f)) (subst T (next-is f) t) in (p.0, T_not (hit f) p.1)

      next-has : (f : ℕ) → T (left f) → (T (hit f) → ⊥) → T (next f)
      next-has f t n = subst T (sym (next-is f)) (T_and (left f) (not (hit f)) t (not_T (hit f) n))

      -- a file that is taken, and one that is not
      taken : (f : ℕ) → T (hit f)
          → (lowest (shows pic m u f) (arrow_count pic.arrows) ≡ some (new f))
          × (won f ≡ eqb (arrow_at pic.arrows (new f)).sign positive)
      taken f t =
          let p = hit-parts f t in
          let o = w.left_open f p.0 in
          let number : new f ≡ k = New-is f ∙ rw (T_true (hit f) t) in (
            own-shown pic m u f i there (subst (λ (z : ℕ). T (shows pic m u f z)) at p.1) o.1 ∙ ap some (sym (number ∙ at)),
            won-is f ∙ rw ((w.others f (λ s. p.0)).0, T_true (hit f) t, number),
          )

      kept : (f : ℕ) → (T (hit f) → ⊥) → (won f ≡ granted f) × (new f ≡ after f)
      kept f n =
          let e = not-false (hit f) n in
          (won-is f ∙ rw e (or-false (granted f)), New-is f ∙ rw e)

      walk_turn : Walked pic m u files next won before new (i + 1)
      walk_turn = record {
        left_open = λ f t.
            let p = next-parts f t in
            let o = w.left_open f p.0 in
            (o.0, λ j l. go f j l p.0 p.1 (o.1 j) (dec_lt j i));
        gone-shown = λ f t n. shown f t n (T? (hit f));
        others = λ f h. other f h (T? (hit f));
      }
        where
          go : (f j : ℕ) → j < i + 1 → T (left f) → (T (hit f) → ⊥) → (j < i → T (shows pic m u f (place j)) → ⊥) → Dec (j < i)
              → T (shows pic m u f (place j)) → ⊥
          go f j l t n below (yes h) s = below h s
          go f j l t n below (no h) s =
              let e : place j ≡ k = ap place (omega arith) ∙ sym at in
              n (subst T (sym (hit-is f)) (T_and (left f) (shows pic m u f k) t (subst (λ (z : ℕ). T (shows pic m u f z)) e s)))

          shown : (f : ℕ) → T (files f) → (T (next f) → ⊥) → Dec (T (hit f))
              → (lowest (shows pic m u f) (arrow_count pic.arrows) ≡ some (new f))
              × (won f ≡ eqb (arrow_at pic.arrows (new f)).sign positive)
          shown f t n (yes h) = taken f h
          shown f t n (no h) =
              let g = w.gone-shown f t (λ x. n (next-has f x h)) in
              let e = kept f h in
              (g.0 ∙ ap some (sym e.1), e.0 ∙ g.1 ∙ ap (λ (z : ℕ). eqb (arrow_at pic.arrows z).sign positive) (sym e.1))

          other : (f : ℕ) → (T (files f) → T (next f)) → Dec (T (hit f)) → (won f ≡ false) × (new f ≡ before f)
          other f h (yes t) = absurd ((next-parts f (h (w.left_open f (hit-parts f t).0).0)).1 t)
          other f h (no n) =
              let e = kept f n in
              let o = w.others f (λ t. (next-parts f (h t)).0) in
              (e.0 ∙ o.0, e.1 ∙ o.1)

    -- nothing is left
    walk-empty : ((f : ℕ) → left f ≡ false) → (r : ℕ) → Walked pic m u files left granted before after r
    walk-empty e r = record {
      left_open = λ f t. absurd (subst T (e f) t);
      gone-shown = w.gone-shown;
      others = w.others;
    }

-- ---- the same, by what the code has read

-- how the walk stands at place i: `Old` and `New` say which numbers stand for the files before it and there
pub record Walking (closure heads arrows own : List ℕ) (x : Around) (files : Set) (Old New : (ℕ → ℕ) → Type 0) (granted left : Set) (i : ℕ)
    : Type 0 where
  pub walked : (pic : Picture) (m : ℕ) (asked : ℕ → Bool) → Drawn pic closure → Moded pic m heads arrows own
      → AroundBy pic m x.user asked x → x.user < length pic.boxes → ((f : ℕ) → T (is_in files f) → T (asked f))
      → (before : ℕ → ℕ) → Old before
      → (after : ℕ → ℕ) × Walked pic m x.user (is_in files) (is_in left) (is_in granted) before after i × New after

module _ (closure heads arrows own : List ℕ) (x : Around) (files : Set) (Old : (ℕ → ℕ) → Type 0) where
  module _ (New : (ℕ → ℕ) → Type 0) (granted left : Set) (i : ℕ) (w : Walking closure heads arrows own x files Old New granted left i) where
    -- the arrow of place i is not around the user
    pub walking-pass : (a : Arrow) → a ≡ arrow_at arrows (get_or own i 0) → has closure (256 + x.user) a.tail ≡ false
        → Walking closure heads arrows own x files Old New granted left (i + 1)
    walking-pass a a-is far = record {
      walked = λ pic m asked d md around there within before told.
          let (after, v, shown) = w.walked pic m asked d md around there within before told in (
            after,
            walk-pass pic m x.user (is_in files) before (is_in left) (is_in granted) after i v (i + 1)
                (λ j l h f t.
                let e : j ≡ i = omega arith in
                let s = shows-around pic m x.user f (get_or (own_arrows pic.arrows m) i 0) (rw e at t) in
                false-not (has closure (256 + x.user) a.tail) far
                (rw (a-is, md.arrows-are, md.own-are, d.closed.up (arrow_at pic.arrows (get_or (own_arrows pic.arrows m) i 0)).tail x.user there) s)),
            shown,
          );
    }

    -- what `shown` gives for the arrow of place i
    abbrev pub ShownBy : Arrow → Set → Type 0
    ShownBy a hit =
        (pic : Picture) (m u k : ℕ) (asked : ℕ → Bool) → Drawn pic closure → ModeSets pic.arrows m heads → AroundBy pic m u asked x
        → u < length pic.boxes → k < arrow_count pic.arrows → a ≡ arrow_at pic.arrows k → T (has_mode pic.arrows m k)
        → T (has closure (256 + u) a.tail) → ((f : ℕ) → T (is_in left f) → T (asked f))
        → (f : ℕ) → is_in hit f ≡ (is_in left f && shows pic m u f k)

    pub walking-turn : i < length own → (a : Arrow) → a ≡ arrow_at arrows (get_or own i 0) → has closure (256 + x.user) a.tail ≡ true
        → (hit next won : Set) (Newer : (ℕ → ℕ) → Type 0) → ShownBy a hit
        → ((f : ℕ) → is_in next f ≡ (is_in left f && not (is_in hit f)))
        → ((f : ℕ) → is_in won f ≡ (is_in granted f || (is_in hit f && eqb a.sign positive)))
        → ((after : ℕ → ℕ) → New after → Newer (λ f. cond (is_in hit f) (get_or own i 0) (after f)))
        → Walking closure heads arrows own x files Old Newer won next (i + 1)
    walking-turn l a a-is near hit next won Newer shown-ens next-is won-is puts = record {
      walked = λ pic m asked d md around there within before told.
          let (after, v, shown) = w.walked pic m asked d md around there within before told in (
            λ f. cond (is_in hit f) k (after f),
            turn pic m asked d md around there within before after v,
            puts after shown,
          );
    }
      where
        k : ℕ
        k = get_or own i 0

        turn : (pic : Picture) (m : ℕ) (asked : ℕ → Bool) → Drawn pic closure → Moded pic m heads arrows own
            → AroundBy pic m x.user asked x → x.user < length pic.boxes → ((f : ℕ) → T (is_in files f) → T (asked f))
            → (before after : ℕ → ℕ) → Walked pic m x.user (is_in files) (is_in left) (is_in granted) before after i
            → Walked pic m x.user (is_in files) (is_in next) (is_in won) before (λ f. cond (is_in hit f) k (after f)) (i + 1)
        turn pic m asked d md around there within before after v =
            let at : k ≡ get_or (own_arrows pic.arrows m) i 0 = ap (λ (z : List ℕ). get_or z i 0) md.own-are in
            let b : a ≡ arrow_at pic.arrows k = a-is ∙ ap (λ (z : List ℕ). arrow_at z k) md.arrows-are in
            let inside : i < length (own_arrows pic.arrows m) = subst (λ (z : List ℕ). i < length z) md.own-are l in
            let own_is = own-found pic.arrows m i inside in
            walk_turn pic m x.user (is_in files) before (is_in left) (is_in granted) after i v
            k at inside (is_in hit) (is_in next) (is_in won) (λ f. cond (is_in hit f) k (after f))
            (shown-ens pic m x.user k asked d md.sets around there (rw at own_is.0) b (rw at own_is.1) (true-T _ near)
            (λ f t. within f (v.left_open f t).0))
            next-is
            (λ f. won-is f ∙ ap (λ (z : Arrow). is_in granted f || (is_in hit f && eqb z.sign positive)) b)
            (λ f. refl)

    -- no file is left
    pub walking-empty : ((f : ℕ) → is_in left f ≡ false) → (r : ℕ) → Walking closure heads arrows own x files Old New granted left r
    walking-empty e r = record {
      walked = λ pic m asked d md around there within before told.
          let (after, v, shown) = w.walked pic m asked d md around there within before told in
          (after, walk-empty pic m x.user (is_in files) before (is_in left) (is_in granted) after i v e r, shown);
    }
