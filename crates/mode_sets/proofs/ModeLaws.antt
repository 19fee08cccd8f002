-- The sets of a mode's arrows, one arrow after the other. A repeated arrow is seen by its head, which is there already from its tail, and
-- changes neither heads nor tails. Assumes nothing.
use mathlib.Core.Path.{◌≡◌, refl, sym, ap, ap₂, ◌∙◌}
use mathlib.Core.Logic.{⊎_elim}
use mathlib.Core.Bool.{Bool, true, false, not, ◌&&◌, ◌||◌}
use mathlib.Core.List.{List}
use Prim.Native.Nat.{ℕ, ◌+◌, ◌*◌, ◌<◌, ◌≤◌}
use borrow.Author.Tests.{ne_eqb}
use lib.Dec.{T, eqb, eqb→eq}
use lib.ListN.{length, set}
use Rattle.base.specs.Steps.{any_below}
use Rattle.base.specs.Buffers.{zeros}
use Rattle.base.proofs.Tests.{T?, or-T, T-or₁, and_T, T_and, T-eqb, T-same, T_true, true-T, not-false, false-not}
use Rattle.base.proofs.AnyLaws.{any-zero, any-more, any_found, any-is}
use Rattle.base.proofs.BufferLaws.{zeros-length, Selected, selected-yes, selected-no}
use Rattle.tables.specs.Rows.{arrow_at}
use Rattle.tables.specs.declared.Arrow.{Arrow}
use Rattle.boxsets.specs.Sets.{has}
use Rattle.boxsets.proofs.TableLaws.{zeros-has}
use Rattle.boxsets.proofs.WordLaws.{eqb-turned}
use Rattle.meaning.specs.Meaning.{has_mode}
use Rattle.meaning.proofs.ModeLaws.{has_mode-is}
use Rattle.mode_sets.specs.Mode.{same, leaves, heads_below, tails_below, is_own}
use Rattle.mode_sets.specs.Steps.{SetsBelow, Took, heads_words}
use Rattle.mode_sets.proofs.SameLaws.{same_parts, same-is}

-- what is there already changes nothing
or-there : (x y : Bool) → (T y → T x) → x ≡ (x || y)
or-there x y h = T-same x (x || y) (T-or₁ x y) (λ t. ⊎_elim (λ a. a) h (or-T x y t))

-- ---- the sets of the arrows below k

module _ (arrows : List ℕ) (m : ℕ) where
  leaves-is : (s t k : ℕ) → T (has_mode arrows m k)
      → leaves arrows m s (λ x. eqb x t) k ≡ (eqb s (arrow_at arrows k).sign && eqb t (arrow_at arrows k).tail)
  unfolding leaves
  leaves-is s t k h =
      rw (T_true (has_mode arrows m k) h, eqb-turned s (arrow_at arrows k).sign, eqb-turned t (arrow_at arrows k).tail)

  leaves-not : (s k : ℕ) (tails : ℕ → Bool) → has_mode arrows m k ≡ false → leaves arrows m s tails k ≡ false
  unfolding leaves
  leaves-not s k tails e = rw e

  heads-more : (k s : ℕ) (tails : ℕ → Bool) (g : ℕ) → heads_below arrows m (k + 1) s tails g
      ≡ (heads_below arrows m k s tails g || leaves arrows m s tails k && eqb (arrow_at arrows k).head g)
  unfolding heads_below
  heads-more k s tails g = any-more (λ j. leaves arrows m s tails j && eqb (arrow_at arrows j).head g) k

  tails-more : (k s t : ℕ) → tails_below arrows m (k + 1) s t ≡ (tails_below arrows m k s t || leaves arrows m s (λ x. eqb x t) k)
  unfolding tails_below
  tails-more k s t = any-more (leaves arrows m s (λ x. eqb x t)) k

  -- an arrow below k with this sign, tail and head
  heads-found : (k s t g : ℕ) → T (heads_below arrows m k s (λ x. eqb x t) g)
      → (j : ℕ) × (j < k) × T (has_mode arrows m j) × ((arrow_at arrows j).sign ≡ s) × ((arrow_at arrows j).tail ≡ t)
      × ((arrow_at arrows j).head ≡ g)
  unfolding heads_below leaves
  heads-found k s t g h =
      let r = any_found (λ j. leaves arrows m s (λ x. eqb x t) j && eqb (arrow_at arrows j).head g) k h in
      let a = arrow_at arrows r.0 in
      let b = and_T (leaves arrows m s (λ x. eqb x t) r.0) (eqb a.head g) r.2 in
      let d = and_T (has_mode arrows m r.0) (eqb a.sign s && eqb a.tail t) b.0 in
      let e = and_T (eqb a.sign s) (eqb a.tail t) d.1 in
      (r.0, r.1, d.0, eqb→eq a.sign s e.0, eqb→eq a.tail t e.1, eqb→eq a.head g b.1)

  heads-is : (k j s t g : ℕ) → j < k → T (has_mode arrows m j) → (arrow_at arrows j).sign ≡ s → (arrow_at arrows j).tail ≡ t
      → (arrow_at arrows j).head ≡ g → T (heads_below arrows m k s (λ x. eqb x t) g)
  unfolding heads_below leaves
  heads-is k j s t g l h es et eg =
      let a = arrow_at arrows j in
      any-is (λ j. leaves arrows m s (λ x. eqb x t) j && eqb (arrow_at arrows j).head g) k j l
      (T_and (leaves arrows m s (λ x. eqb x t) j) (eqb a.head g)
      (T_and (has_mode arrows m j) (eqb a.sign s && eqb a.tail t) h (T_and (eqb a.sign s) (eqb a.tail t) (T-eqb es) (T-eqb et)))
      (T-eqb eg))

  tails-is : (k j s t : ℕ) → j < k → T (has_mode arrows m j) → (arrow_at arrows j).sign ≡ s → (arrow_at arrows j).tail ≡ t
      → T (tails_below arrows m k s t)
  unfolding tails_below leaves
  tails-is k j s t l h es et =
      let a = arrow_at arrows j in
      any-is (leaves arrows m s (λ x. eqb x t)) k j l
      (T_and (has_mode arrows m j) (eqb a.sign s && eqb a.tail t) h (T_and (eqb a.sign s) (eqb a.tail t) (T-eqb es) (T-eqb et)))

  -- ---- which arrows repeat a lower one

  mode_of : (k : ℕ) → T (has_mode arrows m k) → (arrow_at arrows k).mode ≡ m
  mode_of k t = eqb→eq (arrow_at arrows k).mode m (rw has_mode-is at t)

  of-mode : (k : ℕ) → (arrow_at arrows k).mode ≡ m → T (has_mode arrows m k)
  of-mode k e = rw has_mode-is (T-eqb e)

  own-not : (k : ℕ) → has_mode arrows m k ≡ false → is_own arrows m k ≡ false
  unfolding is_own
  own-not k e = rw e

  own_is : (k : ℕ) → T (has_mode arrows m k)
      → is_own arrows m k
      ≡ not (heads_below arrows m k (arrow_at arrows k).sign (λ x. eqb x (arrow_at arrows k).tail) (arrow_at arrows k).head)
  unfolding is_own
  own_is k h =
      let a = arrow_at arrows k in
      rw (T_true (has_mode arrows m k) h)
      (ap not
      (T-same (any_below (same arrows k) k) (heads_below arrows m k a.sign (λ x. eqb x a.tail) a.head)
      (λ t.
      let r = any_found (same arrows k) k t in
      let e = same_parts arrows k r.0 r.2 in
      heads-is k r.0 _ _ _ r.1 (of-mode r.0 (sym e.2 ∙ mode_of k h)) (sym e.3) (sym e.0) (sym e.1))
      (λ t.
      let r = heads-found k a.sign a.tail a.head t in
      any-is (same arrows k) k r.0 r.1
      (same-is arrows k r.0 (sym r.4) (sym r.5) (mode_of k h ∙ sym (mode_of r.0 r.2)) (sym r.3)))))

  -- ---- the turns of the loop

  pub sets-none : SetsBelow arrows m 0 (zeros heads_words)
  unfolding heads_below tails_below
  sets-none = record {
    len = zeros-length heads_words;
    heads-are = λ s t g ls lt. zeros-has heads_words (256 * s + t) g ∙ sym (any-zero _);
    tails-are = λ s t ls. zeros-has heads_words (512 + s) t ∙ sym (any-zero _);
  }

  or_no : (x y : Bool) → y ≡ false → x ≡ (x || y)
  or_no true y e = refl
  or_no false y e = sym e

  -- an arrow of another mode
  sets-other : (k : ℕ) (heads : List ℕ) → has_mode arrows m k ≡ false → SetsBelow arrows m k heads → SetsBelow arrows m (k + 1) heads
  sets-other k heads e b = record {
    len = b.len;
    heads-are = λ s t g ls lt. b.heads-are s t g ls lt ∙ or_no _ _ (rw (leaves-not s k (λ x. eqb x t) e)) ∙ sym (heads-more k s (λ x. eqb x t) g);
    tails-are = λ s t ls. b.tails-are s t ls ∙ or_no _ _ (leaves-not s k (λ x. eqb x t) e) ∙ sym (tails-more k s t);
  }

  -- an arrow of the mode
  module _ (k : ℕ) (heads last : List ℕ) (r : Bool) (h : T (has_mode arrows m k)) (tail-small : (arrow_at arrows k).tail < 256)
      (sign_small : (arrow_at arrows k).sign ≤ 1) (took : Took heads (arrow_at arrows k) r last) (b : SetsBelow arrows m k heads) where
    took-own : r ≡ is_own arrows m k
    took-own =
        let a = arrow_at arrows k in
        took.taken ∙ ap not (b.heads-are a.sign a.tail a.head sign_small tail-small) ∙ sym (own_is k h)

    -- the tail of a repeated arrow is there
    tail-there : r ≡ false → T (tails_below arrows m k (arrow_at arrows k).sign (arrow_at arrows k).tail)
    tail-there e = go (T? (heads_below arrows m k a.sign (λ x. eqb x a.tail) a.head))
      where
        a : Arrow
        a = arrow_at arrows k

        go : Dec (T (heads_below arrows m k a.sign (λ x. eqb x a.tail) a.head)) → T (tails_below arrows m k a.sign a.tail)
        go (yes t) = let f = heads-found k a.sign a.tail a.head t in tails-is k f.0 _ _ f.1 f.2 f.3 f.4
        go (no n) =
            let gone = not-false (heads_below arrows m k a.sign (λ x. eqb x a.tail) a.head) n in
            absurd (false-not r e (true-T r (took-own ∙ own_is k h ∙ rw gone)))

    tails-after : (s t : ℕ) → s ≤ 1
        → has last (512 + s) t ≡ (tails_below arrows m k s t || (eqb s (arrow_at arrows k).sign && eqb t (arrow_at arrows k).tail))
    tails-after s t ls = go (T? r)
      where
        a : Arrow
        a = arrow_at arrows k

        go : Dec (T r) → has last (512 + s) t ≡ (tails_below arrows m k s t || (eqb s a.sign && eqb t a.tail))
        go (yes y) = took.tails-are s t ls y ∙ rw (b.tails-are s t ls)
        go (no n) = took.tails-stay n s t ls ∙ b.tails-are s t ls ∙ or-there _ _ (λ p.
            let q = and_T (eqb s a.sign) (eqb t a.tail) p in
            rw (eqb→eq s a.sign q.0, eqb→eq t a.tail q.1) (tail-there (not-false r n)))

    sets-took : SetsBelow arrows m (k + 1) last
    sets-took = record {
      len = took.len ∙ b.len;
      heads-are = λ s t g ls lt.
          took.heads-are s t g ls lt
          ∙ ap₂ ◌||◌ (b.heads-are s t g ls lt) (ap₂ ◌&&◌ (sym (leaves-is s t k h)) (eqb-turned g (arrow_at arrows k).head))
          ∙ sym (heads-more k s (λ x. eqb x t) g);
      tails-are = λ s t ls. tails-after s t ls ∙ rw (← leaves-is s t k h) (sym (tails-more k s t));
    }

  -- ---- the sets, and the numbers that are written

  abbrev pub Turned : (old : List ℕ) (k count : ℕ) (own heads : List ℕ) → Type 0
  Turned old k count own heads = Selected (is_own arrows m) old k count own × SetsBelow arrows m k heads

  module _ (old : List ℕ) (k count : ℕ) (own heads : List ℕ) (a : Arrow) (is : a ≡ arrow_at arrows k) (turned : Turned old k count own heads) where
    pub turn-other : (a.mode ≡ m → ⊥) → Turned old (k + 1) count own heads
    turn-other n =
        let e = has_mode-is arrows m k ∙ ne_eqb (arrow_at arrows k).mode m (λ i. n (ap (λ (x : Arrow). x.mode) is ∙ i)) in
        (selected-no (is_own arrows m) old k count own (own-not k e) turned.0, sets-other k heads e turned.1)

    module _ (last : List ℕ) (r : Bool) (mode : a.mode ≡ m) (tail-small : (arrow_at arrows k).tail < 256)
        (sign_small : (arrow_at arrows k).sign ≤ 1) (took : Took heads a r last) where
      of : T (has_mode arrows m k)
      of = of-mode k (sym (ap (λ (x : Arrow). x.mode) is) ∙ mode)

      by : Took heads (arrow_at arrows k) r last
      by = rw is at took

      pub turn-repeat : r ≡ false → Turned old (k + 1) count own last
      turn-repeat e = (
        selected-no (is_own arrows m) old k count own (sym (took-own k heads last r of tail-small sign_small by turned.1) ∙ e) turned.0,
        sets-took k heads last r of tail-small sign_small by turned.1,
      )

      pub turn-own : (x : ℕ) → r ≡ true → x ≡ k → k < length old → Turned old (k + 1) (count + 1) (set own count x) last
      turn-own x e i l = (
        selected-yes (is_own arrows m) old k count own x l (sym (took-own k heads last r of tail-small sign_small by turned.1) ∙ e) i
            turned.0,
        sets-took k heads last r of tail-small sign_small by turned.1,
      )
