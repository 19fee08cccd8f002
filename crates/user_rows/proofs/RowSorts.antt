-- What a finished walk says of each file, and the rows that `sort_row` and `answer_row` make of it. Assumes nothing.
use mathlib.Core.Path.{◌≡◌, refl, sym, ap, ap₂, subst, ◌∙◌}
use mathlib.Core.Logic.{◌⊎◌, inl, inr, ⊎_elim}
use mathlib.Core.Bool.{Bool, true, false, not, ◌&&◌, ◌||◌}
use mathlib.Core.List.{List}
use Prim.Native.Nat.{ℕ, ◌<◌}
use lib.Dec.{T}
use lib.ListN.{length}
use Rattle.base.proofs.Tests.{T?, or-T, T-or₁, T-or₂, and_T, T_and, T_true, not-false, false-not}
use Rattle.tables.specs.Rows.{Picture}
use Rattle.meaning.specs.Meaning.{positive, negative, answer, is_granted, is_unclear, number_of}
use Rattle.boxsets.specs.Sets.{is_in}
use Rattle.boxsets.specs.declared.Set.{Set}
use Rattle.boxsets.proofs.WalkLaws.{in-below}
use Rattle.mode_sets.specs.Mode.{own_arrows}
use Rattle.certificates.specs.Blocks.{reached_by}
use Rattle.certificates.specs.Steps.{Drawn}
use Rattle.user_rows.specs.Steps.{Moded, AroundBy, Walked, Sorts}
use Rattle.user_rows.specs.declared.around.Around.{Around}
use Rattle.user_rows.specs.declared.Row.{Row}
use Rattle.user_rows.proofs.ShowLaws.{own-none}
use Rattle.user_rows.proofs.RowAnswers.{reached-unclear, unreached, one-sided, shown-row}

module _ (pic : Picture) (m u : ℕ) (files left granted : ℕ → Bool) (before after : ℕ → ℕ)
    (w : Walked pic m u files left granted before after (length (own_arrows pic.arrows m))) (f : ℕ) where
  -- a file of the walk that an arrow reaches
  row_in : T (files f) → T (reached_by pic m positive u f) ⊎ T (reached_by pic m negative u f)
      → (granted f ≡ is_granted (answer pic m u f)) × (left f ≡ is_unclear (answer pic m u f))
      × (before f ≡ 65535 → after f ≡ number_of (answer pic m u f))
  row_in t r = go (T? (left f))
    where
      go : Dec (T (left f)) → (granted f ≡ is_granted (answer pic m u f)) × (left f ≡ is_unclear (answer pic m u f))
          × (before f ≡ 65535 → after f ≡ number_of (answer pic m u f))
      go (yes x) =
          let c = reached-unclear pic m u f (own-none pic m u f (w.left_open f x).1) r in
          let o = w.others f (λ s. x) in
          (o.0 ∙ sym c.0, T_true (left f) x ∙ sym c.1, λ e. o.1 ∙ e ∙ sym c.2)
      go (no n) =
          let g = w.gone-shown f t n in
          let s = shown-row pic m u f (after f) g.0 in
          (g.1 ∙ sym s.0, not-false (left f) n ∙ sym s.1, λ e. sym s.2)

  -- any other file
  row_out : (T (files f) → ⊥) → (granted f ≡ false) × (left f ≡ false) × (after f ≡ before f)
  row_out n =
      let o = w.others f (λ t. absurd (n t)) in
      (o.0, not-false (left f) (λ t. n (w.left_open f t).0), o.1)

  -- ---- the walk began with the asked files that both signs reach

  abbrev P : Bool
  P = reached_by pic m positive u f

  abbrev N : Bool
  N = reached_by pic m negative u f

  sort-asked : (row : Bool) → files f ≡ (N && P) → row ≡ ((P && not (files f)) || granted f)
      → (row ≡ is_granted (answer pic m u f)) × (left f ≡ is_unclear (answer pic m u f))
  sort-asked row e told = go (T? (files f))
    where
      both : (p g : Bool) → ((p && not true) || g) ≡ g
      both true g = refl
      both false g = refl

      one : (p : Bool) → ((p && not false) || false) ≡ p
      one true = refl
      one false = refl

      go : Dec (T (files f)) → (row ≡ is_granted (answer pic m u f)) × (left f ≡ is_unclear (answer pic m u f))
      go (yes t) =
          let r = row_in t (inl (and_T N P (subst T e t)).1) in
          (told ∙ rw (T_true (files f) t) (both P (granted f)) ∙ r.0, r.1)
      go (no n) =
          let o = row_out n in
          let c = one-sided pic m u f (λ p q. n (subst T (sym e) (T_and N P q p))) in
          (told ∙ rw (not-false (files f) n, o.0) (one P) ∙ sym c.0, o.1 ∙ sym c.1)

  pub sort-file : (asked row : Bool) → files f ≡ ((asked && N) && (asked && P)) → row ≡ (((asked && P) && not (files f)) || granted f)
      → (row ≡ (asked && is_granted (answer pic m u f))) × (left f ≡ (asked && is_unclear (answer pic m u f)))
  sort-file true row e told = sort-asked row e told
  sort-file false row e told = let o = row_out (false-not (files f) e) in (told ∙ o.0, o.1)

  -- ---- the walk began with the asked files that an arrow reaches

  answer-asked : files f ≡ (N || P)
      → (granted f ≡ is_granted (answer pic m u f)) × (left f ≡ is_unclear (answer pic m u f))
      × (before f ≡ 65535 → after f ≡ number_of (answer pic m u f))
  answer-asked e = go (T? (files f))
    where
      go : Dec (T (files f)) → (granted f ≡ is_granted (answer pic m u f)) × (left f ≡ is_unclear (answer pic m u f))
          × (before f ≡ 65535 → after f ≡ number_of (answer pic m u f))
      go (yes t) = row_in t (⊎_elim inr inl (or-T N P (subst T e t)))
      go (no n) =
          let o = row_out n in
          let no-positive : T P → ⊥ = λ p. n (subst T (sym e) (T-or₂ N P p)) in
          let no-negative : T N → ⊥ = λ q. n (subst T (sym e) (T-or₁ N P q)) in
          let c = unreached pic m u f no-positive no-negative in
          (o.0 ∙ sym c.0, o.1 ∙ sym c.1, λ b. o.2 ∙ b ∙ sym c.2)

  pub answer-file : (asked : Bool) → files f ≡ ((asked && N) || (asked && P))
      → (granted f ≡ (asked && is_granted (answer pic m u f))) × (left f ≡ (asked && is_unclear (answer pic m u f)))
      × (before f ≡ 65535 → T asked → after f ≡ number_of (answer pic m u f))
  answer-file true e = let r = answer-asked e in (r.0, r.1, λ b t. r.2 b)
  answer-file false e = let o = row_out (false-not (files f) e) in (o.0, o.1, λ b t. absurd t)

-- ---- the same, by what the code has made

-- what `walk` gives: the numbers of a walk, and what it tells of them
abbrev pub Walks : (closure heads arrows own : List ℕ) (x : Around) (files : Set) (r : Row) (old : ℕ → ℕ) (Told : (ℕ → ℕ) → Type 0) → Type 0
Walks closure heads arrows own x files r old Told =
    (pic : Picture) (m : ℕ) (asked : ℕ → Bool) → Drawn pic closure → Moded pic m heads arrows own → AroundBy pic m x.user asked x
    → x.user < length pic.boxes → ((f : ℕ) → T (is_in files f) → T (asked f))
    → (new : ℕ → ℕ) × Walked pic m x.user (is_in files) (is_in r.unclear) (is_in r.granted) old new (length own) × Told new

module _ (pic : Picture) (m u : ℕ) (closure heads arrows own : List ℕ) (d : Drawn pic closure) (md : Moded pic m heads arrows own)
    (there : u < length pic.boxes) (x : Around) (user-is : x.user ≡ u) (asked files : Set) (near : AroundBy pic m u (is_in asked) x)
    (r : Row) (old : ℕ → ℕ) (Told : (ℕ → ℕ) → Type 0) (walks : Walks closure heads arrows own x files r old Told) where
  abbrev Done : (ℕ → ℕ) → Type 0
  Done new = Walked pic m u (is_in files) (is_in r.unclear) (is_in r.granted) old new (length (own_arrows pic.arrows m))

  done : ((f : ℕ) → T (is_in files f) → T (is_in x.negative.files f) ⊎ T (is_in x.positive.files f))
      → (new : ℕ → ℕ) × Done new × Told new
  done within =
      let (new, v, told) = walks pic m (is_in asked) d md (subst (λ (v : ℕ). AroundBy pic m v (is_in asked) x) (sym user-is) near)
      (subst (λ (v : ℕ). v < length pic.boxes) (sym user-is) there)
      (λ f t.
      ⊎_elim
      (λ n. (and_T (is_in asked f) (reached_by pic m negative u f) (subst T (near.denying.files-are f) n)).0)
      (λ p. (and_T (is_in asked f) (reached_by pic m positive u f) (subst T (near.granting.files-are f) p)).0)
      (within f t)) in (
        new,
        rw md.own-are at
            (subst (λ (v : ℕ). Walked pic m v (is_in files) (is_in r.unclear) (is_in r.granted) old new (length own)) user-is v),
        told,
      )

  pub sorted : ((f : ℕ) → is_in files f ≡ (is_in x.negative.files f && is_in x.positive.files f))
      → (won : Set) → ((f : ℕ) → is_in won f ≡ ((is_in x.positive.files f && not (is_in files f)) || is_in r.granted f))
      → Sorts pic m u (is_in asked) (record { granted = won; unclear = r.unclear })
  sorted files-are won won-is =
      let (new, v, told) = done (λ f t. inl (and_T (is_in x.negative.files f) (is_in x.positive.files f) (subst T (files-are f) t)).0) in
      record { granted-are = λ f. (at new v f).0; unclear-are = λ f. (at new v f).1 }
    where
      at : (new : ℕ → ℕ) → Done new → (f : ℕ) → (is_in won f ≡ (is_in asked f && is_granted (answer pic m u f)))
          × (is_in r.unclear f ≡ (is_in asked f && is_unclear (answer pic m u f)))
      at new v f =
          sort-file pic m u (is_in files) (is_in r.unclear) (is_in r.granted) old new v f (is_in asked f) (is_in won f)
          (files-are f ∙ ap₂ ◌&&◌ (near.denying.files-are f) (near.granting.files-are f))
          (won-is f ∙ ap (λ (b : Bool). (b && not (is_in files f)) || is_in r.granted f) (near.granting.files-are f))

  pub answered : ((f : ℕ) → is_in files f ≡ (is_in x.negative.files f || is_in x.positive.files f))
      → ((f : ℕ) → f < 256 → old f ≡ 65535) → (numbers : ℕ → ℕ) → ((new : ℕ → ℕ) → Told new → (f : ℕ) → numbers f ≡ new f)
      → Sorts pic m u (is_in asked) r × ((f : ℕ) → T (is_in asked f) → numbers f ≡ number_of (answer pic m u f))
  answered files-are blank numbers are =
      let (new, v, told) = done (λ f t. or-T (is_in x.negative.files f) (is_in x.positive.files f) (subst T (files-are f) t)) in (
        record { granted-are = λ f. (at new v f).0; unclear-are = λ f. (at new v f).1 },
        λ f t. are new told f ∙ (at new v f).2 (blank f (in-below asked f t)) t,
      )
    where
      at : (new : ℕ → ℕ) → Done new → (f : ℕ) → (is_in r.granted f ≡ (is_in asked f && is_granted (answer pic m u f)))
          × (is_in r.unclear f ≡ (is_in asked f && is_unclear (answer pic m u f)))
          × (old f ≡ 65535 → T (is_in asked f) → new f ≡ number_of (answer pic m u f))
      at new v f =
          answer-file pic m u (is_in files) (is_in r.unclear) (is_in r.granted) old new v f (is_in asked f)
          (files-are f ∙ ap₂ ◌||◌ (near.denying.files-are f) (near.granting.files-are f))

-- where both signs reach none of the asked files, nothing is left to the walk
module _ (pic : Picture) (m u : ℕ) (x : Around) (asked clash : Set) (near : AroundBy pic m u (is_in asked) x)
    (none_in : (f : ℕ) → is_in clash f ≡ false) where
  pub sorted-clear : ((f : ℕ) → is_in clash f ≡ (is_in x.negative.files f && is_in x.positive.files f))
      → Sorts pic m u (is_in asked) (record { granted = x.positive.files; unclear = clash })
  sorted-clear clash-is = record { granted-are = λ f. (at f).0; unclear-are = λ f. (at f).1 }
    where
      never : (f : ℕ) → T (is_in clash f) → ⊥
      never f t = subst T (none_in f) t

      plain : (b : Bool) (f : ℕ) → b ≡ ((b && not (is_in clash f)) || is_in clash f)
      plain true f = rw (none_in f)
      plain false f = rw (none_in f)

      at : (f : ℕ) → (is_in x.positive.files f ≡ (is_in asked f && is_granted (answer pic m u f)))
          × (is_in clash f ≡ (is_in asked f && is_unclear (answer pic m u f)))
      at f =
          sort-file pic m u (is_in clash) (is_in clash) (is_in clash) (λ k. 0) (λ k. 0)
          (record {
            left_open = λ g t. absurd (never g t);
            gone-shown = λ g t. absurd (never g t);
            others = λ g k. (none_in g, refl);
          })
          f (is_in asked f) (is_in x.positive.files f)
          (clash-is f ∙ ap₂ ◌&&◌ (near.denying.files-are f) (near.granting.files-are f))
          (plain (is_in x.positive.files f) f ∙ ap (λ (b : Bool). (b && not (is_in clash f)) || is_in clash f) (near.granting.files-are f))
