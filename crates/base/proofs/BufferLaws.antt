-- Lent places that a loop writes one after the other. Assumes nothing.
use mathlib.Core.Path.{◌≡◌, refl, sym, ap, ◌∙◌}
use mathlib.Core.Bool.{Bool, true, false, cond}
use mathlib.Core.List.{List, [], ◌∷◌, ◌++◌, append_assoc}
use mathlib.Core.Logic.{⊎_elim}
use Prim.Native.Nat.{ℕ, zero, suc, ◌+◌, ◌-◌, ◌<◌, ◌≤◌}
use native.Mathlib.Numerals.{add-one}
use native.Mathlib.Omega.{arith}
use native.Mathlib.Decide.{dec_lt}
use native.Mathlib.Nat.{eq-or-lt_of_le, le_of_suc-le-suc}
use lib.ListN.{length, get_or, set, drop, replicate, length-append, length-drop, length-replicate, get_or-replicate, replicate-append-replicate, get_or-append}
use lib.Seq.{drop-cons, drop-drop, drop-append-add, take-append_seam, set-append_seam, sets, sets-eq, get_or-append-add, get_or-append_seam, get_or-drop, ext_get_or}
use Rattle.base.specs.Search.{select}
use Rattle.base.specs.Buffers.{build, written, zeros}

length-snoc : (l : List ℕ) (x : ℕ) → length (l ++ (x ∷ [])) ≡ length l + 1
length-snoc l x = length-append l (x ∷ [])

-- ---- `written`

pub written_none : (old : List ℕ) → written [] old ≡ old
unfolding written
written_none old = refl

-- the next place is written
pub written-more : (new old : List ℕ) (x : ℕ) → length new < length old → set (written new old) (length new) x ≡ written (new ++ (x ∷ [])) old
unfolding written
written-more new old x h =
    ap (λ (l : List ℕ). set (new ++ l) (length new) x) (drop-cons old (length new) 0 h)
    ∙ set-append_seam new (get_or old (length new) 0) (drop (suc (length new)) old) x
    ∙ rw (length-snoc, add-one, append_assoc)

-- the places that follow are written by one run of values
pub written-run : (new xs old : List ℕ) → length new + length xs ≤ length old → sets (written new old) (length new) xs ≡ written (new ++ xs) old
unfolding written
written-run new xs old h =
    let l = new ++ drop (length new) old in
    let e : length new + length xs ≤ length l = simp (length-append, length-drop) (omega arith) in
    sets-eq xs l (length new) e ∙ simp (take-append_seam, drop-append-add, drop-drop, length-append, append_assoc)

pub written-length : (new old : List ℕ) → length new ≤ length old → length (written new old) ≡ length old
unfolding written
written-length new old h = simp (length-append, length-drop) (omega arith)

pub written_at : (new old : List ℕ) (i : ℕ) → i < length new → get_or (written new old) i 0 ≡ get_or new i 0
unfolding written
written_at new old i h = get_or-append new (drop (length new) old) 0 i h

pub written-rest : (new old : List ℕ) (p : ℕ) → length new ≤ p → get_or (written new old) p 0 ≡ get_or old p 0
unfolding written
written-rest new old p h =
    let e : p ≡ length new + (p - length new) = omega arith in
    ap (λ (k : ℕ). get_or (new ++ drop (length new) old) k 0) e
    ∙ get_or-append-add new (drop (length new) old) (p - length new) 0
    ∙ rw (get_or-drop, ← e)

-- what is written over at least as many places
pub written_over : (a b old : List ℕ) → length b ≤ length a → length a ≤ length old → written a (written b old) ≡ written a old
written_over a b old h l =
    let lb = written-length b old (omega arith) in
    let la = written-length a old l in
    let lab = written-length a (written b old) (omega arith) in
    ext_get_or 0 (written a (written b old)) (written a old) (lab ∙ lb ∙ sym la) (λ p k. go p (dec_lt p (length a)))
  where
    go : (p : ℕ) → Dec (p < length a) → get_or (written a (written b old)) p 0 ≡ get_or (written a old) p 0
    go p (yes k) = written_at a (written b old) p k ∙ sym (written_at a old p k)
    go p (no k) =
        written-rest a (written b old) p (omega arith) ∙ written-rest b old p (omega arith) ∙ sym (written-rest a old p (omega arith))

-- place n of a buffer that a loop fills with one value
pub written_same : (v n : ℕ) (old : List ℕ) → n < length old → set (written (replicate n v) old) n v ≡ written (replicate (n + 1) v) old
written_same v n old h =
    ap (λ (k : ℕ). set (written (replicate n v) old) k v) (sym (length-replicate {A = ℕ} n v))
    ∙ written-more (replicate n v) old v (rw (length-replicate {A = ℕ} n v) h)
    ∙ ap (λ (l : List ℕ). written l old) (replicate-append-replicate n 1 v)

-- ---- `build`

pub build-length : (g : ℕ → ℕ) (n : ℕ) → length (build g n) ≡ n
unfolding build
build-length g zero = refl
build-length g (suc n) = length-snoc (build g n) (g n) ∙ rw (build-length g n, add-one)

pub build-at : (g : ℕ → ℕ) (n k : ℕ) → k < n → get_or (build g n) k 0 ≡ g k
unfolding build
build-at g zero k l = absurd (omega arith)
build-at g (suc n) k l =
    ⊎_elim
    (λ e. rw e (ap (λ (i : ℕ). get_or (build g n ++ (g n ∷ [])) i 0) (sym (build-length g n)) ∙ get_or-append_seam (build g n) (g n) [] 0))
    (λ h. get_or-append (build g n) (g n ∷ []) 0 k (rw build-length h) ∙ build-at g n k h)
    (eq-or-lt_of_le (le_of_suc-le-suc l))

pub build-more : (g : ℕ → ℕ) (n : ℕ) → build g (n + 1) ≡ build g n ++ (g n ∷ [])
unfolding build
build-more g n = rw add-one

pub build-same : (g h : ℕ → ℕ) (n : ℕ) → ((k : ℕ) → k < n → g k ≡ h k) → build g n ≡ build h n
unfolding build
build-same g h zero e = refl
build-same g h (suc n) e = rw (build-same g h n (λ k l. e k (omega arith)), e n (omega arith))

-- place n of a buffer that a loop fills by g
pub written-build : (g : ℕ → ℕ) (n : ℕ) (old : List ℕ) → n < length old → set (written (build g n) old) n (g n) ≡ written (build g (n + 1)) old
written-build g n old h =
    ap (λ (k : ℕ). set (written (build g n) old) k (g n)) (sym (build-length g n))
    ∙ written-more (build g n) old (g n) (rw build-length h)
    ∙ rw build-more

-- ---- `select`

pub select-zero : (p : ℕ → Bool) → select p 0 ≡ []
unfolding select
select-zero p = refl

pub select_yes : (p : ℕ → Bool) (n : ℕ) → p n ≡ true → select p (n + 1) ≡ select p n ++ (n ∷ [])
unfolding select
select_yes p n e = rw (add-one, e)

pub select_no : (p : ℕ → Bool) (n : ℕ) → p n ≡ false → select p (n + 1) ≡ select p n
unfolding select
select_no p n e = rw (add-one, e)

pub select-most : (p : ℕ → Bool) (n : ℕ) → length (select p n) ≤ n
unfolding select
select-most p zero = omega arith
select-most p (suc n) = go (p n) (select-most p n)
  where
    go : (b : Bool) → length (select p n) ≤ n → length (cond b (select p n ++ (n ∷ [])) (select p n)) ≤ suc n
    go true h = omega (arith, length-snoc (select p n) n)
    go false h = omega arith

-- a loop over the numbers below n that writes those at which the test holds, and counts them
module _ (p : ℕ → Bool) (old : List ℕ) where
  abbrev pub Selected : ℕ → ℕ → List ℕ → Type 0
  Selected n count out = (count ≡ length (select p n)) × (out ≡ written (select p n) old)

  pub selected-none : Selected 0 0 old
  unfolding select
  selected-none = (refl, sym (written_none old))

  pub selected-length : (n count : ℕ) (out : List ℕ) → n ≤ length old → Selected n count out → length out ≡ length old
  selected-length n count out h s = ap length s.1 ∙ written-length (select p n) old (omega (arith, select-most p n))

  pub selected-most : (n count : ℕ) (out : List ℕ) → Selected n count out → count ≤ n
  selected-most n count out s = omega (arith, select-most p n, s.0)

  pub selected-yes : (n count : ℕ) (out : List ℕ) (x : ℕ) → n < length old → p n ≡ true → x ≡ n → Selected n count out → Selected (n + 1) (count + 1) (set out count x)
  selected-yes n count out x h e i s = (
    rw (select_yes p n e, length-snoc, s.0),
    rw (s.0, s.1, i, select_yes p n e) (written-more (select p n) old n (omega (arith, select-most p n))),
  )

  pub selected-no : (n count : ℕ) (out : List ℕ) → p n ≡ false → Selected n count out → Selected (n + 1) count out
  selected-no n count out e s = rw (select_no p n e) s

-- ---- `zeros`

-- places of which the first n were filled with one value
pub filled-first : (v n : ℕ) (t s : List ℕ) → t ≡ replicate n v → t ++ drop n s ≡ written (replicate n v) s
unfolding written
filled-first v n t s e = rw (e, length-replicate)

pub zeros-is : (n : ℕ) → replicate n 0 ≡ zeros n
unfolding zeros
zeros-is n = refl

pub zeros-length : (n : ℕ) → length (zeros n) ≡ n
unfolding zeros
zeros-length n = length-replicate {A = ℕ} n 0

pub zeros-at : (n k : ℕ) → k < n → get_or (zeros n) k 0 ≡ 0
unfolding zeros
zeros-at n k h = get_or-replicate n k 0 0 h

-- place n of a buffer that a loop clears
pub written-zeros : (n : ℕ) (old : List ℕ) → n < length old → set (written (zeros n) old) n 0 ≡ written (zeros (n + 1)) old
unfolding zeros
written-zeros n old h = written_same 0 n old h
