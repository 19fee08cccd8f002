-- `direct` is the row, `contains` the chain of one or more rows; it is transitive; what it has to do with rows and atomic boxes; and both
-- go by which rows there are, not by their order or how often each stands. Assumes nothing.
use mathlib.Core.Path.{◌≡◌, refl, sym, subst}
use mathlib.Core.Logic.{◌⊎◌, inl, inr, ⊎_map, ⊎_elim, ◌↔◌}
use mathlib.Core.Bool.{false, ◌&&◌, ◌||◌}
use mathlib.Core.List.{List, [], ◌∷◌, ◌++◌}
use Rattle.std.specs.Prelude.{None as none}
use Prim.Native.Nat.{ℕ, ◌%◌, ◌<◌}
use native.Mathlib.Omega.{arith}
use lib.Dec.{T, eqb, eqb→eq, eqb_refl}
use lib.ListN.{length, get_or}
use Rattle.tables.specs.Rows.{is_group, on_side}
use Rattle.tables.specs.Atoms.{outer, atom}
use Rattle.base.specs.Search.{given}
use Rattle.tables.specs.declared.Refusal.TheVariants.{InItself}
use Rattle.containment.specs.Contains.{Row, here, later, direct, Chain, one, more, contains, around, loop_fault}
use Rattle.base.proofs.Tests.{or-T, T-or₁, T-or₂, and_T, T_and, T-same, not-false}
use Rattle.base.proofs.SearchLaws.{first-none, given-none}
use Rattle.tables.proofs.RowLaws.{outer-none, outer-odd, outer-more}
use Rattle.tables.proofs.GroupLaws.{atom-iff}

-- ---- a row as a test

-- of no row, and of one row more
pub direct-none : (a b : ℕ) → direct [] a b ≡ false
unfolding direct
direct-none a b = refl

pub direct-more : (x y : ℕ) (rows : List ℕ) (a b : ℕ) → direct (x ∷ y ∷ rows) a b ≡ (eqb x a && eqb y b || direct rows a b)
unfolding direct
direct-more x y rows a b = refl

pub direct-row : (rows : List ℕ) (a b : ℕ) → T (direct rows a b) → Row rows a b
unfolding direct
direct-row [] a b t = absurd t
direct-row (x ∷ []) a b t = absurd t
direct-row (x ∷ y ∷ rows) a b t = go (or-T (eqb x a && eqb y b) (direct rows a b) t) (direct-row rows a b)
  where
    go : T (eqb x a && eqb y b) ⊎ T (direct rows a b) → (T (direct rows a b) → Row rows a b) → Row (x ∷ y ∷ rows) a b
    go (inl e) ih =
        let p = and_T (eqb x a) (eqb y b) e in
        subst (λ (z : ℕ). Row (x ∷ y ∷ rows) z b) (eqb→eq x a p.0) (subst (λ (z : ℕ). Row (x ∷ y ∷ rows) x z) (eqb→eq y b p.1) here)
    go (inr r) ih = later (ih r)

pub row-direct : {rows : List ℕ} {a b : ℕ} → Row rows a b → T (direct rows a b)
unfolding direct
row-direct (here {a = a} {b = b} {rows = rows}) = T-or₁ (eqb a a && eqb b b) (direct rows a b) (T_and (eqb a a) (eqb b b) (eqb_refl a) (eqb_refl b))
row-direct (later {x = x} {y = y} {a = a} {b = b} {rows = rows} r) = T-or₂ (eqb x a && eqb y b) (direct rows a b) (row-direct r)

-- "a row has a as outer box and b as inner"
pub direct-iff : (rows : List ℕ) (a b : ℕ) → T (direct rows a b) ↔ Row rows a b
direct-iff rows a b = (direct-row rows a b, row-direct)

-- ---- one row more

-- the two ways in which a contains b
abbrev Ways : ℕ → ℕ → List ℕ → ℕ → ℕ → Type 0
Ways x y rows a b = T (contains rows a b) ⊎ (T (around rows a x) × T (around rows y b))

ways : (x y : ℕ) (rows : List ℕ) (a b : ℕ) → T (contains (x ∷ y ∷ rows) a b) → Ways x y rows a b
unfolding contains around
ways x y rows a b t =
    ⊎_map (λ o. o) (and_T (around rows a x) (around rows y b)) (or-T (contains rows a b) (around rows a x && around rows y b) t)

old : (x y : ℕ) (rows : List ℕ) (a b : ℕ) → T (contains rows a b) → T (contains (x ∷ y ∷ rows) a b)
unfolding contains around
old x y rows a b t = T-or₁ (contains rows a b) (around rows a x && around rows y b) t

via : (x y : ℕ) (rows : List ℕ) (a b : ℕ) → T (around rows a x) → T (around rows y b) → T (contains (x ∷ y ∷ rows) a b)
unfolding contains around
via x y rows a b t u = T-or₂ (contains rows a b) (around rows a x && around rows y b) (T_and (around rows a x) (around rows y b) t u)

-- ---- `around`

pub around-test : (rows : List ℕ) (a b : ℕ) → around rows a b ≡ (eqb a b || contains rows a b)
unfolding around
around-test rows a b = refl

pub around-cases : (rows : List ℕ) (a b : ℕ) → T (around rows a b) → (a ≡ b) ⊎ T (contains rows a b)
unfolding around
around-cases rows a b t = ⊎_map (eqb→eq a b) (λ c. c) (or-T (eqb a b) (contains rows a b) t)

pub around-self : (rows : List ℕ) (a : ℕ) → T (around rows a a)
unfolding around
around-self rows a = T-or₁ (eqb a a) (contains rows a a) (eqb_refl a)

pub contains-around : (rows : List ℕ) (a b : ℕ) → T (contains rows a b) → T (around rows a b)
unfolding around
contains-around rows a b t = T-or₂ (eqb a b) (contains rows a b) t

around-ways : (x y : ℕ) (rows : List ℕ) (a b : ℕ) → T (around (x ∷ y ∷ rows) a b) → T (around rows a b) ⊎ (T (around rows a x) × T (around rows y b))
around-ways x y rows a b t =
    ⊎_elim (λ e. inl (subst (λ (z : ℕ). T (around rows a z)) e (around-self rows a))) (λ c. ⊎_map (contains-around rows a b) (λ v. v) (ways x y rows a b c))
    (around-cases (x ∷ y ∷ rows) a b t)

-- ---- a chain is found, and what is found is a chain

join : {rows : List ℕ} {a b c : ℕ} → Chain rows a b → Chain rows b c → Chain rows a c
join (one r) k = more r k
join (more r h) k = more r (join h k)

-- a chain stays one where each row of it stays one
along : {rows new : List ℕ} {a b : ℕ} → ((a b : ℕ) → Row rows a b → Row new a b) → Chain rows a b → Chain new a b
along f (one {a = a} {b = b} r) = one (f a b r)
along f (more {a = a} {b = b} r h) = more (f a b r) (along f h)

pub contains-chain : (rows : List ℕ) (a b : ℕ) → T (contains rows a b) → Chain rows a b
unfolding contains
contains-chain [] a b t = absurd t
contains-chain (x ∷ []) a b t = absurd t
contains-chain (x ∷ y ∷ rows) a b t = go (λ a b t. along (λ a b r. later r) (contains-chain rows a b t)) (ways x y rows a b t)
  where
    go : ((a b : ℕ) → T (contains rows a b) → Chain (x ∷ y ∷ rows) a b) → Ways x y rows a b → Chain (x ∷ y ∷ rows) a b
    go ih (inl o) = ih a b o
    go ih (inr v) = ⊎_elim (λ e. subst (λ (z : ℕ). Chain (x ∷ y ∷ rows) z b) (sym e) back) (λ c. join (ih a x c) back) (around-cases rows a x v.0)
      where
        back : Chain (x ∷ y ∷ rows) x b
        back = ⊎_elim (λ e. subst (λ (z : ℕ). Chain (x ∷ y ∷ rows) x z) e (one here)) (λ c. more here (ih y b c)) (around-cases rows y b v.1)

-- a row, and then nothing or a chain
row-around : {rows : List ℕ} {a b : ℕ} (c : ℕ) → Row rows a b → T (around rows b c) → T (contains rows a c)
row-around c (here {a = a} {b = b} {rows = rows}) t = via a b rows a c (around-self rows a) (⊎_elim (λ o. o) (λ v. v.1) (around-ways a b rows b c t))
row-around c (later {x = x} {y = y} {a = a} {b = b} {rows = rows} r) t =
    ⊎_elim (λ o. old x y rows a c (row-around c r o)) (λ v. via x y rows a c (contains-around rows a x (row-around x r v.0)) v.1) (around-ways x y rows b c t)

pub row-contains : {rows : List ℕ} {a b : ℕ} → Row rows a b → T (contains rows a b)
row-contains {rows} {a} {b} r = row-around b r (around-self rows b)

pub chain-contains : {rows : List ℕ} {a b : ℕ} → Chain rows a b → T (contains rows a b)
chain-contains (one r) = row-contains r
chain-contains {rows} (more {b = b} {c = c} r h) = row-around c r (contains-around rows b c (chain-contains h))

-- "A contains B if a chain of one or more containment rows leads from A to B"
pub contains-iff : (rows : List ℕ) (a b : ℕ) → T (contains rows a b) ↔ Chain rows a b
contains-iff rows a b = (contains-chain rows a b, chain-contains)

pub contains-trans : (rows : List ℕ) (a b c : ℕ) → T (contains rows a b) → T (contains rows b c) → T (contains rows a c)
contains-trans rows a b c s t = chain-contains (join (contains-chain rows a b s) (contains-chain rows b c t))

pub around-trans : (rows : List ℕ) (a b c : ℕ) → T (around rows a b) → T (around rows b c) → T (around rows a c)
around-trans rows a b c s t =
    ⊎_elim (λ e. subst (λ (z : ℕ). T (around rows z c)) (sym e) t)
    (λ h. contains-around rows a c (⊎_elim (λ e. subst (λ (z : ℕ). T (contains rows a z)) e h) (contains-trans rows a b c h) (around-cases rows b c t)))
    (around-cases rows a b s)

-- ---- a box contains something exactly if it is the outer box of a row

row-outer : {rows : List ℕ} {a b : ℕ} → Row rows a b → T (outer rows a)
row-outer (here {a = a} {rows = rows}) = rw outer-more (T-or₁ (eqb a a) (outer rows a) (eqb_refl a))
row-outer (later {x = x} {a = a} {rows = rows} r) = rw outer-more (T-or₂ (eqb x a) (outer rows a) (row-outer r))

chain-outer : {rows : List ℕ} {a b : ℕ} → Chain rows a b → T (outer rows a)
chain-outer (one r) = row-outer r
chain-outer (more r h) = row-outer r

pub contains-outer : (rows : List ℕ) (a b : ℕ) → T (contains rows a b) → T (outer rows a)
contains-outer rows a b t = chain-outer (contains-chain rows a b t)

pub outer-contains : (rows : List ℕ) (a : ℕ) → T (outer rows a) → (b : ℕ) × T (contains rows a b)
outer-contains [] a t = absurd (rw outer-none at t)
outer-contains (x ∷ []) a t = absurd (rw outer-odd at t)
outer-contains (x ∷ y ∷ rows) a t = go (or-T (eqb x a) (outer rows a) (rw outer-more at t)) (outer-contains rows a)
  where
    go : T (eqb x a) ⊎ T (outer rows a) → (T (outer rows a) → (b : ℕ) × T (contains rows a b)) → (b : ℕ) × T (contains (x ∷ y ∷ rows) a b)
    go (inl e) ih = (y, subst (λ (z : ℕ). T (contains (x ∷ y ∷ rows) z y)) (eqb→eq x a e) (row-contains here))
    go (inr o) ih = let r = ih o in (r.0, old x y rows a r.0 r.1)

-- the atomic boxes of a side are its boxes that are no user group and no folder and contain nothing
pub atomic-iff : (boxes rows : List ℕ) (s b : ℕ)
    → T (atom boxes rows s b) ↔ (T (on_side boxes s b) × (T (is_group (get_or boxes b 0)) → ⊥) × ((a : ℕ) → T (contains rows b a) → ⊥))
atomic-iff boxes rows s b = (
  λ t. let p = (atom-iff boxes rows s b).0 t in (p.0, p.1, λ a c. p.2 (contains-outer rows b a c)),
  λ h. (atom-iff boxes rows s b).1 (h.0, h.1, λ o. let c = outer-contains rows b o in h.2 c.0 c.1),
)

-- a user group or folder that holds nothing is around no atomic box
pub emptied-around : (boxes rows : List ℕ) (s b a : ℕ) → T (is_group (get_or boxes b 0)) → (T (outer rows b) → ⊥) → T (atom boxes rows s a)
    → around rows b a ≡ false
emptied-around boxes rows s b a g o t =
    not-false (around rows b a) (λ r. ⊎_elim
    (λ e. ((atom-iff boxes rows s a).0 t).1 (subst (λ (z : ℕ). T (is_group (get_or boxes z 0))) e g))
    (λ c. o (contains-outer rows b a c)) (around-cases rows b a r))

-- ---- tables with the same rows

module _ (rows new : List ℕ) (same : (a b : ℕ) → Row rows a b ↔ Row new a b) where
  -- contain the same
  pub same-contains : (a b : ℕ) → contains rows a b ≡ contains new a b
  same-contains a b =
      T-same (contains rows a b) (contains new a b)
      (λ t. chain-contains (along (λ a b. (same a b).0) (contains-chain rows a b t)))
      (λ t. chain-contains (along (λ a b. (same a b).1) (contains-chain new a b t)))

  -- directly too
  pub same-direct : (a b : ℕ) → direct rows a b ≡ direct new a b
  same-direct a b =
      T-same (direct rows a b) (direct new a b)
      (λ t. row-direct ((same a b).0 (direct-row rows a b t))) (λ t. row-direct ((same a b).1 (direct-row new a b t)))

  -- and have the same outer boxes
  pub same-outer : (a : ℕ) → outer rows a ≡ outer new a
  same-outer a =
      T-same (outer rows a) (outer new a)
      (λ t. let c = outer-contains rows a t in contains-outer new a c.0 (subst T (same-contains a c.0) c.1))
      (λ t. let c = outer-contains new a t in contains-outer rows a c.0 (subst T (sym (same-contains a c.0)) c.1))

-- a table with one more row (x, y), after whole rows, has the rows of the one without it
module _ (x y : ℕ) (after : List ℕ) where
  with_row : (before : List ℕ) → length before % 2 ≡ 0 → {a b : ℕ} → Row (before ++ after) a b → Row (before ++ (x ∷ y ∷ after)) a b
  with_row [] e r = later r
  with_row (v ∷ []) e r = absurd (omega arith)
  with_row (v ∷ w ∷ before) e here = here
  with_row (v ∷ w ∷ before) e (later r) = later (with_row before (omega arith) r)

  -- and that row: what holds of both holds of each
  without-row : (before : List ℕ) → length before % 2 ≡ 0 → (P : ℕ → ℕ → Type 0) → P x y
      → ((a b : ℕ) → Row (before ++ after) a b → P a b) → (a b : ℕ) → Row (before ++ (x ∷ y ∷ after)) a b → P a b
  without-row [] e P h f a b here = h
  without-row [] e P h f a b (later r) = f a b r
  without-row (v ∷ []) e P h f a b r = absurd (omega arith)
  without-row (v ∷ w ∷ before) e P h f a b here = f a b here
  without-row (v ∷ w ∷ before) e P h f a b (later r) = without-row before (omega arith) P h (λ a b r. f a b (later r)) a b r

  -- a repeated row, wherever it stands
  pub repeated : (before : List ℕ) → length before % 2 ≡ 0 → Row (before ++ after) x y
      → (a b : ℕ) → Row (before ++ (x ∷ y ∷ after)) a b ↔ Row (before ++ after) a b
  repeated before e r a b = (without-row before e (Row (before ++ after)) r (λ a b s. s) a b, with_row before e)

  -- "A repeated pair changes nothing"
  pub contains-repeat : (before : List ℕ) → length before % 2 ≡ 0 → Row (before ++ after) x y
      → (a b : ℕ) → contains (before ++ (x ∷ y ∷ after)) a b ≡ contains (before ++ after) a b
  contains-repeat before e r = same-contains (before ++ (x ∷ y ∷ after)) (before ++ after) (repeated before e r)

-- ---- after check 10

pub irreflexive : (boxes rows : List ℕ) → loop_fault boxes rows ≡ none → (b : ℕ) → b < length boxes → T (contains rows b b) → ⊥
unfolding loop_fault
irreflexive boxes rows e b l =
    given-none (contains rows b b) (InItself b) (first-none (λ c. given (contains rows c c) (InItself c)) (length boxes) e b l)
