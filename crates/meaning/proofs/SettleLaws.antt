-- The answer of a pair by its lowest certificate and by the lowest arrows that reach it, and each answer by its two tests and its number.
-- Assumes nothing.
use mathlib.Core.Path.{◌≡◌, refl}
use mathlib.Core.Bool.{Bool, true, false}
use Rattle.std.specs.Prelude.{Option, None as none, Some as some}
use Prim.Native.Nat.{ℕ, ◌<◌, ◌≤◌}
use native.Mathlib.Decide.{ℕ_discrete}
use native.Mathlib.Omega.{arith}
use lib.Dec.{T}
use Rattle.base.specs.Search.{lowest}
use Rattle.base.proofs.SearchLaws.{lowest-some}
use Rattle.base.proofs.SelectLaws.{lowest-nothing}
use Rattle.tables.specs.Rows.{Picture, arrow_count}
use Rattle.meaning.specs.Meaning.{positive, negative, settle, hits, certifies, answer, is_granted, is_unclear, number_of, byte_of}
use Rattle.meaning.specs.declared.Entry.{Entry}
use Rattle.meaning.specs.declared.Entry.TheVariants.{Granted, Denied, Default, Unclear}
use Rattle.meaning.proofs.AnswerLaws.{one-sign}

-- ---- an answer by its two tests and its number

-- whether it grants, whether it is unclear, and its number
abbrev pub Tells : Entry → Bool → Bool → ℕ → Type 0
Tells e granted unclear number = (is_granted e ≡ granted) × (is_unclear e ≡ unclear) × (number_of e ≡ number)

pub granted-tells : (k : ℕ) → Tells (Granted k) true false k
unfolding is_granted is_unclear number_of byte_of
granted-tells k = (refl, refl, refl)

pub denied-tells : (k : ℕ) → Tells (Denied k) false false k
unfolding is_granted is_unclear number_of byte_of
denied-tells k = (refl, refl, refl)

pub default-tells : Tells Default false false 65535
unfolding is_granted is_unclear number_of byte_of
default-tells = (refl, refl, refl)

pub unclear-tells : (p n : ℕ) → Tells (Unclear p n) false true 65535
unfolding is_granted is_unclear number_of byte_of
unclear-tells p n = (refl, refl, refl)

-- an answer that grants does so with its number
pub granted-number : (e : Entry) → T (is_granted e) → Granted (number_of e) ≡ e
unfolding is_granted number_of byte_of
granted-number (Granted k) t = refl
granted-number (Denied k) t = absurd t
granted-number Default t = absurd t
granted-number (Unclear p n) t = absurd t

module _ (pic : Picture) (m u f : ℕ) where
  abbrev count : ℕ
  count = arrow_count pic.arrows

  -- ---- by the lowest certificate, or without one

  pub grants-with : (k : ℕ) → lowest (certifies pic m positive negative u f) count ≡ some k → answer pic m u f ≡ Granted k
  unfolding answer settle
  grants-with k e = rw e

  pub denies-with : (k : ℕ) → lowest (certifies pic m negative positive u f) count ≡ some k → answer pic m u f ≡ Denied k
  unfolding answer settle
  denies-with k e =
      let (l, t, low) = lowest-some (certifies pic m negative positive u f) count k e in
      rw (lowest-nothing (certifies pic m positive negative u f) count (λ j h p. one-sign pic m u f j k h l p t), e)

  pub unclear-with : (p n : ℕ) → lowest (certifies pic m positive negative u f) count ≡ none → lowest (certifies pic m negative positive u f) count ≡ none
      → lowest (hits pic m positive u f) count ≡ some p → lowest (hits pic m negative u f) count ≡ some n → answer pic m u f ≡ Unclear p n
  unfolding answer settle
  unclear-with p n a b c d = rw (a, b, c, d)

  -- ---- an unclear pair has an arrow of each sign, and names the lowest

  pub unclear-names : T (is_unclear (answer pic m u f))
      → (p n : ℕ) × (lowest (hits pic m positive u f) count ≡ some p) × (lowest (hits pic m negative u f) count ≡ some n)
      × (answer pic m u f ≡ Unclear p n)
  unfolding answer settle is_unclear byte_of
  unclear-names t =
      go (lowest (certifies pic m positive negative u f) count) (lowest (certifies pic m negative positive u f) count)
      (lowest (hits pic m positive u f) count) (lowest (hits pic m negative u f) count) t
    where
      go : (a b c d : Option ℕ) → T (is_unclear (settle a b c d)) → (p n : ℕ) × (c ≡ some p) × (d ≡ some n) × (settle a b c d ≡ Unclear p n)
      go (some k) b c d t = absurd t
      go none (some k) c d t = absurd t
      go none none (some p) (some n) t = (p, n, refl, refl, refl)
      go none none (some p) none t = absurd t
      go none none none d t = absurd t

  -- so it is hit by each sign
  pub unclear-hits : T (is_unclear (answer pic m u f)) → (s : ℕ) → s ≤ 1 → (k : ℕ) × (k < count) × T (hits pic m s u f k)
  unclear-hits t s small =
      let (p, n, a, b, r) = unclear-names t in
      let i = lowest-some (hits pic m positive u f) count p a in
      let j = lowest-some (hits pic m negative u f) count n b in
      go (ℕ_discrete s positive) (p, i.0, i.1) (n, j.0, j.1)
    where
      go : Dec (s ≡ positive) → (k : ℕ) × (k < count) × T (hits pic m positive u f k) → (k : ℕ) × (k < count) × T (hits pic m negative u f k)
          → (k : ℕ) × (k < count) × T (hits pic m s u f k)
      go (yes e) p n = rw e p
      go (no e) p n = let z : s ≡ negative = omega arith in rw z n

  -- ---- what is neither granted nor unclear is denied by an arrow if its number is one, else by default

  pub denied-number : count ≤ 512 → (T (is_granted (answer pic m u f)) → ⊥) → (T (is_unclear (answer pic m u f)) → ⊥)
      → (number_of (answer pic m u f) < 65535 → Denied (number_of (answer pic m u f)) ≡ answer pic m u f)
      × (65535 ≤ number_of (answer pic m u f) → Default ≡ answer pic m u f)
  unfolding answer settle is_unclear is_granted number_of byte_of
  denied-number few g n =
      go (lowest (certifies pic m positive negative u f) count) (lowest (certifies pic m negative positive u f) count) refl
      (lowest (hits pic m positive u f) count) (lowest (hits pic m negative u f) count) g n
    where
      go : (a b : Option ℕ) → lowest (certifies pic m negative positive u f) count ≡ b → (c d : Option ℕ)
          → (T (is_granted (settle a b c d)) → ⊥) → (T (is_unclear (settle a b c d)) → ⊥)
          → (number_of (settle a b c d) < 65535 → Denied (number_of (settle a b c d)) ≡ settle a b c d)
          × (65535 ≤ number_of (settle a b c d) → Default ≡ settle a b c d)
      go (some k) b e c d g n = absurd (g tt)
      go none (some k) e c d g n = (λ l. refl, λ l. absurd (omega (arith, (lowest-some _ count k e).0)))
      go none none e (some p) (some q) g n = absurd (n tt)
      go none none e (some p) none g n = (λ l. absurd (omega arith), λ l. refl)
      go none none e none d g n = (λ l. absurd (omega arith), λ l. refl)
