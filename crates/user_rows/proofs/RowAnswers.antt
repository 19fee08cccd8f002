-- The answer of a pair by its lowest certificate and by which signs reach it. Assumes nothing.
use mathlib.Core.Path.{◌≡◌, refl, sym, ◌∙◌}
use mathlib.Core.Logic.{◌⊎◌, ⊎_elim}
use mathlib.Core.Bool.{Bool, true, false, cond}
use Rattle.std.specs.Prelude.{Option, None as none, Some as some}
use Prim.Native.Nat.{ℕ, ◌<◌}
use lib.Dec.{T, eqb}
use Rattle.base.specs.Search.{lowest}
use Rattle.base.proofs.Tests.{T?, T_true, not-false}
use Rattle.base.proofs.SearchLaws.{lowest-some, lowest-none}
use Rattle.base.proofs.SelectLaws.{lowest-is, lowest-nothing}
use Rattle.tables.specs.Rows.{Picture, arrow_count, arrow_at}
use Rattle.meaning.specs.Meaning.{positive, negative, hits, certifies, answer, is_granted, is_unclear}
use Rattle.meaning.specs.declared.Entry.TheVariants.{Granted, Denied}
use Rattle.meaning.proofs.AnswerLaws.{certifies-is, hit-sign, unhit-default}
use Rattle.meaning.proofs.SettleLaws.{Tells, granted-tells, denied-tells, default-tells, unclear-tells, grants-with, denies-with, unclear-with}
use Rattle.certificates.specs.Blocks.{reached_by}
use Rattle.user_rows.specs.Row.{shows, said_by}
use Rattle.certificates.proofs.ReachLaws.{reached-hit, reached-found}
use Rattle.user_rows.proofs.ShowLaws.{shows-parts, shows-grants, shows-denies, shows-hits, certifies-sign}

-- what an arrow says
said-tells : (s k : ℕ) → Tells (said_by s k) (eqb s positive) false k
unfolding said_by
said-tells s k = go (eqb s positive)
  where
    go : (b : Bool) → Tells (cond b (Granted k) (Denied k)) b false k
    go true = granted-tells k
    go false = denied-tells k

module _ (pic : Picture) (m u f : ℕ) where
  abbrev count : ℕ
  count = arrow_count pic.arrows

  -- ---- by the lowest certificate

  shown-said : (k : ℕ) → lowest (shows pic m u f) count ≡ some k → answer pic m u f ≡ said_by (arrow_at pic.arrows k).sign k
  unfolding said_by
  shown-said k e =
      let g = lowest-some (shows pic m u f) count k e in
      ⊎_elim
      (λ p. rw (certifies-sign pic m u f positive negative k p)
      (grants-with pic m u f k
      (lowest-is (certifies pic m positive negative u f) count k g.0 p (λ j l t. g.2 j l (shows-grants pic m u f j t)))))
      (λ n. rw (certifies-sign pic m u f negative positive k n)
      (denies-with pic m u f k
      (lowest-is (certifies pic m negative positive u f) count k g.0 n (λ j l t. g.2 j l (shows-denies pic m u f j t)))))
      (shows-parts pic m u f k g.1)

  pub shown-row : (k : ℕ) → lowest (shows pic m u f) count ≡ some k
      → Tells (answer pic m u f) (eqb (arrow_at pic.arrows k).sign positive) false k
  shown-row k e = rw (shown-said k e) (said-tells (arrow_at pic.arrows k).sign k)

  -- ---- which signs reach the pair

  -- a pair that one sign only reaches has a certificate
  other_sign : lowest (shows pic m u f) count ≡ none → (s o : ℕ) → ((k : ℕ) → T (certifies pic m s o u f k) → T (shows pic m u f k))
      → T (reached_by pic m s u f) → T (reached_by pic m o u f)
  other_sign e s o to r = go (T? (reached_by pic m o u f))
    where
      go : Dec (T (reached_by pic m o u f)) → T (reached_by pic m o u f)
      go (yes t) = t
      go (no n) =
          let h = reached-found pic m u f s r in
          absurd
          (lowest-none (shows pic m u f) count e h.0 h.1
          (to h.0 (certifies-is pic m u f s o h.0 h.2 (λ j l t. absurd (n (reached-hit pic m u f o j l t))))))

  -- ---- a pair without a certificate: no arrow reaches it, or both signs do

  none-certifies : lowest (shows pic m u f) count ≡ none
      → (lowest (certifies pic m positive negative u f) count ≡ none) × (lowest (certifies pic m negative positive u f) count ≡ none)
  none-certifies e = (
    lowest-nothing (certifies pic m positive negative u f) count (λ j l t. lowest-none (shows pic m u f) count e j l (shows-grants pic m u f j t)),
    lowest-nothing (certifies pic m negative positive u f) count (λ j l t. lowest-none (shows pic m u f) count e j l (shows-denies pic m u f j t)),
  )

  hits-some : (s : ℕ) → T (reached_by pic m s u f) → (k : ℕ) × (lowest (hits pic m s u f) count ≡ some k)
  hits-some s t = go (lowest (hits pic m s u f) count) refl
    where
      go : (r : Option ℕ) → lowest (hits pic m s u f) count ≡ r → (k : ℕ) × (lowest (hits pic m s u f) count ≡ some k)
      go (some k) e = (k, e)
      go none e = let h = reached-found pic m u f s t in absurd (lowest-none (hits pic m s u f) count e h.0 h.1 h.2)

  pub reached-unclear : lowest (shows pic m u f) count ≡ none → T (reached_by pic m positive u f) ⊎ T (reached_by pic m negative u f)
      → Tells (answer pic m u f) false true 65535
  reached-unclear e r =
      let both : T (reached_by pic m positive u f) × T (reached_by pic m negative u f)
      = ⊎_elim
      (λ p. (p, other_sign e positive negative (shows-grants pic m u f) p))
      (λ n. (other_sign e negative positive (shows-denies pic m u f) n, n)) r in
      let c = none-certifies e in
      let i = hits-some positive both.0 in
      let j = hits-some negative both.1 in
      rw (unclear-with pic m u f i.0 j.0 c.0 c.1 i.1 j.1) (unclear-tells i.0 j.0)

  none-hits : (s : ℕ) → (T (reached_by pic m s u f) → ⊥) → (k : ℕ) → k < count → T (hits pic m s u f k) → ⊥
  none-hits s n k l t = n (reached-hit pic m u f s k l t)

  pub unreached : (T (reached_by pic m positive u f) → ⊥) → (T (reached_by pic m negative u f) → ⊥) → Tells (answer pic m u f) false false 65535
  unreached p n = rw (unhit-default pic m u f (none-hits positive p) (none-hits negative n)) default-tells

  -- a pair that not both signs reach is granted exactly if the positive one does, and it is clear
  pub one-sided : (T (reached_by pic m positive u f) → T (reached_by pic m negative u f) → ⊥)
      → (is_granted (answer pic m u f) ≡ reached_by pic m positive u f) × (is_unclear (answer pic m u f) ≡ false)
  one-sided not-both = go (lowest (shows pic m u f) count) refl
    where
      says : (k : ℕ) → lowest (shows pic m u f) count ≡ some k → T (hits pic m positive u f k) ⊎ T (hits pic m negative u f k)
          → eqb (arrow_at pic.arrows k).sign positive ≡ reached_by pic m positive u f
      says k e h =
          let l = (lowest-some (shows pic m u f) count k e).0 in
          ⊎_elim
          (λ p. rw (hit-sign pic m u f positive k p) (sym (T_true (reached_by pic m positive u f) (reached-hit pic m u f positive k l p))))
          (λ n. rw (hit-sign pic m u f negative k n) (sym (not-false (reached_by pic m positive u f) (λ t. not-both t (reached-hit pic m u f negative k l n)))))
          h

      go : (r : Option ℕ) → lowest (shows pic m u f) count ≡ r
          → (is_granted (answer pic m u f) ≡ reached_by pic m positive u f) × (is_unclear (answer pic m u f) ≡ false)
      go (some k) e =
          let s = shown-row k e in
          (s.0 ∙ says k e (shows-hits pic m u f k (lowest-some (shows pic m u f) count k e).1), s.1)
      go none e =
          let no-positive : T (reached_by pic m positive u f) → ⊥ = λ t. not-both t (other_sign e positive negative (shows-grants pic m u f) t) in
          let no-negative : T (reached_by pic m negative u f) → ⊥ = λ t. not-both (other_sign e negative positive (shows-denies pic m u f) t) t in
          let d = unreached no-positive no-negative in
          (d.0 ∙ sym (not-false (reached_by pic m positive u f) no-positive), d.1)
