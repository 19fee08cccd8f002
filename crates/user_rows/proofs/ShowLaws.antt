-- One test for certificates of both signs: what it is for an arrow around the user, and the lowest of them. Assumes nothing.
use mathlib.Core.Path.{◌≡◌, sym, ap, subst, ◌∙◌}
use mathlib.Core.Logic.{◌⊎◌, ⊎_elim, ⊎_map}
use mathlib.Core.Bool.{Bool, false, or-false}
use mathlib.Core.List.{List}
use Rattle.std.specs.Prelude.{None as none, Some as some}
use Prim.Native.Nat.{ℕ, ◌+◌, ◌<◌}
use native.Mathlib.Omega.{arith}
use lib.Dec.{T}
use lib.ListN.{length, get_or}
use Rattle.base.specs.Search.{lowest}
use Rattle.base.proofs.Tests.{or-T, T-or₁, T-or₂, and_T, T-eqb, not-false}
use Rattle.tables.specs.Rows.{Picture, arrow_count, arrow_at}
use Rattle.tables.specs.Steps.{SoundArrows}
use Rattle.tables.specs.declared.Arrow.{Arrow}
use Rattle.containment.specs.Contains.{around}
use Rattle.meaning.specs.Meaning.{positive, negative, has_mode, hits, certifies}
use Rattle.meaning.proofs.AnswerLaws.{hit-mode, hit-sign, hit-reaches, certifies-hits}
use Rattle.meaning.proofs.CertificateLaws.{certifies-repeat}
use Rattle.meaning.proofs.ModeLaws.{has_mode-is, reaches-is}
use Rattle.boxsets.specs.Sets.{has}
use Rattle.mode_sets.specs.Mode.{same, own_arrows}
use Rattle.mode_sets.proofs.SameLaws.{same_parts}
use Rattle.mode_sets.proofs.OwnLaws.{own_first, own-nothing}
use Rattle.mode_sets.proofs.HeadLaws.{tail-there, head-there, leaves-has}
use Rattle.certificates.specs.Steps.{Drawn}
use Rattle.certificates.specs.Blocks.{certified}
use Rattle.certificates.proofs.BlockLaws.{certified-is}
use Rattle.user_rows.specs.Row.{shows}

module _ (pic : Picture) (m u f : ℕ) where
  pub shows-parts : (k : ℕ) → T (shows pic m u f k)
      → T (certifies pic m positive negative u f k) ⊎ T (certifies pic m negative positive u f k)
  unfolding shows
  shows-parts k t = or-T (certifies pic m positive negative u f k) (certifies pic m negative positive u f k) t

  pub shows-grants : (k : ℕ) → T (certifies pic m positive negative u f k) → T (shows pic m u f k)
  unfolding shows
  shows-grants k t = T-or₁ (certifies pic m positive negative u f k) (certifies pic m negative positive u f k) t

  pub shows-denies : (k : ℕ) → T (certifies pic m negative positive u f k) → T (shows pic m u f k)
  unfolding shows
  shows-denies k t = T-or₂ (certifies pic m positive negative u f k) (certifies pic m negative positive u f k) t

  -- a certificate is of its own sign and of the mode, and its tail is around the user
  pub certifies-sign : (s o k : ℕ) → T (certifies pic m s o u f k) → (arrow_at pic.arrows k).sign ≡ s
  certifies-sign s o k t = hit-sign pic m u f s k (certifies-hits pic m u f s o k t)

  pub shows-hits : (k : ℕ) → T (shows pic m u f k) → T (hits pic m positive u f k) ⊎ T (hits pic m negative u f k)
  shows-hits k t =
      ⊎_map (certifies-hits pic m u f positive negative k) (certifies-hits pic m u f negative positive k) (shows-parts k t)

  shows-mode : (k : ℕ) → T (shows pic m u f k) → T (has_mode pic.arrows m k)
  shows-mode k t = rw has_mode-is (T-eqb (⊎_elim (hit-mode pic m u f positive k) (hit-mode pic m u f negative k) (shows-hits k t)))

  pub shows-around : (k : ℕ) → T (shows pic m u f k) → T (around pic.rows (arrow_at pic.arrows k).tail u)
  shows-around k t = ⊎_elim (tail positive) (tail negative) (shows-hits k t)
    where
      tail : (s : ℕ) → T (hits pic m s u f k) → T (around pic.rows (arrow_at pic.arrows k).tail u)
      tail s h =
          (and_T (around pic.rows (arrow_at pic.arrows k).tail u) (around pic.rows (arrow_at pic.arrows k).head f)
          (subst T (reaches-is pic (arrow_at pic.arrows k) u f) (hit-reaches pic m u f s k h))).0

  -- for an arrow of the mode around the user it is `certified` against the other sign
  pub shows-certified : SoundArrows pic.boxes pic.arrows → (s o k : ℕ) → ((s ≡ positive) × (o ≡ negative)) ⊎ ((s ≡ negative) × (o ≡ positive))
      → (arrow_at pic.arrows k).sign ≡ s → T (has_mode pic.arrows m k) → T (around pic.rows (arrow_at pic.arrows k).tail u)
      → shows pic m u f k ≡ certified pic m o u (arrow_at pic.arrows k) f
  unfolding shows
  shows-certified sound s o k signs sign-is mode-is tail-is =
      ⊎_elim
      (λ e.
      let other : certifies pic m negative positive u f k ≡ false
      = not-false (certifies pic m negative positive u f k) (λ t. let i = certifies-sign negative positive k t in absurd (omega (arith, e.0))) in
      rw other (or-false (certifies pic m positive negative u f k)) ∙ own positive negative (sign-is ∙ e.0) ∙ ap against (sym e.1))
      (λ e.
      let other : certifies pic m positive negative u f k ≡ false
      = not-false (certifies pic m positive negative u f k) (λ t. let i = certifies-sign positive negative k t in absurd (omega (arith, e.0))) in
      rw other (own negative positive (sign-is ∙ e.0)) ∙ ap against (sym e.1))
      signs
    where
      against : ℕ → Bool
      against z = certified pic m z u (arrow_at pic.arrows k) f

      own : (v w : ℕ) → (arrow_at pic.arrows k).sign ≡ v → certifies pic m v w u f k ≡ against w
      own v w e =
          certified-is pic sound m v w u f k
          (leaves-has pic.arrows m v (λ t. around pic.rows t u) k mode-is e tail-is)

  -- ---- repeats: a certificate depends on ends, mode and sign only

  same-arrow : (k j : ℕ) → T (same pic.arrows k j) → arrow_at pic.arrows k ≡ arrow_at pic.arrows j
  same-arrow k j t =
      let e = same_parts pic.arrows k j t in
      λ i. record { tail = e.0 i; head = e.1 i; mode = e.2 i; sign = e.3 i }

  certifies-same : (s o k j : ℕ) → T (same pic.arrows k j) → certifies pic m s o u f k ≡ certifies pic m s o u f j
  certifies-same s o k j t = certifies-repeat pic m u f s o k j (same-arrow k j t)

  shows_same : (k j : ℕ) → T (same pic.arrows k j) → T (shows pic m u f k) → T (shows pic m u f j)
  unfolding shows
  shows_same k j t r = rw (← certifies-same positive negative k j t, ← certifies-same negative positive k j t) r

  -- the first place with a certificate has the lowest one; no place, none at all
  pub own-shown : (i : ℕ) → i < length (own_arrows pic.arrows m) → T (shows pic m u f (get_or (own_arrows pic.arrows m) i 0))
      → ((j : ℕ) → j < i → T (shows pic m u f (get_or (own_arrows pic.arrows m) j 0)) → ⊥)
      → lowest (shows pic m u f) (arrow_count pic.arrows) ≡ some (get_or (own_arrows pic.arrows m) i 0)
  own-shown = own_first pic.arrows m (shows pic m u f) shows-mode (λ k j b l. shows_same k j)

  pub own-none : ((i : ℕ) → i < length (own_arrows pic.arrows m) → T (shows pic m u f (get_or (own_arrows pic.arrows m) i 0)) → ⊥)
      → lowest (shows pic m u f) (arrow_count pic.arrows) ≡ none
  own-none = own-nothing pic.arrows m (shows pic m u f) shows-mode (λ k j b l. shows_same k j)

-- ---- for an arrow that the code has read

module _ (pic : Picture) (m u k : ℕ) (closure : List ℕ) (d : Drawn pic closure) (there : u < length pic.boxes) (a : Arrow)
    (a-is : a ≡ arrow_at pic.arrows k) (l : k < arrow_count pic.arrows) where
  pub ends_there : (a.tail < length pic.boxes) × (a.head < length pic.boxes) × (u < length pic.boxes)
  ends_there = rw a-is (
    tail-there pic.boxes pic.arrows d.arrows-sound k l,
    head-there pic.boxes pic.arrows d.arrows-sound k l,
    there,
  )

  pub shown_by : T (has_mode pic.arrows m k) → T (has closure (256 + u) a.tail)
      → (s o : ℕ) → ((s ≡ positive) × (o ≡ negative)) ⊎ ((s ≡ negative) × (o ≡ positive)) → a.sign ≡ s
      → (f : ℕ) → shows pic m u f k ≡ certified pic m o u a f
  shown_by mode-is tail-is s o signs sign-is f =
      shows-certified pic m u f d.arrows-sound s o k signs (sym (ap (λ (x : Arrow). x.sign) a-is) ∙ sign-is) mode-is
      (subst T (ap (λ (x : Arrow). has closure (256 + u) x.tail) a-is ∙ d.closed.up (arrow_at pic.arrows k).tail u there) tail-is)
      ∙ ap (λ (x : Arrow). certified pic m o u x f) (sym a-is)
