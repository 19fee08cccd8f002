-- For the crates above: the mode's arrows as the numbers at which a test holds, the answer at a place, what reaches a pair, and what is
-- nested in what. Assumes nothing.
use mathlib.Core.Path.{◌≡◌, refl}
use mathlib.Core.Bool.{◌&&◌}
use mathlib.Core.List.{List}
use Prim.Native.Nat.{ℕ, ◌<◌, ◌≤◌}
use native.Mathlib.Omega.{arith}
use native.Mathlib.Nat.{eq-zero-or-pos}
use mathlib.Core.Logic.{⊎_elim}
use lib.Dec.{eqb, eqb→eq}
use lib.ListN.{length}
use Rattle.base.specs.Search.{select}
use Rattle.base.proofs.SelectLaws.{select-found, select_has}
use Rattle.base.proofs.Tests.{T-eqb}
use Rattle.tables.specs.Rows.{Picture, arrow_count, arrow_at}
use Rattle.tables.specs.declared.Arrow.{Arrow}
use Rattle.containment.specs.Contains.{contains, around}
use Rattle.meaning.specs.Meaning.{reaches, nests, hits, answer, has_mode, mode_arrows}
use Rattle.meaning.specs.Pairs.{user_at, file_at, answer_at}

pub has_mode-is : (arrows : List ℕ) (m k : ℕ) → has_mode arrows m k ≡ eqb (arrow_at arrows k).mode m
unfolding has_mode
has_mode-is arrows m k = refl

pub mode-select : (arrows : List ℕ) (m : ℕ) → mode_arrows arrows m ≡ select (has_mode arrows m) (arrow_count arrows)
unfolding mode_arrows
mode-select arrows m = refl

module _ (arrows : List ℕ) (m : ℕ) where
  -- a mode with an arrow has some, and one without has none
  pub mode-some : (k : ℕ) → k < arrow_count arrows → (arrow_at arrows k).mode ≡ m → 0 < length (mode_arrows arrows m)
  unfolding has_mode
  mode-some k l e = let there = select_has (has_mode arrows m) (arrow_count arrows) k l (T-eqb e) in rw mode-select (omega (arith, there.1))

  pub mode-none : ((k : ℕ) → k < arrow_count arrows → (arrow_at arrows k).mode ≡ m → ⊥) → length (mode_arrows arrows m) ≤ 0
  unfolding has_mode
  mode-none none =
      ⊎_elim
      (λ e. omega arith)
      (λ l.
      let there = select-found (has_mode arrows m) (arrow_count arrows) 0 (rw mode-select at l) in
      absurd (none _ there.0 (eqb→eq _ m there.1)))
      (eq-zero-or-pos (length (mode_arrows arrows m)))

module _ (pic : Picture) (m : ℕ) where
  pub answer_at_lem : (p : ℕ) → answer_at pic m p ≡ answer pic m (user_at pic p) (file_at pic p)
  unfolding answer_at
  answer_at_lem p = refl

pub reaches-is : (pic : Picture) (a : Arrow) (u f : ℕ) → reaches pic a u f ≡ (around pic.rows a.tail u && around pic.rows a.head f)
unfolding reaches
reaches-is pic a u f = refl

-- a hit, by its mode, its sign and its two ends
pub hits-ends : (pic : Picture) (m s u f k : ℕ) → hits pic m s u f k
    ≡ (has_mode pic.arrows m k && (eqb (arrow_at pic.arrows k).sign s
    && (around pic.rows (arrow_at pic.arrows k).tail u && around pic.rows (arrow_at pic.arrows k).head f)))
unfolding hits reaches
hits-ends pic m s u f k = refl

pub nests-is : (pic : Picture) (a b : ℕ) → nests pic a b ≡ contains pic.rows a b
unfolding nests
nests-is pic a b = refl
