-- The tails of a mode's arrows: each arrow of the mode has one. Assumes nothing.
use mathlib.Core.List.{List}
use Prim.Native.Nat.{ℕ, ◌<◌}
use lib.Dec.{T, eqb, eqb_refl}
use Rattle.base.proofs.Tests.{T_and}
use Rattle.base.proofs.AnyLaws.{any-is}
use Rattle.tables.specs.Rows.{arrow_count, arrow_at}
use Rattle.meaning.specs.Meaning.{has_mode}
use Rattle.mode_sets.specs.Mode.{leaves, tails_below}

pub tail-taken : (arrows : List ℕ) (m k : ℕ) → k < arrow_count arrows → T (has_mode arrows m k)
    → T (tails_below arrows m (arrow_count arrows) (arrow_at arrows k).sign (arrow_at arrows k).tail)
unfolding tails_below leaves
tail-taken arrows m k l t =
    let a = arrow_at arrows k in
    any-is (leaves arrows m a.sign (λ x. eqb x a.tail)) (arrow_count arrows) k l
    (T_and (has_mode arrows m k) _ t (T_and (eqb a.sign a.sign) (eqb a.tail a.tail) (eqb_refl a.sign) (eqb_refl a.tail)))
