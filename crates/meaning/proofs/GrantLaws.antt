-- An answer grants exactly if its granting arrow is not 65,535, the number of no arrow. Assumes nothing.
use mathlib.Core.Path.{◌≡◌, refl, sym}
use Rattle.std.specs.Prelude.{Option, None as none, Some as some}
use Prim.Native.Nat.{ℕ, ◌<◌, ◌≤◌}
use native.Mathlib.Omega.{arith}
use borrow.Author.Tests.{lt-ltb}
use lib.Dec.{ltb}
use Rattle.tables.specs.Rows.{Picture, arrow_count}
use Rattle.base.proofs.SearchLaws.{lowest-some}
use Rattle.meaning.specs.Meaning.{settle, answer, is_granted, byte_of, number_of}
use Rattle.meaning.specs.Steps.{granting_of}
use Rattle.meaning.specs.Pairs.{answer_at}

-- where the certificates are numbers of arrows
settled : (c d p n : Option ℕ) → ((k : ℕ) → c ≡ some k → k < 65535) → is_granted (settle c d p n) ≡ ltb (granting_of (settle c d p n)) 65535
unfolding settle is_granted granting_of number_of byte_of
settled (some k) d p n h = sym (lt-ltb k 65535 (h k refl))
settled none (some k) p n h = refl
settled none none (some p) (some n) h = refl
settled none none (some p) none h = refl
settled none none none n h = refl

pub grants-by : (pic : Picture) (m p : ℕ) → arrow_count pic.arrows ≤ 512
    → is_granted (answer_at pic m p) ≡ ltb (granting_of (answer_at pic m p)) 65535
unfolding answer_at answer
grants-by pic m p few =
    settled _ _ _ _ (λ k e. omega (arith, (lowest-some _ (arrow_count pic.arrows) k e).0))
