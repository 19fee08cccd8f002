-- A row of answers: one user and many files at once. Assumes nothing.
use Rattle.std.specs.Prelude.{Bool, ◌||◌, cond, ℕ, eqb}
use Rattle.tables.specs.Rows.{Picture}
use Rattle.meaning.specs.Meaning.{positive, negative, certifies}
use Rattle.meaning.specs.declared.Entry.{Entry}
use Rattle.meaning.specs.declared.Entry.TheVariants.{Granted, Denied}

-- what an arrow of the sign says of the pair
unfoldable pub said_by : (sign k : ℕ) → Entry
said_by sign k = cond (eqb sign positive) (Granted k) (Denied k)

module _ (pic : Picture) (mode : ℕ) where
  -- arrow k is a certificate, of its own sign
  unfoldable pub shows : (u f k : ℕ) → Bool
  shows u f k = certifies pic mode positive negative u f k || certifies pic mode negative positive u f k
