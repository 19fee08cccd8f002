-- What the functions above ask of and promise each other is said with these. Assumes nothing.
use Rattle.std.specs.Prelude.{Bool, true, false, ◌||◌, ℕ, zero, suc}

-- the test holds at some number
unfoldable pub any_below : (p : ℕ → Bool) (n : ℕ) → Bool
any_below p zero = false
any_below p (suc n) = any_below p n || p n

-- a test as a byte
unfoldable pub bit : (test : Bool) → ℕ
bit true = 1
bit false = 0
