-- What the functions on tables ask of them. Assumes nothing.
use Rattle.std.specs.Prelude.{◌≡◌, List, ℕ, ◌%◌, ◌<◌, ◌≤◌, T, length, get_or}
use Rattle.tables.specs.Rows.{user, file, side_of, on_side, row_count, row_at, arrow_count, arrow_at}

-- what holds of boxes and containments that pass checks 1 to 7 (`sound-rows`)
pub record SoundRows (boxes rows : List ℕ) : Type 0 where
  pub few-boxes : length boxes ≤ 256
  pub whole : length rows % 2 ≡ 0
  pub few-rows : row_count rows ≤ 1024
  pub bytes : (b : ℕ) → b < length boxes → get_or boxes b 0 ≤ 3
  pub outer-there : (k : ℕ) → k < row_count rows → (row_at rows k).outer < length boxes
  pub inner-there : (k : ℕ) → k < row_count rows → (row_at rows k).inner < length boxes
  pub one_side : (k : ℕ) → k < row_count rows
      → side_of (get_or boxes (row_at rows k).outer 0) ≡ side_of (get_or boxes (row_at rows k).inner 0)

-- and of arrows (`sound-arrows`)
pub record SoundArrows (boxes arrows : List ℕ) : Type 0 where
  pub whole : length arrows % 4 ≡ 0
  pub few-arrows : arrow_count arrows ≤ 512
  pub tail-user : (k : ℕ) → k < arrow_count arrows → T (on_side boxes user (arrow_at arrows k).tail)
  pub head-file : (k : ℕ) → k < arrow_count arrows → T (on_side boxes file (arrow_at arrows k).head)
  pub mode-most : (k : ℕ) → k < arrow_count arrows → (arrow_at arrows k).mode ≤ 7
  pub sign-most : (k : ℕ) → k < arrow_count arrows → (arrow_at arrows k).sign ≤ 1
