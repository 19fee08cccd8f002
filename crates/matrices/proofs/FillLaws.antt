-- The matrix, row after row. Assumes nothing.
use mathlib.Core.Path.{◌≡◌, refl, sym, ◌∙◌}
use mathlib.Core.List.{List}
use Prim.Native.Nat.{ℕ, ◌+◌, ◌*◌, ◌<◌, ◌≤◌}
use native.Mathlib.Nat.{zero-mul}
use native.Mathlib.Omega.{arith}
use lib.Dec.{T}
use lib.ListN.{length, get_or, take}
use Rattle.base.specs.Buffers.{build, written, zeros}
use Rattle.base.proofs.BufferLaws.{written_at, build-length, build-at}
use Rattle.base.proofs.PartLaws.{built-none}
use Rattle.base.proofs.Index.{next_row, row_step, in_table}
use Rattle.tables.specs.Rows.{Picture, user}
use Rattle.boxsets.specs.Sets.{is_in, among}
use Rattle.boxsets.specs.declared.Set.{Set}
use Rattle.boxsets.proofs.AmongLaws.{among-is}
use Rattle.meaning.specs.Meaning.{answer, byte_of, number_of}
use Rattle.meaning.specs.Pairs.{users, files, matrix_bytes, matrix_numbers}
use Rattle.meaning.specs.Steps.{byte_at, number_at}
use Rattle.meaning.proofs.MatrixLaws.{byte-place, number-place, bytes-are, numbers-are}
use Rattle.mode_sets.specs.Steps.{ModeSets}
use Rattle.certificates.specs.Steps.{Drawn}
use Rattle.user_rows.specs.Steps.{Moded, Sorts}
use Rattle.user_rows.specs.declared.Row.{Row}
use Rattle.user_kinds.specs.Steps.{Noted, Alike, note_count}
use Rattle.user_kinds.proofs.AlikeLaws.{noted-none}
use Rattle.user_kinds.proofs.AtomLaws.{listed_at}
use Rattle.user_kinds.proofs.TakenLaws.{Taken}
use Rattle.cells.specs.Steps.{byte_in, Emitted}
use Rattle.cells.proofs.CellLaws.{emitted-written, byte-said}

-- what was written at place p
built-at : (h : ℕ → ℕ) (old : List ℕ) {p q : ℕ} → p < q → get_or (written (build h q) old) p 0 ≡ h p
built-at h old {p} {q} there = written_at (build h q) old p (rw build-length there) ∙ build-at h q p there

-- row i has its places
abbrev pub Room : (fs : List ℕ) (i : ℕ) (b n : List ℕ) → Type 0
Room fs i b n = (i * length fs + length fs ≤ length b) × (i * length fs + length fs ≤ length n)

module _ (pic : Picture) (m : ℕ) (us fs : List ℕ) where
  -- byte j and number j are those of user i and file j
  abbrev CellsOf : (i : ℕ) (byte number : ℕ → ℕ) → Type 0
  CellsOf i byte number = (j : ℕ) → j < length fs →
      let e = answer pic m (get_or us i 0) (get_or fs j 0) in
      (byte j ≡ byte_of e) × (number j ≡ number_of e)

  -- those that the matrix has in row i are
  places : us ≡ users pic → fs ≡ files pic → (i : ℕ)
      → CellsOf i (λ j. byte_at pic m (i * length fs + j)) (λ j. number_at pic m (i * length fs + j))
  places eu ef i j = rw (eu, ef) (λ l. (byte-place pic m i j l, number-place pic m i j l))

module _ (closure arrows : List ℕ) (m : ℕ) (us fs : List ℕ) where
  -- the same in every picture with these lists
  abbrev pub Cells : (i : ℕ) (byte number : ℕ → ℕ) → Type 0
  Cells i byte number =
      (pic : Picture) → Drawn pic closure → arrows ≡ pic.arrows → us ≡ users pic → fs ≡ files pic → CellsOf pic m us fs i byte number

  -- before the turn of user i: the rows of the users before are written
  pub record Rows (bytes numbers : List ℕ) (i : ℕ) (notes b n : List ℕ) : Type 0 where
    pub within : i ≤ length us
    pub noted : Noted i notes
    pub bytes-len : length b ≡ length bytes
    pub numbers-len : length n ≡ length numbers
    pub filled : (pic : Picture) → Drawn pic closure → arrows ≡ pic.arrows → us ≡ users pic → fs ≡ files pic
        → (b ≡ written (build (byte_at pic m) (i * length fs)) bytes) × (n ≡ written (build (number_at pic m) (i * length fs)) numbers)

module _ {closure arrows us fs bytes numbers notes : List ℕ} {m : ℕ} where
  pub rows_none : notes ≡ zeros note_count → Rows closure arrows m us fs bytes numbers 0 notes bytes numbers
  rows_none e = record {
    within = omega arith;
    noted = noted-none notes e;
    bytes-len = refl;
    numbers-len = refl;
    filled = λ pic d a eu ef. rw zero-mul (built-none (byte_at pic m) bytes, built-none (number_at pic m) numbers);
  }

  module _ {b n : List ℕ} {i : ℕ} (rows : Rows closure arrows m us fs bytes numbers i notes b n) where
    -- no user is left
    pub rows_all : length us ≤ i → (pic : Picture) → Drawn pic closure → arrows ≡ pic.arrows → us ≡ users pic → fs ≡ files pic
        → (b ≡ written (matrix_bytes pic m) bytes) × (n ≡ written (matrix_numbers pic m) numbers)
    rows_all end pic d a eu ef =
        let all : i ≡ length us = omega arith in
        let e = rows.filled pic d a eu ef in
        (e.0 ∙ rw (all, eu, ef, bytes-are), e.1 ∙ rw (all, eu, ef, numbers-are))

    -- what stands in the row of user k before, who has the same answers, are cells of row i
    pub alike-cells : {count : ℕ} {own heads : List ℕ} {k : ℕ} → Taken arrows m count own heads → k < i
        → ((pic : Picture) (m : ℕ) → Drawn pic closure → ModeSets pic.arrows m heads → us ≡ users pic
        → Alike pic m (get_or us k 0) (get_or us i 0))
        → Cells closure arrows m us fs i (λ j. get_or b (k * length fs + j) 0) (λ j. get_or n (k * length fs + j) 0)
    alike-cells {k} mode before alike pic d a eu ef j there =
        let e = rows.filled pic d a eu ef in
        let at = places pic m us fs eu ef k j there in
        let less = in_table i (length fs) k j before there in
        rw (e.0, e.1, ← alike pic m d (mode.moded pic a).sets eu (get_or fs j 0))
        (built-at (byte_at pic m) bytes less ∙ at.0, built-at (number_at pic m) numbers less ∙ at.1)

    module _ (l : i < length us) where
      -- so is what was found for user i, where each file was asked for
      pub own-cells : {count u : ℕ} {own heads : List ℕ} {row : Row} (asked : Set) (found : List ℕ) → Taken arrows m count own heads
          → u ≡ get_or us i 0 → ((k : ℕ) → is_in asked k ≡ among fs k)
          → ((pic : Picture) (m : ℕ) → Drawn pic closure → Moded pic m heads arrows (take count own) → u < length pic.boxes
          → Sorts pic m u (is_in asked) row × ((f : ℕ) → T (is_in asked f) → get_or found f 0 ≡ number_of (answer pic m u f)))
          → Cells closure arrows m us fs i (λ j. byte_in row (get_or fs j 0)) (λ j. get_or found (get_or fs j 0) 0)
      own-cells {u} {row} asked found mode is all said pic d a eu ef j there =
          let s = said pic m d (mode.moded pic a) (listed_at pic.boxes pic.rows user us eu i u l is).2 in
          let t : T (is_in asked (get_or fs j 0)) = rw all (among-is fs j there) in
          rw (← is) (byte-said pic m u (get_or fs j 0) (is_in asked) row s.0 t, s.1 (get_or fs j 0) t)

      -- where there is room for all rows
      pub row_room : (length us * length fs ≤ length bytes) × (length us * length fs ≤ length numbers) → Room fs i b n
      row_room all = let there = row_step (length fs) i (length us) l in (omega arith, omega arith)

      -- a turn: the cells of row i are written at its places
      pub rows_more : {notes' b' n' : List ℕ} {byte number : ℕ → ℕ} → Room fs i b n → Noted (i + 1) notes'
          → Cells closure arrows m us fs i byte number
          → Emitted byte (i * length fs) (length fs) b b' × Emitted number (i * length fs) (length fs) n n'
          → Rows closure arrows m us fs bytes numbers (i + 1) notes' b' n'
      rows_more room noted cells w = record {
        within = omega arith;
        noted = noted;
        bytes-len = w.0.len ∙ rows.bytes-len;
        numbers-len = w.1.len ∙ rows.numbers-len;
        filled = λ pic d a eu ef.
            let e = rows.filled pic d a eu ef in
            let same = cells pic d a eu ef in
            let at = places pic m us fs eu ef i in
            rw next_row (
              emitted-written _ (byte_at pic m) _ _ bytes _ _ (omega arith) e.0 w.0 (λ j l. (same j l).0 ∙ sym (at j l).0),
              emitted-written _ (number_at pic m) _ _ numbers _ _ (omega arith) e.1 w.1 (λ j l. (same j l).1 ∙ sym (at j l).1),
            );
      }
