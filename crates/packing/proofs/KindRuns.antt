-- The run of a kind's blocks in a good regular file: what it says of the kind's table, and that it is the packing of that table.
-- Assumes nothing.
use mathlib.Core.Path.{◌≡◌, refl, sym, ap, ◌∙◌}
use mathlib.Core.List.{List, []}
use mathlib.Core.Logic.{⊎_elim}
use Rattle.std.specs.Prelude.{None as none}
use Prim.Native.Nat.{ℕ, zero, suc, ◌+◌, ◌*◌, ◌-◌, ◌<◌, ◌≤◌}
use native.Mathlib.Omega.{arith}
use native.Mathlib.Nat.{add_assoc, mul-suc, mul-le-mul_left, mul_assoc, mul-add, eq-or-lt_of_le, le_of_suc-le-suc}
use lib.ListN.{length, get_or}
use Rattle.tables.specs.Rows.{Picture}
use Rattle.blocks.specs.Blocks.{head_of, capacity, record_size, joined}
use Rattle.blocks.specs.Files.{block_at, block_count, kind_before, file_fault}
use Rattle.blocks.proofs.JoinedLaws.{joined-none}
use Rattle.blocks.proofs.Placing.{joined_length}
use Rattle.blocks.proofs.MadeBlocks.{head_made}
use Rattle.blocks.proofs.GoodBlocks.{Good, block-whole, block-bytes, file-block, kinds-rise}
use Rattle.packing.specs.Packed.{least, record_bytes, rows_of, first_of, count_in, kind_block}
use Rattle.packing.specs.Regular.{kind_at, count_at, Regular}
use Rattle.packing.proofs.Chunks.{least-low, least-high}
use Rattle.packing.proofs.Runs.{Runs, runs, joined-run, chunks-length, chunk-at, joined-one}
use Rattle.packing.proofs.BlockIs.{record_in, block-is}

-- ---- the run of a kind: m blocks from one on, and no others

module _ (file : List ℕ) where
  pub record Run (kind from m : ℕ) : Type 0 where
    pub rest : ℕ
    pub all : block_count file ≡ from + m + rest
    pub own : (j : ℕ) → j < m → kind_at file (from + j) ≡ kind
    pub before : (k : ℕ) → k < from → kind_at file k ≡ kind → ⊥
    pub after : (j : ℕ) → j < rest → kind_at file (from + m + j) ≡ kind → ⊥

  -- a table of rows of u numbers by the run of its kind: its length, and the rows of its blocks' records
  pub record Said (kind from m u : ℕ) (row : List ℕ → ℕ → List ℕ) (table : List ℕ) : Type 0 where
    pub no_rows : m ≡ 0 → table ≡ []
    pub table-length : (last : ℕ) → m ≡ suc last → length table ≡ u * capacity kind * last + u * count_at file (from + last)
    pub row_at : (j i d : ℕ) → j < m → i < count_at file (from + j) → d < u
        → get_or table (u * (capacity kind * j + i) + d) 0 ≡ get_or (row (block_at file (from + j)) i) d 0

  -- what is said of a table is said by the run of its kind
  pub table-run : (said : List ℕ → List ℕ) (kind from m : ℕ) → Run kind from m
      → ((k : ℕ) → k < block_count file → (kind_at file k ≡ kind → ⊥) → said (block_at file k) ≡ [])
      → joined (λ k. said (block_at file k)) (block_count file) ≡ joined (λ j. said (block_at file (from + j))) m
  table-run said kind from m run other =
      let e = run.all in
      ap (joined (λ k. said (block_at file k))) e
      ∙ joined-run _ from m run.rest
      (λ k h. other k (omega arith) (run.before k h))
      (λ j h. other (from + m + j) (omega arith) (run.after j h))

  module _ (good : file_fault file ≡ none) where
    -- the blocks of a good file are three runs
    pub file-runs : Runs (kind_at file) (block_count file)
    file-runs =
        runs (kind_at file) (block_count file) (kinds-rise file good)
        (λ k h. let g = file-block file good k h in (g.low, g.high))

    -- the head of a block of a known kind
    pub head-of : (kind k : ℕ) → k < block_count file → kind_at file k ≡ kind → head_of (block_at file k) ≡ head_made kind k (count_at file k)
    head-of kind k h e = rw (← e) (file-block file good k h).head

    module _ (regular : Regular file) (kind from m : ℕ) (run : Run kind from m) where
      there : (j : ℕ) → j < m → from + j < block_count file
      there j h = let e = run.all in omega arith

      pub run-good : (j : ℕ) → j < m
          → Good (kind_before (block_at file) (from + j)) (from + j) kind (count_at file (from + j)) (block_at file (from + j))
      run-good j h = rw (← run.own j h) (file-block file good (from + j) (there j h))

      -- its blocks but the last are full
      run-full : (j : ℕ) → suc j < m → count_at file (from + j) ≡ capacity kind
      run-full j h =
          let a = run.own j (omega arith) in
          let b = run.own (suc j) h in
          regular.full-but-last (from + j) (from + suc j) (omega arith) (there (suc j) h) (a ∙ sym b) ∙ ap capacity a

      -- and none is empty but the first of a file
      pub run-some : (j : ℕ) → j < m → 0 < from + j → 0 < count_at file (from + j)
      run-some j h p = regular.none-empty (from + j) p (there j h)

      -- ---- its table, where each of its blocks says a row of u numbers for each record

      module _ (said : List ℕ → List ℕ) (row : List ℕ → ℕ → List ℕ) (u : ℕ) (table : List ℕ)
          (is : table ≡ joined (λ j. said (block_at file (from + j))) m)
          (says : (k : ℕ) → k < block_count file → kind_at file k ≡ kind
          → said (block_at file k) ≡ joined (row (block_at file k)) (count_at file k))
          (wide : (block : List ℕ) (j : ℕ) → length (row block j) ≡ u) where
        run-says : (j : ℕ) → j < m → said (block_at file (from + j)) ≡ joined (row (block_at file (from + j))) (count_at file (from + j))
        run-says j h = says (from + j) (there j h) (run.own j h)

        lengths : (j : ℕ) → j < m → length (said (block_at file (from + j))) ≡ u * count_at file (from + j)
        lengths j h = ap length (run-says j h) ∙ joined_length _ u (count_at file (from + j)) (λ k l. wide (block_at file (from + j)) k)

        full-lengths : (j : ℕ) → suc j < m → length (said (block_at file (from + j))) ≡ u * capacity kind
        full-lengths j h = lengths j (omega arith) ∙ ap (λ (x : ℕ). u * x) (run-full j h)

        length-is : (last : ℕ) → m ≡ suc last → length table ≡ u * capacity kind * last + u * count_at file (from + last)
        length-is last e =
            ap length (is ∙ ap (joined (λ j. said (block_at file (from + j)))) e)
            ∙ chunks-length (λ j. said (block_at file (from + j))) (u * capacity kind) last (λ k h. full-lengths k (omega arith))
            ∙ ap (λ (x : ℕ). u * capacity kind * last + x) (lengths last (omega arith))

        table_at : (j i : ℕ) → j < m → i < u * count_at file (from + j)
            → get_or table (u * capacity kind * j + i) 0 ≡ get_or (said (block_at file (from + j))) i 0
        table_at j i h l = go m refl
          where
            go : (n : ℕ) → m ≡ n → get_or table (u * capacity kind * j + i) 0 ≡ get_or (said (block_at file (from + j))) i 0
            go zero e = absurd (omega arith)
            go (suc last) e =
                ap (λ (x : List ℕ). get_or x (u * capacity kind * j + i) 0) (is ∙ ap (joined (λ j. said (block_at file (from + j)))) e)
                ∙ chunk-at (λ j. said (block_at file (from + j))) (u * capacity kind) last (λ k h. full-lengths k (omega arith))
                j i (omega arith) (rw (lengths j h) l)

        -- number d of the row of record i of block j
        at : (j i d : ℕ) → j < m → i < count_at file (from + j) → d < u
            → get_or table (u * (capacity kind * j + i) + d) 0 ≡ get_or (row (block_at file (from + j)) i) d 0
        at j i d h l s =
            let p : u * suc i ≤ u * count_at file (from + j) = mul-le-mul_left u l in
            let q : u * suc i ≡ u * i + u = rw mul-suc in
            let e : u * (capacity kind * j + i) + d ≡ u * capacity kind * j + (u * i + d) = rw (mul-add, mul_assoc, add_assoc) in
            ap (λ (x : ℕ). get_or table x 0) e ∙ table_at j (u * i + d) h (omega arith)
            ∙ ap (λ (x : List ℕ). get_or x (u * i + d) 0) (run-says j h)
            ∙ joined-one _ u (count_at file (from + j)) (λ k w. wide (block_at file (from + j)) k) i d l s

        pub table-said : Said kind from m u row table
        table-said = record { no_rows = λ e. is ∙ rw e (joined-none _); table-length = length-is; row_at = at }

      -- ---- it is the packing of its table

      module _ (small : (i : ℕ) → get_or file i 0 < 256) (pic : Picture)
          (row_count : (last : ℕ) → m ≡ suc last → rows_of pic kind ≡ capacity kind * last + count_at file (from + last))
          (records : (j i : ℕ) → j < m → i < count_at file (from + j)
          → record_bytes pic kind (capacity kind * j + i) ≡ record_in (block_at file (from + j)) (record_size kind) i) where
        -- each block has as many records as the packing puts there
        counts-are : (j : ℕ) → j < m → count_in pic kind j ≡ count_at file (from + j)
        unfolding count_in
        counts-are j h = go m refl
          where
            go : (n : ℕ) → m ≡ n → least (rows_of pic kind - capacity kind * j) (capacity kind) ≡ count_at file (from + j)
            go zero e = absurd (omega arith)
            go (suc last) e = rw (row_count last e) (⊎_elim
                (λ (q : j ≡ last).
                let f = (run-good last (omega arith)).fits in
                let c = count_at file (from + last) in
                let z : capacity kind * last + c - capacity kind * last ≡ c = omega arith in
                rw (q, z) (least-low c (capacity kind) f))
                (λ (q : j < last).
                let p : capacity kind * suc j ≤ capacity kind * last = mul-le-mul_left (capacity kind) q in
                let s : capacity kind * suc j ≡ capacity kind * j + capacity kind = rw mul-suc in
                least-high _ (capacity kind) (omega arith) ∙ sym (run-full j (omega arith)))
                (eq-or-lt_of_le (le_of_suc-le-suc (rw e at h))))

        pub blocks-same : first_of pic kind ≡ from → (j : ℕ) → j < m
            → kind_block pic kind j ≡ block_at file (from + j)
        unfolding kind_block
        blocks-same first j h =
            rw (first, counts-are j h)
            (block-is (block_at file (from + j)) (block-whole file (from + j) (there j h)) (block-bytes file small (from + j))
            _ (from + j) kind _ _ (run-good j h) (λ i l. records j i h l))
