-- What is known of a kind that blocks are written of, and what is asked of the parts of a block. Assumes nothing.
use mathlib.Core.Path.{◌≡◌, ◌∙◌}
use mathlib.Core.List.{List}
use Prim.Native.Nat.{ℕ, ◌+◌, ◌*◌, ◌≤◌}
use native.Mathlib.Omega.{arith}
use lib.ListN.{length}
use Rattle.blocks.specs.Blocks.{capacity, record_size}
use Rattle.packing.proofs.Lengths.{records-fit}
use Rattle.block_parts.specs.Walks.{Run}
use Rattle.block_parts.specs.declared.Walk.{Walk}
use Rattle.packer.specs.Kinds.{Kind, kind_of, block_byte, Begins}

-- the numbers are those of a kind, and a row has the bytes of a record
pub record Sized (kind : Kind) : Type 0 where
  pub low : 1 ≤ kind.number
  pub high : kind.number ≤ 3
  pub the_size : kind.size ≡ record_size kind.number
  pub the-capacity : kind.capacity ≡ capacity kind.number
  pub lengths : (i : ℕ) → length (kind.bytes i) ≡ record_size kind.number

pub sized : {number size places rows first : ℕ} {bytes : ℕ → List ℕ} → (1 ≤ number) × (number ≤ 3) → size ≡ record_size number
    → places ≡ capacity number → ((i : ℕ) → length (bytes i) ≡ size) → Sized (kind_of number size places rows first bytes)
sized known s c l = record { low = known.0; high = known.1; the_size = s; the-capacity = c; lengths = λ i. l i ∙ s }

module _ {kind : Kind} (known : Sized kind) {len : ℕ} {w : Walk} {count : ℕ} (begins : Begins kind len w count) where
  -- the records' bytes fit between head and check
  pub used-most : kind.size * count ≤ 500
  used-most = rw known.the_size (records-fit kind.number known.low known.high count (rw (← known.the-capacity) begins.most))

  -- a file of the same length has the same room for the records
  pub run_of : {at len' : ℕ} → at ≡ block_byte kind w + 8 → len' ≡ len → Run kind.size kind.capacity kind.rows w count at len'
  run_of {at} {len'} from same =
      let used = used-most in
      let small = begins.the_block in
      let room = begins.room in
      record {
        few = begins.few;
        rows_left = begins.rows_left;
        most = begins.most;
        walked = begins.walked;
        the-place = begins.the-place;
        the-byte = omega arith;
        room = omega arith;
      }
