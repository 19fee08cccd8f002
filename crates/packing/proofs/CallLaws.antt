-- The call by its fault: which check refuses, that a refusal writes nothing, and what the lent file holds where there is none. Assumes
-- nothing.
use mathlib.Core.Path.{◌≡◌, refl}
use Rattle.std.proofs.Common.{Ok, Err}
use mathlib.Core.List.{List}
use Rattle.std.specs.Prelude.{None as none, Some as some}
use Prim.Native.Nat.{ℕ}
use lib.ListN.{length, take}
use Rattle.base.specs.Buffers.{written}
use Rattle.tables.specs.Rows.{Picture}
use Rattle.tables.specs.Faults.{table_fault, room_fault}
use Rattle.tables.specs.declared.Refusal.{Refusal}
use Rattle.base.proofs.PartLaws.{part-is}
use Rattle.base.proofs.Options.{past, stop}
use Rattle.packing.specs.Packed.{packed}
use Rattle.packing.specs.Packs.{packing_of, pack_fault, pack_answer, file_after}

module _ (pic : Picture) (file : List ℕ) where
  -- checks 1 to 7 come first, then 9
  pub fault-of-tables : (r : Refusal) → table_fault pic ≡ some r → pack_fault pic file ≡ some r
  unfolding pack_fault
  fault-of-tables r e = stop _ _ e

  pub fault-of-room : table_fault pic ≡ none → pack_fault pic file ≡ room_fault 8 (length file) (length (packed pic))
  unfolding pack_fault
  fault-of-room e = past _ _ e

  -- a refusal is answered, and writes nothing
  pub pack-refused : (r : Refusal) → pack_fault pic file ≡ some r → (Err r ≡ pack_answer pic file) × (file ≡ file_after pic file)
  unfolding packing_of pack_answer file_after
  pack-refused r e = (rw e, rw e)

  -- where the call is not refused, the packed file is written
  module _ (e : pack_fault pic file ≡ none) where
    pub pack-done : (Ok (length (packed pic)) ≡ pack_answer pic file) × (written (packed pic) file ≡ file_after pic file)
    unfolding packing_of pack_answer file_after
    pack-done = (rw e, rw e)

    -- the first bytes of the lent file, as many as it answers, are the packed file
    pub packed-part : (pack_answer pic file ≡ Ok (length (packed pic)))
        × (take (length (packed pic)) (file_after pic file) ≡ packed pic)
    packed-part = (rw (← pack-done.0), rw (← pack-done.1) (part-is (packed pic) file _ _ (refl, refl)))
