-- The check of a block: FNV-1a at 32 bits. Assumes nothing.
use Rattle.std.specs.Prelude.{List, [], ◌∷◌, ℕ, ◌*◌, ◌%◌, ◌^◌}
use Rattle.std.specs.Int.Bits.{bit_xor}

-- for each byte, exclusive-or it in, then multiply by 16,777,619 and keep the low 32 bits
unfoldable pub fnv_fold : (state : ℕ) (bytes : List ℕ) → ℕ
fnv_fold state [] = state
fnv_fold state (byte ∷ bytes) = fnv_fold (bit_xor state byte * 16777619 % 2 ^ 32) bytes

-- the check: start 2,166,136,261
unfoldable pub fnv1a : (bytes : List ℕ) → ℕ
fnv1a bytes = fnv_fold 2166136261 bytes
