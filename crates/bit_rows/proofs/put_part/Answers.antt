-- `bit_rows::put_part` meets its contract: the first bytes of the whole set are copied. Assumes nothing.
use mathlib.Core.Path.{◌≡◌, sym, ap, ◌∙◌}
use Prim.Native.Nat.{ℕ, ◌+◌, ◌-◌, ◌<◌}
use native.Mathlib.Nat.{zero-add}
use native.Mathlib.Omega.{arith}
use lib.ListN.{length, get_or}
use lib.Seq.{get_or-take}
use borrow.Rule.Slice.PartMut.{mid_len}
use Rattle.bit_rows.specs.Steps.{set_byte}
use Rattle.bit_rows.proofs.ByteLaws.{laid-part}
use Rattle.bit_rows.proofs.put_part.Goals as goal

pub returns : goal.returns
returns c =
    let x = c.args in
    let whole = c.put_set.new.out in
    let long : length c.copy_from_slice.new.self ≡ x.w
    = c.copy_from_slice.ensures.len ∙ mid_len x.at (x.at + x.w) x.out.now (omega arith) ∙ omega arith in
    let bytes : (k : ℕ) → k < x.w → get_or c.copy_from_slice.new.self k 0 ≡ set_byte x.sets.now x.a k
    = λ k l. ap (λ s. get_or s k 0) c.copy_from_slice.ensures.after ∙ get_or-take x.w whole k 0 l ∙ ap (λ i. get_or whole i 0) (sym (zero-add k)) ∙ c.put_set.ensures.place k (omega arith) in
    laid-part (set_byte x.sets.now x.a) x.at x.w (x.at + x.w - x.at) x.out.now c.copy_from_slice.new.self (omega arith) long (omega arith) bytes
