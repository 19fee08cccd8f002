-- `bit_rows::put_set` meets its contract: word after word. Assumes nothing.
use mathlib.Core.Path.{◌≡◌, ap, ◌∙◌}
use Prim.Native.Nat.{ℕ, ◌+◌, ◌-◌, ◌*◌, ◌<◌}
use native.Mathlib.Omega.{arith}
use lib.ListN.{length, get_or}
use Rattle.bit_rows.specs.Steps.{word_byte, set_byte}
use Rattle.bit_rows.proofs.ByteLaws.{laid_none, laid-part, laid-join, word_bytes, le-byte}
use Rattle.bit_rows.proofs.put_set.Goals as goal

pub loop-q-init : goal.loop-q-init
loop-q-init c = laid_none (set_byte c.args.sets.now c.args.a) c.args.at c.args.out.now

pub loop-q-preserved : goal.loop-q-preserved
loop-q-preserved c =
    let x = c.args in
    let q = c.loop-q.q in
    let word = get_or x.sets.now (4 * x.a + q) 0 in
    let ys = c.copy_from_slice.new.self in
    let bytes : (k : ℕ) → k < 8 → get_or ys k 0 ≡ word_byte word k
    = λ k l. ap (λ s. get_or s k 0) (c.copy_from_slice.ensures.after ∙ c.to_le_bytes.ensures) ∙ le-byte word k l in
    let long : length ys ≡ 8 = ap length (c.copy_from_slice.ensures.after ∙ c.to_le_bytes.ensures) in
    let part = laid-part (word_byte word) (x.at + 8 * q) 8 (x.at + 8 * q + 8 - (x.at + 8 * q)) c.loop-q.out ys (omega arith) long (omega (arith, c.loop-q.invariant.len)) bytes in
    let e : 8 * q + 8 ≡ 8 * (q + 1) = omega arith in
    rw e at (laid-join (set_byte x.sets.now x.a) x.at (word_byte word) (8 * q) (x.at + 8 * q) x.out.now c.loop-q.out _ (omega arith)
    c.loop-q.invariant part (word_bytes x.sets.now x.a q (4 * x.a + q) (omega arith)))

pub returns : goal.returns
returns c =
    let e : c.loop-q.q ≡ 4 = omega arith in
    rw e at c.loop-q.invariant
