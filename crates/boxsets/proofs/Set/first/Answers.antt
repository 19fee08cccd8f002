-- `boxsets::Set::first` meets its contract: by the first word that is not 0. Assumes nothing.
use native.Mathlib.Omega.{arith}
use Rattle.base.proofs.SearchLaws.{lowest-some}
use Rattle.boxsets.specs.Words.{bit_at}
use Rattle.boxsets.specs.Sets.{word_at}
use Rattle.boxsets.specs.declared.Set.{Set}
use Rattle.boxsets.proofs.LowLaws.{zeros₀, zeros₁, zeros₂, zeros₃, low-at, low-none}
use Rattle.boxsets.proofs.Set.first.Goals.{Else-self-ne0, Else-self-ne0-2, Else-self-ne0-3}
use Rattle.boxsets.proofs.Set.first.Goals as goal

-- the set, once its first words are known to be 0
abbrev set₁ : Else-self-ne0 → Set
set₁ c = c.args.self

abbrev set₂ : Else-self-ne0-2 → Set
set₂ c = set₁ c.before.before

abbrev set₃ : Else-self-ne0-3 → Set
set₃ c = set₂ c.before.before

pub returns-then-self-ne0 : goal.returns-then-self-ne0
unfolding word_at
returns-then-self-ne0 c =
    let x = c.args.self in
    omega (arith, (lowest-some (bit_at x.a) 64 c.low_bit.result c.low_bit.ensures).0, low-at x 0 c.low_bit.result (omega arith) (zeros₀ x) c.low_bit.ensures)

pub overflow_add-result : goal.overflow_add-result
overflow_add-result c =
    let x = set₁ c.before.before.before in
    omega (arith, (lowest-some (bit_at x.b) 64 c.low_bit-then-self-ne0-2.result c.low_bit-then-self-ne0-2.ensures).0)

pub returns-then-self-ne0-2 : goal.returns-then-self-ne0-2
unfolding word_at
returns-then-self-ne0-2 c =
    let x = set₁ c.before.before.before in
    omega (arith, (lowest-some (bit_at x.b) 64 c.low_bit-then-self-ne0-2.result c.low_bit-then-self-ne0-2.ensures).0, low-at x 1 c.low_bit-then-self-ne0-2.result (omega arith) (zeros₁ x c.if-self-ne0.false) c.low_bit-then-self-ne0-2.ensures)

pub overflow_add-result-then-self-ne0-3 : goal.overflow_add-result-then-self-ne0-3
overflow_add-result-then-self-ne0-3 c =
    let x = set₂ c.before.before.before in
    omega (arith, (lowest-some (bit_at x.c) 64 c.low_bit-then-self-ne0-3.result c.low_bit-then-self-ne0-3.ensures).0)

pub returns-then-self-ne0-3 : goal.returns-then-self-ne0-3
unfolding word_at
returns-then-self-ne0-3 c =
    let x = set₂ c.before.before.before in
    omega (arith, (lowest-some (bit_at x.c) 64 c.low_bit-then-self-ne0-3.result c.low_bit-then-self-ne0-3.ensures).0, low-at x 2 c.low_bit-then-self-ne0-3.result (omega arith) (zeros₂ x c.if-self-ne0.false c.if-self-ne0-2.false) c.low_bit-then-self-ne0-3.ensures)

pub overflow_add-result-then-self-ne0-4 : goal.overflow_add-result-then-self-ne0-4
overflow_add-result-then-self-ne0-4 c =
    let x = set₃ c.before.before.before in
    omega (arith, (lowest-some (bit_at x.d) 64 c.low_bit-then-self-ne0-4.result c.low_bit-then-self-ne0-4.ensures).0)

pub returns-then-self-ne0-4 : goal.returns-then-self-ne0-4
unfolding word_at
returns-then-self-ne0-4 c =
    let x = set₃ c.before.before.before in
    omega (arith, (lowest-some (bit_at x.d) 64 c.low_bit-then-self-ne0-4.result c.low_bit-then-self-ne0-4.ensures).0, low-at x 3 c.low_bit-then-self-ne0-4.result (omega arith) (zeros₃ x c.if-self-ne0.false c.if-self-ne0-2.false c.if-self-ne0-3.false) c.low_bit-then-self-ne0-4.ensures)

pub returns : goal.returns
returns c =
    (low-none (set₃ c.before.before) c.if-self-ne0.false c.if-self-ne0-2.false c.if-self-ne0-3.false c.if-self-ne0-4.false)
