-- `user_rows::walk::walk` meets its contract: at place i the walk stands as `Walking` says. Assumes nothing.
use mathlib.Core.Path.{◌≡◌, sym, ap, ◌∙◌}
use mathlib.Core.Bool.{◌&&◌, ◌||◌}
use Prim.Native.Nat.{ℕ}
use borrow.Author.Rules.{rules}
use lib.Dec.{eqb}
use lib.ListN.{length}
use Rattle.meaning.specs.Meaning.{positive}
use Rattle.boxsets.specs.Sets.{is_in}
use Rattle.boxsets.proofs.WalkLaws.{empty-none}
use Rattle.certificates.specs.Steps.{sign_number}
use Rattle.certificates.specs.declared.Sign.TheVariants.{Positive}
use Rattle.certificates.proofs.SignLaws.{sign-same}
use Rattle.user_rows.proofs.StepLaws.{granted-more, granted-same}
use Rattle.user_rows.proofs.RowWalk.{walking-pass, walking-turn, walking-empty}
use Rattle.user_rows.proofs.walk.walk.Goals.{then-eq, else-eq}
use Rattle.user_rows.proofs.walk.walk.Goals as goal

-- an arrow that is not around the user
pub loop-k-preserved-then-not-has : goal.loop-k-preserved-then-not-has
loop-k-preserved-then-not-has g c =
    let a = c.args in
    let l = c.loop-k in
    walking-pass a.closure.now a.heads.now a.arrows.now a.own.now a.x a.files
    (g.N.Numbers.shows a.numbers.now) (g.N.Numbers.shows l.numbers) l.granted l.unclear l.k-index l.invariant
    c.at-a.result (rw c.from.ensures at c.at-a.ensures)
    (sym (rw (c.if-not-has.true, c.from-in-loop-k.ensures) at c.has.ensures))

pub loop-k-preserved : goal.loop-k-preserved
loop-k-preserved g c =
    let a = c.args in
    let l = c.loop-k in
    let won : (f : ℕ) → is_in c.if-eq.granted f
    ≡ (is_in l.granted f || (is_in c.shown-hit.result f && eqb c.at-a.result.sign positive)) =
    elim c.if-eq.branch [
      | then-eq w ↦ rw w.granted-is
          (let e : c.of.result ≡ Positive = search rules in
          granted-more l.granted c.shown-hit.result c.at-a.result.sign w.bitor-granted.result (sym c.of.ensures ∙ ap sign_number e)
          w.bitor-granted.ensures)
      | else-eq w ↦ rw w.granted-is
          (granted-same l.granted c.shown-hit.result c.at-a.result.sign
          (λ i. let e : c.of.result ≡ Positive = sign-same c.of.result Positive (c.of.ensures ∙ i) in search rules))
    ] in
    walking-turn a.closure.now a.heads.now a.arrows.now a.own.now a.x a.files
    (g.N.Numbers.shows a.numbers.now) (g.N.Numbers.shows l.numbers) l.granted l.unclear l.k-index l.invariant
    c.loop-k-test.true c.at-a.result (rw c.from.ensures at c.at-a.ensures)
    (sym (rw (c.if-not-has.false, c.from-in-loop-k.ensures) at c.has.ensures))
    c.shown-hit.result c.sub-unclear.result c.if-eq.granted (g.N.Numbers.shows c.put.new.self)
    c.shown-hit.ensures c.sub-unclear.ensures won c.put.ensures

-- no file is left
pub returns-then-is_empty : goal.returns-then-is_empty
returns-then-is_empty g c =
    let a = c.args in
    let l = c.loop-k in
    (walking-empty a.closure.now a.heads.now a.arrows.now a.own.now a.x a.files
    (g.N.Numbers.shows a.numbers.now) (g.N.Numbers.shows l.numbers) l.granted l.unclear l.k-index l.invariant
    (empty-none l.unclear (sym c.is_empty.ensures ∙ c.if-is_empty.true)) (length a.own.now)).walked
