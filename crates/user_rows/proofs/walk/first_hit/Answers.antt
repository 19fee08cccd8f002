-- `user_rows::walk::first_hit` meets its contract: no arrow before k reaches the pair. Assumes nothing.
use mathlib.Core.Path.{◌≡◌, sym, ap, ◌∙◌}
use native.Mathlib.Omega.{arith}
use borrow.Author.Rules.{rules}
use Rattle.base.proofs.Tests.{true-T, false-not}
use Rattle.certificates.specs.Steps.{sign_number}
use Rattle.certificates.proofs.SignLaws.{sign-same}
use Rattle.user_rows.proofs.StepLaws.{hit-parts, hit-is, hit-more, hit-here, hit-nowhere}
use Rattle.user_rows.proofs.walk.first_hit.Goals.{else-a-mode-via-then-a-mode+then-eq+then-has+else-has-2, else-a-mode-via-else-a-mode}
use Rattle.user_rows.proofs.walk.first_hit.Goals.{else-a-mode-via-then-a-mode+then-eq+else-has, else-a-mode-via-then-a-mode+else-eq}
use Rattle.user_rows.proofs.walk.first_hit.Goals as goal

pub returns-then-has-2 : goal.returns-then-has-2
returns-then-has-2 c =
    let a = c.args in
    let e : c.of.result ≡ a.sign = search rules in
    hit-here a.closure.now a.arrows.now a.mode (sign_number a.sign) a.u a.f c.loop-k.k c.at-a.result c.at-a.ensures (omega arith)
    (hit-is a.closure.now a.mode (sign_number a.sign) a.u a.f c.at-a.result c.if-a-mode.true (sym c.of.ensures ∙ ap sign_number e)
    (rw (← c.from.ensures, ← c.has.ensures) (true-T _ c.if-has.true))
    (rw (← c.from-then-has.ensures, ← c.has-then-has.ensures) (true-T _ c.if-has-2.true)))
    c.loop-k.invariant.1

pub loop-k-preserved : goal.loop-k-preserved
loop-k-preserved c =
    let a = c.args in
    let parts = hit-parts a.closure.now a.mode (sign_number a.sign) a.u a.f c.at-a.result in (
      search rules,
      hit-more a.closure.now a.arrows.now a.mode (sign_number a.sign) a.u a.f c.loop-k.k c.at-a.result c.at-a.ensures
          (elim c.else-a-mode.branch [
            | else-a-mode-via-then-a-mode+then-eq+then-has+else-has-2 v ↦
                λ t. false-not v.has-then-has.result v.if-has-2.false (rw (v.has-then-has.ensures, v.from-then-has.ensures) (parts t).3)
            | else-a-mode-via-then-a-mode+then-eq+else-has w ↦
                λ t. false-not w.has.result w.if-has.false (rw (w.has.ensures, w.from.ensures) (parts t).2)
            | else-a-mode-via-then-a-mode+else-eq v ↦
                λ t. let e : v.of.result ≡ a.sign = sign-same v.of.result a.sign (v.of.ensures ∙ (parts t).1) in search rules
            | else-a-mode-via-else-a-mode v ↦ λ t. v.if-a-mode.false (parts t).0
          ])
          c.loop-k.invariant.1,
    )

pub returns : goal.returns
returns c =
    let a = c.args in
    hit-nowhere a.closure.now a.arrows.now a.mode (sign_number a.sign) a.u a.f c.loop-k.k (omega arith) c.loop-k.invariant.1
