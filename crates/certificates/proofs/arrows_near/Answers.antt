-- `certificates::arrows_near` meets its contract. Assumes nothing.
use mathlib.Core.Path.{◌∙◌}
use Rattle.boxsets.proofs.TableLaws.{has_in}
use Rattle.certificates.specs.Steps.{sign_number}
use Rattle.certificates.proofs.SignLaws.{sign-small}
use Rattle.certificates.proofs.NearLaws.{near-made}
use Rattle.certificates.proofs.arrows_near.Goals as goal

pub returns-clause-near_by : goal.returns-clause-near_by
returns-clause-near_by c pic m d sets there =
    let a = c.args in
    near-made pic m a.closure.now a.heads.now d sets (sign_number a.sign) a.user (sign-small a.sign) there
    (record { sign = a.sign; tails = c.bitand-tails.result; heads = c.heads_of-all.result; files = c.sub-files.result })
    a.asked c.outside_all.result
    (λ k. c.bitand-tails.ensures k ∙ rw (c.set_at.ensures, c.set_at-2.ensures, c.from.ensures) (simp has_in))
    c.heads_of-all.ensures (c.outside_all.ensures pic d) c.sub-files.ensures
