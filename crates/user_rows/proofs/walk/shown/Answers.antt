-- `user_rows::walk::shown` meets its contract: the arrows of the other sign are looked at. Assumes nothing.
use mathlib.Core.Path.{◌≡◌, refl, sym, ap, subst, ◌∙◌}
use mathlib.Core.Logic.{inl, inr}
use mathlib.Core.Bool.{Bool, ◌&&◌}
use Prim.Native.Nat.{ℕ}
use Rattle.meaning.specs.Meaning.{positive, negative}
use Rattle.boxsets.specs.Sets.{is_in}
use Rattle.certificates.specs.Steps.{NearBy, sign_number}
use Rattle.user_rows.proofs.ShowLaws.{ends_there, shown_by}
use Rattle.user_rows.proofs.walk.shown.Goals as goal

pub returns-in-Positive : goal.returns-in-Positive
returns-in-Positive c pic m u k asked d sets near there l a-is mode-is tail-is within f =
    let a = c.args in
    let e : sign_number a.x.now.negative.sign ≡ negative = ap sign_number a.x.now.denies in
    c.certified.ensures pic m u asked d sets (subst (λ (z : ℕ). NearBy pic m z u asked a.x.now.negative) (sym e) near.denying)
    (ends_there pic m u k a.closure.now d there a.a a-is l) within f
    ∙ ap (λ (b : Bool). is_in a.left f && b)
    (sym (shown_by pic m u k a.closure.now d there a.a a-is l mode-is tail-is positive (sign_number a.x.now.negative.sign) (inl (refl, e))
    (sym c.of.ensures ∙ ap sign_number c.in-Positive.is) f))

pub returns-in-Negative : goal.returns-in-Negative
returns-in-Negative c pic m u k asked d sets near there l a-is mode-is tail-is within f =
    let a = c.args in
    let e : sign_number a.x.now.positive.sign ≡ positive = ap sign_number a.x.now.grants in
    c.certified-in-Negative.ensures pic m u asked d sets (subst (λ (z : ℕ). NearBy pic m z u asked a.x.now.positive) (sym e) near.granting)
    (ends_there pic m u k a.closure.now d there a.a a-is l) within f
    ∙ ap (λ (b : Bool). is_in a.left f && b)
    (sym (shown_by pic m u k a.closure.now d there a.a a-is l mode-is tail-is negative (sign_number a.x.now.positive.sign) (inr (refl, e))
    (sym c.of.ensures ∙ ap sign_number c.in-Negative.is) f))
