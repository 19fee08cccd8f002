-- `list_standing::any_of` meets its contract: a set's numbers are those of its four words. Assumes nothing.
use mathlib.Core.Path.{◌≡◌, refl, sym, ◌∙◌}
use mathlib.Core.Bool.{Bool, true, false, ◌||◌}
use Rattle.list_standing.proofs.AnyInLaws.{some_at, some_words}
use Rattle.boxsets.specs.Sets.{in_word}
use Rattle.list_standing.proofs.any_of.Goals.{then-any_in, else-any_in, then-any_in-2, else-any_in-2, then-any_in-3, else-any_in-3}
use Rattle.list_standing.proofs.any_of.Goals as goal

-- a test that is not made where the one before holds
held : (v r x : Bool) → r ≡ v → v ≡ true → r ≡ (v || x)
held v r x i e = i ∙ rw e refl

made : (v r x : Bool) → v ≡ false → r ≡ x → r ≡ (v || x)
made v r x e i = rw e i

pub returns : goal.returns
returns g c p t =
    let n = c.args.numbers in
    let one = c.any_in.ensures p t in
    let two : c.if-any_in.value ≡ (c.any_in.result || some_at (in_word 1 n.b) p) =
    elim c.if-any_in.branch [
      | then-any_in w ↦ held _ _ _ w.value-is w.if-any_in.true
      | else-any_in w ↦ made _ _ _ w.if-any_in.false (w.value-is ∙ w.any_in-else-any_in.ensures p t)
    ] in
    let three : c.if-any_in-2.value ≡ (c.if-any_in.value || some_at (in_word 2 n.c) p) =
    elim c.if-any_in-2.branch [
      | then-any_in-2 w ↦ held _ _ _ w.value-is w.if-any_in-2.true
      | else-any_in-2 w ↦ made _ _ _ w.if-any_in-2.false (w.value-is ∙ w.any_in-else-any_in-2.ensures p t)
    ] in
    let four : c.if-any_in-3.result ≡ (c.if-any_in-2.value || some_at (in_word 3 n.d) p) =
    elim c.if-any_in-3.branch [
      | then-any_in-3 w ↦ held _ _ _ w.result-is w.if-any_in-3.true
      | else-any_in-3 w ↦ made _ _ _ w.if-any_in-3.false (w.result-is ∙ w.any_in-else-any_in-3.ensures p t)
    ] in
    rw (three, two, one) at four ∙ sym (some_words p n)
