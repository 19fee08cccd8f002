-- `user_kinds::alike` meets its contract: the user noted has the same tails around her. Assumes nothing.
use mathlib.Core.Path.{◌≡◌, subst}
use Prim.Native.Nat.{◌<◌}
use native.Mathlib.Omega.{arith}
use borrow.Author.Rules.{rules}
use lib.ListN.{length}
use Rattle.tables.specs.Rows.{user}
use Rattle.user_kinds.specs.Steps.{TailsNear}
use Rattle.user_kinds.proofs.AlikeLaws.{alike-by}
use Rattle.user_kinds.proofs.AtomLaws.{listed_at}
use Rattle.user_kinds.proofs.alike.Goals as goal

pub returns-then-eq-clause-alike : goal.returns-then-eq-clause-alike
returns-then-eq-clause-alike c pic m d sets us =
    let a = c.args in
    let e : c.tails_near-tails.result ≡ c.tails_near-known.result = search rules in
    let there : c.in-Some.j < length a.users.now =
    omega (arith, c.in-Some.ensures, c.from-2.ensures, c.requires.2.before c.note_of-note.result c.note_of-note.ensures) in
    let mine = listed_at pic.boxes pic.rows user a.users.now us a.i _ c.requires.1 c.from.ensures in
    let other = listed_at pic.boxes pic.rows user a.users.now us c.in-Some.j _ there c.from-in-Some.ensures in
    let near = subst (TailsNear pic m c.from.result) e (c.tails_near-tails.ensures pic m d sets mine.2) in
    alike-by pic m d.arrows-sound c.tails_near-known.result c.from-in-Some.result c.from.result
    (c.tails_near-known.ensures pic m d sets other.2) near _ _ c.from-in-Some.ensures c.from.ensures
