-- `certificates::certified` meets its contract. Assumes nothing.
use mathlib.Core.Path.{◌≡◌, sym, ap, ap₂, ◌∙◌}
use mathlib.Core.Bool.{Bool, ◌&&◌, ◌||◌}
use Prim.Native.Nat.{ℕ, ◌<◌}
use lib.ListN.{length}
use Rattle.tables.specs.Rows.{Picture}
use Rattle.containment.specs.Contains.{around}
use Rattle.boxsets.specs.Sets.{is_in, has}
use Rattle.boxsets.specs.declared.Set.{Set}
use Rattle.boxsets.proofs.TableLaws.{has_in}
use Rattle.boxsets.proofs.WalkLaws.{empty-none}
use Rattle.certificates.specs.Blocks.{reached_by}
use Rattle.certificates.specs.Steps.{Drawn, NearBy, sign_number}
use Rattle.certificates.proofs.BlockLaws.{certified-met, certified-unmet}
use Rattle.certificates.proofs.certified.Goals.{After-bitand-hit, After-bitand-met}
use Rattle.certificates.proofs.certified.Goals as goal

-- the files left that are in the arrow's head
hit-is : (c : After-bitand-hit) (pic : Picture) → Drawn pic c.args.closure.now → c.args.a.head < length pic.boxes
    → (f : ℕ) → is_in c.bitand-hit.result f ≡ (around pic.rows c.args.a.head f && is_in c.args.left f)
hit-is c pic d there f =
    let a = c.args in
    let in_head : is_in c.set_at.result f ≡ around pic.rows a.a.head f
    = ap (λ (x : Set). is_in x f) c.set_at.ensures
    ∙ sym (has_in a.closure.now c.from.result f)
    ∙ ap (λ (b : ℕ). has a.closure.now b f) c.from.ensures
    ∙ d.closed.down a.a.head f there in
    c.bitand-hit.ensures f ∙ ap (λ (b : Bool). b && is_in a.left f) in_head

-- and of them those that an opposite arrow reaches
met-is : (c : After-bitand-met) (pic : Picture) (m u : ℕ) (asked : ℕ → Bool)
    → NearBy pic m (sign_number c.args.near.now.sign) u asked c.args.near.now
    → (f : ℕ) → is_in c.bitand-met.result f
    ≡ (is_in c.bitand-hit.result f && (asked f && reached_by pic m (sign_number c.args.near.now.sign) u f))
met-is c pic m u asked near f =
    c.bitand-met.ensures f ∙ ap (λ (b : Bool). is_in c.bitand-hit.result f && b) (near.files-are f)

pub returns-then-is_empty : goal.returns-then-is_empty
returns-then-is_empty c pic m u asked d sets near there within f =
    let a = c.args in
    certified-unmet pic m (sign_number a.near.now.sign) u a.a d.arrows-sound f (is_in a.left f) (asked f)
    (is_in c.bitand-hit.result f) (is_in c.bitand-met.result f) (within f)
    (hit-is (goal.at.returns-then-is_empty c).After-bitand-hit pic d there.1 f)
    (met-is (goal.at.returns-then-is_empty c).After-bitand-met pic m u asked near f)
    (empty-none c.bitand-met.result (sym c.is_empty.ensures ∙ c.if-is_empty.true) f)

pub returns : goal.returns
returns c pic m u asked d sets near there within f =
    let a = c.args in
    certified-met pic m (sign_number a.near.now.sign) u a.a d.arrows-sound f (is_in a.left f) (asked f)
    (is_in c.bitand-hit.result f) (is_in c.bitand-met.result f) (within f)
    (hit-is (goal.at.returns c).After-bitand-hit pic d there.1 f)
    (met-is (goal.at.returns c).After-bitand-met pic m u asked near f)
    (is_in c.bitor.result f)
    (c.bitor.ensures f ∙ ap₂ ◌||◌ (c.sub.ensures f) (c.unblocked.ensures pic m u asked d sets near there f))
