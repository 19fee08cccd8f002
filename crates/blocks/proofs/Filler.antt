-- The filler, byte by byte, is the part behind the records that is looked at. Assumes nothing.
use mathlib.Core.Path.{◌≡◌, refl, sym, ap, ◌∙◌}
use mathlib.Core.Bool.{Bool, true, false, not}
use mathlib.Core.List.{List, [], ◌∷◌}
use Prim.Native.Nat.{ℕ, zero, suc, ◌+◌, ◌*◌, ◌-◌, ◌<◌, ◌≤◌}
use native.Mathlib.Omega.{arith}
use lib.Dec.{T, eqb, leb, eqb→eq, leb→le, le→leb}
use lib.ListN.{length, get_or, take, drop, length-take, length-drop}
use lib.Seq.{get_or-take, get_or-drop}
use Rattle.base.specs.Search.{implies, every}
use Rattle.base.proofs.Tests.{and_T, T_and, T-eqb, T-same}
use Rattle.base.proofs.SearchLaws.{every-at, every-is}
use Rattle.blocks.specs.Blocks.{record_size, wrong_filler}
use Rattle.blocks.specs.Steps.{records_end, all_zero}
use Rattle.blocks.specs.declared.Head.{Head}

implied : (a b : Bool) → T (implies a b) → T a → T b
implied true b t u = t
implied false b t u = absurd u

implying : (a b : Bool) → (T a → T b) → T (implies a b)
implying true b g = g tt
implying false b g = tt

zero-each : (l : List ℕ) → ((k : ℕ) → k < length l → get_or l k 0 ≡ 0) → T (all_zero l)
unfolding all_zero
zero-each [] h = tt
zero-each (x ∷ l) h = T_and (eqb x 0) (all_zero l) (T-eqb (h 0 (omega arith))) (zero-each l (λ k b. h (suc k) (omega arith)))

zero-at : (l : List ℕ) → T (all_zero l) → (k : ℕ) → get_or l k 0 ≡ 0
unfolding all_zero
zero-at [] t k = refl
zero-at (x ∷ l) t zero = eqb→eq x 0 (and_T (eqb x 0) (all_zero l) t).0
zero-at (x ∷ l) t (suc k) = zero-at l (and_T (eqb x 0) (all_zero l) t).1 k

-- the bytes from e on of the first n
module _ (block : List ℕ) (e n : ℕ) where
  abbrev zero_from : (k : ℕ) → Bool
  zero_from k = implies (leb e k) (eqb (get_or block k 0) 0)

  abbrev part : List ℕ
  part = drop e (take n block)

  part-within : (k : ℕ) → k < length part → e + k < n
  part-within k h = let l = simp (length-drop, length-take) at h in omega arith

  part_at : (k : ℕ) → e + k < n → get_or part k 0 ≡ get_or block (e + k) 0
  part_at k h = rw (get_or-drop, get_or-take)

  each-of-part : T (every zero_from n) → (k : ℕ) → k < length part → get_or part k 0 ≡ 0
  each-of-part t k h =
      let b = part-within k h in
      let z : T (zero_from (e + k)) = every-at zero_from n t (e + k) b in
      rw (part_at k b) (eqb→eq (get_or block (e + k) 0) 0 (implied (leb e (e + k)) _ z (le→leb e (e + k) (omega arith))))

  each_from : T (all_zero part) → (k : ℕ) → k < n → T (leb e k) → get_or block k 0 ≡ 0
  each_from t k h u =
      let b : e ≤ k = leb→le e k u in
      let s : e + (k - e) ≡ k = omega arith in
      rw s at (sym (part_at (k - e) (omega arith)) ∙ zero-at part t (k - e))

  zeros-from : every zero_from n ≡ all_zero part
  zeros-from =
      T-same (every zero_from n) (all_zero part) (λ t. zero-each part (each-of-part t))
      (λ t. every-is zero_from n (λ k h. implying (leb e k) (eqb (get_or block k 0) 0) (λ u. T-eqb (each_from t k h u))))

pub filler-is : (head : Head) (block : List ℕ) → wrong_filler head block ≡ not (all_zero (drop (records_end head) (take 508 block)))
unfolding wrong_filler records_end
filler-is head block = ap not (zeros-from block (8 + record_size head.kind * head.count) 508)
