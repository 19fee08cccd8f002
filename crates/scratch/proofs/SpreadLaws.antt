-- Sets spread into rows of bytes. Assumes nothing.
use mathlib.Core.Path.{◌≡◌, refl, sym, ap₂, subst, ◌∙◌}
use mathlib.Core.Bool.{Bool, false, cond}
use mathlib.Core.List.{List}
use Prim.Native.Nat.{ℕ, ◌+◌, ◌-◌, ◌*◌, ◌<◌, ◌≤◌}
use native.Mathlib.Omega.{arith}
use borrow.Author.Count.{below_more}
use lib.ListN.{length, get_or}
use Rattle.base.specs.Steps.{bit}
use Rattle.base.specs.Buffers.{written, zeros}
use Rattle.base.proofs.Bits.{bit_is}
use Rattle.base.proofs.BufferLaws.{written-length, written_at, written-rest, zeros-length, zeros-at}
use Rattle.base.proofs.Index.{row_step, in_table, next_row}
use Rattle.base.proofs.Tests.{not-false}
use Rattle.boxsets.specs.Sets.{is_in, set_at, has}
use Rattle.boxsets.proofs.TableLaws.{has_in}
use Rattle.scratch.specs.Steps.{Cells, SameFrom, Ones, Room, Square}

-- the rows of bytes before i say what the sets have, and those from i on are 0
pub record Spread (n i : ℕ) (sets s t : List ℕ) : Type 0 where
  pub done : (a b : ℕ) → a < i → b < n → get_or t (a * n + b) 0 ≡ bit (has sets a b)
  pub todo : (p : ℕ) → i * n ≤ p → p < n * n → get_or t p 0 ≡ 0
  pub same : SameFrom (n * n) s t

module _ (n i : ℕ) (sets s t u : List ℕ) (l : i < n) (square : Square n sets) (sp : Spread n i sets s t) (ones : Ones (is_in (set_at sets i)) (i * n) t u) where
  -- beyond the row nothing is set
  beyond : (p : ℕ) → i * n + n ≤ p → get_or u p 0 ≡ get_or t p 0
  beyond p h =
      let e : p ≡ i * n + (p - i * n) = omega arith in
      let z : is_in (set_at sets i) (p - i * n) ≡ false = not-false (is_in (set_at sets i) (p - i * n)) (λ b. let m = square i (p - i * n) l (rw has_in b) in absurd (omega arith)) in
      subst (λ (k : ℕ). get_or u k 0 ≡ get_or t k 0) (sym e) (ones.from (p - i * n) ∙ rw z)

  pub spread_row : Spread n (i + 1) sets s u
  spread_row = record {
    done = λ a b la lb. below_more (λ (a : ℕ). (b : ℕ) → b < n → get_or u (a * n + b) 0 ≡ bit (has sets a b)) i
        (λ a la b lb. ones.before (a * n + b) (omega (arith, row_step n a i la)) ∙ sp.done a b la lb)
        (λ b lb. ones.from b ∙ ap₂ (λ (y : Bool) (z : ℕ). cond y 1 z) (sym (has_in sets i b)) (sp.todo (i * n + b) (omega arith) (in_table n n i b l lb)) ∙ sym (bit_is (has sets i b)))
        a la b lb;
    todo = λ p h m. let g : i * n + n ≤ p = omega (arith, next_row n i) in beyond p g ∙ sp.todo p (omega arith) m;
    same = record {
      len = ones.len ∙ sp.same.len;
      rest = λ p h. let g : i * n + n ≤ p = omega (arith, row_step n i n l) in beyond p g ∙ sp.same.rest p h;
    };
  }

-- n × n places are cleared first, and no more than that
module _ (n : ℕ) (sets s t : List ℕ) (room : n * n ≤ length s) (clear : t ≡ written (zeros (n * n)) s) where
  pub cleared-rest : SameFrom (n * n) s t
  cleared-rest = rw clear (record {
    len = written-length (zeros (n * n)) s (rw zeros-length room);
    rest = λ p l. written-rest (zeros (n * n)) s p (rw zeros-length l);
  })

  pub spread-begins : Spread n 0 sets t t
  spread-begins = record {
    done = λ a b la lb. absurd (omega arith);
    todo = λ p h l. rw clear (written_at (zeros (n * n)) s p (rw zeros-length l) ∙ zeros-at (n * n) p l);
    same = record { len = refl; rest = λ p l. refl };
  }

  -- and all rows are spread
  pub spread-ends : (u : List ℕ) → Spread n n sets t u → Cells n (has sets) u × SameFrom (n * n) s u
  spread-ends u sp = (
    λ a b la lb. sp.done a b la lb,
    record { len = sp.same.len ∙ cleared-rest.len; rest = λ p l. sp.same.rest p l ∙ cleared-rest.rest p l },
  )

-- set i has room in its row of bytes
pub row_room : (n i : ℕ) (sets t : List ℕ) → i < n → Square n sets → n * n ≤ length t → Room (is_in (set_at sets i)) (i * n) t
row_room n i sets t l square room b h = omega (arith, in_table n n i b l (square i b l (rw has_in h)))
