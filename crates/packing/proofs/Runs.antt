-- Numbers 1 to 3 that do not fall are a run of 1, a run of 2 and a run of 3; and lists joined that are empty but for a run, or of one
-- length but for the last. Assumes nothing.
use mathlib.Core.Path.{◌≡◌, refl, sym, ap, ap₂, ◌∙◌}
use mathlib.Core.Bool.{Bool, true, false}
use mathlib.Core.List.{List, [], ◌++◌, append-nil}
use mathlib.Core.Logic.{⊎_elim}
use Prim.Native.Nat.{ℕ, zero, suc, ◌+◌, ◌*◌, ◌-◌, ◌<◌, ◌≤◌}
use native.Mathlib.Omega.{arith}
use native.Mathlib.Nat.{eq-or-lt_of_le, le_of_suc-le-suc}
use borrow.Author.Tests.{ltb-true, ltb-false}
use lib.Dec.{ltb}
use lib.ListN.{length, get_or, length-append}
use lib.Seq.{get_or-append-add}
use Rattle.blocks.specs.Blocks.{joined}
use Rattle.blocks.proofs.Placing.{joined_length}
use Rattle.packing.proofs.Chunks.{joined-suc, joined-add, joined-empty, joined_at}

-- ---- where numbers that do not fall reach t

pub record Cut (f : ℕ → ℕ) (t n : ℕ) : Type 0 where
  pub place : ℕ
  pub most : place ≤ n
  pub low : (k : ℕ) → k < place → f k < t
  pub high : (k : ℕ) → place ≤ k → k < n → t ≤ f k

-- each is at least those before it
pub rises : (f : ℕ → ℕ) (n : ℕ) → ((k : ℕ) → suc k < n → f k ≤ f (suc k)) → (j k : ℕ) → j ≤ k → k < n → f j ≤ f k
rises f n step j zero h l = let e : j ≡ 0 = omega arith in rw e (omega arith)
rises f n step j (suc k) h l = ⊎_elim
    (λ e. rw e (omega arith))
    (λ (m : j < suc k). let a = rises f n step j k (omega arith) (omega arith) in let b = step k l in omega arith)
    (eq-or-lt_of_le h)

pub cut : (f : ℕ → ℕ) (t n : ℕ) → ((k : ℕ) → suc k < n → f k ≤ f (suc k)) → Cut f t n
cut f t zero step = record { place = 0; most = omega arith; low = λ k h. absurd (omega arith); high = λ k h l. absurd (omega arith) }
cut f t (suc n) step = go (cut f t n (λ k h. step k (omega arith))) (ltb (f n) t) refl
  where
    go : Cut f t n → (b : Bool) → ltb (f n) t ≡ b → Cut f t (suc n)
    go c true e =
        let s = ltb-true (f n) t e in
        record {
          place = suc n;
          most = omega arith;
          low = λ k h. let r = rises f (suc n) step k n (omega arith) (omega arith) in omega arith;
          high = λ k h l. absurd (omega arith);
        }
    go c false e =
        let s = ltb-false (f n) t e in
        record {
          place = c.place;
          most = let m = c.most in omega arith;
          low = c.low;
          high = λ k h l. ⊎_elim (λ q. rw q s) (λ (m : k < n). c.high k h m) (eq-or-lt_of_le (le_of_suc-le-suc l));
        }

-- a of 1, b of 2, c of 3
pub record Runs (f : ℕ → ℕ) (n : ℕ) : Type 0 where
  pub a : ℕ
  pub b : ℕ
  pub c : ℕ
  pub all : n ≡ a + b + c
  pub ones : (k : ℕ) → k < a → f k ≡ 1
  pub no_ones : (k : ℕ) → a ≤ k → k < n → 2 ≤ f k
  pub no-threes : (k : ℕ) → k < a + b → f k ≤ 2
  pub threes : (k : ℕ) → a + b ≤ k → k < n → f k ≡ 3

pub runs : (f : ℕ → ℕ) (n : ℕ) → ((k : ℕ) → suc k < n → f k ≤ f (suc k)) → ((k : ℕ) → k < n → (1 ≤ f k) × (f k ≤ 3)) → Runs f n
runs f n step range = go (cut f 2 n step) (cut f 3 n step)
  where
    order : (p : Cut f 2 n) (q : Cut f 3 n) (t : Bool) → ltb q.place p.place ≡ t → p.place ≤ q.place
    order p q true w =
        let l = ltb-true q.place p.place w in
        let m = p.most in
        let r = p.low q.place l in
        let s = q.high q.place (omega arith) (omega arith) in
        absurd (omega arith)
    order p q false w = ltb-false q.place p.place w

    go : Cut f 2 n → Cut f 3 n → Runs f n
    go p q =
        let pm = p.most in
        let qm = q.most in
        let o = order p q (ltb q.place p.place) refl in
        record {
          a = p.place;
          b = q.place - p.place;
          c = n - q.place;
          all = omega arith;
          ones = λ k h. let r = range k (omega arith) in let s = p.low k h in omega arith;
          no_ones = p.high;
          no-threes = λ k h. let s = q.low k (omega arith) in omega arith;
          threes = λ k h l. let r = range k l in let s = q.high k (omega arith) l in omega arith;
        }

-- ---- lists that are empty but for a run of m

pub joined-run : (g : ℕ → List ℕ) (f m r : ℕ) → ((k : ℕ) → k < f → g k ≡ []) → ((j : ℕ) → j < r → g (f + m + j) ≡ [])
    → joined g (f + m + r) ≡ joined (λ j. g (f + j)) m
joined-run g f m r before after =
    joined-add g (f + m) r
    ∙ ap₂ ◌++◌ (joined-add g f m ∙ ap (λ (x : List ℕ). x ++ joined (λ j. g (f + j)) m) (joined-empty g f before)) (joined-empty _ r after)
    ∙ append-nil _

-- ---- lists of one length but for the last

module _ (f : ℕ → List ℕ) (w m : ℕ) (full : (k : ℕ) → k < m → length (f k) ≡ w) where
  pub chunks-length : length (joined f (suc m)) ≡ w * m + length (f m)
  chunks-length = rw joined-suc (simp (length-append, joined_length f w m full))

  pub chunk-at : (j i : ℕ) → j < suc m → i < length (f j) → get_or (joined f (suc m)) (w * j + i) 0 ≡ get_or (f j) i 0
  chunk-at j i h l = rw joined-suc (⊎_elim
      (λ (e : j ≡ m). rw (e, ← joined_length f w m full) (get_or-append-add (joined f m) (f m) i 0))
      (λ (s : j < m). joined_at f w m full (f m) j i s (rw (full j s) at l))
      (eq-or-lt_of_le (le_of_suc-le-suc h)))

-- all of one length
pub joined-one : (f : ℕ → List ℕ) (w n : ℕ) → ((k : ℕ) → k < n → length (f k) ≡ w) → (j i : ℕ) → j < n → i < w
    → get_or (joined f n) (w * j + i) 0 ≡ get_or (f j) i 0
joined-one f w n e j i h l = ap (λ (x : List ℕ). get_or x (w * j + i) 0) (sym (append-nil (joined f n))) ∙ joined_at f w n e [] j i h l
