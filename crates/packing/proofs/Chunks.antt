-- Lists joined by blocks: in two runs, in chunks of one size, and as the rows of a table. Assumes nothing.
use mathlib.Core.Path.{◌≡◌, refl, sym, ap, ap₂, ◌∙◌}
use mathlib.Core.Bool.{Bool, true, false, cond}
use mathlib.Core.List.{List, [], ◌∷◌, ◌++◌, append_assoc, append-nil}
use mathlib.Core.Logic.{⊎_elim}
use Prim.Native.Nat.{ℕ, zero, suc, ◌+◌, ◌*◌, ◌-◌, ◌/◌, ◌%◌, ◌<◌, ◌≤◌}
use native.Mathlib.Omega.{arith}
use native.Mathlib.Nat.{mul-zero, mul-suc, eq-or-lt_of_le, le_of_suc-le-suc}
use native.Mathlib.Numerals.{add-one}
use borrow.Author.Tests.{lt-ltb, le-ltb, ltb-true, ltb-false}
use lib.Dec.{ltb}
use lib.ListN.{length, get_or, take, drop, get_or-append}
use lib.Seq.{take-add, take-length, drop-cons, get_or-append-add}
use Rattle.tables.specs.Rows.{row_count, row_at, arrow_count, arrow_at}
use Rattle.base.proofs.FoldLaws.{fold-add}
use Rattle.blocks.specs.Blocks.{joined}
use Rattle.blocks.proofs.JoinedLaws.{joined-none, joined-more, joined-fold, append-chains}
use Rattle.blocks.proofs.Made.{joined_same}
use Rattle.blocks.proofs.Placing.{joined_length}
use Rattle.packing.specs.Packed.{least}

-- ---- the smaller of two

pub least-low : (a b : ℕ) → a ≤ b → least a b ≡ a
unfolding least
least-low a b h = go (ltb a b) refl
  where
    go : (t : Bool) → ltb a b ≡ t → cond t a b ≡ a
    go true e = refl
    go false e = omega (arith, ltb-false a b e)

pub least-high : (a b : ℕ) → b ≤ a → least a b ≡ b
unfolding least
least-high a b h = rw (le-ltb a b h)

-- ---- lists joined in two runs

pub joined-suc : (f : ℕ → List ℕ) (n : ℕ) → joined f (suc n) ≡ joined f n ++ f n
joined-suc f n = ap (joined f) (sym (add-one n)) ∙ joined-more f n

pub joined-add : (f : ℕ → List ℕ) (a n : ℕ) → joined f (a + n) ≡ joined f a ++ joined (λ k. f (a + k)) n
joined-add f a n =
    joined-fold f (a + n) ∙ fold-add [] ◌++◌ append-chains f a n ∙ sym (ap₂ ◌++◌ (joined-fold f a) (joined-fold (λ k. f (a + k)) n))

-- lists that are all empty
pub joined-empty : (f : ℕ → List ℕ) (n : ℕ) → ((k : ℕ) → k < n → f k ≡ []) → joined f n ≡ []
joined-empty f zero e = joined-none f
joined-empty f (suc n) e = joined-suc f n ∙ ap₂ ◌++◌ (joined-empty f n (λ k h. e k (omega arith))) (e n (omega arith))

-- m of one run, then those of another
unfoldable pub glue : (m : ℕ) (f g : ℕ → List ℕ) → ℕ → List ℕ
glue m f g k = cond (ltb k m) (f k) (g (k - m))

pub glue-low : (m : ℕ) (f g : ℕ → List ℕ) (k : ℕ) → k < m → glue m f g k ≡ f k
unfolding glue
glue-low m f g k h = rw (lt-ltb k m h)

pub glue-high : (m : ℕ) (f g : ℕ → List ℕ) (k : ℕ) → glue m f g (m + k) ≡ g k
unfolding glue
glue-high m f g k =
    let e : m + k - m ≡ k = omega arith in
    rw (le-ltb (m + k) m (omega arith), e)

-- what holds of each of both runs
pub glue-each : (P : List ℕ → Type 0) (m n : ℕ) (f g : ℕ → List ℕ) → ((k : ℕ) → k < m → P (f k)) → ((k : ℕ) → k < n → P (g k))
    → (k : ℕ) → k < m + n → P (glue m f g k)
unfolding glue
glue-each P m n f g p q k h = go (ltb k m) refl
  where
    go : (t : Bool) → ltb k m ≡ t → P (cond t (f k) (g (k - m)))
    go true e = p k (ltb-true k m e)
    go false e = let l = ltb-false k m e in q (k - m) (omega arith)

-- what F makes of each, joined
pub joined-glue : (F : List ℕ → List ℕ) (m n : ℕ) (f g : ℕ → List ℕ)
    → joined (λ k. F (glue m f g k)) (m + n) ≡ joined (λ k. F (f k)) m ++ joined (λ k. F (g k)) n
joined-glue F m n f g =
    joined-add (λ k. F (glue m f g k)) m n
    ∙ ap₂ ◌++◌
    (joined_same (λ k. F (glue m f g k)) (λ k. F (f k)) m (λ k h. ap F (glue-low m f g k h)))
    (joined_same (λ k. F (glue m f g (m + k))) (λ k. F (g k)) n (λ k h. ap F (glue-high m f g k)))

-- ---- lists joined in chunks of c

-- those before the next chunk
chunk-step : (c n m : ℕ) → c * m ≤ n → c * m + least (n - c * m) c ≡ least (c * suc m) n
chunk-step c n m h = go (ltb (n - c * m) c) refl
  where
    go : (t : Bool) → ltb (n - c * m) c ≡ t → c * m + least (n - c * m) c ≡ least (c * suc m) n
    go true e =
        let l = ltb-true (n - c * m) c e in
        rw (mul-suc, least-low (n - c * m) c (omega arith), least-high (c * m + c) n (omega arith)) (omega arith)
    go false e =
        let l = ltb-false (n - c * m) c e in
        rw (mul-suc, least-high (n - c * m) c l, least-low (c * m + c) n (omega arith))

joined-chunks : (g : ℕ → List ℕ) (c n m : ℕ)
    → joined (λ k. joined (λ j. g (c * k + j)) (least (n - c * k) c)) m ≡ joined g (least (c * m) n)
joined-chunks g c n zero = joined-none _ ∙ sym (rw (mul-zero, least-low 0 n (omega arith)) (joined-none g))
joined-chunks g c n (suc m) =
    joined-suc _ m ∙ ap (λ (x : List ℕ). x ++ joined (λ j. g (c * m + j)) (least (n - c * m) c)) (joined-chunks g c n m) ∙ go (ltb n (c * m)) refl
  where
    go : (t : Bool) → ltb n (c * m) ≡ t → joined g (least (c * m) n) ++ joined (λ j. g (c * m + j)) (least (n - c * m) c) ≡ joined g (least (c * suc m) n)
    go true e =
        let l = ltb-true n (c * m) e in
        let z : n - c * m ≡ 0 = omega arith in
        rw (z, least-low 0 c (omega arith), least-high (c * m) n (omega arith), mul-suc, least-high (c * m + c) n (omega arith))
        (ap (λ (x : List ℕ). joined g n ++ x) (joined-none _) ∙ append-nil _)
    go false e =
        let l = ltb-false n (c * m) e in
        rw (least-low (c * m) n l, ← chunk-step c n m l) (sym (joined-add g (c * m) (least (n - c * m) c)))

-- chunks enough for all n
pub joined-all : (g : ℕ → List ℕ) (c n m : ℕ) → n ≤ c * m
    → joined (λ k. joined (λ j. g (c * k + j)) (least (n - c * k) c)) m ≡ joined g n
joined-all g c n m h = joined-chunks g c n m ∙ ap (joined g) (least-high (c * m) n h)

-- ---- one of the lists, by its elements

pub joined_at : (f : ℕ → List ℕ) (w n : ℕ) → ((k : ℕ) → k < n → length (f k) ≡ w) → (rest : List ℕ) (j i : ℕ) → j < n → i < w
    → get_or (joined f n ++ rest) (w * j + i) 0 ≡ get_or (f j) i 0
joined_at f w zero e rest j i h l = absurd (omega arith)
joined_at f w (suc n) e rest j i h l =
    let front : (k : ℕ) → k < n → length (f k) ≡ w = λ k m. e k (omega arith) in
    ap (λ (x : List ℕ). get_or (x ++ rest) (w * j + i) 0) (joined-suc f n)
    ∙ ap (λ (x : List ℕ). get_or x (w * j + i) 0) (append_assoc (joined f n) (f n) rest)
    ∙ ⊎_elim
    (λ (q : j ≡ n).
    rw (q, ← joined_length f w n front) (get_or-append-add (joined f n) (f n ++ rest) i 0
    ∙ get_or-append (f n) rest 0 i (let w' = e n (omega arith) in omega arith)))
    (λ (m : j < n). joined_at f w n front (f n ++ rest) j i m l)
    (eq-or-lt_of_le (le_of_suc-le-suc h))

-- ---- a table is the join of its rows

pub rows-joined : (w : ℕ) (l : List ℕ) (n : ℕ) → joined (λ i. take w (drop (w * i) l)) n ≡ take (w * n) l
rows-joined w l zero = joined-none _ ∙ rw mul-zero
rows-joined w l (suc n) =
    joined-suc _ n ∙ ap (λ (x : List ℕ). x ++ take w (drop (w * n) l)) (rows-joined w l n) ∙ rw mul-suc (sym (take-add (w * n) w l))

pub boxes-joined : (boxes : List ℕ) → joined (λ i. get_or boxes i 0 ∷ []) (length boxes) ≡ boxes
boxes-joined boxes =
    joined_same _ (λ i. take 1 (drop (1 * i) boxes)) (length boxes) row
    ∙ rows-joined 1 boxes (length boxes) ∙ (let e : 1 * length boxes ≡ length boxes = omega arith in rw (e, take-length))
  where
    row : (i : ℕ) → i < length boxes → get_or boxes i 0 ∷ [] ≡ take 1 (drop (1 * i) boxes)
    row i h =
        let e : 1 * i ≡ i = omega arith in
        rw (e, drop-cons boxes i 0)

pub containments-joined : (rows : List ℕ) → length rows % 2 ≡ 0
    → joined (λ i. (row_at rows i).outer ∷ (row_at rows i).inner ∷ []) (row_count rows) ≡ rows
containments-joined rows whole =
    joined_same _ (λ i. take 2 (drop (2 * i) rows)) (row_count rows) row
    ∙ rows-joined 2 rows (row_count rows) ∙ (let e : 2 * (length rows / 2) ≡ length rows = omega arith in rw (e, take-length))
  where
    row : (i : ℕ) → i < row_count rows → (row_at rows i).outer ∷ (row_at rows i).inner ∷ [] ≡ take 2 (drop (2 * i) rows)
    row i h =
        let a : 2 * i < length rows = omega arith in
        let b : suc (2 * i) < length rows = omega arith in
        rw (drop-cons rows (2 * i) 0, drop-cons rows (suc (2 * i)) 0, add-one)

pub arrows-joined : (arrows : List ℕ) → length arrows % 4 ≡ 0
    → joined (λ i. (arrow_at arrows i).tail ∷ (arrow_at arrows i).head ∷ (arrow_at arrows i).mode ∷ (arrow_at arrows i).sign ∷ []) (arrow_count arrows) ≡ arrows
arrows-joined arrows whole =
    joined_same _ (λ i. take 4 (drop (4 * i) arrows)) (arrow_count arrows) row
    ∙ rows-joined 4 arrows (arrow_count arrows) ∙ (let e : 4 * (length arrows / 4) ≡ length arrows = omega arith in rw (e, take-length))
  where
    row : (i : ℕ) → i < arrow_count arrows
        → (arrow_at arrows i).tail ∷ (arrow_at arrows i).head ∷ (arrow_at arrows i).mode ∷ (arrow_at arrows i).sign ∷ [] ≡ take 4 (drop (4 * i) arrows)
    row i h =
        let a : 4 * i < length arrows = omega arith in
        let b : suc (4 * i) < length arrows = omega arith in
        let c : suc (suc (4 * i)) < length arrows = omega arith in
        let d : suc (suc (suc (4 * i))) < length arrows = omega arith in
        let b' : 4 * i + 1 ≡ suc (4 * i) = omega arith in
        let c' : 4 * i + 2 ≡ suc (suc (4 * i)) = omega arith in
        let d' : 4 * i + 3 ≡ suc (suc (suc (4 * i))) = omega arith in
        rw (b', c', d', drop-cons arrows (4 * i) 0, drop-cons arrows (suc (4 * i)) 0, drop-cons arrows (suc (suc (4 * i))) 0, drop-cons arrows (suc (suc (suc (4 * i)))) 0)
