-- The third condition as tests that compute: a pair is given by its place in the matrix (`meaning`, specs/Pairs.antt). What they say is
-- specs/Condition.antt, by `third-condition` (proofs/ConditionLaws.antt). Assumes nothing.
use Rattle.std.specs.Prelude.{◌≡◌, Bool, true, false, not, cond, ◌&&◌, ◌||◌, List, [], ◌∷◌, ℕ, ◌<◌, T, eqb}
use Rattle.std.specs.Prelude.{Option, None as none, Some as some}
use Rattle.base.specs.Search.{implies, every}
use Rattle.tables.specs.Rows.{Picture, arrow_at}
use Rattle.meaning.specs.Meaning.{reaches, is_granted}
use Rattle.meaning.specs.Pairs.{pairs, user_at, file_at, answer_at}
use Rattle.list_meaning.specs.Lists.{gives, of_mode}

-- a number of the list passes the test
unfoldable pub any_of : (t : ℕ → Bool) (l : List ℕ) → Bool
any_of t [] = false
any_of t (k ∷ l) = t k || any_of t l

-- each does
unfoldable pub all_of : (t : ℕ → Bool) (l : List ℕ) → Bool
all_of t [] = true
all_of t (k ∷ l) = t k && all_of t l

-- the first that does
unfoldable pub first_of : (t : ℕ → Bool) (l : List ℕ) → Option ℕ
first_of t [] = none
first_of t (k ∷ l) = cond (t k) (some k) (first_of t l)

-- no number stands twice in the list
unfoldable pub distinct : (l : List ℕ) → Bool
distinct [] = true
distinct (k ∷ l) = not (any_of (eqb k) l) && distinct l

-- if there is one, it passes the test
unfoldable pub passes : (t : ℕ → Bool) (found : Option ℕ) → Bool
passes t none = true
passes t (some k) = t k

module _ (pic : Picture) where
  -- arrow k reaches the pair at place p
  unfoldable pub meets : (p k : ℕ) → Bool
  meets p k = reaches pic (arrow_at pic.arrows k) (user_at pic p) (file_at pic p)

  -- the list reaches the pair at place p: one of its arrows does
  unfoldable pub reached : (l : List ℕ) (p : ℕ) → Bool
  reached l p = any_of (meets p) l

  module _ (m : ℕ) where
    -- the pair at place p is granted in the mode
    unfoldable pub granted : (p : ℕ) → Bool
    granted p = is_granted (answer_at pic m p)

    -- the pair at place p gets the picture's answer from arrow k
    unfoldable pub right : (p k : ℕ) → Bool
    right p k = gives (arrow_at pic.arrows k).sign (answer_at pic m p)

    -- a list of the mode's arrows is honest if each pair that it reaches gets the picture's answer from the first arrow in the list
    -- that reaches it
    unfoldable pub honest : (l : List ℕ) → Bool
    honest l = all_of (of_mode pic.arrows m) l && every (λ p. passes (right p) (first_of (meets p) l)) (pairs pic)

    -- the list reaches every granted pair
    unfoldable pub covers_all : (l : List ℕ) → Bool
    covers_all l = every (λ p. implies (granted p) (reached l p)) (pairs pic)

    -- what holds of the list that is written: it is honest, has no arrow twice and reaches every granted pair
    unfoldable pub qualifies : (l : List ℕ) → Bool
    qualifies l = honest l && (distinct l && covers_all l)

    -- (u, f) is the first granted pair, by user, then file, that no honest list whatever reaches
    pub record FirstMissed (u f : ℕ) : Type 0 where
      pub place : ℕ
      pub there : place < pairs pic
      pub user-is : user_at pic place ≡ u
      pub file-is : file_at pic place ≡ f
      pub is-granted : T (granted place)
      pub missed : (l : List ℕ) → T (honest l) → T (reached l place) → ⊥
      pub before : (q : ℕ) → q < place → T (granted q) → (l : List ℕ) × T (honest l) × T (reached l q)
