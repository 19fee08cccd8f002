-- The bytes of words and sets, one after the other. Assumes nothing.
use mathlib.Core.Path.{◌≡◌, refl, sym, ap, subst, ◌∙◌}
use mathlib.Core.List.{List, ◌++◌}
use Prim.Native.Nat.{ℕ, zero, suc, ◌+◌, ◌-◌, ◌*◌, ◌/◌, ◌%◌, ◌^◌, ◌<◌, ◌≤◌}
use native.Mathlib.Decide.{dec_lt}
use native.Mathlib.Nat.{div-one}
use native.Mathlib.Omega.{arith}
use lib.ListN.{length, get_or, get_or-append, take, drop, length-drop}
use lib.Seq.{get_or-append-add, get_or-take, get_or-drop, length-take-le}
use borrow.Rule.Slice.PartMut.{put_mid, post_of, same_len_mid}
use Rattle.std.specs.Int.{w64, to_le_bytes}
use Rattle.boxsets.specs.Sets.{has}
use Rattle.boxsets.specs.Words.{bit_at}
use Rattle.boxsets.proofs.TableLaws.{has_word}
use Rattle.boxsets.proofs.WordLaws.{shift-bit}
use Rattle.bit_rows.specs.Bits.{number, row_bits}
use Rattle.bit_rows.specs.Steps.{word_byte, set_byte, Laid}
use Rattle.bit_rows.proofs.NumberLaws.{number_same, number-low}

-- ---- the bits of a byte

byte-number : (word k : ℕ) → word_byte word k ≡ number (λ j. bit_at word (8 * k + j)) 8
unfolding word_byte
byte-number word k =
    sym (number-low 8 (word / 2 ^ (8 * k)))
    ∙ number_same (bit_at (word / 2 ^ (8 * k))) (λ j. bit_at word (8 * k + j)) 8 (λ j l. shift-bit (8 * k) word j)

-- byte q of a set has the eight numbers from 8 × q on
pub set-byte : (sets : List ℕ) (a q : ℕ) → q < 32 → set_byte sets a q ≡ row_bits (has sets) a q
unfolding set_byte row_bits
set-byte sets a q few =
    byte-number (get_or sets (4 * a + q / 8) 0) (q % 8)
    ∙ number_same (λ j. bit_at (get_or sets (4 * a + q / 8) 0) (8 * (q % 8) + j)) (λ j. has sets a (8 * q + j)) 8 (λ j l. sym (at j l))
  where
    at : (j : ℕ) → j < 8 → has sets a (8 * q + j) ≡ bit_at (get_or sets (4 * a + q / 8) 0) (8 * (q % 8) + j)
    at j l =
        let word : (8 * q + j) / 64 ≡ q / 8 = omega arith in
        let bit : (8 * q + j) % 64 ≡ 8 * (q % 8) + j = omega arith in
        has_word sets a (8 * q + j) (omega arith) ∙ rw (word, bit)

-- byte k of a word
pub le-byte : (word k : ℕ) → k < 8 → get_or (to_le_bytes w64 word) k 0 ≡ word_byte word k
unfolding word_byte
le-byte word zero l = ap (λ (x : ℕ). x % 256) (sym (div-one word))
le-byte word (suc zero) l = refl
le-byte word (suc (suc zero)) l = refl
le-byte word (suc (suc (suc zero))) l = refl
le-byte word (suc (suc (suc (suc zero)))) l = refl
le-byte word (suc (suc (suc (suc (suc zero))))) l = refl
le-byte word (suc (suc (suc (suc (suc (suc zero)))))) l = refl
le-byte word (suc (suc (suc (suc (suc (suc (suc zero))))))) l = refl
le-byte word (suc (suc (suc (suc (suc (suc (suc (suc k)))))))) l = absurd (omega arith)

module _ (g : ℕ → ℕ) (at : ℕ) where
  pub laid_none : (s : List ℕ) → Laid g at 0 (at + 0) s s
  laid_none s = record { len = refl; place = λ k l. absurd (omega arith); before = λ i l. refl; rest = λ i l. refl }

  -- ---- a part that is copied

  pub laid-part : (m n : ℕ) (s ys : List ℕ) → n ≡ m → length ys ≡ m → at + m ≤ length s → ((k : ℕ) → k < m → get_or ys k 0 ≡ g k)
      → Laid g at m (at + m) s (put_mid at n s ys)
  laid-part m n s ys e long room same =
      let front : length (take at s) ≡ at = length-take-le at s (omega arith) in
      record {
        len = same_len_mid at n s ys (long ∙ sym e ∙ sym (length-take-le n (drop at s) (omega (arith, length-drop at s))));
        place = λ k l.
            ap (λ (i : ℕ). get_or (put_mid at n s ys) (i + k) 0) (sym front)
            ∙ get_or-append-add (take at s) (ys ++ post_of at n s) k 0
            ∙ get_or-append ys (post_of at n s) 0 k (rw long l)
            ∙ same k l;
        before = λ i l. get_or-append (take at s) (ys ++ post_of at n s) 0 i (rw front l) ∙ get_or-take at s i 0 l;
        rest = λ i l. behind i l front;
      }
    where
      behind : (i : ℕ) → at + m ≤ i → length (take at s) ≡ at → get_or (put_mid at n s ys) i 0 ≡ get_or s i 0
      behind i l front =
          let j : i ≡ length (take at s) + (length ys + (i - (at + m))) = omega arith in
          let k : at + (n + (i - (at + m))) ≡ i = omega arith in
          ap (λ (x : ℕ). get_or (put_mid at n s ys) x 0) j
          ∙ get_or-append-add (take at s) (ys ++ post_of at n s) (length ys + (i - (at + m))) 0
          ∙ get_or-append-add ys (post_of at n s) (i - (at + m)) 0
          ∙ get_or-drop n (drop at s) (i - (at + m)) 0
          ∙ get_or-drop at s (n + (i - (at + m))) 0
          ∙ ap (λ (x : ℕ). get_or s x 0) k

  -- ---- eight bytes more

  pub laid-join : (h : ℕ → ℕ) (m from : ℕ) (s t u : List ℕ) → from ≡ at + m → Laid g at m (at + m) s t → Laid h from 8 (from + 8) t u
      → ((k : ℕ) → k < 8 → h k ≡ g (m + k)) → Laid g at (m + 8) (at + (m + 8)) s u
  laid-join h m from s t u is l r same = record {
    len = r.len ∙ l.len;
    place = λ k b. here k b (dec_lt k m);
    before = λ i b. r.before i (omega arith) ∙ l.before i b;
    rest = λ i b. r.rest i (omega arith) ∙ l.rest i (omega arith);
  }
    where
      here : (k : ℕ) → k < m + 8 → Dec (k < m) → get_or u (at + k) 0 ≡ g k
      here k b (yes c) = r.before (at + k) (omega arith) ∙ l.place k c
      here k b (no c) =
          let e : from + (k - m) ≡ at + k = omega arith in
          let f : m + (k - m) ≡ k = omega arith in
          subst (λ (i : ℕ). get_or u i 0 ≡ h (k - m)) e (r.place (k - m) (omega arith)) ∙ same (k - m) (omega arith) ∙ ap g f

-- word q of a set has its bytes from 8 × q on
pub word_bytes : (sets : List ℕ) (a q i : ℕ) → i ≡ 4 * a + q → (k : ℕ) → k < 8 → word_byte (get_or sets i 0) k ≡ set_byte sets a (8 * q + k)
unfolding set_byte
word_bytes sets a q i is k l =
    let word : (8 * q + k) / 8 ≡ q = omega arith in
    let byte : (8 * q + k) % 8 ≡ k = omega arith in
    rw (is, word, byte)
