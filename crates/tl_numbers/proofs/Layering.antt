-- How the layers stay in step when they grow and when a bit is written.
use Rattle.std.proofs.Common.{◌≡◌, ◌≢◌, ℕ, ◌*◌, ◌/◌, ◌%◌, ◌<◌, ◌≤◌, min, List, [], length, get_or, replicate, Option, Some, None, refl, sym, ap, ◌∙◌, inl, inr, arith}
use Rattle.std.specs.Int.{bit_at}
use Rattle.std.proofs.lemmas.Bool.{cases_eq, cases_lt}
use Rattle.std.proofs.lemmas.List.{get_or-replicate, get_or_past, length-replicate}
use Rattle.std.proofs.lemmas.Nat.Bits.{bit_at-zero}
use Rattle.tl_numbers.specs.Layers.{IsGrown, IsLayered, Marks, bit_in, mark_of}
use Rattle.tl_numbers.specs.Places.{IsFirstFrom, IsLastBelow}

no-bit : (n : ℕ) → bit_in [] n ≡ 0
unfolding bit_in
no-bit n = bit_at-zero (n % 64)

no-mark : (j : ℕ) → mark_of [] j ≡ 0
unfolding mark_of
no-mark j = refl

pub empty-layers : IsLayered 0 [] [] [] []
empty-layers =
    let none : Marks [] [] = λ j. no-bit j ∙ sym (no-mark j) in
    record {
      limit = omega arith;
      in_first = omega arith;
      in_second = omega arith;
      in_third = omega arith;
      in_fourth = omega arith;
      first_short = omega arith;
      second_short = omega arith;
      third_short = omega arith;
      fourth_short = omega arith;
      second_marks = none;
      third_marks = none;
      fourth_marks = none;
      none_past = λ n h. no-bit n;
    }

-- words that are zero
abbrev pub zeros : ℕ → List ℕ
zeros n = replicate n 0

length-zeros : (n : ℕ) → length (zeros n) ≡ n
length-zeros n = length-replicate {A = ℕ} n 0

zero-words : (n i : ℕ) → get_or (zeros n) i 0 ≡ 0
zero-words n i =
    elim (cases_lt i n) [
      | inl within ↦ get_or-replicate n i 0 0 within
      | inr past ↦ get_or_past (zeros n) i 0 (omega (arith, length-zeros n))
    ]

pub erased-bit : (n k : ℕ) → bit_in (zeros n) k ≡ 0
unfolding bit_in
erased-bit n k = ap (λ w. bit_at w (k % 64)) (zero-words n (k / 64)) ∙ bit_at-zero (k % 64)

erased-mark : (n j : ℕ) → mark_of (zeros n) j ≡ 0
unfolding mark_of
erased-mark n j = ap (λ w. min 1 w) (zero-words n j)

pub erased : (bound : ℕ) (f s t u : List ℕ) → IsLayered bound f s t u → IsLayered bound (zeros (length f)) (zeros (length s)) (zeros (length t)) (zeros (length u))
erased bound f s t u old =
    record {
      limit = old.limit;
      in_first = rw (length-zeros (length f)) old.in_first;
      in_second = rw (length-zeros (length s)) old.in_second;
      in_third = rw (length-zeros (length t)) old.in_third;
      in_fourth = rw (length-zeros (length u)) old.in_fourth;
      first_short = rw (length-zeros (length f)) old.first_short;
      second_short = rw (length-zeros (length s)) old.second_short;
      third_short = rw (length-zeros (length t)) old.third_short;
      fourth_short = rw (length-zeros (length u)) old.fourth_short;
      second_marks = λ j. erased-bit (length s) j ∙ sym (erased-mark (length f) j);
      third_marks = λ j. erased-bit (length t) j ∙ sym (erased-mark (length s) j);
      fourth_marks = λ j. erased-bit (length u) j ∙ sym (erased-mark (length t) j);
      none_past = λ n h. erased-bit (length f) n;
    }

-- a row is grown from itself
pub grown-none : (len : ℕ) (words : List ℕ) → IsGrown len words words
grown-none len words = record { same = λ j. refl; kept = omega arith; short = omega arith }

pub grown-bit : (len : ℕ) (old new : List ℕ) → IsGrown len old new → (n : ℕ) → bit_in new n ≡ bit_in old n
unfolding bit_in
grown-bit len old new grown n = ap (λ w. bit_at w (n % 64)) (grown.same (n / 64))

grown-mark : (len : ℕ) (old new : List ℕ) → IsGrown len old new → (j : ℕ) → mark_of new j ≡ mark_of old j
unfolding mark_of
grown-mark len old new grown j = ap (λ w. min 1 w) (grown.same j)

grown-marks : (a b : ℕ) (upper lower upper' lower' : List ℕ) → IsGrown a upper upper' → IsGrown b lower lower' → Marks upper lower → Marks upper' lower'
grown-marks a b upper lower upper' lower' grown below marks j =
    grown-bit a upper upper' grown j ∙ marks j ∙ sym (grown-mark b lower lower' below j)

module _ (a b c : ℕ) (f s t u f' s' t' u' : List ℕ) (few : a ≤ 262144) (fewer : b ≤ 262144) (fewest : c ≤ 262144) where
  module _ (first : IsGrown a f f') (second : IsGrown b s s') (third : IsGrown c t t') (fourth : IsGrown 1 u u') where
    -- the layers under a greater bound, where they are long enough for it
    pub widened : (old bound : ℕ) → old ≤ bound → bound < 16777216 → bound ≤ 64 * length f' → bound ≤ 4096 * length s' → bound ≤ 262144 * length t' → bound ≤ 16777216 * length u' → IsLayered old f s t u → IsLayered bound f' s' t' u'
    widened old bound more limit in_first in_second in_third in_fourth layered =
        record {
          limit = limit;
          in_first = in_first;
          in_second = in_second;
          in_third = in_third;
          in_fourth = in_fourth;
          first_short = omega (arith, first.short, layered.first_short);
          second_short = omega (arith, second.short, layered.second_short);
          third_short = omega (arith, third.short, layered.third_short);
          fourth_short = omega (arith, fourth.short, layered.fourth_short);
          second_marks = grown-marks b a s f s' f' second first layered.second_marks;
          third_marks = grown-marks c b t s t' s' third second layered.third_marks;
          fourth_marks = grown-marks 1 c u t u' t' fourth third layered.fourth_marks;
          none_past = λ n h. grown-bit a f f' first n ∙ layered.none_past n (omega arith);
        }

    pub kept : (old : ℕ) → IsLayered old f s t u → IsLayered old f' s' t' u'
    kept old layered =
        widened old old (omega arith) layered.limit
        (omega (arith, layered.in_first, first.kept))
        (omega (arith, layered.in_second, second.kept))
        (omega (arith, layered.in_third, third.kept))
        (omega (arith, layered.in_fourth, fourth.kept))
        layered

-- the upper row follows where one word of the lower row was written, and its bit above
marked-again : (upper lower upper' lower' : List ℕ) (j m : ℕ) → Marks upper lower → mark_of lower' j ≡ m → ((i : ℕ) → i ≢ j → mark_of lower' i ≡ mark_of lower i) → bit_in upper' j ≡ m → ((i : ℕ) → i ≢ j → bit_in upper' i ≡ bit_in upper i) → Marks upper' lower'
marked-again upper lower upper' lower' j m marks mark others bit bits i =
    elim (cases_eq i j) [
      | inl same ↦ rw same (bit ∙ sym mark)
      | inr differs ↦ bits i differs ∙ marks i ∙ sym (others i differs)
    ]

module _ (bound n : ℕ) (within : n < bound) (f s t u f' s' t' u' : List ℕ) (a b c : ℕ) where
  pub written : IsLayered bound f s t u
      → length f' ≡ length f → length s' ≡ length s → length t' ≡ length t → length u' ≡ length u
      → ((k : ℕ) → k ≢ n → bit_in f' k ≡ bit_in f k)
      → mark_of f' (n / 64) ≡ a → ((j : ℕ) → j ≢ n / 64 → mark_of f' j ≡ mark_of f j)
      → bit_in s' (n / 64) ≡ a → ((k : ℕ) → k ≢ n / 64 → bit_in s' k ≡ bit_in s k)
      → mark_of s' (n / 64 / 64) ≡ b → ((j : ℕ) → j ≢ n / 64 / 64 → mark_of s' j ≡ mark_of s j)
      → bit_in t' (n / 64 / 64) ≡ b → ((k : ℕ) → k ≢ n / 64 / 64 → bit_in t' k ≡ bit_in t k)
      → mark_of t' (n / 64 / 64 / 64) ≡ c → ((j : ℕ) → j ≢ n / 64 / 64 / 64 → mark_of t' j ≡ mark_of t j)
      → bit_in u' (n / 64 / 64 / 64) ≡ c → ((k : ℕ) → k ≢ n / 64 / 64 / 64 → bit_in u' k ≡ bit_in u k)
      → IsLayered bound f' s' t' u'
  written old lf ls lt lu fs fm fms sb sbs sm sms tb tbs tm tms ub ubs =
      record {
        limit = old.limit;
        in_first = rw lf old.in_first;
        in_second = rw ls old.in_second;
        in_third = rw lt old.in_third;
        in_fourth = rw lu old.in_fourth;
        first_short = rw lf old.first_short;
        second_short = rw ls old.second_short;
        third_short = rw lt old.third_short;
        fourth_short = rw lu old.fourth_short;
        second_marks = marked-again s f s' f' (n / 64) a old.second_marks fm fms sb sbs;
        third_marks = marked-again t s t' s' (n / 64 / 64) b old.third_marks sm sms tb tbs;
        fourth_marks = marked-again u t u' t' (n / 64 / 64 / 64) c old.fourth_marks tm tms ub ubs;
        none_past = λ k h. fs k (let differs : k ≢ n = omega arith in differs) ∙ old.none_past k h;
      }

-- an answer of the upper row is one on the words of the lower row
pub last-along : (f g : ℕ → ℕ) → ((k : ℕ) → f k ≡ g k) → (n : ℕ) (r : Option ℕ) → IsLastBelow f n r → IsLastBelow g n r
last-along f g same n None none = λ k h. sym (same k) ∙ none k h
last-along f g same n (Some m) (below, bit, after) = (below, sym (same m) ∙ bit, λ k later h. sym (same k) ∙ after k later h)

pub first-along : (f g : ℕ → ℕ) → ((k : ℕ) → f k ≡ g k) → (n : ℕ) (r : Option ℕ) → IsFirstFrom f n r → IsFirstFrom g n r
first-along f g same n None none = λ k h. sym (same k) ∙ none k h
first-along f g same n (Some m) (from, bit, before) = (from, sym (same m) ∙ bit, λ k later h. sym (same k) ∙ before k later h)
