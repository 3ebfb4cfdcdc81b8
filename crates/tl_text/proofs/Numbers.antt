-- Decimal digits: which digits make a number, and that a number takes all digits that stand there.
use Rattle.std.proofs.Common.{◌≡◌, ℕ, zero, suc, ◌+◌, ◌-◌, ◌*◌, ◌/◌, ◌%◌, ◌^◌, ◌<◌, ◌≤◌, List, [], ◌∷◌, ◌++◌, length, take, drop, get_or, refl, sym, ap, subst, ◌∙◌, arith, rules, inl, inr}
use Rattle.std.specs.Fmt.{decimal}
use Rattle.std.specs.Int.{IsInRange, IsOutOfRange}
use Rattle.std.specs.Char.{digit_value}
use Rattle.std.specs.Str.Parse.{digits_value}
use Rattle.std.proofs.lemmas.Bool.{cases_lt}
use Rattle.std.proofs.lemmas.Fmt.{decimal_digit, decimal_step, decimal_nonempty, decimal_injective, digits_decimal, digits_value-decimal, first_decimal}
use Rattle.std.proofs.lemmas.Int.Digits.{digits_value_push}
use Rattle.std.proofs.lemmas.List.{append-nil, take_at, take_more, drop_all, take-append-drop, length-append, length-take-le, nil_from_length, drop_more}
use Rattle.std.proofs.lemmas.Str.{digit_value_digit}
use Rattle.std.proofs.lemmas.Str.Parse.{IsNumeralModel, numerals_by_value, digits_value-take-le}
use Rattle.tl_text.specs.Number.{BeginsWithNoDigit, IsNumber}
use Rattle.tl_text.specs.Place.{CanBegin, IsFirstBad}
use Rattle.tl_text.proofs.Places.{refused_at_byte, refused_at_end}

abbrev pub AreDigits : List ℕ → Type 0
AreDigits [] = Unit {0}
AreDigits (c ∷ cs) = IsInRange 48 57 c × AreDigits cs

own : IsNumeralModel AreDigits (digits_value 10)
own = numerals_by_value AreDigits (search rules)

digit_value_digit_sub : (c : ℕ) → IsInRange 48 57 c → digit_value c ≡ c - 48
digit_value_digit_sub c d = let e : digit_value c + 48 ≡ c = digit_value_digit c d in omega (arith, e)

pub not_a_digit : (c : ℕ) → IsOutOfRange 48 57 c → ¬ IsInRange 48 57 c
not_a_digit c (inl low) d = omega (arith, d.0)
not_a_digit c (inr high) d = omega (arith, d.1)

AreDigits-decimal : (n : ℕ) → n < 2 ^ 64 → AreDigits (decimal n)
AreDigits-decimal n small = digits_decimal own n small

AreDigits-push : (cs : List ℕ) (c : ℕ) → AreDigits cs → IsInRange 48 57 c → AreDigits (cs ++ c ∷ [])
AreDigits-push [] c d e = (e, tt)
AreDigits-push (b ∷ cs) c d e = (d.0, AreDigits-push cs c d.1 e)

digits_value-decimal_own : (n : ℕ) → n < 2 ^ 64 → digits_value 10 (decimal n) ≡ n
digits_value-decimal_own n small = digits_value-decimal own n small

-- digits at the front of a text stand at the front of its longest run of digits
pub run_goes_on : (xs more ys rest : List ℕ) → AreDigits xs → BeginsWithNoDigit rest → xs ++ more ≡ ys ++ rest → (zs : List ℕ) × (ys ≡ xs ++ zs) × (more ≡ zs ++ rest)
run_goes_on [] more ys rest d whole e = (ys, refl, e)
run_goes_on (x ∷ xs) more [] rest d whole e = absurd (subst BeginsWithNoDigit (sym e) whole d.0)
run_goes_on (x ∷ xs) more (y ∷ ys) rest d whole e =
    let heads : x ≡ y = cc in
    let tails : xs ++ more ≡ ys ++ rest = cc in
    let ih = run_goes_on xs more ys rest d.1 whole tails in
    (ih.0, (cc (ih.1, heads)), ih.2)

-- a number and one more digit
pub decimal_more : (n c : ℕ) → 0 < n → IsInRange 48 57 c → n * 10 + (c - 48) < 2 ^ 64 → decimal (n * 10 + (c - 48)) ≡ decimal n ++ c ∷ []
decimal_more n c pos d small =
    let m : ℕ = n * 10 + (c - 48) in
    let front : (n * 10 + (c - 48)) / 10 ≡ n = omega (arith, d.0, d.1) in
    let last : 48 + (n * 10 + (c - 48)) % 10 ≡ c = omega (arith, d.0, d.1) in
    decimal_step (n * 10 + (c - 48)) (omega arith) small ∙ rw (front, last) refl

-- a first digit
pub decimal_first : (c : ℕ) → IsInRange 48 57 c → decimal (c - 48) ≡ c ∷ []
decimal_first c d =
    let e : 48 + (c - 48) ≡ c = omega (arith, d.0, d.1) in
    decimal_digit (c - 48) (omega (arith, d.0, d.1)) ∙ ap (λ (b : ℕ). b ∷ []) e

-- no number stands where no digit does
pub none_without_digit : (limit n : ℕ) (text rest : List ℕ) → limit < 2 ^ 64 → BeginsWithNoDigit text → ¬ IsNumber limit text n rest
none_without_digit limit n text rest small whole h =
    first_digit (decimal n) rest text (decimal_nonempty n (omega (arith, h.small))) (AreDigits-decimal n (omega (arith, h.small))) whole h.spelled
  where
    first_digit : (ds rest text : List ℕ) → 0 < length ds → AreDigits ds → BeginsWithNoDigit text → text ≡ ds ++ rest → ⊥
    first_digit [] rest text long d whole e = omega arith
    first_digit (c ∷ ds) rest text long d whole e = subst BeginsWithNoDigit e whole d.0

-- nor where the digits pass the limit
pub none_past_limit : (limit n : ℕ) (front more rest : List ℕ) → limit < 2 ^ 64 → AreDigits front → limit < digits_value 10 front → ¬ IsNumber limit (front ++ more) n rest
none_past_limit limit n front more rest small d past h =
    let run = run_goes_on front more (decimal n) rest d h.whole h.spelled in
    let le : digits_value 10 (take (length front) (front ++ run.0)) ≤ digits_value 10 (front ++ run.0) = digits_value-take-le 10 (front ++ run.0) (length front) (omega arith) in
    let fits : n < 2 ^ 64 = omega (arith, h.small) in
    let value : digits_value 10 (front ++ run.0) ≡ n = ap (digits_value 10) (sym run.1) ∙ digits_value-decimal_own n fits in
    let kept : digits_value 10 (take (length front) (front ++ run.0)) ≡ digits_value 10 front = ap (digits_value 10) (take_at front run.0 (length front) refl) in
    omega (arith, le, value, kept, past, h.small)

-- nor where a digit follows a first 0
pub none_after_zero : (limit n c : ℕ) (more rest : List ℕ) → limit < 2 ^ 64 → IsInRange 48 57 c → ¬ IsNumber limit (48 ∷ c ∷ more) n rest
none_after_zero limit n c more rest small d h =
    let run = run_goes_on (48 ∷ c ∷ []) more (decimal n) rest ((omega arith, omega arith), (d, tt)) h.whole h.spelled in
    elim (cases_lt 0 n) [
      | inl pos ↦ let first = first_decimal n pos (omega (arith, h.small)) in let same : get_or (decimal n) 0 0 ≡ 48 = ap (λ (ds : List ℕ). get_or ds 0 0) run.1 in omega (arith, first, same)
      | inr none ↦
          let e : n ≡ 0 = omega arith in
          let one : length (decimal 0) ≡ suc (suc (length run.0)) = ap (λ (k : ℕ). length (decimal k)) (sym e) ∙ ap length run.1 in
          let short : length (decimal 0) ≡ 1 = ap length (decimal_digit 0 (omega arith)) in
          omega (arith, one, short)
    ]

-- a text has one number at its front
pub one_number_stands : (limit m n : ℕ) (text r s : List ℕ) → limit < 2 ^ 64 → IsNumber limit text m r → IsNumber limit text n s → (m ≡ n) × (r ≡ s)
one_number_stands limit m n text r s small g h =
    let fits_m : m < 2 ^ 64 = omega (arith, g.small) in
    let fits_n : n < 2 ^ 64 = omega (arith, h.small) in
    let one = run_goes_on (decimal m) r (decimal n) s (AreDigits-decimal m fits_m) h.whole (sym g.spelled ∙ h.spelled) in
    let two = run_goes_on (decimal n) s (decimal m) r (AreDigits-decimal n fits_n) g.whole (sym h.spelled ∙ g.spelled) in
    let shorter : length (decimal n) ≡ length (decimal m) + length one.0 = ap length one.1 ∙ simp length-append in
    let longer : length (decimal m) ≡ length (decimal n) + length two.0 = ap length two.1 ∙ simp length-append in
    let nothing : one.0 ≡ [] = nil_from_length one.0 (omega arith) in
    let same : decimal m ≡ decimal n = sym (one.1 ∙ ap (λ (z : List ℕ). decimal m ++ z) nothing ∙ append-nil (decimal m)) in
    (decimal_injective m n fits_m fits_n same, one.2 ∙ ap (λ (z : List ℕ). z ++ s) nothing)

-- ---- the digits that were read so far

-- the first bytes of the text are the digits of the number, or there are none yet
pub record IsFront (limit number place : ℕ) (text : List ℕ) : Type 0 where
  pub none : place ≡ 0 → number ≡ 0
  pub front : 0 < place → take place text ≡ decimal number
  pub small : number ≤ limit

front_digits : (limit number place : ℕ) (text : List ℕ) → limit < 2 ^ 64 → IsFront limit number place text → AreDigits (take place text) × (digits_value 10 (take place text) ≡ number)
front_digits limit number zero text small f = (tt, sym (f.none refl))
front_digits limit number (suc place) text small f =
    let e : take (suc place) text ≡ decimal number = f.front (omega arith) in
    let fits : number < 2 ^ 64 = omega (arith, f.small) in
    (subst AreDigits (sym e) (AreDigits-decimal number fits), ap (digits_value 10) e ∙ digits_value-decimal_own number fits)

-- some number goes on after these digits
front_begins : (limit number place : ℕ) (text : List ℕ) → IsFront limit number place text → CanBegin (IsNumber limit) (take place text)
front_begins limit number zero text f = (48 ∷ [], 0, [], record { spelled = sym (append-nil (decimal 0) ∙ decimal_digit 0 (omega arith)); small = omega arith; whole = tt })
front_begins limit number (suc place) text f = ([], number, [], record { spelled = ap (λ (ds : List ℕ). ds ++ []) (f.front (omega arith)); small = f.small; whole = tt })

pub front_starts : (limit : ℕ) (text : List ℕ) → IsFront limit 0 0 text
front_starts limit text = record { none = λ _. refl; front = λ lt. absurd (omega arith); small = omega arith }

pub front_goes_on : (limit number place next : ℕ) (text : List ℕ) → limit < 2 ^ 64 → place < length text → IsInRange 48 57 (get_or text place 0) → IsFront limit number place text → (0 < place → 0 < number)
    → next ≡ number * 10 + (get_or text place 0 - 48) → next ≤ limit → IsFront limit next (place + 1) text
front_goes_on limit number zero next text small lt d f pos e le = record {
  none = λ h. absurd (omega arith);
  front = λ _. let z : number ≡ 0 = f.none refl in let v : next ≡ get_or text 0 0 - 48 = omega arith in take_more text 0 0 lt ∙ sym (ap decimal v ∙ decimal_first (get_or text 0 0) d);
  small = le;
}
front_goes_on limit number (suc place) next text small lt d f pos e le = record {
  none = λ h. absurd (omega arith);
  front = λ _. take_more text (suc place) 0 lt ∙ ap (λ (ds : List ℕ). ds ++ get_or text (suc place) 0 ∷ []) (f.front (omega arith)) ∙ sym (ap decimal e ∙ decimal_more number (get_or text (suc place) 0) (pos (omega arith)) d (omega arith));
  small = le;
}

-- ---- where no number stands

pub refused_first : (limit : ℕ) (text : List ℕ) → limit < 2 ^ 64 → 0 < length text → ¬ IsInRange 48 57 (get_or text 0 0) → IsFirstBad (IsNumber limit) text 0
refused_first limit [] small lt odd = absurd (omega arith)
refused_first limit (c ∷ text) small lt odd = refused_at_byte (IsNumber limit) (c ∷ text) 0 lt (front_begins limit 0 0 (c ∷ text) (front_starts limit (c ∷ text))) (λ more n rest. none_without_digit limit n (c ∷ more) rest small odd)

pub refused_empty : (limit : ℕ) (text : List ℕ) → limit < 2 ^ 64 → text ≡ [] → IsFirstBad (IsNumber limit) text 0
refused_empty limit text small e =
    refused_at_end (IsNumber limit) text 0 (sym (ap length e)) (subst (λ t. CanBegin (IsNumber limit) t) (sym e) (front_begins limit 0 0 text (front_starts limit text))) (λ n rest. none_without_digit limit n text rest small (subst BeginsWithNoDigit (sym e) tt))

pub refused_after_zero : (limit place : ℕ) (text : List ℕ) → limit < 2 ^ 64 → 0 < place → place < length text → IsInRange 48 57 (get_or text place 0) → IsFront limit 0 place text → IsFirstBad (IsNumber limit) text place
refused_after_zero limit place text small pos lt d f =
    let two : take (place + 1) text ≡ 48 ∷ get_or text place 0 ∷ [] = take_more text place 0 lt ∙ ap (λ (ds : List ℕ). ds ++ get_or text place 0 ∷ []) (f.front pos ∙ decimal_digit 0 (omega arith)) in
    refused_at_byte (IsNumber limit) text place lt (front_begins limit 0 place text f)
    (λ more n rest h. none_after_zero limit n (get_or text place 0) more rest small d (subst (λ (ds : List ℕ). IsNumber limit (ds ++ more) n rest) two h))

pub refused_past_limit : (limit number place : ℕ) (text : List ℕ) → limit < 2 ^ 64 → place < length text → IsInRange 48 57 (get_or text place 0) → IsFront limit number place text
    → limit < number * 10 + (get_or text place 0 - 48) → IsFirstBad (IsNumber limit) text place
refused_past_limit limit number place text small lt d f past =
    let so_far = front_digits limit number place text small f in
    let more_is : take (place + 1) text ≡ take place text ++ get_or text place 0 ∷ [] = take_more text place 0 lt in
    let digits : AreDigits (take (place + 1) text) = subst AreDigits (sym more_is) (AreDigits-push (take place text) (get_or text place 0) so_far.0 d) in
    let value : digits_value 10 (take (place + 1) text) ≡ number * 10 + (get_or text place 0 - 48) =
    ap (digits_value 10) more_is ∙ digits_value_push 10 (take place text) (get_or text place 0) ∙ ap (λ (v : ℕ). v * 10 + digit_value (get_or text place 0)) so_far.1 ∙ ap (λ (v : ℕ). number * 10 + v) (digit_value_digit_sub (get_or text place 0) d) in
    refused_at_byte (IsNumber limit) text place lt (front_begins limit number place text f)
    (λ more n rest. none_past_limit limit n (take (place + 1) text) more rest small digits (omega arith))

-- ---- where one does

pub stands_before : (limit number place : ℕ) (text : List ℕ) → 0 < place → place ≤ length text → IsFront limit number place text → BeginsWithNoDigit (drop place text) → IsNumber limit text number (drop place text) × (place ≡ length (decimal number))
stands_before limit number place text pos le f whole =
    let e : take place text ≡ decimal number = f.front pos in
    (record { spelled = sym (take-append-drop place text) ∙ ap (λ (ds : List ℕ). ds ++ drop place text) e; small = f.small; whole = whole }, sym (length-take-le place text le) ∙ ap length e)

pub no_digit_at : (place : ℕ) (text : List ℕ) → place < length text → ¬ IsInRange 48 57 (get_or text place 0) → BeginsWithNoDigit (drop place text)
no_digit_at place text lt odd = subst BeginsWithNoDigit (sym (drop_more text place 0 lt)) odd

pub no_digit_at_end : (text : List ℕ) → BeginsWithNoDigit (drop (length text) text)
no_digit_at_end text = subst BeginsWithNoDigit (sym (drop_all (length text) text (omega arith))) tt
