-- The items of a quoted text: which bytes may stand at each place of one, and that none begins another.
use Rattle.std.proofs.Common.{◌≡◌, ◌≢◌, ℕ, ◌+◌, ◌*◌, ◌/◌, ◌%◌, ◌<◌, ◌≤◌, ◌⊎◌, List, [], ◌∷◌, ◌++◌, length, take, drop, get_or, refl, sym, ap, subst, ◌∙◌, arith, inl, inr}
use Rattle.std.proofs.lemmas.Bool.{cases_eq, cases_lt}
use Rattle.std.proofs.lemmas.List.{append-nil, get_or-take}
use Rattle.std.proofs.lemmas.Bool.Decides.{nat_tests}
use Rattle.tl_text.specs.Place.{CanBegin, IsFirstBad}
use Rattle.tl_text.specs.HexDigit.{hex_digit}
use Rattle.tl_text.specs.Quoted.{item, IsItem, BeginsItem, HasHexItem}
use Rattle.tl_text.proofs.HexDigits.{hex_digit_injective}
use Rattle.tl_text.proofs.Places.{refused_by_byte}

abbrev pub IsShort : ℕ → ℕ → Type 0
IsShort b c = ((b ≡ 34) × (c ≡ 34)) ⊎ (((b ≡ 92) × (c ≡ 92)) ⊎ (((b ≡ 10) × (c ≡ 110)) ⊎ ((b ≡ 9) × (c ≡ 116))))

-- how the item of a byte is made
pub data Shape (b : ℕ) : Type 0 where
  plain : 32 ≤ b → b ≤ 126 → b ≢ 34 → b ≢ 92 → item b ≡ b ∷ [] → Shape b
  short : (c : ℕ) → IsShort b c → item b ≡ 92 ∷ c ∷ [] → Shape b
  long : HasHexItem b → item b ≡ 92 ∷ 120 ∷ hex_digit (b / 16) ∷ hex_digit (b % 16) ∷ [] → Shape b

pub long_item : (b : ℕ) → HasHexItem b → item b ≡ 92 ∷ 120 ∷ hex_digit (b / 16) ∷ hex_digit (b % 16) ∷ []
long_item b h = grind (arith, nat_tests)

pub plain_item : (b : ℕ) → 32 ≤ b → b ≤ 126 → b ≢ 34 → b ≢ 92 → item b ≡ b ∷ []
plain_item b low high n m = grind (arith, nat_tests)

shape_by : (b : ℕ) → b ≢ 34 → b ≢ 92 → b ≢ 10 → b ≢ 9 → Shape b
shape_by b h i j k =
    elim (cases_lt b 32) [
      | inl low ↦ long (inl low, k, j) (long_item b (inl low, k, j))
      | inr from ↦ elim (cases_lt 126 b) [
        | inl past ↦ long (inr past, k, j) (long_item b (inr past, k, j))
        | inr upto ↦ plain from upto h i (plain_item b from upto h i)
      ]
    ]

pub shape : (b : ℕ) → Shape b
shape b =
    elim (cases_eq b 34) [
      | inl e ↦ short 34 (inl (e, refl)) (ap item e)
      | inr h ↦ elim (cases_eq b 92) [
        | inl e ↦ short 92 (inr (inl (e, refl))) (ap item e)
        | inr i ↦ elim (cases_eq b 10) [
          | inl e ↦ short 110 (inr (inr (inl (e, refl)))) (ap item e)
          | inr j ↦ elim (cases_eq b 9) [
            | inl e ↦ short 116 (inr (inr (inr (e, refl)))) (ap item e)
            | inr k ↦ shape_by b h i j k
          ]
        ]
      ]
    ]

-- ---- the byte at each place

abbrev pub MayBegin : ℕ → Type 0
MayBegin c = (c ≡ 92) ⊎ ((32 ≤ c) × (c ≤ 126) × (c ≢ 34))

first_of : (b : ℕ) (rest : List ℕ) → Shape b → (0 < length (item b ++ rest)) × MayBegin (get_or (item b ++ rest) 0 0)
first_of b rest (plain low high h i e) = rw e (omega arith, inr (low, high, h))
first_of b rest (short c h e) = rw e (omega arith, inl refl)
first_of b rest (long h e) = rw e (omega arith, inl refl)

pub item_first : (text : List ℕ) (b : ℕ) (rest : List ℕ) → IsItem text b rest → (0 < length text) × MayBegin (get_or text 0 0)
item_first text b rest h = subst (λ t. (0 < length t) × MayBegin (get_or t 0 0)) (sym h.spelled) (first_of b rest (shape b))

abbrev pub MayEscape : ℕ → Type 0
MayEscape c = (c ≡ 120) ⊎ ((c ≡ 34) ⊎ ((c ≡ 92) ⊎ ((c ≡ 110) ⊎ (c ≡ 116))))

short_escape : (b c : ℕ) → IsShort b c → MayEscape c
short_escape b c (inl h) = inr (inl h.1)
short_escape b c (inr (inl h)) = inr (inr (inl h.1))
short_escape b c (inr (inr (inl h))) = inr (inr (inr (inl h.1)))
short_escape b c (inr (inr (inr h))) = inr (inr (inr (inr h.1)))

second_of : (b : ℕ) (rest : List ℕ) → Shape b → get_or (item b ++ rest) 0 0 ≡ 92 → (1 < length (item b ++ rest)) × MayEscape (get_or (item b ++ rest) 1 0)
second_of b rest (plain low high h i e) first = absurd (i (rw e at first))
second_of b rest (short c h e) first = rw e (omega arith, short_escape b c h)
second_of b rest (long h e) first = rw e (omega arith, inl refl)

abbrev pub MayBeHigh : ℕ → Type 0
MayBeHigh c = (n : ℕ) × (n < 16) × ((n < 2) ⊎ (6 < n)) × (hex_digit n ≡ c)

short_is_not_x : (b c : ℕ) → IsShort b c → c ≢ 120
short_is_not_x b c (inl h) e = omega (arith, h.1)
short_is_not_x b c (inr (inl h)) e = omega (arith, h.1)
short_is_not_x b c (inr (inr (inl h))) e = omega (arith, h.1)
short_is_not_x b c (inr (inr (inr h))) e = omega (arith, h.1)

long_high : (b : ℕ) → b < 256 → HasHexItem b → (b / 16 < 16) × ((b / 16 < 2) ⊎ (6 < b / 16))
long_high b small h = (omega arith, elim h.0 [ inl low ↦ inl (omega arith) | inr past ↦ inr (omega arith) ])

third_of : (b : ℕ) (rest : List ℕ) → b < 256 → Shape b → get_or (item b ++ rest) 0 0 ≡ 92 → get_or (item b ++ rest) 1 0 ≡ 120 → (2 < length (item b ++ rest)) × MayBeHigh (get_or (item b ++ rest) 2 0)
third_of b rest small (plain low high h i e) first second = absurd (i (rw e at first))
third_of b rest small (short c h e) first second = absurd (short_is_not_x b c h (rw e at second))
third_of b rest small (long h e) first second = let high = long_high b small h in rw e (omega arith, (b / 16, high.0, high.1, refl))

abbrev pub MayBeLow : ℕ → ℕ → Type 0
MayBeLow high c = (n : ℕ) × (n < 16) × HasHexItem (high * 16 + n) × (hex_digit n ≡ c)

fourth_of : (b high : ℕ) (rest : List ℕ) → b < 256 → high < 16 → Shape b → get_or (item b ++ rest) 0 0 ≡ 92 → get_or (item b ++ rest) 1 0 ≡ 120 → get_or (item b ++ rest) 2 0 ≡ hex_digit high
    → (3 < length (item b ++ rest)) × MayBeLow high (get_or (item b ++ rest) 3 0)
fourth_of b high rest small lt (plain low upto h i e) first second third = absurd (i (rw e at first))
fourth_of b high rest small lt (short c h e) first second third = absurd (short_is_not_x b c h (rw e at second))
fourth_of b high rest small lt (long h e) first second third =
    let same : b / 16 ≡ high = hex_digit_injective (b / 16) high (omega arith) lt (rw e at third) in
    let whole : b ≡ high * 16 + b % 16 = omega arith in
    rw e (omega arith, (b % 16, omega arith, subst HasHexItem whole h, refl))

-- ---- the byte at each place of a text in which an item stands

read_at : (n i : ℕ) (text front : List ℕ) → i < n → take n text ≡ front → get_or text i 0 ≡ get_or front i 0
read_at n i text front lt e = sym (get_or-take n text i 0 lt) ∙ ap (λ (t : List ℕ). get_or t i 0) e

item_second : (text : List ℕ) (b : ℕ) (rest : List ℕ) → IsItem text b rest → take 1 text ≡ 92 ∷ [] → (1 < length text) × MayEscape (get_or text 1 0)
item_second text b rest h front =
    let first : get_or text 0 0 ≡ 92 = read_at 1 0 text (92 ∷ []) (omega arith) front in
    rw (h.spelled) (second_of b rest (shape b) (ap (λ (t : List ℕ). get_or t 0 0) (sym h.spelled) ∙ first))

item_third : (text : List ℕ) (b : ℕ) (rest : List ℕ) → IsItem text b rest → take 2 text ≡ 92 ∷ 120 ∷ [] → (2 < length text) × MayBeHigh (get_or text 2 0)
item_third text b rest h front =
    let first : get_or text 0 0 ≡ 92 = read_at 2 0 text (92 ∷ 120 ∷ []) (omega arith) front in
    let second : get_or text 1 0 ≡ 120 = read_at 2 1 text (92 ∷ 120 ∷ []) (omega arith) front in
    rw (h.spelled) (third_of b rest h.small (shape b) (ap (λ (t : List ℕ). get_or t 0 0) (sym h.spelled) ∙ first) (ap (λ (t : List ℕ). get_or t 1 0) (sym h.spelled) ∙ second))

item_fourth : (text : List ℕ) (b high : ℕ) (rest : List ℕ) → high < 16 → IsItem text b rest → take 3 text ≡ 92 ∷ 120 ∷ hex_digit high ∷ [] → (3 < length text) × MayBeLow high (get_or text 3 0)
item_fourth text b high rest lt h front =
    let first : get_or text 0 0 ≡ 92 = read_at 3 0 text (92 ∷ 120 ∷ hex_digit high ∷ []) (omega arith) front in
    let second : get_or text 1 0 ≡ 120 = read_at 3 1 text (92 ∷ 120 ∷ hex_digit high ∷ []) (omega arith) front in
    let third : get_or text 2 0 ≡ hex_digit high = read_at 3 2 text (92 ∷ 120 ∷ hex_digit high ∷ []) (omega arith) front in
    rw (h.spelled) (fourth_of b high rest h.small lt (shape b) (ap (λ (t : List ℕ). get_or t 0 0) (sym h.spelled) ∙ first) (ap (λ (t : List ℕ). get_or t 1 0) (sym h.spelled) ∙ second) (ap (λ (t : List ℕ). get_or t 2 0) (sym h.spelled) ∙ third))

-- ---- where no item stands

pub begins : (bytes : List ℕ) → BeginsItem bytes → CanBegin IsItem bytes
begins bytes h = (h.1, h.0, [], record { spelled = sym (append-nil (item h.0) ∙ h.3); small = h.2 })

pub begins_empty : BeginsItem []
begins_empty = (32, 32 ∷ [], omega arith, refl)

pub begins_backslash : BeginsItem (92 ∷ [])
begins_backslash = (92, 92 ∷ [], omega arith, refl)

pub begins_x : BeginsItem (92 ∷ 120 ∷ [])
begins_x = (0, 48 ∷ 48 ∷ [], omega arith, refl)

pub begins_high : (high : ℕ) → high < 16 → (high < 2) ⊎ (6 < high) → BeginsItem (92 ∷ 120 ∷ hex_digit high ∷ [])
begins_high high lt h =
    let top : ℕ = high * 16 + 15 in
    let far : ((high * 16 + 15 < 32) ⊎ (126 < high * 16 + 15)) = elim h [ inl low ↦ inl (omega arith) | inr past ↦ inr (omega arith) ] in
    let first : (high * 16 + 15) / 16 ≡ high = omega arith in
    let second : (high * 16 + 15) % 16 ≡ 15 = omega arith in
    (high * 16 + 15, 102 ∷ [], omega arith, long_item (high * 16 + 15) (far, (λ e. omega arith), (λ e. omega arith)) ∙ rw (first, second) refl)

pub refused_first : (text : List ℕ) → (0 < length text → ¬ MayBegin (get_or text 0 0)) → IsFirstBad IsItem text 0
refused_first text wrong = refused_by_byte IsItem MayBegin text 0 (omega arith) (begins [] begins_empty) (λ t b rest h _. item_first t b rest h) wrong

pub refused_escape : (escape : List ℕ) → (0 < length escape → ¬ MayEscape (get_or escape 0 0)) → IsFirstBad IsItem (92 ∷ escape) 1
refused_escape escape wrong = refused_by_byte IsItem MayEscape (92 ∷ escape) 1 (omega arith) (begins (92 ∷ []) begins_backslash) (λ t b rest h same. item_second t b rest h same) (λ lt. wrong (omega arith))

pub refused_high : (digits : List ℕ) → (0 < length digits → ¬ MayBeHigh (get_or digits 0 0)) → IsFirstBad IsItem (92 ∷ 120 ∷ digits) 2
refused_high digits wrong = refused_by_byte IsItem MayBeHigh (92 ∷ 120 ∷ digits) 2 (omega arith) (begins (92 ∷ 120 ∷ []) begins_x) (λ t b rest h same. item_third t b rest h same) (λ lt. wrong (omega arith))

front_of_digits : (digits : List ℕ) (high : ℕ) → 0 < length digits → hex_digit high ≡ get_or digits 0 0 → take 3 (92 ∷ 120 ∷ digits) ≡ 92 ∷ 120 ∷ hex_digit high ∷ []
front_of_digits [] high lt e = absurd (omega arith)
front_of_digits (d ∷ digits) high lt e = ap (λ (c : ℕ). 92 ∷ 120 ∷ c ∷ []) (sym e)

pub begins_low : (digits : List ℕ) (high : ℕ) → high < 16 → (high < 2) ⊎ (6 < high) → 0 < length digits → hex_digit high ≡ get_or digits 0 0 → BeginsItem (take 3 (92 ∷ 120 ∷ digits))
begins_low digits high lt h some e = subst BeginsItem (sym (front_of_digits digits high some e)) (begins_high high lt h)

pub refused_low : (digits : List ℕ) (high : ℕ) → high < 16 → (high < 2) ⊎ (6 < high) → 0 < length digits → hex_digit high ≡ get_or digits 0 0 → (1 < length digits → ¬ MayBeLow high (get_or digits 1 0)) → IsFirstBad IsItem (92 ∷ 120 ∷ digits) 3
refused_low digits high lt h some e wrong =
    refused_by_byte IsItem (MayBeLow high) (92 ∷ 120 ∷ digits) 3 (omega arith) (begins (take 3 (92 ∷ 120 ∷ digits)) (begins_low digits high lt h some e))
    (λ t b rest g same. item_fourth t b high rest lt g (same ∙ front_of_digits digits high some e)) (λ lt. wrong (omega arith))

-- ---- where one does

pub hex_stands : (digits : List ℕ) (high low : ℕ) → high < 16 → low < 16 → 1 < length digits → hex_digit high ≡ get_or digits 0 0 → hex_digit low ≡ get_or digits 1 0 → HasHexItem (high * 16 + low) → IsItem (92 ∷ 120 ∷ digits) (high * 16 + low) (drop 2 digits)
hex_stands [] high low a b some d e h = absurd (omega arith)
hex_stands (c ∷ []) high low a b some d e h = absurd (omega arith)
hex_stands (c ∷ f ∷ digits) high low a b some d e h =
    let first : (high * 16 + low) / 16 ≡ high = omega arith in
    let second : (high * 16 + low) % 16 ≡ low = omega arith in
    let is : item (high * 16 + low) ≡ 92 ∷ 120 ∷ c ∷ f ∷ [] = long_item (high * 16 + low) h ∙ rw (first, second, d, e) refl in
    record { spelled = ap (λ (t : List ℕ). t ++ digits) (sym is); small = omega arith }

pub length_long : (b : ℕ) → HasHexItem b → length (item b) ≡ 4
length_long b h = ap length (long_item b h)

-- ---- no item begins another

same_short : (b c x y : ℕ) → IsShort b x → IsShort c y → x ≡ y → b ≡ c
same_short b c x y h k e = omega (arith, h, k, e)

one_shape : (b c : ℕ) (r s : List ℕ) → b < 256 → c < 256 → item b ++ r ≡ item c ++ s → Shape b → Shape c → (b ≡ c) × (r ≡ s)
one_shape b c r s small less e (plain l1 l2 l3 l4 f) (plain m1 m2 m3 m4 g) =
    let both : b ∷ r ≡ c ∷ s = ap (λ (t : List ℕ). t ++ r) (sym f) ∙ e ∙ ap (λ (t : List ℕ). t ++ s) g in (cc, cc)
one_shape b c r s small less e (plain l1 l2 l3 l4 f) (short y k g) =
    let both : b ∷ r ≡ 92 ∷ y ∷ s = ap (λ (t : List ℕ). t ++ r) (sym f) ∙ e ∙ ap (λ (t : List ℕ). t ++ s) g in let first : b ≡ 92 = cc in absurd (l4 first)
one_shape b c r s small less e (plain l1 l2 l3 l4 f) (long k g) =
    let both : b ∷ r ≡ 92 ∷ 120 ∷ hex_digit (c / 16) ∷ hex_digit (c % 16) ∷ s = ap (λ (t : List ℕ). t ++ r) (sym f) ∙ e ∙ ap (λ (t : List ℕ). t ++ s) g in let first : b ≡ 92 = cc in absurd (l4 first)
one_shape b c r s small less e (short x h f) (plain m1 m2 m3 m4 g) =
    let both : 92 ∷ x ∷ r ≡ c ∷ s = ap (λ (t : List ℕ). t ++ r) (sym f) ∙ e ∙ ap (λ (t : List ℕ). t ++ s) g in let first : c ≡ 92 = cc in absurd (m4 first)
one_shape b c r s small less e (short x h f) (short y k g) =
    let both : 92 ∷ x ∷ r ≡ 92 ∷ y ∷ s = ap (λ (t : List ℕ). t ++ r) (sym f) ∙ e ∙ ap (λ (t : List ℕ). t ++ s) g in let letters : x ≡ y = cc in (same_short b c x y h k letters, cc)
one_shape b c r s small less e (short x h f) (long k g) =
    let both : 92 ∷ x ∷ r ≡ 92 ∷ 120 ∷ hex_digit (c / 16) ∷ hex_digit (c % 16) ∷ s = ap (λ (t : List ℕ). t ++ r) (sym f) ∙ e ∙ ap (λ (t : List ℕ). t ++ s) g in
    let letters : x ≡ 120 = cc in absurd (short_is_not_x b x h letters)
one_shape b c r s small less e (long h f) (plain m1 m2 m3 m4 g) =
    let both : 92 ∷ 120 ∷ hex_digit (b / 16) ∷ hex_digit (b % 16) ∷ r ≡ c ∷ s = ap (λ (t : List ℕ). t ++ r) (sym f) ∙ e ∙ ap (λ (t : List ℕ). t ++ s) g in let first : c ≡ 92 = cc in absurd (m4 first)
one_shape b c r s small less e (long h f) (short y k g) =
    let both : 92 ∷ 120 ∷ hex_digit (b / 16) ∷ hex_digit (b % 16) ∷ r ≡ 92 ∷ y ∷ s = ap (λ (t : List ℕ). t ++ r) (sym f) ∙ e ∙ ap (λ (t : List ℕ). t ++ s) g in
    let letters : y ≡ 120 = cc in absurd (short_is_not_x c y k letters)
one_shape b c r s small less e (long h f) (long k g) =
    let both : 92 ∷ 120 ∷ hex_digit (b / 16) ∷ hex_digit (b % 16) ∷ r ≡ 92 ∷ 120 ∷ hex_digit (c / 16) ∷ hex_digit (c % 16) ∷ s = ap (λ (t : List ℕ). t ++ r) (sym f) ∙ e ∙ ap (λ (t : List ℕ). t ++ s) g in
    let high : hex_digit (b / 16) ≡ hex_digit (c / 16) = cc in
    let low : hex_digit (b % 16) ≡ hex_digit (c % 16) = cc in
    let high_same : b / 16 ≡ c / 16 = hex_digit_injective (b / 16) (c / 16) (omega arith) (omega arith) high in
    let low_same : b % 16 ≡ c % 16 = hex_digit_injective (b % 16) (c % 16) (omega arith) (omega arith) low in
    (omega arith, cc)

pub item_ends : (b c : ℕ) (r s : List ℕ) → b < 256 → c < 256 → item b ++ r ≡ item c ++ s → (b ≡ c) × (r ≡ s)
item_ends b c r s small less e = one_shape b c r s small less e (shape b) (shape c)
