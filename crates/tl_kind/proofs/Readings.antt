-- A text has one reading, and one that is refused has none.
use Rattle.std.proofs.Common.{◌≡◌, ◌⊎◌, ◌<◌, ◌≤◌, ℕ, zero, suc, ◌^◌, ℤ, pos, negsuc, Bool, true, false, ◌&&◌, ◌||◌, if◌then◌else◌, ◌==◌, nat_le, nat_lt, List, [], ◌∷◌, ◌++◌, map, length, Option, Some, refl, sym, ◌∙◌, ap, subst, inl, inr, arith, append_assoc}
use Rattle.std.specs.List.{list_all, All, AllByRecursion as ByRecursion}
use Rattle.std.specs.Char.{IsAsciiDigit}
use Rattle.std.specs.Fmt.{signed_decimal}
use Rattle.std.proofs.lemmas.Bool.{and_parts, and_from, leb-true, le-leb, ltb-true, eqb-true, false_from_ne_true, cases_Bool}
use Rattle.std.proofs.lemmas.List.Elements.{All-from_recursion}
use Rattle.tl_text.specs.Number.{IsNumber, BeginsWithNoDigit}
use Rattle.tl_text.specs.Signed.{IsSigned}
use Rattle.tl_text.specs.Quoted.{IsQuoted}
use Rattle.tl_text.proofs.Numbers.{none_without_digit}
use Rattle.tl_lang.specs.declared.expr.Expr.{Expr, out-Expr}
use Rattle.tl_lang.specs.Value.{is_number}
use Rattle.tl_kind.specs.declared.begin.Begin.{Begin}
use Rattle.tl_kind.specs.declared.begin.Begin.TheVariants as begin
use Rattle.tl_kind.specs.declared.word.Word.{Word}
use Rattle.tl_kind.specs.declared.word.Word.TheVariants as word
use Rattle.tl_kind.specs.declared.word.One.TheVariants as one
use Rattle.tl_kind.specs.declared.word.Two.TheVariants as two
use Rattle.tl_kind.specs.declared.word.Three.TheVariants as three
use Rattle.tl_kind.specs.declared.word.Binding.TheVariants as binding
use Rattle.tl_kind.specs.Words.{word_text, found_in}
use Rattle.tl_kind.specs.Written.{Part, an_expr, a_name, a_number, a_quote, Written, quote, signed, variable, with_parts, map_part, map_written, written, part_text, parts_text, written_text, spelling, is_letter, is_name, is_byte, part_fits, written_fits, fits}
use Rattle.tl_kind.specs.Refusals.{inner, is_digit, begins_with_digit, BeginsWithNoLetter, EndsExpr, EndsPart, IsPart}
use Rattle.tl_kind.specs.Reading.{begin_of, IsNamed, AreParts}
use Rattle.tl_kind.proofs.Trees.{spelling-written, fits-written}
use Rattle.tl_kind.proofs.WordTable.{table, every_word}
use Rattle.tl_kind.proofs.Inverse.{Takes, TakesParts, takes_written}

-- ---- what follows a part

pub record Follows (rest : List ℕ) : Type 0 where
  pub digit : BeginsWithNoDigit rest
  pub letter : BeginsWithNoLetter rest

not_digit : (byte : ℕ) → is_digit byte ≡ false → ¬ IsAsciiDigit byte
not_digit byte e d = let sure : is_digit byte ≡ true = and_from _ _ (le-leb 48 byte d.0) (le-leb byte 57 d.1) in cc

pub follows_space : (rest : List ℕ) → Follows (32 ∷ rest)
follows_space rest = record { digit = not_digit 32 refl; letter = refl }

pub follows_end : (rest : List ℕ) → Follows (41 ∷ rest)
follows_end rest = record { digit = not_digit 41 refl; letter = refl }

ends_expr : {A : Type 0} (w : Written A) (rest : List ℕ) → Follows rest → EndsExpr w rest
ends_expr (quote s) rest f = tt
ends_expr (signed z) rest f = f.digit
ends_expr (variable x) rest f = inr f.letter
ends_expr (with_parts w parts) rest f = tt

pub ends_part : (p : Part Expr) (rest : List ℕ) → Follows rest → EndsPart p rest
ends_part (an_expr e) rest f = ends_expr (written (out-Expr e)) rest f
ends_part (a_name x) rest f = inr f.letter
ends_part (a_number n) rest f = f.digit
ends_part (a_quote s) rest f = tt

-- ---- one level of an expression

abbrev pub ReadsExpr : ℕ → List ℕ → Written Expr → List ℕ → Type 0
ReadsExpr room text (quote s) rest = IsQuoted text s rest
ReadsExpr room text (signed z) rest = IsSigned text z rest
ReadsExpr room text (variable x) rest = IsNamed text x rest
ReadsExpr room text (with_parts w parts) rest = (under : ℕ) × (room ≡ suc under) × (more : List ℕ) × (text ≡ 40 ∷ word_text w ++ more) × AreParts under parts more rest × Takes (inner w) 0 parts

all_bytes : (s : List ℕ) → list_all is_byte s ≡ true → ByRecursion (λ byte. byte < 256) s
all_bytes [] e = tt
all_bytes (byte ∷ s) e = let both = and_parts _ _ e in (ltb-true byte 256 both.0, all_bytes s both.1)

pub are_bytes : (s : List ℕ) → list_all is_byte s ≡ true → All (λ byte. byte < 256) s
are_bytes s e = All-from_recursion (λ byte. byte < 256) s (all_bytes s e)

signed_fits : (text rest : List ℕ) (z : ℤ) → text ≡ signed_decimal z ++ rest → is_number z ≡ true → BeginsWithNoDigit rest → IsSigned text z rest
signed_fits text rest (pos n) spelled e whole = record { spelled = spelled; fits = record { sfits = ltb-true n (2 ^ 63) e }; whole = whole }
signed_fits text rest (negsuc n) spelled e whole = record { spelled = spelled; fits = record { sfits = ltb-true n (2 ^ 63) e }; whole = whole }

pub parts_follow : (parts : List (Part (List ℕ))) (rest : List ℕ) → Follows (parts_text parts ++ rest)
parts_follow [] rest = follows_end rest
parts_follow (p ∷ parts) rest = follows_space _

pub parts_read : (room : ℕ) (parts : List (Part Expr)) (text rest : List ℕ) → text ≡ parts_text (map (map_part spelling) parts) ++ rest → list_all (part_fits room) (map (map_part fits) parts) ≡ true → AreParts room parts text rest
parts_read room [] text rest spelled all = spelled
parts_read room (p ∷ parts) text rest spelled all =
    let both = and_parts _ _ all in
    let mid : List ℕ = parts_text (map (map_part spelling) parts) ++ rest in (
      mid,
      (
        part_text (map_part spelling p) ++ mid,
        spelled ∙ ap (λ (t : List ℕ). 32 ∷ t) (append_assoc (part_text (map_part spelling p)) (parts_text (map (map_part spelling) parts)) rest),
        record { spelled = refl; within = both.0; ends = ends_part p mid (parts_follow (map (map_part spelling) parts) rest) },
      ),
      parts_read room parts mid rest refl both.1,
    )

length-fits : (parts : List (Part Expr)) → length (map (map_part fits) parts) ≡ length parts
length-fits [] = refl
length-fits (p ∷ parts) = ap suc (length-fits parts)

reads_written : (room : ℕ) (text rest : List ℕ) (w : Written Expr) → TakesParts w → text ≡ written_text (map_written spelling w) ++ rest → written_fits (map_written fits w) room ≡ true → EndsExpr w rest → ReadsExpr room text w rest
reads_written room text rest (quote s) takes spelled within ends = record { spelled = spelled; small = are_bytes s within }
reads_written room text rest (signed z) takes spelled within ends = signed_fits text rest z spelled within ends
reads_written room text rest (variable x) takes spelled within ends = record { spelled = spelled; name = within; ends = ends }
reads_written zero text rest (with_parts w parts) takes spelled within ends = absurd (cc)
reads_written (suc room) text rest (with_parts w parts) takes spelled within ends =
    let both = and_parts _ _ within in
    let few : length (map (map_part fits) parts) ≤ 16 = leb-true _ 16 both.0 in (
      room,
      refl,
      parts_text (map (map_part spelling) parts) ++ rest,
      spelled ∙ append_assoc (40 ∷ word_text w) (parts_text (map (map_part spelling) parts)) rest,
      parts_read room parts _ rest refl both.1,
      takes (omega (arith, few, length-fits parts)),
    )

pub reads : (room : ℕ) (text rest : List ℕ) (e : Expr) → IsPart room text (an_expr e) rest → ReadsExpr room text (written (out-Expr e)) rest
reads room text rest e h =
    reads_written room text rest (written (out-Expr e)) (takes_written (out-Expr e))
    (h.spelled ∙ ap (λ (t : List ℕ). t ++ rest) (spelling-written e)) (sym (fits-written e room) ∙ h.within) h.ends

pub named : (room : ℕ) (text rest x : List ℕ) → IsPart room text (a_name x) rest → IsNamed text x rest
named room text rest x h = record { spelled = h.spelled; name = h.within; ends = h.ends }

pub numbered : (room : ℕ) (text rest : List ℕ) (n : ℕ) → IsPart room text (a_number n) rest → IsNumber 18446744073709551615 text n rest
numbered room text rest n h = record { spelled = h.spelled; small = let lt = ltb-true n (2 ^ 64) h.within in omega (arith, lt); whole = h.ends }

pub quoted_so : (room : ℕ) (text rest s : List ℕ) → IsPart room text (a_quote s) rest → IsQuoted text s rest
quoted_so room text rest s h = record { spelled = h.spelled; small = are_bytes s h.within }

-- ---- first bytes

pub other_digit : (b k : ℕ) → is_digit b ≡ true → is_digit k ≡ false → (b == k) ≡ false
other_digit b k sure lacks = false_from_ne_true (b == k) (λ e. let same : is_digit b ≡ is_digit k = ap is_digit (eqb-true b k e) in cc)

pub other_letter : (b k : ℕ) → is_letter b ≡ true → is_letter k ≡ false → (b == k) ≡ false
other_letter b k sure lacks = false_from_ne_true (b == k) (λ e. let same : is_letter b ≡ is_letter k = ap is_letter (eqb-true b k e) in cc)

letter_no_digit : (b : ℕ) → is_letter b ≡ true → is_digit b ≡ false
letter_no_digit b sure =
    false_from_ne_true (is_digit b) (λ e.
    let low : 97 ≤ b = leb-true 97 b (and_parts (nat_le 97 b) (nat_le b 122) sure).0 in
    let high : b ≤ 57 = leb-true b 57 (and_parts (nat_le 48 b) (nat_le b 57) e).1 in
    omega (arith, low, high))

begin_number : (q d n l f : Bool) → q ≡ false → (d || n) ≡ true → (if q then begin.Quote else if d || n then begin.Number else if l then begin.Name else if f then begin.Form else begin.Other) ≡ begin.Number
begin_number q d n l f lacks sure = rw (lacks, sure) refl

begin_name : (q d n l f : Bool) → q ≡ false → d ≡ false → n ≡ false → l ≡ true → (if q then begin.Quote else if d || n then begin.Number else if l then begin.Name else if f then begin.Form else begin.Other) ≡ begin.Name
begin_name q d n l f a b c sure = rw (a, b, c, sure) refl

or_right : (d n : Bool) → n ≡ true → (d || n) ≡ true
or_right true n e = refl
or_right false n e = e

pub begins_digit : (text : List ℕ) → begins_with_digit text ≡ true → begin_of text ≡ begin.Number
begins_digit [] e = absurd (cc)
begins_digit (byte ∷ bytes) e = begin_number (byte == 34) (byte == 45) (is_digit byte) (is_letter byte) (byte == 40) (other_digit byte 34 e refl) (or_right (byte == 45) (is_digit byte) e)

no_digit_first : (text : List ℕ) → begins_with_digit text ≡ false → BeginsWithNoDigit text
no_digit_first [] e = tt
no_digit_first (byte ∷ bytes) e = not_digit byte e

pub number_begins : (limit n : ℕ) (text rest : List ℕ) → limit < 2 ^ 64 → IsNumber limit text n rest → begins_with_digit text ≡ true
number_begins limit n text rest small h = elim (cases_Bool (begins_with_digit text)) [
  | inl sure ↦ sure
  | inr lacks ↦ absurd (none_without_digit limit n text rest small (no_digit_first text lacks) h)
]

signed_begins : (text rest : List ℕ) (z : ℤ) → IsSigned text z rest → begin_of text ≡ begin.Number
signed_begins text rest (pos n) h =
    begins_digit text (number_begins 9223372036854775807 n text rest (omega arith) (record { spelled = h.spelled; small = let f : n < 2 ^ 63 = h.fits.sfits in omega arith; whole = h.whole }))
signed_begins text rest (negsuc n) h = ap begin_of h.spelled

pub letter_first : (x : ℕ) (xs : List ℕ) → list_all is_letter (x ∷ xs) ≡ true → is_letter x ≡ true
letter_first x xs e = (and_parts (is_letter x) (list_all is_letter xs) e).0

letters_later : (x : ℕ) (xs : List ℕ) → list_all is_letter (x ∷ xs) ≡ true → list_all is_letter xs ≡ true
letters_later x xs e = (and_parts (is_letter x) (list_all is_letter xs) e).1

-- letters of which at most 16 are taken
pub name_letters : (x : List ℕ) → is_name x ≡ true → (length x ≤ 16) × (list_all is_letter x ≡ true)
name_letters x e =
    let rest = (and_parts (nat_lt 0 (length x)) (nat_le (length x) 16 && list_all is_letter x) e).1 in
    let both = and_parts (nat_le (length x) 16) (list_all is_letter x) rest in
    (leb-true (length x) 16 both.0, both.1)

first_letter : (x rest : List ℕ) → is_name x ≡ true → begin_of (x ++ rest) ≡ begin.Name
first_letter [] rest e = absurd (cc)
first_letter (b ∷ x) rest e =
    let sure : is_letter b ≡ true = letter_first b x (name_letters (b ∷ x) e).1 in
    begin_name (b == 34) (b == 45) (is_digit b) (is_letter b) (b == 40) (other_letter b 34 sure refl) (other_letter b 45 sure refl) (letter_no_digit b sure) sure

pub name_begins : (text x rest : List ℕ) → IsNamed text x rest → begin_of text ≡ begin.Name
name_begins text x rest h = ap begin_of h.spelled ∙ first_letter x rest h.name

pub quote_begins : (text s rest : List ℕ) → IsQuoted text s rest → begin_of text ≡ begin.Quote
quote_begins text s rest h = ap begin_of h.spelled

abbrev pub begins_as : {A : Type 0} → Written A → Begin
begins_as (quote s) = begin.Quote
begins_as (signed z) = begin.Number
begins_as (variable x) = begin.Name
begins_as (with_parts w parts) = begin.Form

pub begins : (room : ℕ) (text rest : List ℕ) (w : Written Expr) → ReadsExpr room text w rest → begin_of text ≡ begins_as w
begins room text rest (quote s) h = quote_begins text s rest h
begins room text rest (signed z) h = signed_begins text rest z h
begins room text rest (variable x) h = name_begins text x rest h
begins room text rest (with_parts w parts) h = ap begin_of h.3

-- ---- names and words

both_ways : (b : ℕ) (t : List ℕ) → is_letter b ≡ true → BeginsWithNoLetter (b ∷ t) → ⊥
both_ways b t sure lacks = cc

-- all the letters at the front of a text
pub one_run : (xs ys a b : List ℕ) → list_all is_letter xs ≡ true → list_all is_letter ys ≡ true → BeginsWithNoLetter a → BeginsWithNoLetter b → xs ++ a ≡ ys ++ b → (xs ≡ ys) × (a ≡ b)
one_run [] [] a b all every lacks none e = (refl, e)
one_run [] (y ∷ ys) a b all every lacks none e = absurd (both_ways y (ys ++ b) (letter_first y ys every) (subst BeginsWithNoLetter e lacks))
one_run (x ∷ xs) [] a b all every lacks none e = absurd (both_ways x (xs ++ a) (letter_first x xs all) (subst BeginsWithNoLetter (sym e) none))
one_run (x ∷ xs) (y ∷ ys) a b all every lacks none e =
    let heads : x ≡ y = cc in
    let tails : xs ++ a ≡ ys ++ b = cc in
    let rest = one_run xs ys a b (letters_later x xs all) (letters_later y ys every) lacks none tails in
    let same : xs ≡ ys = rest.0 in
    (cc (heads, same), rest.1)

one_less : (n most : ℕ) (R : Type 0) → (suc n ≡ suc most) ⊎ R → (n ≡ most) ⊎ R
one_less n most R (inl e) = inl (omega arith)
one_less n most R (inr r) = inr r

-- one is a front of the other, by as many letters as are left to 16
name_runs : (most : ℕ) (x y r s : List ℕ) → list_all is_letter x ≡ true → list_all is_letter y ≡ true → length x ≤ most → length y ≤ most
    → (length x ≡ most) ⊎ BeginsWithNoLetter r → (length y ≡ most) ⊎ BeginsWithNoLetter s → x ++ r ≡ y ++ s → (x ≡ y) × (r ≡ s)
name_runs most [] [] r s all every le few f g e = (refl, e)
name_runs most [] (b ∷ y) r s all every le few (inl full) g e = absurd (omega arith)
name_runs most [] (b ∷ y) r s all every le few (inr none) g e = absurd (both_ways b (y ++ s) (letter_first b y every) (subst BeginsWithNoLetter e none))
name_runs most (a ∷ x) [] r s all every le few f (inl full) e = absurd (omega arith)
name_runs most (a ∷ x) [] r s all every le few f (inr none) e = absurd (both_ways a (x ++ r) (letter_first a x all) (subst BeginsWithNoLetter (sym e) none))
name_runs zero (a ∷ x) (b ∷ y) r s all every le few f g e = absurd (omega arith)
name_runs (suc most) (a ∷ x) (b ∷ y) r s all every le few f g e =
    let heads : a ≡ b = cc in
    let tails : x ++ r ≡ y ++ s = cc in
    let rest = name_runs most x y r s (letters_later a x all) (letters_later b y every) (omega arith) (omega arith) (one_less (length x) most (BeginsWithNoLetter r) f) (one_less (length y) most (BeginsWithNoLetter s) g) tails in
    let same : x ≡ y = rest.0 in
    (cc (heads, same), rest.1)

pub one_name : (text x y r s : List ℕ) → IsNamed text x r → IsNamed text y s → (x ≡ y) × (r ≡ s)
one_name text x y r s g h =
    let gl = name_letters x g.name in
    let hl = name_letters y h.name in
    name_runs 16 x y r s gl.1 hl.1 gl.0 hl.0 g.ends h.ends (sym g.spelled ∙ h.spelled)

pub word_letters : (w : Word) → list_all is_letter (word_text w) ≡ true
word_letters word.Input = refl
word_letters word.Key = refl
word_letters (word.Two two.Cat) = refl
word_letters (word.One one.Len) = refl
word_letters (word.Three three.Sub) = refl
word_letters (word.Two two.Eq) = refl
word_letters (word.Two two.Has) = refl
word_letters (word.One one.Num) = refl
word_letters (word.One one.Str) = refl
word_letters (word.Two two.Add) = refl
word_letters (word.Two two.Minus) = refl
word_letters (word.Two two.Mul) = refl
word_letters (word.Two two.Div) = refl
word_letters (word.Two two.Mod) = refl
word_letters (word.Two two.Lt) = refl
word_letters (word.Two two.Same) = refl
word_letters (word.Three three.If) = refl
word_letters (word.Binding binding.Let) = refl
word_letters (word.One one.Lines) = refl
word_letters (word.Two two.Split) = refl
word_letters (word.Two two.Join) = refl
word_letters word.List = refl
word_letters (word.Two two.Append) = refl
word_letters (word.Two two.At) = refl
word_letters (word.One one.Count) = refl
word_letters (word.One one.Sort) = refl
word_letters (word.Binding binding.Each) = refl
word_letters (word.Binding binding.Keep) = refl
word_letters word.Fold = refl

some_word : (w v : Word) → ◌≡◌ {A = Option Word} (Some w) (Some v) → w ≡ v
some_word w v e = cc

pub same_word : (w v : Word) → word_text w ≡ word_text v → w ≡ v
same_word w v e = some_word w v (sym (every_word w) ∙ ap (found_in table) e ∙ every_word v)

pub parts_follow_word : (room : ℕ) (parts : List (Part Expr)) (text rest : List ℕ) → AreParts room parts text rest → BeginsWithNoLetter text
parts_follow_word room [] text rest h = subst BeginsWithNoLetter (sym h) refl
parts_follow_word room (p ∷ parts) text rest h = subst BeginsWithNoLetter (sym h.1.1) refl
