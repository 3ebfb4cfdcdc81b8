-- No line feed stands in the text of an event.
use Rattle.std.proofs.Common.{◌≡◌, ◌≢◌, ℕ, zero, suc, ◌+◌, ◌/◌, ◌%◌, ◌<◌, ◌≤◌, ◌^◌, ℤ, pos, negsuc, Bool, true, false, not, ◌&&◌, ◌==◌, nat_lt, nat_le, if◌then◌else◌, List, [], ◌∷◌, ◌++◌, codes, decimal, length, map, refl, sym, ◌∙◌, ap, subst, arith, rules, inl, inr}
use Rattle.std.specs.Fmt.{signed_decimal}
use Rattle.std.specs.Int.{IsInRange}
use Rattle.std.specs.List.{All, AllByRecursion, flat_map, list_all}
use Rattle.std.specs.Str.Parse.{digits_value}
use Rattle.std.proofs.lemmas.Bool.{and_parts, and_from, cases_lt, eqb-true, ltb-true, leb-true, not_from_false, false_from_ne_true}
use Rattle.std.proofs.lemmas.Fmt.{digits_decimal}
use Rattle.std.proofs.lemmas.List.Elements.{recursion_from_All}
use Rattle.std.proofs.lemmas.List.Folds.{list_all-append}
use Rattle.std.proofs.lemmas.Str.Parse.{IsNumeralModel, numerals_by_value}
use Rattle.hex.specs.Hex.{encode_lower, encode_with}
use Rattle.tl_types.specs.Path.{IsPath, is_component, is_component_byte, slash_before, spelled}
use Rattle.tl_types.specs.declared.file_id.FileId.{FileId}
use Rattle.tl_text.specs.File.{file_text}
use Rattle.tl_text.specs.HexDigit.{hex_digit}
use Rattle.tl_text.specs.Quoted.{item, quoted}
use Rattle.tl_text.proofs.Components.{component_has, path_has}
use Rattle.tl_text.proofs.HexDigits.{hex_digit_low, hex_digit_high}
use Rattle.tl_text.proofs.Items.{IsShort, Shape, plain, short, long, shape}
use Rattle.tl_text.proofs.Numbers.{AreDigits}
use Rattle.tl_spelling.specs.Shown.{IsFile}

-- ---- texts without a line feed

abbrev pub is_flat : List ℕ → Bool
is_flat = list_all (λ b. not (b == 10))

pub flat_both : (a b : List ℕ) → is_flat a ≡ true → is_flat b ≡ true → is_flat (a ++ b) ≡ true
flat_both a b h k = list_all-append (λ b. not (b == 10)) a b ∙ and_from (is_flat a) (is_flat b) h k

pub flat_byte : (b : ℕ) → b ≢ 10 → not (b == 10) ≡ true
flat_byte b other = not_from_false (b == 10) (false_from_ne_true (b == 10) (λ e. other (eqb-true b 10 e)))

pub flat_cons : (b : ℕ) (bs : List ℕ) → b ≢ 10 → is_flat bs ≡ true → is_flat (b ∷ bs) ≡ true
flat_cons b bs other h = and_from (not (b == 10)) (is_flat bs) (flat_byte b other) h

-- ---- numbers

own : IsNumeralModel AreDigits (digits_value 10)
own = numerals_by_value AreDigits (search rules)

flat_digits : (cs : List ℕ) → AreDigits cs → is_flat cs ≡ true
flat_digits [] d = refl
flat_digits (c ∷ cs) d = flat_cons c cs (λ e. omega (arith, e, d.0.0)) (flat_digits cs d.1)

pub flat_decimal : (n : ℕ) → n < 2 ^ 64 → is_flat (decimal n) ≡ true
flat_decimal n small = flat_digits (decimal n) (digits_decimal own n small)

pub flat_file : (f : FileId) → IsFile f → is_flat (file_text f) ≡ true
flat_file f h =
    flat_both (decimal f.rec.0) (0x2E ∷ decimal f.out) (flat_decimal f.rec.0 (omega (arith, h.0))) (flat_decimal f.out (omega (arith, h.1)))

-- ---- digests

flat_hex_digit : (n : ℕ) → n < 16 → hex_digit n ≢ 10
flat_hex_digit n lt e =
    elim (cases_lt n 10) [
      | inl low ↦ let is : hex_digit n ≡ 48 + n = hex_digit_low n low in omega (arith, is, e)
      | inr high ↦ let is : hex_digit n ≡ 87 + n = hex_digit_high n high lt in omega (arith, is, e)
    ]

flat_hex_bytes : (bytes : List ℕ) → AllByRecursion (λ byte. byte < 256) bytes → is_flat (encode_lower bytes) ≡ true
unfolding encode_with
flat_hex_bytes [] h = refl
flat_hex_bytes (b ∷ bytes) h =
    flat_cons (hex_digit (b / 16)) (hex_digit (b % 16) ∷ encode_lower bytes) (flat_hex_digit (b / 16) (omega (arith, h.0)))
    (flat_cons (hex_digit (b % 16)) (encode_lower bytes) (flat_hex_digit (b % 16) (omega arith)) (flat_hex_bytes bytes h.1))

pub flat_digest : (bytes : List ℕ) → All (λ byte. byte < 256) bytes → is_flat (encode_lower bytes) ≡ true
flat_digest bytes h = flat_hex_bytes bytes (recursion_from_All (λ byte. byte < 256) bytes h)

-- ---- paths

flat_component_byte : (b : ℕ) → is_component_byte b ≡ true → b ≢ 10
flat_component_byte b h e = let no : ◌≡◌ {A = Bool} false true = ap is_component_byte (sym e) ∙ h in cc

pub flat_bytes : (bytes : List ℕ) → list_all is_component_byte bytes ≡ true → is_flat bytes ≡ true
flat_bytes [] h = refl
flat_bytes (b ∷ bytes) h =
    let both = and_parts (is_component_byte b) (list_all is_component_byte bytes) h in
    flat_cons b bytes (flat_component_byte b both.0) (flat_bytes bytes both.1)

flat_components : (parts : List (List ℕ)) → list_all is_component parts ≡ true → is_flat (flat_map slash_before parts) ≡ true
flat_components [] h = refl
flat_components (part ∷ parts) h =
    let both = and_parts (is_component part) (list_all is_component parts) h in
    flat_both (0x2F ∷ part) (flat_map slash_before parts) (flat_bytes part (component_has part both.0).bytes) (flat_components parts both.1)

pub flat_path : (parts : List (List ℕ)) → IsPath parts → is_flat (spelled parts) ≡ true
flat_path [] h = refl
flat_path (part ∷ parts) h = flat_components (part ∷ parts) (path_has (part ∷ parts) h).whole

-- ---- quoted texts

short_other : (b c : ℕ) → IsShort b c → c ≢ 10
short_other b c (inl h) e = omega (arith, h.1, e)
short_other b c (inr (inl h)) e = omega (arith, h.1, e)
short_other b c (inr (inr (inl h))) e = omega (arith, h.1, e)
short_other b c (inr (inr (inr h))) e = omega (arith, h.1, e)

flat_shape : (b : ℕ) → b < 256 → Shape b → is_flat (item b) ≡ true
flat_shape b small (plain low high n m e) = ap is_flat e ∙ flat_cons b [] (λ is. omega (arith, low, is)) refl
flat_shape b small (short c h e) = ap is_flat e ∙ flat_cons c [] (short_other b c h) refl
flat_shape b small (long h e) =
    ap is_flat e
    ∙ flat_cons (hex_digit (b / 16)) (hex_digit (b % 16) ∷ []) (flat_hex_digit (b / 16) (omega (arith, small)))
    (flat_cons (hex_digit (b % 16)) [] (flat_hex_digit (b % 16) (omega arith)) refl)

flat_items : (bytes : List ℕ) → AllByRecursion (λ byte. byte < 256) bytes → is_flat (flat_map item bytes) ≡ true
flat_items [] h = refl
flat_items (b ∷ bytes) h = flat_both (item b) (flat_map item bytes) (flat_shape b h.0 (shape b)) (flat_items bytes h.1)

pub flat_quoted : (bytes : List ℕ) → AllByRecursion (λ byte. byte < 256) bytes → is_flat (quoted bytes) ≡ true
flat_quoted bytes h = flat_both (0x22 ∷ flat_map item bytes) (0x22 ∷ []) (flat_items bytes h) refl
