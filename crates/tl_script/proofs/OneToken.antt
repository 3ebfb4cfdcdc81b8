-- A token stands at the front of bytes in one way only.
use Rattle.std.proofs.Common.{◌≡◌, ◌≢◌, ℕ, Bool, true, false, not, ◌==◌, if◌then◌else◌, List, [], ◌∷◌, ◌++◌, refl, sym, ◌∙◌, ap, subst, inl, inr, arith}
use Rattle.std.specs.List.{All, AllByRecursion}
use Rattle.std.proofs.lemmas.List.Elements.{recursion_from_All}
use Rattle.std.proofs.lemmas.Bool.{and_parts, and_from, cases_Bool, eqb-true, eq-eqb, not-true, not_from_false, false_from_ne_true}
use Rattle.std.proofs.lemmas.List.{append-nil}
use Rattle.tl_types.specs.Path.{spelled}
use Rattle.tl_text.specs.PathText.{EndsToken}
use Rattle.tl_text.proofs.Numbers.{one_number_stands}
use Rattle.tl_text.proofs.Quotes.{one_quoted_stands}
use Rattle.tl_text.proofs.Paths.{one_path_stands}
use Rattle.tl_kind.specs.Refusals.{is_digit, begins_with_digit}
use Rattle.tl_kind.proofs.Readings.{number_begins}
use Rattle.tl_kind.proofs.Never.{one_program_stands}
use Rattle.tl_script.specs.declared.word.Verb.{Verb}
use Rattle.tl_script.specs.declared.word.Verb.TheVariants as verb
use Rattle.tl_script.specs.declared.word.Mark.{Mark}
use Rattle.tl_script.specs.declared.word.Mark.TheVariants as mark
use Rattle.tl_script.specs.Lines.{IsOther}
use Rattle.tl_script.specs.Words.{verb_text, mark_text}
use Rattle.tl_script.specs.Tokens.{Token, a_verb, a_mark, a_number, a_path, a_text, a_program, token_text, Stands}
use Rattle.tl_script.proofs.WordTables.{same_verb, same_mark, verb_no_mark, no_space, verb_no_space, mark_no_space}

-- ---- first bytes

pub data Lead : Type 0 where
  letter : Lead
  digit : Lead
  slash : Lead
  quote : Lead
  paren : Lead

abbrev byte_lead : ℕ → Lead
byte_lead b = if b == 0x2F then slash else if b == 0x22 then quote else if b == 0x28 then paren else if is_digit b then digit else letter

abbrev lead : List ℕ → Lead
lead [] = letter
lead (b ∷ bs) = byte_lead b

abbrev lead_of : Token → Lead
lead_of (a_verb v) = letter
lead_of (a_mark m) = letter
lead_of (a_number n) = digit
lead_of (a_path p) = slash
lead_of (a_text s) = quote
lead_of (a_program p) = paren

verb_leads : (v : Verb) (rest : List ℕ) → lead (verb_text v ++ rest) ≡ letter
verb_leads verb.Put rest = refl
verb_leads verb.Job rest = refl
verb_leads verb.Cat rest = refl
verb_leads verb.Sum rest = refl
verb_leads verb.Try rest = refl
verb_leads verb.Delete rest = refl
verb_leads verb.Mkdir rest = refl
verb_leads verb.Rename rest = refl
verb_leads verb.Pin rest = refl
verb_leads verb.Unpin rest = refl
verb_leads verb.List rest = refl
verb_leads verb.Stat rest = refl
verb_leads verb.Free rest = refl
verb_leads verb.Lose rest = refl
verb_leads verb.Work rest = refl

mark_leads : (m : Mark) (rest : List ℕ) → lead (mark_text m ++ rest) ≡ letter
mark_leads mark.Conf rest = refl
mark_leads mark.In rest = refl
mark_leads mark.Out rest = refl
mark_leads mark.Run rest = refl

pub other_byte : (b k : ℕ) → is_digit b ≡ true → is_digit k ≡ false → (b == k) ≡ false
other_byte b k sure lacks = elim (cases_Bool (b == k)) [
  | inl same ↦ let e : is_digit b ≡ is_digit k = ap is_digit (eqb-true b k same) in absurd (cc)
  | inr apart ↦ apart
]

digit_chain : (s q p d : Bool) → s ≡ false → q ≡ false → p ≡ false → d ≡ true → (if s then slash else if q then quote else if p then paren else if d then digit else letter) ≡ digit
digit_chain s q p d a b c e = rw (a, b, c, e) refl

digit_leads : (bytes : List ℕ) → begins_with_digit bytes ≡ true → lead bytes ≡ digit
digit_leads [] e = absurd (cc)
digit_leads (b ∷ bs) e = digit_chain (b == 0x2F) (b == 0x22) (b == 0x28) (is_digit b) (other_byte b 0x2F e refl) (other_byte b 0x22 e refl) (other_byte b 0x28 e refl) e

path_leads : (p : List (List ℕ)) (rest : List ℕ) → lead (spelled p ++ rest) ≡ slash
path_leads [] rest = refl
path_leads (part ∷ parts) rest = refl

leads : (bytes : List ℕ) (token : Token) (rest : List ℕ) → Stands bytes token rest → lead bytes ≡ lead_of token
leads bytes (a_verb v) rest h = ap lead h.0 ∙ verb_leads v rest
leads bytes (a_mark m) rest h = ap lead h.0 ∙ mark_leads m rest
leads bytes (a_number n) rest h = digit_leads bytes (number_begins 18446744073709551615 n bytes rest (omega arith) h.0)
leads bytes (a_path p) rest h = ap lead h.spelled_so ∙ path_leads p rest
leads bytes (a_text s) rest h = ap lead h.0.spelled
leads bytes (a_program p) rest h = ap lead h.0.spelled

-- ---- words up to a space

space_or_not : (c : ℕ) → not (c == 0x20) ≡ true → c ≡ 0x20 → ⊥
space_or_not c n e = let same : (c == 0x20) ≡ true = eq-eqb c 0x20 e in let apart = not-true (c == 0x20) n in absurd (cc)

begins_other : (c : ℕ) (b more rest : List ℕ) → no_space (c ∷ b) ≡ true → rest ≡ c ∷ (b ++ more) → EndsToken rest → ⊥
begins_other c b more rest n e ended =
    let first : c ≡ 0x20 = subst EndsToken e ended in
    space_or_not c (and_parts (not (c == 0x20)) (no_space b) n).0 first

pub one_word : (a b rest more : List ℕ) → no_space a ≡ true → no_space b ≡ true → EndsToken rest → EndsToken more → a ++ rest ≡ b ++ more → (a ≡ b) × (rest ≡ more)
one_word [] [] rest more na nb ra rb e = (refl, e)
one_word [] (c ∷ b) rest more na nb ra rb e = absurd (begins_other c b more rest nb e ra)
one_word (c ∷ a) [] rest more na nb ra rb e = absurd (begins_other c a rest more na (sym e) rb)
one_word (c ∷ a) (d ∷ b) rest more na nb ra rb e =
    let tails : a ++ rest ≡ b ++ more = cc in
    let heads : c ≡ d = cc in
    let parts = one_word a b rest more (and_parts (not (c == 0x20)) (no_space a) na).1 (and_parts (not (d == 0x20)) (no_space b) nb).1 ra rb tails in
    (λ j. heads j ∷ parts.0 j, parts.1)

no_spaces : (s : List ℕ) → AllByRecursion (IsOther 32) s → no_space s ≡ true
no_spaces [] h = refl
no_spaces (b ∷ bs) h = and_from (not (b == 0x20)) (no_space bs) (not_from_false (b == 0x20) (false_from_ne_true (b == 0x20) (λ e. h.0 (eqb-true b 0x20 e)))) (no_spaces bs h.1)

-- no word of a command stands where the bytes up to a space are none
pub no_verb_first : (bytes word more : List ℕ) → bytes ≡ word ++ more → All (IsOther 32) word → EndsToken more → ((v : Verb) → word ≢ verb_text v) → (v : Verb) (rest : List ℕ) → ¬ Stands bytes (a_verb v) rest
no_verb_first bytes word more e others ended none v rest h =
    none v (one_word word (verb_text v) more rest (no_spaces word (recursion_from_All (IsOther 32) word others)) (verb_no_space v) ended h.1 (sym e ∙ h.0)).0

-- ---- one reading

pub one_token : (bytes : List ℕ) (t u : Token) (rest more : List ℕ) → Stands bytes t rest → Stands bytes u more → (t ≡ u) × (rest ≡ more)
one_token bytes (a_verb v) (a_verb w) rest more g h =
    let same = one_word (verb_text v) (verb_text w) rest more (verb_no_space v) (verb_no_space w) g.1 h.1 (sym g.0 ∙ h.0) in
    (ap a_verb (same_verb v w same.0), same.1)
one_token bytes (a_mark m) (a_mark n) rest more g h =
    let same = one_word (mark_text m) (mark_text n) rest more (mark_no_space m) (mark_no_space n) g.1 h.1 (sym g.0 ∙ h.0) in
    (ap a_mark (same_mark m n same.0), same.1)
one_token bytes (a_verb v) (a_mark m) rest more g h =
    absurd (verb_no_mark v m (one_word (verb_text v) (mark_text m) rest more (verb_no_space v) (mark_no_space m) g.1 h.1 (sym g.0 ∙ h.0)).0)
one_token bytes (a_mark m) (a_verb v) rest more g h =
    absurd (verb_no_mark v m (one_word (verb_text v) (mark_text m) more rest (verb_no_space v) (mark_no_space m) h.1 g.1 (sym h.0 ∙ g.0)).0)
one_token bytes (a_number m) (a_number n) rest more g h =
    let same = one_number_stands 18446744073709551615 m n bytes rest more (omega arith) g.0 h.0 in (ap a_number same.0, same.1)
one_token bytes (a_path p) (a_path q) rest more g h = let same = one_path_stands bytes p q rest more g h in (ap a_path same.0, same.1)
one_token bytes (a_text s) (a_text t) rest more g h = let same = one_quoted_stands bytes s t rest more g.0 h.0 in (ap a_text same.0, same.1)
one_token bytes (a_program p) (a_program q) rest more g h = (ap a_program (one_program_stands bytes p q g.0 h.0), g.1 ∙ sym h.1)
one_token bytes t u rest more g h = let e : lead_of t ≡ lead_of u = sym (leads bytes t rest g) ∙ leads bytes u more h in absurd (cc)

-- ---- what stands behind a token

pub ends_here : (bytes : List ℕ) (t : Token) (rest : List ℕ) → Stands bytes t rest → EndsToken rest
ends_here bytes (a_verb v) rest h = h.1
ends_here bytes (a_mark m) rest h = h.1
ends_here bytes (a_number n) rest h = h.1
ends_here bytes (a_path p) rest h = h.ended
ends_here bytes (a_text s) rest h = h.1
ends_here bytes (a_program p) rest h = subst EndsToken (sym h.1) tt

pub text_of : (bytes : List ℕ) (t : Token) (rest : List ℕ) → Stands bytes t rest → bytes ≡ token_text t ++ rest
text_of bytes (a_verb v) rest h = h.0
text_of bytes (a_mark m) rest h = h.0
text_of bytes (a_number n) rest h = h.0.spelled
text_of bytes (a_path p) rest h = h.spelled_so
text_of bytes (a_text s) rest h = h.0.spelled
text_of bytes (a_program p) rest h = h.0.spelled ∙ sym (append-nil (token_text (a_program p))) ∙ ap (λ (r : List ℕ). token_text (a_program p) ++ r) (sym h.1)
