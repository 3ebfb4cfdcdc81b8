-- What is refused is refused for its first bytes alone, whatever follows.
use Rattle.std.proofs.Common.{◌≡◌, ◌≢◌, ◌⊎◌, ◌<◌, ◌≤◌, ℕ, suc, ◌+◌, ◌-◌, Bool, true, List, [], ◌∷◌, ◌++◌, codes, length, take, drop, refl, sym, ◌∙◌, ap, subst, inl, inr, arith, append_assoc, length-append}
use Rattle.std.proofs.lemmas.List.{take-append-drop, take_at, drop_at, length-drop, length-take-le}
use Rattle.tl_text.specs.Number.{IsNumber, BeginsWithNoDigit}
use Rattle.tl_text.specs.Signed.{IsSigned}
use Rattle.tl_text.specs.Quoted.{IsQuoted}
use Rattle.tl_text.specs.Place.{CanBegin, IsFirstBad}
use Rattle.tl_lang.specs.declared.expr.Expr.{Expr, out-Expr}
use Rattle.tl_kind.specs.declared.lang_error.LangErrorKind.{LangErrorKind}
use Rattle.tl_kind.specs.declared.lang_error.LangErrorKind.TheVariants.{UnknownForm, BadNumber, BadQuote}
use Rattle.tl_kind.specs.Words.{word_text}
use Rattle.tl_kind.specs.Written.{Part, an_expr, a_name, a_number, a_quote, Written, quote, signed, variable, with_parts, written, map_part, part_text, program_text, spelling}
use Rattle.tl_kind.specs.Refusals.{Sort, expr, name, number, quoted_text, missing, wrong_after, wrong_first, wrong_word, begins_with_digit, begins_signed, begins_quoted, BeginsWithNoLetter, EndsExpr, EndsPart, IsPart, Spot, part, after, Refused, at_first, in_signed, in_number, in_quoted, no_word, unknown_word, after_word, at_once, in_next, after_next, RefusedText, no_form, no_job, other_word, in_outputs, trailing}

-- ---- the first byte decides

no_letter_same : (front : List ℕ) (b : ℕ) (t u : List ℕ) → BeginsWithNoLetter (front ++ b ∷ t) → BeginsWithNoLetter (front ++ b ∷ u)
no_letter_same [] b t u h = h
no_letter_same (c ∷ front) b t u h = h

no_digit_same : (front : List ℕ) (b : ℕ) (t u : List ℕ) → BeginsWithNoDigit (front ++ b ∷ t) → BeginsWithNoDigit (front ++ b ∷ u)
no_digit_same [] b t u h = h
no_digit_same (c ∷ front) b t u h = h

ends_name_same : (x front : List ℕ) (b : ℕ) (t u : List ℕ) → (length x ≡ 16) ⊎ BeginsWithNoLetter (front ++ b ∷ t) → (length x ≡ 16) ⊎ BeginsWithNoLetter (front ++ b ∷ u)
ends_name_same x front b t u (inl e) = inl e
ends_name_same x front b t u (inr h) = inr (no_letter_same front b t u h)

ends_expr_same : {A : Type 0} (w : Written A) (front : List ℕ) (b : ℕ) (t u : List ℕ) → EndsExpr w (front ++ b ∷ t) → EndsExpr w (front ++ b ∷ u)
ends_expr_same (quote s) front b t u h = tt
ends_expr_same (signed z) front b t u h = no_digit_same front b t u h
ends_expr_same (variable x) front b t u h = ends_name_same x front b t u h
ends_expr_same (with_parts w parts) front b t u h = tt

ends_part_same : (p : Part Expr) (front : List ℕ) (b : ℕ) (t u : List ℕ) → EndsPart p (front ++ b ∷ t) → EndsPart p (front ++ b ∷ u)
ends_part_same (an_expr e) front b t u h = ends_expr_same (written (out-Expr e)) front b t u h
ends_part_same (a_name x) front b t u h = ends_name_same x front b t u h
ends_part_same (a_number n) front b t u h = no_digit_same front b t u h
ends_part_same (a_quote s) front b t u h = tt

wrong_first_same : (sort : Sort) (room b : ℕ) (t u : List ℕ) → wrong_first sort room (b ∷ t) ≡ wrong_first sort room (b ∷ u)
wrong_first_same expr room b t u = refl
wrong_first_same name room b t u = refl
wrong_first_same number room b t u = refl
wrong_first_same quoted_text room b t u = refl

signed_same : (front : List ℕ) (b : ℕ) (t u : List ℕ) → begins_signed (front ++ b ∷ t) ≡ begins_signed (front ++ b ∷ u)
signed_same [] b t u = refl
signed_same (c ∷ front) b t u = refl

digit_same : (front : List ℕ) (b : ℕ) (t u : List ℕ) → begins_with_digit (front ++ b ∷ t) ≡ begins_with_digit (front ++ b ∷ u)
digit_same [] b t u = refl
digit_same (c ∷ front) b t u = refl

quoted_same : (front : List ℕ) (b : ℕ) (t u : List ℕ) → begins_quoted (front ++ b ∷ t) ≡ begins_quoted (front ++ b ∷ u)
quoted_same [] b t u = refl
quoted_same (c ∷ front) b t u = refl

-- ---- tokens

-- a front and one byte of a text, with all that follows
pub record Cut (text : List ℕ) (place b : ℕ) (t : List ℕ) : Type 0 where
  pub lt : place < length text
  pub front : length (take place text) ≡ place
  pub is : text ≡ take place text ++ b ∷ t

pub cut : (text : List ℕ) (place b : ℕ) (t : List ℕ) → place ≤ length text → drop place text ≡ b ∷ t → Cut text place b t
cut text place b t le e =
    let size : length text - place ≡ suc (length t) = sym (length-drop place text) ∙ ap length e in
    record { lt = omega arith; front = length-take-le place text le; is = sym (take-append-drop place text) ∙ ap (λ (u : List ℕ). take place text ++ u) e }

pub one_more : (front : List ℕ) (b : ℕ) (t : List ℕ) → (front ++ b ∷ []) ++ t ≡ front ++ b ∷ t
one_more front b t = append_assoc front (b ∷ []) t

pub take_one_more : (front : List ℕ) (b : ℕ) (t : List ℕ) (place : ℕ) → length front ≡ place → take (place + 1) (front ++ b ∷ t) ≡ front ++ b ∷ []
take_one_more front b t place size =
    ap (take (place + 1)) (sym (one_more front b t)) ∙ take_at (front ++ b ∷ []) t (place + 1) (length-append front (b ∷ []) ∙ ap (λ (n : ℕ). n + 1) size)

bad_moved : {V : Type 0} (R : List ℕ → V → List ℕ → Type 0) (text : List ℕ) (place b : ℕ) (t u : List ℕ) → IsFirstBad R text place → Cut text place b t → IsFirstBad R (take place text ++ b ∷ u) place
bad_moved R text place b t u bad c =
    let front : List ℕ = take place text in
    let here : take (place + 1) text ≡ take place text ++ b ∷ [] = ap (take (place + 1)) c.is ∙ take_one_more (take place text) b t place c.front in
    let there : take (place + 1) (take place text ++ b ∷ u) ≡ take place text ++ b ∷ [] = take_one_more (take place text) b u place c.front in
    let before : take place (take place text ++ b ∷ u) ≡ take place text = take_at (take place text) (b ∷ u) place c.front in
    record {
      none = λ v rest h. bad.there c.lt (subst (λ s. CanBegin R s) (sym here) (u, v, rest, subst (λ s. R s v rest) (sym (one_more (take place text) b u)) h));
      within = omega (arith, length-append (take place text) (b ∷ u), c.front);
      before = subst (λ s. CanBegin R s) (sym before) bad.before;
      there = λ lt h. bad.there c.lt (subst (λ s. CanBegin R s) (there ∙ sym here) h);
    }

-- ---- every refusal

-- the same refusal where something else follows the byte
pub record Moved (spot : Spot) (text rest more : List ℕ) (kind : LangErrorKind) : Type 0 where
  pub front : List ℕ
  pub is : text ≡ front ++ rest
  pub moved : Refused spot (front ++ more) more kind

at_the_place : (spot : Spot) (text : List ℕ) (place b : ℕ) (t u : List ℕ) (kind : LangErrorKind) → Cut text place b t → drop place text ≡ b ∷ t
    → Refused spot (take place text ++ b ∷ u) (drop place (take place text ++ b ∷ u)) kind → Moved spot text (drop place text) (b ∷ u) kind
at_the_place spot text place b t u kind c e r = record {
  front = take place text;
  is = sym (take-append-drop place text);
  moved = subst (λ s. Refused spot (take place text ++ b ∷ u) s kind) (drop_at (take place text) (b ∷ u) place c.front) r;
}

begun_moved : (f : List ℕ → Bool) (text : List ℕ) (place b : ℕ) (t u : List ℕ) → ((front : List ℕ) → f (front ++ b ∷ t) ≡ f (front ++ b ∷ u)) → Cut text place b t → f text ≡ true → f (take place text ++ b ∷ u) ≡ true
begun_moved f text place b t u same c e = sym (same (take place text)) ∙ ap f (sym c.is) ∙ e

pub moved_on : {spot : Spot} {text rest : List ℕ} {kind : LangErrorKind} → Refused spot text rest kind → kind ≢ UnknownForm → (b : ℕ) (t u : List ℕ) → rest ≡ b ∷ t → Moved spot text rest (b ∷ u) kind
moved_on (at_first {sort = sort} {room = room} {text = text} e) known b t u is = record { front = []; is = refl; moved = at_first (wrong_first_same sort room b u t ∙ ap (wrong_first sort room) (sym is) ∙ e) }
moved_on (in_signed {room = room} {text = text} place begun bad) known b t u is =
    let c = cut text place b t bad.within is in
    at_the_place (part expr room) text place b t u BadNumber c is (in_signed place (begun_moved begins_signed text place b t u (λ front. signed_same front b t u) c begun) (bad_moved IsSigned text place b t u bad c))
moved_on (in_number {room = room} {text = text} place begun bad) known b t u is =
    let c = cut text place b t bad.within is in
    at_the_place (part number room) text place b t u BadNumber c is (in_number place (begun_moved begins_with_digit text place b t u (λ front. digit_same front b t u) c begun) (bad_moved (IsNumber 18446744073709551615) text place b t u bad c))
moved_on (in_quoted {sort = sort} {room = room} {text = text} place of begun bad) known b t u is =
    let c = cut text place b t bad.within is in
    at_the_place (part sort room) text place b t u BadQuote c is (in_quoted place of (begun_moved begins_quoted text place b t u (λ front. quoted_same front b t u) c begun) (bad_moved IsQuoted text place b t u bad c))
moved_on (no_word {text = text} e) known b t u is = record { front = 40 ∷ []; is = refl; moved = no_word (ap wrong_word (sym is) ∙ e) }
moved_on (unknown_word letters rest some all ends none) known b t u is = absurd (known refl)
moved_on (after_word {room = room} w {text = text} {rest = rest} {kind = kind} ends r) known b t u is =
    let ih = moved_on r known b t u is in
    let there : BeginsWithNoLetter (ih.front ++ b ∷ t) = subst BeginsWithNoLetter (ih.is ∙ ap (λ (s : List ℕ). ih.front ++ s) is) ends in
    let joined : (s : List ℕ) → (40 ∷ word_text w ++ ih.front) ++ s ≡ 40 ∷ word_text w ++ (ih.front ++ s) = λ s. append_assoc (40 ∷ word_text w) ih.front s in
    record {
      front = 40 ∷ word_text w ++ ih.front;
      is = ap (λ (s : List ℕ). 40 ∷ word_text w ++ s) ih.is ∙ sym (joined rest);
      moved = subst (λ s. Refused (part expr (suc room)) s (b ∷ u) kind) (sym (joined (b ∷ u))) (after_word w (no_letter_same ih.front b t u there) ih.moved);
    }
moved_on (at_once {head = head} {count = count} {text = text} e) known b t u is = record { front = []; is = refl; moved = at_once (ap (wrong_after head count) (sym is) ∙ e) }
moved_on (in_next sort {rest = rest} takes r) known b t u is =
    let ih = moved_on r known b t u is in
    record { front = 32 ∷ ih.front; is = ap (λ (s : List ℕ). 32 ∷ s) ih.is; moved = in_next sort takes ih.moved }
moved_on (after_next {head = head} {count = count} {room = room} next {text = text} {more = more} {rest = rest} {kind = kind} takes stands r) known b t u is =
    let ih = moved_on r known b t u is in
    let spelled : List ℕ = part_text (map_part spelling next) in
    let joined : (s : List ℕ) → (32 ∷ part_text (map_part spelling next) ++ ih.front) ++ s ≡ 32 ∷ part_text (map_part spelling next) ++ (ih.front ++ s) = λ s. append_assoc (32 ∷ part_text (map_part spelling next)) ih.front s in
    let ends : EndsPart next (ih.front ++ b ∷ t) = subst (λ s. EndsPart next s) (ih.is ∙ ap (λ (s : List ℕ). ih.front ++ s) is) stands.ends in
    let again : IsPart room (part_text (map_part spelling next) ++ (ih.front ++ b ∷ u)) next (ih.front ++ b ∷ u) = record { spelled = refl; within = stands.within; ends = ends_part_same next ih.front b t u ends } in
    record {
      front = 32 ∷ part_text (map_part spelling next) ++ ih.front;
      is = ap (λ (s : List ℕ). 32 ∷ s) (stands.spelled ∙ ap (λ (s : List ℕ). part_text (map_part spelling next) ++ s) ih.is) ∙ sym (joined rest);
      moved = subst (λ s. Refused (after head count room) s (b ∷ u) kind) (sym (joined (b ∷ u))) (after_next next takes again ih.moved);
    }

-- the same of a whole text
pub record MovedText (text rest more : List ℕ) (kind : LangErrorKind) : Type 0 where
  pub front : List ℕ
  pub is : text ≡ front ++ rest
  pub moved : RefusedText (front ++ more) more kind

pub moved_text : {text rest : List ℕ} {kind : LangErrorKind} → RefusedText text rest kind → kind ≢ UnknownForm → (b : ℕ) (t u : List ℕ) → rest ≡ b ∷ t → MovedText text rest (b ∷ u) kind
moved_text (no_form {text = text} e) known b t u is = record { front = []; is = refl; moved = no_form (ap (missing 40) (sym is) ∙ e) }
moved_text (no_job {text = text} e) known b t u is = record { front = 40 ∷ []; is = refl; moved = no_job (ap wrong_word (sym is) ∙ e) }
moved_text (other_word letters rest some all ends other) known b t u is = absurd (known refl)
moved_text (in_outputs {text = text} {rest = rest} ends r) known b t u is =
    let ih = moved_on r known b t u is in
    let there : BeginsWithNoLetter (ih.front ++ b ∷ t) = subst BeginsWithNoLetter (ih.is ∙ ap (λ (s : List ℕ). ih.front ++ s) is) ends in
    record { front = 40 ∷ codes "job" ++ ih.front; is = ap (λ (s : List ℕ). 40 ∷ codes "job" ++ s) ih.is; moved = in_outputs (no_letter_same ih.front b t u there) ih.moved }
moved_text (trailing {rest = rest} program stands some) known b t u is = record {
  front = program_text program;
  is = stands.spelled;
  moved = trailing program (record { spelled = refl; some = stands.some; few = stands.few; within = stands.within }) (omega arith);
}
