-- Programs that stand whole, and where a text is refused.
use Rattle.std.proofs.Common.{◌≡◌, ◌≢◌, ◌⊎◌, ◌<◌, ◌≤◌, ℕ, ◌+◌, ◌-◌, Bool, true, false, ◌&&◌, if◌then◌else◌, ◌==◌, not, bytes_eq, nat_lt, List, [], ◌∷◌, ◌++◌, codes, map, length, take, drop, Option, Some, None, IsSome, refl, sym, ◌∙◌, ap, subst, inl, inr, arith, append_assoc, length-append}
use Rattle.std.specs.List.{list_all}
use Rattle.std.specs.Option.{is_some}
use Rattle.std.proofs.lemmas.Bool.{lt-ltb, ltb-true, eqb-true}
use Rattle.std.proofs.lemmas.Slice.Eq.{bytes_eq-Decides}
use Rattle.std.proofs.lemmas.Grind.{common_steps}
use Rattle.std.proofs.lemmas.List.{take-append-drop, drop_all, drop_at}
use Rattle.tl_lang.specs.declared.expr.Expr.{Expr}
use Rattle.tl_lang.specs.declared.program.Program.{Program}
use Rattle.tl_kind.specs.declared.lang_error.LangErrorKind.{LangErrorKind}
use Rattle.tl_kind.specs.declared.lang_error.LangErrorKind.TheVariants.{End, Unexpected, UnknownForm, TooManyOutputs}
use Rattle.tl_kind.specs.declared.stop.Stop.{Stop}
use Rattle.tl_kind.specs.Words.{word_text}
use Rattle.tl_kind.specs.Written.{Part, an_expr, map_part, part_text, parts_text, program_text, spelling, part_fits, fits, output_limit}
use Rattle.tl_kind.specs.Refusals.{job, expr, wants, may_end, missing, wrong_after, BeginsWithNoLetter, Spot, after, Refused, at_first, in_signed, in_number, in_quoted, no_word, unknown_word, after_word, at_once, in_next, after_next, IsWhole, RefusedText, no_form, no_job, other_word, in_outputs, trailing}
use Rattle.tl_kind.specs.Reading.{StopsAs, AreLetters, Misses, refused_first, AreAll, TakesUpTo, IsJob, AreOutputs}
use Rattle.tl_kind.proofs.Tokens.{stops_more}
use Rattle.tl_kind.proofs.Steps.{several_later, several_parts, parts_stand, parts_within}

-- ---- the word of a program

no_first_job : (text : List ℕ) → (0 ≡ length text) ⊎ BeginsWithNoLetter text → StopsAs (RefusedText (40 ∷ text)) text (refused_first text)
no_first_job [] h = no_job refl
no_first_job (byte ∷ bytes) (inl e) = absurd (omega arith)
no_first_job (byte ∷ bytes) (inr e) = no_job (ap (λ (b : Bool). if b then None else Some Unexpected) e)

pub refused_no_job : (text : List ℕ) (s : Stop) (len limit : ℕ) → limit ≡ length text → AreLetters text limit len → len ≡ 0 → s ≡ refused_first text → StopsAs (RefusedText (40 ∷ text)) text s
refused_no_job text s len limit all are none is =
    let here : (0 ≡ length text) ⊎ BeginsWithNoLetter text = elim are.whole [
      | inl e ↦ inl (omega arith)
      | inr e ↦ inr (subst (λ n. BeginsWithNoLetter (drop n text)) none e)
    ] in
    subst (λ s. StopsAs (RefusedText (40 ∷ text)) text s) (sym is) (no_first_job text here)

letters_end : (text : List ℕ) (len limit : ℕ) → limit ≡ length text → AreLetters text limit len → BeginsWithNoLetter (drop len text)
letters_end text len limit all are = elim are.whole [
  | inl e ↦ let past : length text ≤ len = omega arith in subst BeginsWithNoLetter (sym (drop_all len text past)) tt
  | inr e ↦ e
]

pub refused_other : (text : List ℕ) (len limit : ℕ) → limit ≡ length text → AreLetters text limit len → len ≢ 0 → take len text ≢ codes "job" → RefusedText (40 ∷ text) text UnknownForm
refused_other text len limit all are some other =
    let size : 0 < length (take len text) = grind (arith, are, common_steps) in
    subst (λ t. RefusedText (40 ∷ t) t UnknownForm) (take-append-drop len text) (other_word (take len text) (drop len text) size are.letters (letters_end text len limit all are) other)

pub bytes_differ : (s t : List ℕ) → true ≡ not (bytes_eq s t) → s ≢ t
bytes_differ s t e same = let no : ◌≡◌ {A = Bool} true false = e ∙ ap not ((bytes_eq-Decides s t).1 same) in cc

-- ---- the outputs

pub job_takes : TakesUpTo job output_limit
job_takes count lt = ap (λ (b : Bool). if b then Some expr else None) (lt-ltb count output_limit lt)

pub refused_outputs : (es : List Expr) (text mid : List ℕ) (count : ℕ) (kind : LangErrorKind) → AreAll 31 output_limit text es mid → count ≡ length es → wrong_after job count mid ≡ Some kind → Refused (after job 0 31) text mid kind
refused_outputs es text mid count kind all size wrong =
    let same : 0 + length es ≡ count = omega arith in
    several_later job output_limit 0 31 es text mid mid kind job_takes (omega (arith, all.few)) all.stand (at_once (ap (λ (n : ℕ). wrong_after job n mid) same ∙ wrong))

abbrev no_kind : Option LangErrorKind
no_kind = None

missed : (p : Bool) → IsSome (if p then no_kind else Some Unexpected) → (k : LangErrorKind) → p ≡ false
missed true h k = absurd (cc)
missed false h k = refl

end_here : (p q w m : Bool) (k : LangErrorKind) → (w ≡ false) ⊎ (p ≡ false) → (if p then (if w then None else Some k) else if q then (if m then None else Some Unexpected) else Some Unexpected) ≡ None → (q ≡ true) × (m ≡ true)
end_here true q w m k (inl full) e = let no : ◌≡◌ {A = Option LangErrorKind} (Some k) None = ap (λ (w : Bool). if w then None else Some k) (sym full) ∙ e in absurd (cc)
end_here true q w m k (inr none) e = absurd (cc)
end_here false true w true k h e = (refl, refl)
end_here false true w false k h e = absurd (cc)
end_here false false w m k h e = absurd (cc)

some_more : (b : Bool) → b ≡ false → is_some (if b then Some expr else None) ≡ false
some_more b e = ap (λ (b : Bool). is_some (if b then Some expr else None)) e

-- after the outputs that were read `)` stands, and there is one at least
pub outputs_end : (mid : List ℕ) (count : ℕ) → (count ≡ output_limit) ⊎ IsSome (missing 32 mid) → wrong_after job count mid ≡ None → (mid ≡ 41 ∷ drop 1 mid) × (0 < count)
outputs_end [] count all e = absurd (cc)
outputs_end (byte ∷ bytes) count all e =
    let full : (nat_lt count output_limit ≡ false) ⊎ ((byte == 32) ≡ false) = elim all [
      | inl at ↦ inl (ap (λ (n : ℕ). nat_lt n output_limit) at)
      | inr none ↦ inr (missed (byte == 32) none End)
    ] in
    let wanted : (is_some (wants job count) ≡ false) ⊎ ((byte == 32) ≡ false) = elim full [ inl n ↦ inl (some_more (nat_lt count output_limit) n) | inr n ↦ inr n ] in
    let both = end_here (byte == 32) (byte == 41) (is_some (wants job count)) (may_end job count) TooManyOutputs wanted e in
    (ap (λ (b : ℕ). b ∷ bytes) (eqb-true byte 41 both.0), ltb-true 0 count both.1)

pub are_outputs : (es : List Expr) (text mid rest : List ℕ) (count : ℕ) → AreAll 31 output_limit text es mid → count ≡ length es → wrong_after job count mid ≡ None → mid ≡ 41 ∷ rest → AreOutputs text es rest
are_outputs es text mid rest count all size fine end = record {
  some = let there = outputs_end mid count (subst (λ n. (n ≡ output_limit) ⊎ IsSome (missing 32 mid)) (sym size) all.all) fine in omega (arith, there.1);
  few = all.few;
  stand = several_parts 31 es text mid rest all.stand end;
}

pub outputs_never : (Q : List ℕ → LangErrorKind → Type 0) (es : List Expr) (text mid rest : List ℕ) (count : ℕ) (s : Stop) → AreAll 31 output_limit text es mid → count ≡ length es → wrong_after job count mid ≡ None → StopsAs (Misses 41 mid) rest s → StopsAs Q rest s
outputs_never Q es text mid rest count s all size fine h =
    let there = outputs_end mid count (subst (λ n. (n ≡ output_limit) ⊎ IsSome (missing 32 mid)) (sym size) all.all) fine in
    stops_more (Misses 41 mid) Q rest s (λ kind m. let none : ◌≡◌ {A = Option LangErrorKind} None (Some kind) = ap (missing 41) (sym there.0) ∙ m.1 in absurd (cc)) h

-- ---- whole programs

pub parts_of_exprs : (es : List Expr) → map (map_part spelling) (map an_expr es) ≡ map (λ e. an_expr (spelling e)) es
parts_of_exprs [] = refl
parts_of_exprs (e ∷ es) = ap (λ (ps : List (Part (List ℕ))). an_expr (spelling e) ∷ ps) (parts_of_exprs es)

pub exprs_within : (room : ℕ) (es : List Expr) → list_all (part_fits room) (map (map_part fits) (map an_expr es)) ≡ list_all (λ e. fits e room) es
exprs_within room [] = refl
exprs_within room (e ∷ es) = ap (λ (b : Bool). fits e room && b) (exprs_within room es)

pub whole : (text after_open after_job rest : List ℕ) (program : Program) (es : List Expr) → text ≡ 40 ∷ after_open → IsJob after_open after_job → AreOutputs after_job es rest → program.outputs ≡ es → IsWhole text program rest
whole text after_open after_job rest program es opened is are made = record {
  spelled =
      opened
      ∙ ap (λ (t : List ℕ). 40 ∷ t) (is.spelled ∙ ap (λ (t : List ℕ). codes "job" ++ t) (parts_stand 31 (map an_expr es) after_job rest are.stand))
      ∙ ap (λ (ps : List (Part (List ℕ))). 40 ∷ codes "job" ++ (parts_text ps ++ rest)) (parts_of_exprs es)
      ∙ ap (λ (fs : List Expr). 40 ∷ codes "job" ++ (parts_text (map (λ e. an_expr (spelling e)) fs) ++ rest)) (sym made)
      ∙ sym (append_assoc (40 ∷ codes "job") (parts_text (map (λ e. an_expr (spelling e)) program.outputs)) rest);
  some = subst (λ fs. 1 ≤ length fs) (sym made) are.some;
  few = subst (λ fs. length fs ≤ output_limit) (sym made) are.few;
  within = subst (λ fs. list_all (λ e. fits e 31) fs ≡ true) (sym made) (sym (exprs_within 31 es) ∙ parts_within 31 (map an_expr es) after_job rest are.stand);
}

pub refused_no_form : (text rest : List ℕ) (s : Stop) → StopsAs (Misses 40 text) rest s → StopsAs (RefusedText text) rest s
refused_no_form text rest s h = stops_more (Misses 40 text) (RefusedText text) rest s (λ kind m. subst (λ r. RefusedText text r kind) (sym m.0) (no_form m.1)) h

pub refused_at_word : (text more rest : List ℕ) (s : Stop) → text ≡ 40 ∷ more → StopsAs (RefusedText (40 ∷ more)) rest s → StopsAs (RefusedText text) rest s
refused_at_word text more rest s is h = subst (λ t. StopsAs (RefusedText t) rest s) (sym is) h

pub refused_in_outputs : (text after_open after_job rest : List ℕ) (s : Stop) → text ≡ 40 ∷ after_open → IsJob after_open after_job → StopsAs (Refused (after job 0 31) after_job) rest s → StopsAs (RefusedText text) rest s
refused_in_outputs text after_open after_job rest s opened is h =
    stops_more (Refused (after job 0 31) after_job) (RefusedText text) rest s
    (λ kind r. subst (λ t. RefusedText t rest kind) (sym (opened ∙ ap (λ (t : List ℕ). 40 ∷ t) is.spelled)) (in_outputs is.ends r)) h

-- ---- the place

-- a rest of a text
pub record IsRest (text rest : List ℕ) : Type 0 where
  pub front : List ℕ
  pub is : text ≡ front ++ rest

rest_of_all : (text : List ℕ) → IsRest text text
rest_of_all text = record { front = []; is = refl }

rest_after : (front text rest : List ℕ) → IsRest text rest → IsRest (front ++ text) rest
rest_after front text rest h = record { front = front ++ h.front; is = ap (λ (t : List ℕ). front ++ t) h.is ∙ sym (append_assoc front h.front rest) }

rest_dropped : (place : ℕ) (text : List ℕ) → IsRest text (drop place text)
rest_dropped place text = record { front = take place text; is = sym (take-append-drop place text) }

rest_refused : {spot : Spot} {text rest : List ℕ} {kind : LangErrorKind} → Refused spot text rest kind → IsRest text rest
rest_refused (at_first {text = text} e) = rest_of_all text
rest_refused (in_signed {text = text} place begun bad) = rest_dropped place text
rest_refused (in_number {text = text} place begun bad) = rest_dropped place text
rest_refused (in_quoted {text = text} place of begun bad) = rest_dropped place text
rest_refused (no_word {text = text} e) = rest_after (40 ∷ []) text text (rest_of_all text)
rest_refused (unknown_word letters rest some all ends none) = rest_after (40 ∷ []) (letters ++ rest) (letters ++ rest) (rest_of_all (letters ++ rest))
rest_refused (after_word w {text = text} {rest = rest} ends r) = rest_after (40 ∷ word_text w) text rest (rest_refused r)
rest_refused (at_once {text = text} e) = rest_of_all text
rest_refused (in_next sort {text = text} {rest = rest} takes r) = rest_after (32 ∷ []) text rest (rest_refused r)
rest_refused (after_next next {text = text} {more = more} {rest = rest} takes is r) =
    subst (λ t. IsRest (32 ∷ t) rest) (sym is.spelled) (rest_after (32 ∷ part_text (map_part spelling next)) more rest (rest_refused r))

rest_refused_text : {text rest : List ℕ} {kind : LangErrorKind} → RefusedText text rest kind → IsRest text rest
rest_refused_text (no_form {text = text} e) = rest_of_all text
rest_refused_text (no_job {text = text} e) = rest_after (40 ∷ []) text text (rest_of_all text)
rest_refused_text (other_word letters rest some all ends other) = rest_after (40 ∷ []) (letters ++ rest) (letters ++ rest) (rest_of_all (letters ++ rest))
rest_refused_text (in_outputs {text = text} {rest = rest} ends r) = rest_after (40 ∷ codes "job") text rest (rest_refused r)
rest_refused_text (trailing program is some) = record { front = program_text program; is = is.spelled }

pub shorter : {text rest : List ℕ} {kind : LangErrorKind} → RefusedText text rest kind → length rest ≤ length text
shorter {text} {rest} r = let h = rest_refused_text r in omega (arith, ap length h.is, length-append h.front rest)

pub rest_at : (text rest : List ℕ) (kind : LangErrorKind) → RefusedText text rest kind → RefusedText text (drop (length text - length rest) text) kind
rest_at text rest kind r =
    let h = rest_refused_text r in
    let size : length text - length rest ≡ length h.front = omega (arith, ap length h.is, length-append h.front rest) in
    let there : drop (length text - length rest) text ≡ rest = ap (λ (n : ℕ). drop n text) size ∙ ap (drop (length h.front)) h.is ∙ drop_at h.front rest (length h.front) refl in
    subst (λ t. RefusedText text t kind) (sym there) r
