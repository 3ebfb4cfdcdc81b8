-- Where a text is refused, nothing is spelled.
use Rattle.std.proofs.Common.{◌≡◌, ◌≢◌, ◌⊎◌, ◌<◌, ◌≤◌, ℕ, suc, ◌+◌, ◌^◌, ℤ, pos, negsuc, Bool, true, false, ◌||◌, if◌then◌else◌, ◌==◌, List, [], ◌∷◌, ◌++◌, codes, map, length, Option, Some, None, refl, sym, ◌∙◌, ap, subst, inl, inr, arith, append_assoc, append-nil}
use Rattle.std.specs.List.{list_all}
use Rattle.std.specs.Option.{is_some}
use Rattle.std.proofs.lemmas.Bool.{eqb-true, lt-ltb, cases_Bool, false_from_ne_true}
use Rattle.tl_text.specs.Number.{IsNumber}
use Rattle.tl_text.specs.Signed.{IsSigned}
use Rattle.tl_text.specs.Quoted.{IsQuoted}
use Rattle.tl_lang.specs.declared.expr.Expr.{Expr, out-Expr}
use Rattle.tl_lang.specs.declared.program.Program.{Program}
use Rattle.tl_kind.specs.declared.lang_error.LangErrorKind.{LangErrorKind}
use Rattle.tl_kind.specs.declared.lang_error.LangErrorKind.TheVariants.{Unexpected, TooDeep}
use Rattle.tl_kind.specs.declared.begin.Begin.TheVariants as begin
use Rattle.tl_kind.specs.declared.word.Word.{Word}
use Rattle.tl_kind.specs.declared.word.Word.TheVariants as word
use Rattle.tl_kind.specs.declared.word.One.TheVariants as one
use Rattle.tl_kind.specs.declared.word.Two.TheVariants as two
use Rattle.tl_kind.specs.declared.word.Three.TheVariants as three
use Rattle.tl_kind.specs.declared.word.Binding.TheVariants as binding
use Rattle.tl_kind.specs.Words.{word_text}
use Rattle.tl_kind.specs.Written.{Part, an_expr, a_name, a_number, a_quote, Written, quote, signed, variable, with_parts, map_part, parts_text, spelling, program_text, is_letter, is_name, written, output_limit, IsProgram}
use Rattle.tl_kind.specs.Refusals.{Head, job, inner, Sort, expr, name, number, quoted_text, sort_of, wants, spare_part, missing, wrong_after, wrong_first, wrong_word, is_digit, begins_with_digit, begins_signed, begins_quoted, begins_plain, BeginsWithNoLetter, IsPart, Spot, part, after, Refused, at_first, in_signed, in_number, in_quoted, no_word, unknown_word, after_word, at_once, in_next, after_next, IsWhole, RefusedText, no_form, no_job, other_word, in_outputs, trailing, IsRefusedAt}
use Rattle.tl_kind.specs.Reading.{AreParts, begin_of}
use Rattle.tl_kind.proofs.Inverse.{Takes}
use Rattle.tl_kind.proofs.Readings.{ReadsExpr, reads, numbered, quoted_so, begins, one_run, word_letters, same_word, parts_follow_word, number_begins, letter_first, name_letters, other_digit, other_letter, begins_digit, parts_read}
use Rattle.tl_kind.proofs.Programs.{parts_of_exprs, exprs_within}
use Rattle.tl_kind.proofs.Unique.{the_part, the_parts}

-- ---- first bytes that may stand

or_from_left : (p q : Bool) → p ≡ true → (p || q) ≡ true
or_from_left p q e = ap (λ (p : Bool). p || q) e

or_from_right : (p q : Bool) → q ≡ true → (p || q) ≡ true
or_from_right true q e = refl
or_from_right false q e = e

plain_digit : (b : ℕ) → is_digit b ≡ true → begins_plain b ≡ true
plain_digit b e = or_from_right (b == 34) _ (or_from_right (b == 45) _ (or_from_left (is_digit b) (is_letter b) e))

plain_letter : (b : ℕ) → is_letter b ≡ true → begins_plain b ≡ true
plain_letter b e = or_from_right (b == 34) _ (or_from_right (b == 45) _ (or_from_right (is_digit b) (is_letter b) e))

fine_byte : (b : ℕ) (bytes : List ℕ) (room : ℕ) → (b == 40) ≡ false → begins_plain b ≡ true → wrong_first expr room (b ∷ bytes) ≡ None
fine_byte b bytes room apart fine =
    ap (λ (p : Bool). if p then (if room == 0 then Some TooDeep else None) else if begins_plain b then None else Some Unexpected) apart
    ∙ ap (λ (q : Bool). if q then None else Some Unexpected) fine

fine_digit : (text : List ℕ) (room : ℕ) → begins_with_digit text ≡ true → wrong_first expr room text ≡ None
fine_digit [] room e = absurd (cc)
fine_digit (b ∷ bytes) room e = fine_byte b bytes room (other_digit b 40 e refl) (plain_digit b e)

fine_signed : (text rest : List ℕ) (z : ℤ) (room : ℕ) → IsSigned text z rest → wrong_first expr room text ≡ None
fine_signed text rest (pos n) room h =
    fine_digit text room (number_begins 9223372036854775807 n text rest (omega arith) (record { spelled = h.spelled; small = let f : n < 2 ^ 63 = h.fits.sfits in omega arith; whole = h.whole }))
fine_signed text rest (negsuc n) room h = ap (wrong_first expr room) h.spelled

fine_letter : (x rest : List ℕ) (room : ℕ) → is_name x ≡ true → wrong_first expr room (x ++ rest) ≡ None
fine_letter [] rest room e = absurd (cc)
fine_letter (b ∷ x) rest room e = let sure = letter_first b x (name_letters (b ∷ x) e).1 in fine_byte b (x ++ rest) room (other_letter b 40 sure refl) (plain_letter b sure)

some_room : (room : ℕ) → (suc room == 0) ≡ false
some_room room = false_from_ne_true (suc room == 0) (λ e. let same = eqb-true (suc room) 0 e in omega arith)

fine_open : (bytes : List ℕ) (room under : ℕ) → room ≡ suc under → wrong_first expr room (40 ∷ bytes) ≡ None
fine_open bytes room under e = ap (λ (n : ℕ). wrong_first expr n (40 ∷ bytes)) e ∙ ap (λ (p : Bool). if p then Some TooDeep else None) (some_room under)

fine_expr : (room : ℕ) (text rest : List ℕ) (w : Written Expr) → ReadsExpr room text w rest → wrong_first expr room text ≡ None
fine_expr room text rest (quote s) h = ap (wrong_first expr room) h.spelled
fine_expr room text rest (signed z) h = fine_signed text rest z room h
fine_expr room text rest (variable x) h = ap (wrong_first expr room) h.spelled ∙ fine_letter x rest room h.name
fine_expr room text rest (with_parts w parts) h = ap (wrong_first expr room) h.3 ∙ fine_open (word_text w ++ h.2) room h.0 h.1

fine_name : (room : ℕ) (x rest : List ℕ) → is_name x ≡ true → wrong_first name room (x ++ rest) ≡ None
fine_name room [] rest e = absurd (cc)
fine_name room (b ∷ x) rest e = ap (λ (p : Bool). if p then None else Some Unexpected) (letter_first b x (name_letters (b ∷ x) e).1)

fine_number : (room : ℕ) (text : List ℕ) → begins_with_digit text ≡ true → wrong_first number room text ≡ None
fine_number room [] e = absurd (cc)
fine_number room (b ∷ bytes) e = ap (λ (p : Bool). if p then None else Some Unexpected) e

-- a part's first byte may stand
fine_first : (room : ℕ) (text rest : List ℕ) (p : Part Expr) → IsPart room text p rest → wrong_first (sort_of p) room text ≡ None
fine_first room text rest (an_expr e) h = fine_expr room text rest (written (out-Expr e)) (reads room text rest e h)
fine_first room text rest (a_name x) h = ap (wrong_first name room) h.spelled ∙ fine_name room x rest h.within
fine_first room text rest (a_number n) h = fine_number room text (number_begins 18446744073709551615 n text rest (omega arith) (numbered room text rest n h))
fine_first room text rest (a_quote s) h = ap (wrong_first quoted_text room) h.spelled

-- ---- at each spot

-- nothing that is asked for stands at the spot
abbrev pub Nothing : Spot → List ℕ → Type 0
Nothing (part sort room) text = (p : Part Expr) (rest : List ℕ) → sort_of p ≡ sort → IsPart room text p rest → ⊥
Nothing (after head count room) text = (ps : List (Part Expr)) (rest : List ℕ) → Takes head count ps → AreParts room ps text rest → ⊥

none_and_some : (o : Option LangErrorKind) (kind : LangErrorKind) → o ≡ Some kind → o ≡ None → ⊥
none_and_some o kind e f = cc

begun_signed : (b : ℕ) → (b == 45 || is_digit b) ≡ true → begin_of (b ∷ []) ≡ begin.Number
begun_signed b e = elim (cases_Bool (b == 45)) [
  | inl minus ↦ ap (λ (c : ℕ). begin_of (c ∷ [])) (eqb-true b 45 minus)
  | inr other ↦ begins_digit (b ∷ []) (ap (λ (p : Bool). p || is_digit b) (sym other) ∙ e)
]

begins_number : (text : List ℕ) → begins_signed text ≡ true → begin_of text ≡ begin.Number
begins_number [] e = absurd (cc)
begins_number (b ∷ bytes) e = begun_signed b e

begins_with_quote : (text : List ℕ) → begins_quoted text ≡ true → begin_of text ≡ begin.Quote
begins_with_quote [] e = absurd (cc)
begins_with_quote (b ∷ bytes) e = ap (λ (c : ℕ). begin_of (c ∷ bytes)) (eqb-true b 34 e)

-- what is written so begins so
never_signed : (room : ℕ) (text rest : List ℕ) (w : Written Expr) → begin_of text ≡ begin.Number → ((z : ℤ) (rest : List ℕ) → IsSigned text z rest → ⊥) → ReadsExpr room text w rest → ⊥
never_signed room text rest (quote s) e none h = let b = begins room text rest (quote s) h in cc
never_signed room text rest (signed z) e none h = none z rest h
never_signed room text rest (variable x) e none h = let b = begins room text rest (variable x) h in cc
never_signed room text rest (with_parts w parts) e none h = let b = begins room text rest (with_parts w parts) h in cc

never_quoted : (room : ℕ) (text rest : List ℕ) (w : Written Expr) → begin_of text ≡ begin.Quote → ((s rest : List ℕ) → IsQuoted text s rest → ⊥) → ReadsExpr room text w rest → ⊥
never_quoted room text rest (quote s) e none h = none s rest h
never_quoted room text rest (signed z) e none h = let b = begins room text rest (signed z) h in cc
never_quoted room text rest (variable x) e none h = let b = begins room text rest (variable x) h in cc
never_quoted room text rest (with_parts w parts) e none h = let b = begins room text rest (with_parts w parts) h in cc

-- a form whose text after `(` is that
abbrev IsFormAt : ℕ → List ℕ → List ℕ → Type 0
IsFormAt room text rest = (w : Word) (parts : List (Part Expr)) (under : ℕ) (more : List ℕ) → room ≡ suc under → text ≡ word_text w ++ more → AreParts under parts more rest → Takes (inner w) 0 parts → ⊥

tail_of : (s t : List ℕ) → 40 ∷ s ≡ 40 ∷ t → s ≡ t
tail_of s t e = cc

never_form : (room : ℕ) (text rest : List ℕ) (w : Written Expr) → IsFormAt room text rest → ReadsExpr room (40 ∷ text) w rest → ⊥
never_form room text rest (quote s) none h = let b = begins room (40 ∷ text) rest (quote s) h in let form : begin_of (40 ∷ text) ≡ begin.Form = refl in cc
never_form room text rest (signed z) none h = let b = begins room (40 ∷ text) rest (signed z) h in let form : begin_of (40 ∷ text) ≡ begin.Form = refl in cc
never_form room text rest (variable x) none h = let b = begins room (40 ∷ text) rest (variable x) h in let form : begin_of (40 ∷ text) ≡ begin.Form = refl in cc
never_form room text rest (with_parts w parts) none h = none w parts h.0 h.2 h.1 (tail_of text (word_text w ++ h.2) h.3) h.4 h.5

-- the form is asked for by a part
never_form_part : (room : ℕ) (text : List ℕ) → ((rest : List ℕ) → IsFormAt room text rest) → Nothing (part expr room) (40 ∷ text)
never_form_part room text none (an_expr e) rest s h = never_form room text rest (written (out-Expr e)) (none rest) (reads room (40 ∷ text) rest e h)
never_form_part room text none (a_name x) rest s h = cc
never_form_part room text none (a_number n) rest s h = cc
never_form_part room text none (a_quote q) rest s h = cc

fine_letters : (xs more : List ℕ) → list_all is_letter xs ≡ true → 0 < length xs → wrong_word (xs ++ more) ≡ None
fine_letters [] more all some = absurd (omega arith)
fine_letters (b ∷ xs) more all some = ap (λ (p : Bool). if p then None else Some Unexpected) (letter_first b xs all)

pred_same : (m n : ℕ) → suc m ≡ suc n → m ≡ n
pred_same m n e = omega arith

word_some : (w : Word) → 0 < length (word_text w)
word_some word.Input = omega arith
word_some word.Key = omega arith
word_some (word.Two two.Cat) = omega arith
word_some (word.One one.Len) = omega arith
word_some (word.Three three.Sub) = omega arith
word_some (word.Two two.Eq) = omega arith
word_some (word.Two two.Has) = omega arith
word_some (word.One one.Num) = omega arith
word_some (word.One one.Str) = omega arith
word_some (word.Two two.Add) = omega arith
word_some (word.Two two.Minus) = omega arith
word_some (word.Two two.Mul) = omega arith
word_some (word.Two two.Div) = omega arith
word_some (word.Two two.Mod) = omega arith
word_some (word.Two two.Lt) = omega arith
word_some (word.Two two.Same) = omega arith
word_some (word.Three three.If) = omega arith
word_some (word.Binding binding.Let) = omega arith
word_some (word.One one.Lines) = omega arith
word_some (word.Two two.Split) = omega arith
word_some (word.Two two.Join) = omega arith
word_some word.List = omega arith
word_some (word.Two two.Append) = omega arith
word_some (word.Two two.At) = omega arith
word_some (word.One one.Count) = omega arith
word_some (word.One one.Sort) = omega arith
word_some (word.Binding binding.Each) = omega arith
word_some (word.Binding binding.Keep) = omega arith
word_some word.Fold = omega arith

fine_word : (w : Word) (more : List ℕ) → wrong_word (word_text w ++ more) ≡ None
fine_word w more = fine_letters (word_text w) more (word_letters w) (word_some w)

never_at : (head : Head) (count room : ℕ) (text : List ℕ) (kind : LangErrorKind) → wrong_after head count text ≡ Some kind → Nothing (after head count room) text
never_at head count room text kind e [] rest t h =
    let fine : wrong_after head count text ≡ None = ap (wrong_after head count) h ∙ ap (λ (b : Bool). if b then None else Some Unexpected) t in
    none_and_some (wrong_after head count text) kind e fine
never_at head count room text kind e (p ∷ ps) rest t h =
    let fine : wrong_after head count text ≡ None = ap (wrong_after head count) h.1.1 ∙ ap (λ (o : Option Sort). if is_some o then None else Some (spare_part head)) t.0 in
    none_and_some (wrong_after head count text) kind e fine

space_or_end : (s t : List ℕ) → 32 ∷ s ≡ 41 ∷ t → ⊥
space_or_end s t e = cannot (ap head e)
  where
    head : List ℕ → ℕ
    head [] = 0
    head (b ∷ bs) = b

    cannot : ◌≡◌ {A = ℕ} 32 41 → ⊥
    cannot e = omega arith

after_space : (s t : List ℕ) → 32 ∷ s ≡ 32 ∷ t → s ≡ t
after_space s t e = cc

same_sorts : (o : Option Sort) (a b : Sort) → o ≡ Some a → o ≡ Some b → a ≡ b
same_sorts o a b e f = cc

never_next : (head : Head) (count room : ℕ) (sort : Sort) (text : List ℕ) → wants head count ≡ Some sort → Nothing (part sort room) text → Nothing (after head count room) (32 ∷ text)
never_next head count room sort text takes none [] rest t h = space_or_end text rest h
never_next head count room sort text takes none (p ∷ ps) rest t h =
    none p h.0 (same_sorts (wants head count) (sort_of p) sort t.0 takes) (subst (λ u. IsPart room u p h.0) (sym (after_space text h.1.0 h.1.1)) h.1.2)

never_later : (head : Head) (count room : ℕ) (next : Part Expr) (text more : List ℕ) → wants head count ≡ Some (sort_of next) → IsPart room text next more → Nothing (after head (suc count) room) more → Nothing (after head count room) (32 ∷ text)
never_later head count room next text more takes is none [] rest t h = space_or_end text rest h
never_later head count room next text more takes is none (p ∷ ps) rest t h =
    let here = subst (λ u. IsPart room u p h.0) (sym (after_space text h.1.0 h.1.1)) h.1.2 in
    let one = the_part room room text h.0 more p next (same_sorts (wants head count) (sort_of p) (sort_of next) t.0 takes) here is in
    none ps rest t.1 (subst (λ u. AreParts room ps u rest) one.1 h.2)

never_first : (sort : Sort) (room : ℕ) (text : List ℕ) (kind : LangErrorKind) → wrong_first sort room text ≡ Some kind → Nothing (part sort room) text
never_first sort room text kind e p rest s h =
    none_and_some (wrong_first sort room text) kind e (ap (λ (o : Sort). wrong_first o room text) (sym s) ∙ fine_first room text rest p h)

never_signed_part : (room : ℕ) (text : List ℕ) → begins_signed text ≡ true → ((z : ℤ) (rest : List ℕ) → IsSigned text z rest → ⊥) → Nothing (part expr room) text
never_signed_part room text begun none (an_expr e) rest s h = never_signed room text rest (written (out-Expr e)) (begins_number text begun) none (reads room text rest e h)
never_signed_part room text begun none (a_name x) rest s h = cc
never_signed_part room text begun none (a_number n) rest s h = cc
never_signed_part room text begun none (a_quote q) rest s h = cc

never_number_part : (room : ℕ) (text : List ℕ) → ((n : ℕ) (rest : List ℕ) → IsNumber 18446744073709551615 text n rest → ⊥) → Nothing (part number room) text
never_number_part room text none (an_expr e) rest s h = cc
never_number_part room text none (a_name x) rest s h = cc
never_number_part room text none (a_number n) rest s h = none n rest (numbered room text rest n h)
never_number_part room text none (a_quote q) rest s h = cc

never_quoted_part : (sort : Sort) (room : ℕ) (text : List ℕ) → (sort ≡ expr) ⊎ (sort ≡ quoted_text) → begins_quoted text ≡ true → ((q rest : List ℕ) → IsQuoted text q rest → ⊥) → Nothing (part sort room) text
never_quoted_part sort room text of begun none (an_expr e) rest s h = never_quoted room text rest (written (out-Expr e)) (begins_with_quote text begun) none (reads room text rest e h)
never_quoted_part sort room text (inl of) begun none (a_name x) rest s h = cc
never_quoted_part sort room text (inr of) begun none (a_name x) rest s h = cc
never_quoted_part sort room text (inl of) begun none (a_number n) rest s h = cc
never_quoted_part sort room text (inr of) begun none (a_number n) rest s h = cc
never_quoted_part sort room text of begun none (a_quote q) rest s h = none q rest (quoted_so room text rest q h)

never_word : (room : ℕ) (text : List ℕ) (kind : LangErrorKind) → wrong_word text ≡ Some kind → (rest : List ℕ) → IsFormAt room text rest
never_word room text kind e rest w parts under more r is h t = none_and_some (wrong_word text) kind e (ap wrong_word is ∙ fine_word w more)

never_unknown : (room : ℕ) (letters others : List ℕ) → list_all is_letter letters ≡ true → BeginsWithNoLetter others → ((w : Word) → letters ≢ word_text w) → (rest : List ℕ) → IsFormAt room (letters ++ others) rest
never_unknown room letters others all ends none rest w parts under more r is h t =
    none w (one_run letters (word_text w) others more all (word_letters w) ends (parts_follow_word under parts more rest h) is).0

never_after_word : (room : ℕ) (v : Word) (text : List ℕ) → BeginsWithNoLetter text → Nothing (after (inner v) 0 room) text → (rest : List ℕ) → IsFormAt (suc room) (word_text v ++ text) rest
never_after_word room v text ends none rest w parts under more r is h t =
    let run = one_run (word_text v) (word_text w) text more (word_letters v) (word_letters w) ends (parts_follow_word under parts more rest h) is in
    let same : w ≡ v = sym (same_word v w run.0) in
    let rooms : under ≡ room = sym (pred_same room under r) in
    none parts rest (subst (λ w. Takes (inner w) 0 parts) same t) (subst (λ n. AreParts n parts text rest) rooms (subst (λ u. AreParts under parts u rest) (sym run.1) h))

pub never : {spot : Spot} {text rest : List ℕ} {kind : LangErrorKind} → Refused spot text rest kind → Nothing spot text
never (at_first {sort = sort} {room = room} {text = text} {kind = kind} e) = never_first sort room text kind e
never (in_signed {room = room} {text = text} place begun bad) = never_signed_part room text begun bad.none
never (in_number {room = room} {text = text} place begun bad) = never_number_part room text bad.none
never (in_quoted {sort = sort} {room = room} {text = text} place of begun bad) = never_quoted_part sort room text of begun bad.none
never (no_word {room = room} {text = text} {kind = kind} e) = never_form_part (suc room) text (never_word (suc room) text kind e)
never (unknown_word {room = room} letters rest some all ends none) = never_form_part (suc room) (letters ++ rest) (never_unknown (suc room) letters rest all ends none)
never (after_word {room = room} w {text = text} ends r) = never_form_part (suc room) (word_text w ++ text) (never_after_word room w text ends (never r))
never (at_once {head = head} {count = count} {room = room} {text = text} {kind = kind} e) = never_at head count room text kind e
never (in_next {head = head} {count = count} {room = room} sort {text = text} takes r) = never_next head count room sort text takes (never r)
never (after_next {head = head} {count = count} {room = room} next {text = text} {more = more} takes is r) = never_later head count room next text more takes is (never r)

-- ---- whole programs

job_takes_parts : (count : ℕ) (es : List Expr) → count + length es ≤ output_limit → 0 < count + length es → Takes job count (map an_expr es)
job_takes_parts count [] le some = lt-ltb 0 count (omega arith)
job_takes_parts count (e ∷ es) le some = (ap (λ (p : Bool). if p then Some expr else None) (lt-ltb count output_limit (omega arith)), job_takes_parts (suc count) es (omega arith) (omega arith))

-- a program is its word and its outputs
record HasParts (text : List ℕ) (program : Program) (rest : List ℕ) : Type 0 where
  outputs : List ℕ
  is : text ≡ 40 ∷ codes "job" ++ outputs
  stand : AreParts 31 (map an_expr program.outputs) outputs rest
  takes : Takes job 0 (map an_expr program.outputs)

has_parts : (text rest : List ℕ) (program : Program) → IsWhole text program rest → HasParts text program rest
has_parts text rest program h = record {
  outputs = parts_text (map (map_part spelling) (map an_expr program.outputs)) ++ rest;
  is =
      h.spelled ∙ append_assoc (40 ∷ codes "job") (parts_text (map (λ e. an_expr (spelling e)) program.outputs)) rest
      ∙ ap (λ (ps : List (Part (List ℕ))). 40 ∷ codes "job" ++ (parts_text ps ++ rest)) (sym (parts_of_exprs program.outputs));
  stand = parts_read 31 (map an_expr program.outputs) _ rest refl (exprs_within 31 program.outputs ∙ h.within);
  takes = job_takes_parts 0 program.outputs (omega (arith, h.few)) (omega (arith, h.some));
}

same_exprs : (es ds : List Expr) → map an_expr es ≡ map an_expr ds → es ≡ ds
same_exprs [] [] e = refl
same_exprs [] (d ∷ ds) e = cc
same_exprs (c ∷ es) [] e = cc
same_exprs (c ∷ es) (d ∷ ds) e =
    let heads : c ≡ d = cc in
    let rests : map an_expr es ≡ map an_expr ds = cc in
    let others : es ≡ ds = same_exprs es ds rests in
    cc (heads, others)

after_job_word : (s t : List ℕ) → 40 ∷ codes "job" ++ s ≡ 40 ∷ codes "job" ++ t → s ≡ t
after_job_word s t e = cc

-- a text begins with one program at most
pub one_whole : (text r s : List ℕ) (p q : Program) → IsWhole text p r → IsWhole text q s → (p ≡ q) × (r ≡ s)
one_whole text r s p q g h =
    let a = has_parts text r p g in
    let b = has_parts text s q h in
    let from : a.outputs ≡ b.outputs = after_job_word a.outputs b.outputs (sym a.is ∙ b.is) in
    let one = the_parts job 0 31 31 b.outputs r s (map an_expr p.outputs) (map an_expr q.outputs) a.takes b.takes (subst (λ t. AreParts 31 (map an_expr p.outputs) t r) from a.stand) b.stand in
    let same : p.outputs ≡ q.outputs = same_exprs p.outputs q.outputs one.0 in
    (ap (λ (es : List Expr). made es) same, one.1)
  where
    made : List Expr → Program
    made es = record { outputs = es }

job_letters : list_all is_letter (codes "job") ≡ true
job_letters = refl

pub never_text : {text rest : List ℕ} {kind : LangErrorKind} → RefusedText text rest kind → (program : Program) → IsWhole text program [] → ⊥
never_text (no_form {text = text} {kind = kind} e) program h = let a = has_parts text [] program h in none_and_some (missing 40 text) kind e (ap (missing 40) a.is)
never_text (no_job {text = text} {kind = kind} e) program h = let a = has_parts (40 ∷ text) [] program h in none_and_some (wrong_word text) kind e (ap wrong_word (tail_of text (codes "job" ++ a.outputs) a.is))
never_text (other_word letters rest some all ends other) program h =
    let a = has_parts (40 ∷ letters ++ rest) [] program h in
    other (one_run letters (codes "job") rest a.outputs all job_letters ends (parts_follow_word 31 (map an_expr program.outputs) a.outputs [] a.stand) (tail_of (letters ++ rest) (codes "job" ++ a.outputs) a.is)).0
never_text (in_outputs {text = text} ends r) program h =
    let a = has_parts (40 ∷ codes "job" ++ text) [] program h in
    let from : a.outputs ≡ text = sym (after_job_word text a.outputs a.is) in
    never r (map an_expr program.outputs) [] a.takes (subst (λ t. AreParts 31 (map an_expr program.outputs) t []) from a.stand)
never_text (trailing {text = text} {rest = rest} other is some) program h =
    let one = one_whole text rest [] other program is h in
    let size : length rest ≡ 0 = ap length one.1 in
    omega (arith, some, size)

pub whole_program : (text : List ℕ) (program : Program) → IsProgram text program → IsWhole text program []
whole_program text program h = record { spelled = h.spelled ∙ sym (append-nil (program_text program)); some = h.limits.some; few = h.limits.few; within = h.limits.within }

pub one_program_stands : (text : List ℕ) (p q : Program) → IsProgram text p → IsProgram text q → p ≡ q
one_program_stands text p q g h = (one_whole text [] [] p q (whole_program text p g) (whole_program text q h)).0

pub refused_never : (text : List ℕ) (at : ℕ) (kind : LangErrorKind) → IsRefusedAt text at kind → (program : Program) → IsProgram text program → ⊥
refused_never text at kind (inl long) program h = omega (arith, long.0, ap length h.spelled, h.limits.short)
refused_never text at kind (inr refused) program h = never_text refused.2 program (whole_program text program h)
