-- The steps of reading a form: what stands, and what is refused.
use Rattle.std.proofs.Common.{◌≡◌, ◌⊎◌, ◌<◌, ◌≤◌, ℕ, suc, ◌+◌, ◌-◌, ◌^◌, Bool, true, false, ◌||◌, if◌then◌else◌, ◌==◌, nat_le, List, [], ◌∷◌, ◌++◌, map, length, drop, Option, Some, None, IsSome, Result, IfErr, refl, sym, ◌∙◌, ap, subst, inl, inr, arith, append_assoc}
use Rattle.std.specs.List.{list_all, All}
use Rattle.std.specs.Option.{is_some}
use Rattle.std.specs.Result.{IsErrAnd}
use Rattle.std.proofs.lemmas.Bool.{and_from, le-leb, lt-ltb, eqb-true}
use Rattle.std.proofs.lemmas.Result.{err_from_is_err_and}
use Rattle.std.proofs.lemmas.List.Elements.{recursion_from_All}
use Rattle.std.specs.List.{AllByRecursion as ByRecursion}
use Rattle.tl_text.specs.Number.{IsNumber}
use Rattle.tl_text.specs.Quoted.{IsQuoted}
use Rattle.tl_lang.specs.declared.expr.Expr.{Expr, out-Expr}
use Rattle.tl_kind.specs.declared.lang_error.LangErrorKind.{LangErrorKind}
use Rattle.tl_kind.specs.declared.lang_error.LangErrorKind.TheVariants.{End, Unexpected, TooDeep}
use Rattle.tl_kind.specs.declared.stop.Stop.{Stop}
use Rattle.tl_kind.specs.declared.begin.Begin.{Begin}
use Rattle.tl_kind.specs.declared.begin.Begin.TheVariants as begin
use Rattle.tl_kind.specs.declared.word.Word.{Word}
use Rattle.tl_kind.specs.declared.word.Word.TheVariants as word
use Rattle.tl_kind.specs.Words.{word_text}
use Rattle.tl_kind.specs.Written.{Part, an_expr, a_number, a_quote, Written, quote, map_part, map_written, part_text, parts_text, written, written_text, spelling, is_letter, is_byte, part_fits, written_fits, fits}
use Rattle.tl_kind.specs.Refusals.{Head, inner, Sort, expr, name, sort_of, wants, may_end, wrong_after, wrong_first, is_digit, begins_signed, begins_quoted, missing, EndsExpr, IsPart, part, after, Refused, at_first, at_once, in_next, after_next, after_word}
use Rattle.tl_kind.specs.Reading.{StopsAs, Misses, begin_of, IsWord, NextIs, NextRefused, AreParts, IsForm, AreSeveral, TakesUpTo}
use Rattle.tl_kind.proofs.Trees.{spelling-written, fits-written}
use Rattle.tl_kind.proofs.Tokens.{stops_more}

-- ---- exits

pub exit : {A : Type 0} (result : Result A Stop) (e : Stop) (Q : Stop → Type 0) → IsErrAnd result (λ y. y ≡ e) → Q e → IfErr result Q
exit result e Q h q = let p = err_from_is_err_and result h in subst (λ r. IfErr r Q) (sym p.1) (subst Q (sym p.2) q)

-- ---- a byte that is missing

abbrev no_kind : Option LangErrorKind
no_kind = None

at_space : (p q w m : Bool) (spare : LangErrorKind) (kind : LangErrorKind) → w ≡ true → m ≡ false → (if p then None else Some Unexpected) ≡ Some kind
    → (if p then (if w then None else Some spare) else if q then (if m then None else Some Unexpected) else Some Unexpected) ≡ Some kind
at_space true q w m spare kind takes unclosed e = absurd (cc)
at_space false true w m spare kind takes unclosed e = ap (λ (m : Bool). if m then None else Some Unexpected) unclosed ∙ e
at_space false false w m spare kind takes unclosed e = e

at_end : (p q w m : Bool) (kind : LangErrorKind) → (w ≡ false) ⊎ (p ≡ false) → m ≡ true → (if q then None else Some Unexpected) ≡ Some kind
    → (p ≡ true → q ≡ false)
    → (if p then (if w then None else Some Unexpected) else if q then (if m then None else Some Unexpected) else Some Unexpected) ≡ Some kind
at_end true true w m kind full closed e apart = absurd (cc)
at_end true false w m kind (inl full) closed e apart = ap (λ (w : Bool). if w then None else Some Unexpected) full ∙ e
at_end true false w m kind (inr full) closed e apart = absurd (cc)
at_end false true w m kind full closed e apart = absurd (cc)
at_end false false w m kind full closed e apart = e

wrong_at_space : (head : Head) (count : ℕ) (text : List ℕ) (kind : LangErrorKind) → is_some (wants head count) ≡ true → may_end head count ≡ false → missing 32 text ≡ Some kind → wrong_after head count text ≡ Some kind
wrong_at_space head count [] kind takes unclosed e = e
wrong_at_space head count (byte ∷ bytes) kind takes unclosed e = at_space (byte == 32) (byte == 41) _ _ _ kind takes unclosed e

bytes_apart : (byte : ℕ) → (byte == 32) ≡ true → (byte == 41) ≡ false
bytes_apart byte e = ap (λ (b : ℕ). b == 41) (eqb-true byte 32 e)

some_missing : (p : Bool) → IsSome (if p then no_kind else Some Unexpected) → p ≡ false
some_missing true h = absurd (cc)
some_missing false h = refl

no_space : (byte : ℕ) (bytes : List ℕ) → IsSome (missing 32 (byte ∷ bytes)) → (byte == 32) ≡ false
no_space byte bytes h = some_missing (byte == 32) h

wrong_at_end : (w : Word) (count : ℕ) (text : List ℕ) (kind : LangErrorKind) → (is_some (wants (inner w) count) ≡ false) ⊎ IsSome (missing 32 text) → may_end (inner w) count ≡ true → missing 41 text ≡ Some kind → wrong_after (inner w) count text ≡ Some kind
wrong_at_end w count [] kind full closed e = e
wrong_at_end w count (byte ∷ bytes) kind (inl full) closed e = at_end (byte == 32) (byte == 41) _ _ kind (inl full) closed e (bytes_apart byte)
wrong_at_end w count (byte ∷ bytes) kind (inr none) closed e = at_end (byte == 32) (byte == 41) _ _ kind (inr (no_space byte bytes none)) closed e (bytes_apart byte)

-- ---- refusals in the parts of a form

some_wanted : (head : Head) (count : ℕ) (sort : Sort) → wants head count ≡ Some sort → is_some (wants head count) ≡ true
some_wanted head count sort e = ap (λ (o : Option Sort). is_some o) e

pub refused_next : (head : Head) (count room : ℕ) (sort : Sort) (text rest : List ℕ) (kind : LangErrorKind) → wants head count ≡ Some sort → may_end head count ≡ false → NextRefused sort room text rest kind → Refused (after head count room) text rest kind
refused_next head count room sort text rest kind takes unclosed (inl h) =
    subst (λ r. Refused (after head count room) text r kind) (sym h.0) (at_once (wrong_at_space head count text kind (some_wanted head count sort takes) unclosed h.1))
refused_next head count room sort text rest kind takes unclosed (inr h) =
    subst (λ t. Refused (after head count room) t rest kind) (sym h.1) (in_next sort takes h.2)

pub refused_later : (head : Head) (count room : ℕ) (next : Part Expr) (text more rest : List ℕ) (kind : LangErrorKind) → wants head count ≡ Some (sort_of next) → NextIs room text next more → Refused (after head (suc count) room) more rest kind → Refused (after head count room) text rest kind
refused_later head count room next text more rest kind takes is h =
    subst (λ t. Refused (after head count room) t rest kind) (sym is.1) (after_next next takes is.2 h)

pub refused_end : (w : Word) (count room : ℕ) (text rest : List ℕ) (kind : LangErrorKind) → (is_some (wants (inner w) count) ≡ false) ⊎ IsSome (missing 32 text) → may_end (inner w) count ≡ true → Misses 41 text rest kind → Refused (after (inner w) count room) text rest kind
refused_end w count room text rest kind full closed h =
    subst (λ r. Refused (after (inner w) count room) text r kind) (sym h.0) (at_once (wrong_at_end w count text kind full closed h.1))

-- the same, of a reader that stops

module _ (head : Head) (count room : ℕ) (text rest : List ℕ) (s : Stop) where
  pub stops_next : (sort : Sort) → wants head count ≡ Some sort → may_end head count ≡ false → StopsAs (NextRefused sort room text) rest s → StopsAs (Refused (after head count room) text) rest s
  stops_next sort takes unclosed h = stops_more (NextRefused sort room text) (Refused (after head count room) text) rest s (λ kind. refused_next head count room sort text rest kind takes unclosed) h

  pub stops_later : (next : Part Expr) (more : List ℕ) → wants head count ≡ Some (sort_of next) → NextIs room text next more → StopsAs (Refused (after head (suc count) room) more) rest s → StopsAs (Refused (after head count room) text) rest s
  stops_later next more takes is h = stops_more (Refused (after head (suc count) room) more) (Refused (after head count room) text) rest s (λ kind. refused_later head count room next text more rest kind takes is) h

pub stops_end : (w : Word) (count room : ℕ) (text rest : List ℕ) (s : Stop) → (is_some (wants (inner w) count) ≡ false) ⊎ IsSome (missing 32 text) → may_end (inner w) count ≡ true → StopsAs (Misses 41 text) rest s → StopsAs (Refused (after (inner w) count room) text) rest s
stops_end w count room text rest s full closed h = stops_more (Misses 41 text) (Refused (after (inner w) count room) text) rest s (λ kind. refused_end w count room text rest kind full closed) h

pub stops_space : (sort : Sort) (room : ℕ) (text rest : List ℕ) (s : Stop) → StopsAs (Misses 32 text) rest s → StopsAs (NextRefused sort room text) rest s
stops_space sort room text rest s h = stops_more (Misses 32 text) (NextRefused sort room text) rest s (λ kind m. inl m) h

pub stops_after_space : (sort : Sort) (room : ℕ) (text more rest : List ℕ) (s : Stop) → text ≡ 32 ∷ more → StopsAs (Refused (part sort room) more) rest s → StopsAs (NextRefused sort room text) rest s
stops_after_space sort room text more rest s is h = stops_more (Refused (part sort room) more) (NextRefused sort room text) rest s (λ kind r. inr (more, is, r)) h

-- ---- a form

pub parts_stand : (room : ℕ) (parts : List (Part Expr)) (text rest : List ℕ) → AreParts room parts text rest → text ≡ parts_text (map (map_part spelling) parts) ++ rest
parts_stand room [] text rest h = h
parts_stand room (next ∷ parts) text rest h =
    let here = h.1 in
    here.1 ∙ ap (λ (t : List ℕ). 32 ∷ t) (here.2.spelled ∙ ap (λ (t : List ℕ). part_text (map_part spelling next) ++ t) (parts_stand room parts h.0 rest h.2)
    ∙ sym (append_assoc (part_text (map_part spelling next)) (parts_text (map (map_part spelling) parts)) rest))

pub parts_within : (room : ℕ) (parts : List (Part Expr)) (text rest : List ℕ) → AreParts room parts text rest → list_all (part_fits room) (map (map_part fits) parts) ≡ true
parts_within room [] text rest h = refl
parts_within room (next ∷ parts) text rest h = and_from _ _ h.1.2.within (parts_within room parts h.0 rest h.2)

length-parts : (parts : List (Part Expr)) → length (map (map_part fits) parts) ≡ length parts
length-parts [] = refl
length-parts (p ∷ parts) = ap suc (length-parts parts)

pub form_stands : (room : ℕ) (w : Word) (text more : List ℕ) (e : Expr) (rest : List ℕ) → IsWord text w more → IsForm room w more e rest → IsPart (suc room) (40 ∷ text) (an_expr e) rest
form_stands room w text more e rest is h = record {
  spelled =
      ap (λ (t : List ℕ). 40 ∷ t) (is.spelled ∙ ap (λ (t : List ℕ). word_text w ++ t) (parts_stand room h.0 more rest h.3) ∙ sym (append_assoc (word_text w) (parts_text (map (map_part spelling) h.0)) rest))
      ∙ ap (λ (v : Written Expr). written_text (map_written spelling v) ++ rest) (sym h.1)
      ∙ ap (λ (t : List ℕ). t ++ rest) (sym (spelling-written e));
  within =
      fits-written e (suc room) ∙ ap (λ (v : Written Expr). written_fits (map_written fits v) (suc room)) h.1
      ∙ and_from _ _ (ap (λ (n : ℕ). nat_le n 16) (length-parts h.0) ∙ le-leb (length h.0) 16 h.2) (parts_within room h.0 more rest h.3);
  ends = subst (λ v. EndsExpr v rest) (sym h.1) tt;
}

pub form_refused : (room : ℕ) (w : Word) (text more rest : List ℕ) (s : Stop) → IsWord text w more → StopsAs (Refused (after (inner w) 0 room) more) rest s → StopsAs (Refused (part expr (suc room)) (40 ∷ text)) rest s
form_refused room w text more rest s is h =
    stops_more (Refused (after (inner w) 0 room) more) (Refused (part expr (suc room)) (40 ∷ text)) rest s (λ kind r. subst (λ t. Refused (part expr (suc room)) (40 ∷ t) rest kind) (sym is.spelled) (after_word w is.ends r)) h

-- ---- an expression's first byte

fit : (s : List ℕ) → ByRecursion (λ byte. byte < 256) s → list_all is_byte s ≡ true
fit [] h = refl
fit (byte ∷ s) h = and_from _ _ (lt-ltb byte 256 h.0) (fit s h.1)

pub bytes_fit : (s : List ℕ) → All (λ byte. byte < 256) s → list_all is_byte s ≡ true
bytes_fit s all = fit s (recursion_from_All (λ byte. byte < 256) s all)

abbrev pub begun : (q d n l f : Bool) → Begin
begun q d n l f =
    if q then begin.Quote
    else if d || n then begin.Number
    else if l then begin.Name
    else if f then begin.Form
    else begin.Other

begun-quote : (q d n l f : Bool) → begun q d n l f ≡ begin.Quote → q ≡ true
begun-quote true d n l f e = refl
begun-quote false true n l f e = absurd (cc)
begun-quote false false true l f e = absurd (cc)
begun-quote false false false true f e = absurd (cc)
begun-quote false false false false true e = absurd (cc)
begun-quote false false false false false e = absurd (cc)

begun-number : (q d n l f : Bool) → begun q d n l f ≡ begin.Number → (d || n) ≡ true
begun-number true d n l f e = absurd (cc)
begun-number false true n l f e = refl
begun-number false false true l f e = refl
begun-number false false false true f e = absurd (cc)
begun-number false false false false true e = absurd (cc)
begun-number false false false false false e = absurd (cc)

begun-form : (q d n l f : Bool) → begun q d n l f ≡ begin.Form → f ≡ true
begun-form true d n l f e = absurd (cc)
begun-form false true n l f e = absurd (cc)
begun-form false false true l f e = absurd (cc)
begun-form false false false true f e = absurd (cc)
begun-form false false false false true e = refl
begun-form false false false false false e = absurd (cc)

begun-other : (q d n l f : Bool) (o : Option LangErrorKind) → begun q d n l f ≡ begin.Other → (if f then o else if q || (d || (n || l)) then None else Some Unexpected) ≡ Some Unexpected
begun-other true d n l f o e = absurd (cc)
begun-other false true n l f o e = absurd (cc)
begun-other false false true l f o e = absurd (cc)
begun-other false false false true f o e = absurd (cc)
begun-other false false false false true o e = absurd (cc)
begun-other false false false false false o e = refl

pub begins-quote : (text : List ℕ) → begin_of text ≡ begin.Quote → begins_quoted text ≡ true
begins-quote [] e = absurd (cc)
begins-quote (byte ∷ bytes) e = begun-quote (byte == 34) (byte == 45) (is_digit byte) (is_letter byte) (byte == 40) e

pub begins-number : (text : List ℕ) → begin_of text ≡ begin.Number → begins_signed text ≡ true
begins-number [] e = absurd (cc)
begins-number (byte ∷ bytes) e = begun-number (byte == 34) (byte == 45) (is_digit byte) (is_letter byte) (byte == 40) e

pub begins-form : (text : List ℕ) → begin_of text ≡ begin.Form → text ≡ 40 ∷ drop 1 text
begins-form [] e = absurd (cc)
begins-form (byte ∷ bytes) e = ap (λ (b : ℕ). b ∷ bytes) (eqb-true byte 40 (begun-form (byte == 34) (byte == 45) (is_digit byte) (is_letter byte) (byte == 40) e))

pub begins-other : (text : List ℕ) (room : ℕ) → begin_of text ≡ begin.Other → Refused (part expr room) text text Unexpected
begins-other [] room e = absurd (cc)
begins-other (byte ∷ bytes) room e = at_first (begun-other (byte == 34) (byte == 45) (is_digit byte) (is_letter byte) (byte == 40) _ e)

begun-nothing : (q d n l f : Bool) → begun q d n l f ≡ begin.Nothing → ⊥
begun-nothing true d n l f e = cc
begun-nothing false true n l f e = cc
begun-nothing false false true l f e = cc
begun-nothing false false false true f e = cc
begun-nothing false false false false true e = cc
begun-nothing false false false false false e = cc

pub begins-nothing : (text : List ℕ) (room : ℕ) → begin_of text ≡ begin.Nothing → Refused (part expr room) text text End
begins-nothing [] room e = at_first refl
begins-nothing (byte ∷ bytes) room e = absurd (begun-nothing (byte == 34) (byte == 45) (is_digit byte) (is_letter byte) (byte == 40) e)

pub too_deep : (text : List ℕ) (room : ℕ) → begin_of text ≡ begin.Form → room ≡ 0 → Refused (part expr room) text text TooDeep
too_deep text room e none =
    let is = begins-form text e in
    subst (λ r. Refused (part expr r) text text TooDeep) (sym none) (subst (λ t. Refused (part expr 0) t t TooDeep) (sym is) (at_first refl))

-- ---- several expressions

pub several_more : (room : ℕ) (es : List Expr) (e : Expr) (text mid rest : List ℕ) → AreSeveral room es text mid → NextIs room mid (an_expr e) rest → AreSeveral room (es ++ e ∷ []) text rest
several_more room [] e text mid rest h next = (rest, subst (λ t. NextIs room t (an_expr e) rest) (sym h) next, refl)
several_more room (d ∷ es) e text mid rest h next = (h.0, h.1, several_more room es e h.0 mid rest h.2 next)

pub several_parts : (room : ℕ) (es : List Expr) (text mid rest : List ℕ) → AreSeveral room es text mid → mid ≡ 41 ∷ rest → AreParts room (map an_expr es) text rest
several_parts room [] text mid rest h end = h ∙ end
several_parts room (e ∷ es) text mid rest h end = (h.0, h.1, several_parts room es h.0 mid rest h.2 end)

pub several_later : (head : Head) (limit count room : ℕ) (es : List Expr) (text mid rest : List ℕ) (kind : LangErrorKind) → TakesUpTo head limit → count + length es ≤ limit → AreSeveral room es text mid → Refused (after head (count + length es) room) mid rest kind → Refused (after head count room) text rest kind
several_later head limit count room [] text mid rest kind takes le h r =
    let same : count + length {A = Expr} [] ≡ count = omega arith in
    subst (λ t. Refused (after head count room) t rest kind) (sym h) (subst (λ n. Refused (after head n room) mid rest kind) same r)
several_later head limit count room (e ∷ es) text mid rest kind takes le h r =
    let same : count + length (e ∷ es) ≡ suc count + length es = omega arith in
    refused_later head count room (an_expr e) text h.0 rest kind (takes count (omega arith)) h.1
    (several_later head limit (suc count) room es h.0 mid rest kind takes (omega arith) h.2 (subst (λ n. Refused (after head n room) mid rest kind) same r))

pub stops_several : (head : Head) (limit room : ℕ) (es : List Expr) (text mid rest : List ℕ) (s : Stop) → TakesUpTo head limit → length es ≤ limit → AreSeveral room es text mid → StopsAs (Refused (after head (length es) room) mid) rest s → StopsAs (Refused (after head 0 room) text) rest s
stops_several head limit room es text mid rest s takes le h =
    let same : 0 + length es ≡ length es = omega arith in
    stops_more (Refused (after head (length es) room) mid) (Refused (after head 0 room) text) rest s (λ kind r. several_later head limit 0 room es text mid rest kind takes (omega arith) h (subst (λ n. Refused (after head n room) mid rest kind) (sym same) r))

pub list_takes : TakesUpTo (inner word.List) 16
list_takes count lt = ap (λ (b : Bool). if b then Some expr else None) (lt-ltb count 16 lt)

pub list_full : (count : ℕ) (text : List ℕ) → (count ≡ 16) ⊎ IsSome (missing 32 text) → (is_some (wants (inner word.List) count) ≡ false) ⊎ IsSome (missing 32 text)
list_full count text (inl e) = inl (ap (λ (n : ℕ). is_some (wants (inner word.List) n)) e)
list_full count text (inr none) = inr none

-- ---- numbers and quoted texts as parts

pub number_part : (room : ℕ) (text more : List ℕ) (n : ℕ) (rest : List ℕ) → text ≡ 32 ∷ more → IsNumber 18446744073709551615 more n rest → NextIs room text (a_number n) rest
number_part room text more n rest is h = (more, is, record { spelled = h.spelled; within = lt-ltb n (2 ^ 64) (omega (arith, h.small)); ends = h.whole })

pub quote_part : (room : ℕ) (text more s rest : List ℕ) → text ≡ 32 ∷ more → IsQuoted more s rest → NextIs room text (a_quote s) rest
quote_part room text more s rest is h = (more, is, record { spelled = h.spelled; within = bytes_fit s h.small; ends = tt })

pub quote_expr : (room : ℕ) (text s rest : List ℕ) (e : Expr) → written (out-Expr e) ≡ quote s → IsQuoted text s rest → IsPart room text (an_expr e) rest
quote_expr room text s rest e is h = record {
  spelled = h.spelled ∙ ap (λ (v : Written Expr). written_text (map_written spelling v) ++ rest) (sym is) ∙ ap (λ (t : List ℕ). t ++ rest) (sym (spelling-written e));
  within = fits-written e room ∙ ap (λ (v : Written Expr). written_fits (map_written fits v) room) is ∙ bytes_fit s h.small;
  ends = subst (λ v. EndsExpr v rest) (sym is) tt;
}

length-exprs : (es : List Expr) → length (map an_expr es) ≡ length es
length-exprs [] = refl
length-exprs (e ∷ es) = ap suc (length-exprs es)

pub list_few : (es : List Expr) → length es ≤ 16 → length (map an_expr es) ≤ 16
list_few es le = omega (arith, length-exprs es)

-- ---- the other exits

pub nested_refused : (text more rest : List ℕ) (room : ℕ) (s : Stop) → begin_of text ≡ begin.Form → (room ≡ 0 → ⊥) → more ≡ drop 1 text → StopsAs (Refused (part expr (suc (room - 1))) (40 ∷ more)) rest s → StopsAs (Refused (part expr room) text) rest s
nested_refused text more rest room s e some back h =
    let same : suc (room - 1) ≡ room = omega arith in
    let is : 40 ∷ more ≡ text = ap (λ (t : List ℕ). 40 ∷ t) back ∙ sym (begins-form text e) in
    subst (λ t. StopsAs (Refused (part expr room) t) rest s) is (subst (λ n. StopsAs (Refused (part expr n) (40 ∷ more)) rest s) same h)

pub stops_in_next : (head : Head) (count room : ℕ) (text more rest : List ℕ) (s : Stop) → wants head count ≡ Some expr → text ≡ 32 ∷ more → StopsAs (Refused (part expr room) more) rest s → StopsAs (Refused (after head count room) text) rest s
stops_in_next head count room text more rest s takes is h =
    stops_more (Refused (part expr room) more) (Refused (after head count room) text) rest s (λ kind r. subst (λ t. Refused (after head count room) t rest kind) (sym is) (in_next expr takes r)) h

same_name : (room : ℕ) (text : List ℕ) → wrong_first name 0 text ≡ wrong_first name room text
same_name room [] = refl
same_name room (byte ∷ bytes) = refl

pub stops_name : (room : ℕ) (text rest : List ℕ) (s : Stop) → StopsAs (λ rest kind. (rest ≡ text) × (wrong_first name 0 text ≡ Some kind)) rest s → StopsAs (Refused (part name room) text) rest s
stops_name room text rest s h =
    stops_more (λ rest kind. (rest ≡ text) × (wrong_first name 0 text ≡ Some kind)) (Refused (part name room) text) rest s
    (λ kind m. subst (λ r. Refused (part name room) text r kind) (sym m.0) (at_first (sym (same_name room text) ∙ m.1))) h

pub stops_never : (Q : List ℕ → LangErrorKind → Type 0) (text more rest : List ℕ) (s : Stop) → text ≡ 32 ∷ more → StopsAs (Misses 32 text) rest s → StopsAs Q rest s
stops_never Q text more rest s is h =
    stops_more (Misses 32 text) Q rest s (λ kind m. let none : ◌≡◌ {A = Option LangErrorKind} None (Some kind) = ap (missing 32) (sym is) ∙ m.1 in absurd (cc)) h
