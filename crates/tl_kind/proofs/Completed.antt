-- What stands before a refusal can be completed.
use Rattle.std.proofs.Common.{◌≡◌, ◌⊎◌, ◌<◌, ◌≤◌, ℕ, zero, suc, ◌+◌, ◌^◌, ℤ, pos, negsuc, Bool, true, false, if◌then◌else◌, nat_lt, List, [], ◌∷◌, ◌++◌, codes, map, length, take, drop, slice_get, Option, Some, None, refl, sym, ◌∙◌, ap, subst, inl, inr, arith, append_assoc, length-append}
use Rattle.std.specs.List.{list_all}
use Rattle.std.specs.Fmt.{decimal, signed_decimal}
use Rattle.std.proofs.lemmas.Bool.{and_from, ltb-true, lt-ltb, cases_lt}
use Rattle.std.proofs.lemmas.List.{take-append-drop, take_at, length-take-le, take-append-le, append-nil, append_cancel_left}
use Rattle.tl_text.specs.Number.{IsNumber, BeginsWithNoDigit}
use Rattle.tl_text.specs.Signed.{IsSigned}
use Rattle.tl_text.specs.Quoted.{IsQuoted, quoted}
use Rattle.tl_text.specs.Place.{CanBegin, IsFirstBad}
use Rattle.tl_lang.specs.declared.expr.Expr.{Expr, out-Expr, roll-Expr}
use Rattle.tl_lang.specs.declared.expr.Expr.TheOpen as form
use Rattle.tl_lang.specs.declared.expr.Expr.TheViews.{out-roll-Expr}
use Rattle.tl_lang.specs.declared.program.Program.{Program}
use Rattle.tl_lang.specs.Tree.{Form}
use Rattle.tl_lang.specs.Value.{is_number}
use Rattle.tl_kind.specs.declared.lang_error.LangErrorKind.{LangErrorKind}
use Rattle.tl_kind.specs.declared.word.Word.{Word}
use Rattle.tl_kind.specs.declared.word.Word.TheVariants as word
use Rattle.tl_kind.specs.declared.word.One.{One}
use Rattle.tl_kind.specs.declared.word.One.TheVariants as one
use Rattle.tl_kind.specs.declared.word.Two.{Two}
use Rattle.tl_kind.specs.declared.word.Two.TheVariants as two
use Rattle.tl_kind.specs.declared.word.Three.{Three}
use Rattle.tl_kind.specs.declared.word.Three.TheVariants as three
use Rattle.tl_kind.specs.declared.word.Binding.{Binding}
use Rattle.tl_kind.specs.declared.word.Binding.TheVariants as binding
use Rattle.tl_kind.specs.Words.{word_text}
use Rattle.tl_kind.specs.Written.{Part, an_expr, a_name, a_number, a_quote, Written, quote, signed, with_parts, written, map_part, map_written, part_text, parts_text, written_text, written_fits, program_text, spelling, part_fits, fits, is_byte, output_limit}
use Rattle.tl_kind.specs.Refusals.{Head, job, inner, Sort, expr, name, number, quoted_text, sort_of, sorts, wants, EndsExpr, IsPart, Spot, part, after, Refused, at_first, in_signed, in_number, in_quoted, no_word, unknown_word, after_word, at_once, in_next, after_next, RefusedText, no_form, no_job, other_word, in_outputs, trailing, Spells}
use Rattle.tl_kind.specs.Reading.{AreParts, IsWord, IsJob, AreOutputs}
use Rattle.tl_kind.proofs.Trees.{spelling-written, fits-written}
use Rattle.tl_kind.proofs.Steps.{bytes_fit, form_stands, quote_expr}
use Rattle.tl_kind.proofs.Programs.{whole}
use Rattle.tl_kind.proofs.Inverse.{Takes, length-list, one_form, two_form, three_form, binding_form}
use Rattle.tl_kind.proofs.Readings.{Follows, follows_space, follows_end, ends_part, parts_read, parts_follow_word, are_bytes}

abbrev spelled : Part Expr → List ℕ
spelled p = part_text (map_part spelling p)

-- ---- parts of each sort

empty : Expr
empty = roll-Expr (form.Text [])

empty_written : written (out-Expr empty) ≡ quote []
unfolding empty
empty_written = ap written (out-roll-Expr (form.Text []))

abbrev some_part : Sort → Part Expr
some_part expr = an_expr empty
some_part name = a_name (97 ∷ [])
some_part number = a_number 0
some_part quoted_text = a_quote []

some_sort : (sort : Sort) → sort_of (some_part sort) ≡ sort
some_sort expr = refl
some_sort name = refl
some_sort number = refl
some_sort quoted_text = refl

some_fits : (sort : Sort) (room : ℕ) → part_fits room (map_part fits (some_part sort)) ≡ true
some_fits expr room = fits-written empty room ∙ ap (λ (v : Written Expr). written_fits (map_written fits v) room) empty_written
some_fits name room = refl
some_fits number room = refl
some_fits quoted_text room = refl

all_fit : (ss : List Sort) (room : ℕ) → list_all (part_fits room) (map (map_part fits) (map some_part ss)) ≡ true
all_fit [] room = refl
all_fit (s ∷ ss) room = and_from _ _ (some_fits s room) (all_fit ss room)

-- ---- the parts that are left

-- the greatest number of parts
abbrev most : Head → ℕ
most job = output_limit
most (inner word.List) = 16
most (inner w) = length (sorts w)

abbrev Left : Head → ℕ → Type 0
Left head count = (ss : List Sort) × Takes head count (map some_part ss)

left : (head : Head) (count : ℕ) → count ≤ most head → Left head count
left job zero le = (expr ∷ [], (refl, refl))
left job (suc n) le = ([], lt-ltb 0 (suc n) (omega arith))
left (inner word.List) count le = ([], refl)
left (inner word.Input) zero le = (number ∷ [], (refl, refl))
left (inner word.Input) (suc zero) le = ([], refl)
left (inner word.Input) (suc (suc n)) le = absurd (omega arith)
left (inner word.Key) zero le = (quoted_text ∷ [], (refl, refl))
left (inner word.Key) (suc zero) le = ([], refl)
left (inner word.Key) (suc (suc n)) le = absurd (omega arith)
left (inner (word.One w)) zero le = (expr ∷ [], (refl, refl))
left (inner (word.One w)) (suc zero) le = ([], refl)
left (inner (word.One w)) (suc (suc n)) le = absurd (omega arith)
left (inner (word.Two w)) zero le = (expr ∷ expr ∷ [], (refl, (refl, refl)))
left (inner (word.Two w)) (suc zero) le = (expr ∷ [], (refl, refl))
left (inner (word.Two w)) (suc (suc zero)) le = ([], refl)
left (inner (word.Two w)) (suc (suc (suc n))) le = absurd (omega arith)
left (inner (word.Three w)) zero le = (expr ∷ expr ∷ expr ∷ [], (refl, (refl, (refl, refl))))
left (inner (word.Three w)) (suc zero) le = (expr ∷ expr ∷ [], (refl, (refl, refl)))
left (inner (word.Three w)) (suc (suc zero)) le = (expr ∷ [], (refl, refl))
left (inner (word.Three w)) (suc (suc (suc zero))) le = ([], refl)
left (inner (word.Three w)) (suc (suc (suc (suc n)))) le = absurd (omega arith)
left (inner (word.Binding w)) zero le = (name ∷ expr ∷ expr ∷ [], (refl, (refl, (refl, refl))))
left (inner (word.Binding w)) (suc zero) le = (expr ∷ expr ∷ [], (refl, (refl, refl)))
left (inner (word.Binding w)) (suc (suc zero)) le = (expr ∷ [], (refl, refl))
left (inner (word.Binding w)) (suc (suc (suc zero))) le = ([], refl)
left (inner (word.Binding w)) (suc (suc (suc (suc n)))) le = absurd (omega arith)
left (inner word.Fold) zero le = (name ∷ name ∷ expr ∷ expr ∷ expr ∷ [], (refl, (refl, (refl, (refl, (refl, refl))))))
left (inner word.Fold) (suc zero) le = (name ∷ expr ∷ expr ∷ expr ∷ [], (refl, (refl, (refl, (refl, refl)))))
left (inner word.Fold) (suc (suc zero)) le = (expr ∷ expr ∷ expr ∷ [], (refl, (refl, (refl, refl))))
left (inner word.Fold) (suc (suc (suc zero))) le = (expr ∷ expr ∷ [], (refl, (refl, refl)))
left (inner word.Fold) (suc (suc (suc (suc zero)))) le = (expr ∷ [], (refl, refl))
left (inner word.Fold) (suc (suc (suc (suc (suc zero))))) le = ([], refl)
left (inner word.Fold) (suc (suc (suc (suc (suc (suc n)))))) le = absurd (omega arith)

some_if : (b : Bool) (s : Sort) → (if b then Some expr else None) ≡ Some s → b ≡ true
some_if true s e = refl
some_if false s e = absurd (cc)

get_within : (xs : List Sort) (n : ℕ) (s : Sort) → slice_get xs n ≡ Some s → suc n ≤ length xs
get_within [] zero s e = absurd (cc)
get_within [] (suc n) s e = absurd (cc)
get_within (x ∷ xs) zero s e = omega arith
get_within (x ∷ xs) (suc n) s e = let rest = get_within xs n s e in omega (arith, rest)

-- where a part is wanted there is room for it
wanted_within : (head : Head) (count : ℕ) (s : Sort) → wants head count ≡ Some s → suc count ≤ most head
wanted_within job count s e = let lt = ltb-true count output_limit (some_if (nat_lt count output_limit) s e) in omega (arith, lt)
wanted_within (inner word.List) count s e = let lt = ltb-true count 16 (some_if (nat_lt count 16) s e) in omega (arith, lt)
wanted_within (inner word.Input) count s e = get_within (sorts word.Input) count s e
wanted_within (inner word.Key) count s e = get_within (sorts word.Key) count s e
wanted_within (inner (word.One w)) count s e = get_within (sorts (word.One w)) count s e
wanted_within (inner (word.Two w)) count s e = get_within (sorts (word.Two w)) count s e
wanted_within (inner (word.Three w)) count s e = get_within (sorts (word.Three w)) count s e
wanted_within (inner (word.Binding w)) count s e = get_within (sorts (word.Binding w)) count s e
wanted_within (inner word.Fold) count s e = get_within (sorts word.Fold) count s e

-- ---- a form of these parts

as_expr : (p : Part Expr) (o : Option Sort) → o ≡ Some expr → o ≡ Some (sort_of p) → (e : Expr) × (p ≡ an_expr e)
as_expr (an_expr e) o f g = (e, refl)
as_expr (a_name x) o f g = absurd (cc)
as_expr (a_number n) o f g = absurd (cc)
as_expr (a_quote s) o f g = absurd (cc)

as_name : (p : Part Expr) (o : Option Sort) → o ≡ Some name → o ≡ Some (sort_of p) → (x : List ℕ) × (p ≡ a_name x)
as_name (an_expr e) o f g = absurd (cc)
as_name (a_name x) o f g = (x, refl)
as_name (a_number n) o f g = absurd (cc)
as_name (a_quote s) o f g = absurd (cc)

as_number : (p : Part Expr) (o : Option Sort) → o ≡ Some number → o ≡ Some (sort_of p) → (n : ℕ) × (p ≡ a_number n)
as_number (an_expr e) o f g = absurd (cc)
as_number (a_name x) o f g = absurd (cc)
as_number (a_number n) o f g = (n, refl)
as_number (a_quote s) o f g = absurd (cc)

as_quote : (p : Part Expr) (o : Option Sort) → o ≡ Some quoted_text → o ≡ Some (sort_of p) → (s : List ℕ) × (p ≡ a_quote s)
as_quote (an_expr e) o f g = absurd (cc)
as_quote (a_name x) o f g = absurd (cc)
as_quote (a_number n) o f g = absurd (cc)
as_quote (a_quote s) o f g = (s, refl)

list_sort : (b : Bool) (s : Sort) → (if b then Some expr else None) ≡ Some s → Some expr ≡ Some s
list_sort true s e = e
list_sort false s e = absurd (cc)

-- the parts of a list or of a program are expressions
all_exprs : (head : Head) (limit : ℕ) → ((count : ℕ) → wants head count ≡ (if nat_lt count limit then Some expr else None)) → (count : ℕ) (ps : List (Part Expr)) → Takes head count ps → count ≤ limit
    → (es : List Expr) × (ps ≡ map an_expr es) × (count + length ps ≤ limit)
all_exprs head limit takes count [] t le = ([], refl, omega arith)
all_exprs head limit takes count (p ∷ ps) t le =
    let here = as_expr p (Some (sort_of p)) (sym (list_sort (nat_lt count limit) (sort_of p) (sym (takes count) ∙ t.0))) refl in
    let lt = ltb-true count limit (some_if (nat_lt count limit) (sort_of p) (sym (takes count) ∙ t.0)) in
    let rest = all_exprs head limit takes (suc count) ps t.1 (omega (arith, lt)) in
    let first : p ≡ an_expr here.0 = here.1 in
    let others : ps ≡ map an_expr rest.0 = rest.1 in
    (here.0 ∷ rest.0, cc (first, others), omega (arith, rest.2))

one_so : (w : One) (a : Expr) → written (one_form w a) ≡ with_parts (word.One w) (an_expr a ∷ [])
unfolding one_form
one_so one.Len a = refl
one_so one.Num a = refl
one_so one.Str a = refl
one_so one.Lines a = refl
one_so one.Count a = refl
one_so one.Sort a = refl

two_so : (w : Two) (a b : Expr) → written (two_form w a b) ≡ with_parts (word.Two w) (an_expr a ∷ an_expr b ∷ [])
unfolding two_form
two_so two.Cat a b = refl
two_so two.Eq a b = refl
two_so two.Has a b = refl
two_so two.Add a b = refl
two_so two.Minus a b = refl
two_so two.Mul a b = refl
two_so two.Div a b = refl
two_so two.Mod a b = refl
two_so two.Lt a b = refl
two_so two.Same a b = refl
two_so two.Split a b = refl
two_so two.Join a b = refl
two_so two.Append a b = refl
two_so two.At a b = refl

three_so : (w : Three) (a b c : Expr) → written (three_form w a b c) ≡ with_parts (word.Three w) (an_expr a ∷ an_expr b ∷ an_expr c ∷ [])
unfolding three_form
three_so three.Sub a b c = refl
three_so three.If a b c = refl

binding_so : (w : Binding) (x : List ℕ) (a b : Expr) → written (binding_form w x a b) ≡ with_parts (word.Binding w) (a_name x ∷ an_expr a ∷ an_expr b ∷ [])
unfolding binding_form
binding_so binding.Let x a b = refl
binding_so binding.Each x a b = refl
binding_so binding.Keep x a b = refl

-- an expression that has these parts
record Made (w : Word) (ps : List (Part Expr)) : Type 0 where
  made : Form Expr
  is : written made ≡ with_parts w ps
  few : length ps ≤ 16

made : (w : Word) (ps : List (Part Expr)) → Takes (inner w) 0 ps → Made w ps
made word.List ps t =
    let all = all_exprs (inner word.List) 16 (λ count. refl) 0 ps t (omega arith) in
    record { made = form.List all.0; is = ap (with_parts word.List) (sym all.1); few = omega (arith, all.2) }
made word.Input [] t = absurd (cc)
made word.Input (p ∷ []) t = let a = as_number p _ refl t.0 in record { made = form.Input a.0; is = ap (λ (p : Part Expr). with_parts word.Input (p ∷ [])) (sym a.1); few = omega arith }
made word.Input (p ∷ q ∷ ps) t = absurd (cc)
made word.Key [] t = absurd (cc)
made word.Key (p ∷ []) t = let a = as_quote p _ refl t.0 in record { made = form.Key a.0; is = ap (λ (p : Part Expr). with_parts word.Key (p ∷ [])) (sym a.1); few = omega arith }
made word.Key (p ∷ q ∷ ps) t = absurd (cc)
made (word.One w) [] t = absurd (cc)
made (word.One w) (p ∷ []) t = let a = as_expr p _ refl t.0 in record { made = one_form w a.0; is = one_so w a.0 ∙ ap (λ (p : Part Expr). with_parts (word.One w) (p ∷ [])) (sym a.1); few = omega arith }
made (word.One w) (p ∷ q ∷ ps) t = absurd (cc)
made (word.Two w) [] t = absurd (cc)
made (word.Two w) (p ∷ []) t = absurd (cc)
made (word.Two w) (p ∷ q ∷ []) t =
    let a = as_expr p _ refl t.0 in
    let b = as_expr q _ refl t.1.0 in
    record { made = two_form w a.0 b.0; is = two_so w a.0 b.0 ∙ (λ i. with_parts (word.Two w) (sym a.1 i ∷ sym b.1 i ∷ [])); few = omega arith }
made (word.Two w) (p ∷ q ∷ r ∷ ps) t = absurd (cc)
made (word.Three w) [] t = absurd (cc)
made (word.Three w) (p ∷ []) t = absurd (cc)
made (word.Three w) (p ∷ q ∷ []) t = absurd (cc)
made (word.Three w) (p ∷ q ∷ r ∷ []) t =
    let a = as_expr p _ refl t.0 in
    let b = as_expr q _ refl t.1.0 in
    let c = as_expr r _ refl t.1.1.0 in
    record { made = three_form w a.0 b.0 c.0; is = three_so w a.0 b.0 c.0 ∙ (λ i. with_parts (word.Three w) (sym a.1 i ∷ sym b.1 i ∷ sym c.1 i ∷ [])); few = omega arith }
made (word.Three w) (p ∷ q ∷ r ∷ s ∷ ps) t = absurd (cc)
made (word.Binding w) [] t = absurd (cc)
made (word.Binding w) (p ∷ []) t = absurd (cc)
made (word.Binding w) (p ∷ q ∷ []) t = absurd (cc)
made (word.Binding w) (p ∷ q ∷ r ∷ []) t =
    let x = as_name p _ refl t.0 in
    let a = as_expr q _ refl t.1.0 in
    let b = as_expr r _ refl t.1.1.0 in
    record { made = binding_form w x.0 a.0 b.0; is = binding_so w x.0 a.0 b.0 ∙ (λ i. with_parts (word.Binding w) (sym x.1 i ∷ sym a.1 i ∷ sym b.1 i ∷ [])); few = omega arith }
made (word.Binding w) (p ∷ q ∷ r ∷ s ∷ ps) t = absurd (cc)
made word.Fold [] t = absurd (cc)
made word.Fold (p ∷ []) t = absurd (cc)
made word.Fold (p ∷ q ∷ []) t = absurd (cc)
made word.Fold (p ∷ q ∷ r ∷ []) t = absurd (cc)
made word.Fold (p ∷ q ∷ r ∷ s ∷ []) t = absurd (cc)
made word.Fold (p ∷ q ∷ r ∷ s ∷ u ∷ []) t =
    let x = as_name p _ refl t.0 in
    let y = as_name q _ refl t.1.0 in
    let m = as_expr r _ refl t.1.1.0 in
    let n = as_expr s _ refl t.1.1.1.0 in
    let a = as_expr u _ refl t.1.1.1.1.0 in
    record { made = form.Fold x.0 y.0 m.0 n.0 a.0; is = (λ i. with_parts word.Fold (sym x.1 i ∷ sym y.1 i ∷ sym m.1 i ∷ sym n.1 i ∷ sym a.1 i ∷ [])); few = omega arith }
made word.Fold (p ∷ q ∷ r ∷ s ∷ u ∷ v ∷ ps) t = absurd (cc)

-- ---- tokens

-- a spelling that ends before the place stands in the text, which has none
token_ends : {V : Type 0} (R : List ℕ → V → List ℕ → Type 0) (spell : V → List ℕ) → ((t : List ℕ) (v : V) (r : List ℕ) → R t v r → t ≡ spell v ++ r)
    → ((v : V) (c : ℕ) (g h : List ℕ) → R (spell v ++ c ∷ h) v (c ∷ h) → R (spell v ++ c ∷ g) v (c ∷ g))
    → (text : List ℕ) (place : ℕ) → IsFirstBad R text place → (t : List ℕ) (v : V) (r : List ℕ) → R t v r → take place t ≡ take place text → place ≤ length t → length (spell v) < place → ⊥
token_ends R spell to again text place bad t v r h same within short =
    go (drop (length (spell v)) (take place text)) refl
  where
    front_is : take place text ≡ spell v ++ drop (length (spell v)) (take place text)
    front_is =
        let le : length (spell v) ≤ length (take place t) = omega (arith, length-take-le place t within) in
        let begins : take (length (spell v)) (take place t) ≡ spell v =
        sym (take-append-le (length (spell v)) (take place t) (drop place t) le) ∙ ap (take (length (spell v))) (take-append-drop place t ∙ to t v r h) ∙ take_at (spell v) r (length (spell v)) refl in
        sym (take-append-drop (length (spell v)) (take place text)) ∙ ap (λ (s : List ℕ). s ++ drop (length (spell v)) (take place text)) (ap (take (length (spell v))) (sym same) ∙ begins)

    size_is : length (take place text) ≡ place
    size_is = ap length (sym same) ∙ length-take-le place t within

    go : (k : List ℕ) → drop (length (spell v)) (take place text) ≡ k → ⊥
    go [] e = let size : length (take place text) ≡ length (spell v) + 0 = ap length front_is ∙ length-append (spell v) _ ∙ ap (λ (k : List ℕ). length (spell v) + length k) e in omega (arith, size, size_is, short)
    go (c ∷ k) e =
        let front : take place text ≡ spell v ++ c ∷ k = front_is ∙ ap (λ (s : List ℕ). spell v ++ s) e in
        let mine : text ≡ spell v ++ c ∷ (k ++ drop place text) = sym (take-append-drop place text) ∙ ap (λ (s : List ℕ). s ++ drop place text) front ∙ append_assoc (spell v) (c ∷ k) (drop place text) in
        let theirs : t ≡ spell v ++ c ∷ (k ++ drop place t) = sym (take-append-drop place t) ∙ ap (λ (s : List ℕ). s ++ drop place t) (same ∙ front) ∙ append_assoc (spell v) (c ∷ k) (drop place t) in
        let rest : r ≡ c ∷ (k ++ drop place t) = append_cancel_left (spell v) r (c ∷ (k ++ drop place t)) (sym (to t v r h) ∙ theirs) in
        let there : R (spell v ++ c ∷ (k ++ drop place t)) v (c ∷ (k ++ drop place t)) = subst (λ s. R s v (c ∷ (k ++ drop place t))) theirs (subst (λ s. R t v s) rest h) in
        bad.none v (c ∷ (k ++ drop place text)) (subst (λ s. R s v (c ∷ (k ++ drop place text))) (sym mine) (again v c (k ++ drop place text) (k ++ drop place t) there))

-- the front of a token that is refused is one of a spelling
token : {V : Type 0} (R : List ℕ → V → List ℕ → Type 0) (spell : V → List ℕ) → ((t : List ℕ) (v : V) (r : List ℕ) → R t v r → t ≡ spell v ++ r)
    → ((v : V) (c : ℕ) (g h : List ℕ) → R (spell v ++ c ∷ h) v (c ∷ h) → R (spell v ++ c ∷ g) v (c ∷ g))
    → (text : List ℕ) (place : ℕ) → IsFirstBad R text place → (t : List ℕ) (v : V) (r : List ℕ) → R t v r → take place t ≡ take place text → place ≤ length t
    → (m : List ℕ) × (spell v ≡ take place text ++ m)
token {V} R spell to again text place bad t v r h same within =
    elim (cases_lt (length (spell v)) place) [
      | inr long ↦
          let cut : take place t ≡ take place (spell v) = ap (take place) (to t v r h) ∙ take-append-le place (spell v) r long in
          (drop place (spell v), sym (take-append-drop place (spell v)) ∙ ap (λ (s : List ℕ). s ++ drop place (spell v)) (sym cut ∙ same))
      | inl short ↦ absurd (token_ends R spell to again text place bad t v r h same within short)
    ]

-- ---- each spot

follows_parts : (room : ℕ) (ps : List (Part Expr)) (text rest : List ℕ) → AreParts room ps text rest → Follows text
follows_parts room [] text rest h = subst Follows (sym h) (follows_end rest)
follows_parts room (p ∷ ps) text rest h = subst Follows (sym h.1.1) (follows_space h.1.0)

-- these bytes at the spot can be completed
abbrev Can : Spot → List ℕ → Type 0
Can (part sort room) front = (more : List ℕ) × (p : Part Expr) × (sort_of p ≡ sort) × ((tail : List ℕ) → Follows tail → IsPart room (front ++ (more ++ tail)) p tail)
Can (after head count room) front = (more : List ℕ) × (ps : List (Part Expr)) × Takes head count ps × ((tail : List ℕ) → AreParts room ps (front ++ (more ++ tail)) tail)

record Completes (spot : Spot) (text rest : List ℕ) : Type 0 where
  front : List ℕ
  is : text ≡ front ++ rest
  can : Can spot front

-- the spot is one of a form
abbrev Valid : Spot → Type 0
Valid (part sort room) = Unit {0}
Valid (after head count room) = count ≤ most head

can_part : (sort : Sort) (room : ℕ) → Can (part sort room) []
can_part sort room =
    (spelled (some_part sort), some_part sort, some_sort sort, λ tail f. record { spelled = refl; within = some_fits sort room; ends = ends_part (some_part sort) tail f })

can_left : (head : Head) (count room : ℕ) → count ≤ most head → Can (after head count room) []
can_left head count room le =
    let l = left head count le in
    let ps : List (Part Expr) = map some_part l.0 in
    (parts_text (map (map_part spelling) (map some_part l.0)), map some_part l.0, l.1, λ tail. parts_read room (map some_part l.0) _ tail refl (all_fit l.0 room))

can_form : (room : ℕ) (w : Word) (front : List ℕ) → Can (after (inner w) 0 room) front → Can (part expr (suc room)) (40 ∷ word_text w ++ front)
can_form room w front can =
    let m = made w can.1 can.2 in
    let e : Expr = roll-Expr m.made in
    let so : written (out-Expr (roll-Expr m.made)) ≡ with_parts w can.1 = ap written (out-roll-Expr m.made) ∙ m.is in (
      can.0,
      an_expr (roll-Expr m.made),
      refl,
      λ tail f.
          let after_word : List ℕ = front ++ (can.0 ++ tail) in
          let stands = can.3 tail in
          let is : IsWord (word_text w ++ (front ++ (can.0 ++ tail))) w (front ++ (can.0 ++ tail)) = record { spelled = refl; ends = parts_follow_word room can.1 (front ++ (can.0 ++ tail)) tail stands } in
          subst (λ t. IsPart (suc room) t (an_expr (roll-Expr m.made)) tail) (sym (append_assoc (40 ∷ word_text w) front (can.0 ++ tail)))
          (form_stands room w (word_text w ++ (front ++ (can.0 ++ tail))) (front ++ (can.0 ++ tail)) (roll-Expr m.made) tail is (can.1, so, m.few, stands)),
    )

-- `(` alone
can_open : (room : ℕ) → Can (part expr (suc room)) (40 ∷ [])
can_open room =
    let whole = can_form room word.List [] (can_left (inner word.List) 0 room (omega arith)) in (
      word_text word.List ++ whole.0,
      whole.1,
      whole.2,
      λ tail f.
          subst (λ t. IsPart (suc room) t whole.1 tail) (ap (λ (t : List ℕ). 40 ∷ t) (sym (append_assoc (word_text word.List) whole.0 tail))) (whole.3 tail f),
    )

-- tokens

signed_expr : (room : ℕ) (text rest : List ℕ) (z : ℤ) → text ≡ signed_decimal z ++ rest → is_number z ≡ true → BeginsWithNoDigit rest → IsPart room text (an_expr (roll-Expr (form.Number z))) rest
signed_expr room text rest z is fit ends =
    let e : Expr = roll-Expr (form.Number z) in
    let so : written (out-Expr (roll-Expr (form.Number z))) ≡ signed z = ap written (out-roll-Expr (form.Number z)) in
    record {
      spelled = is ∙ ap (λ (v : Written Expr). written_text (map_written spelling v) ++ rest) (sym so) ∙ ap (λ (t : List ℕ). t ++ rest) (sym (spelling-written (roll-Expr (form.Number z))));
      within = fits-written (roll-Expr (form.Number z)) room ∙ ap (λ (v : Written Expr). written_fits (map_written fits v) room) so ∙ fit;
      ends = subst (λ v. EndsExpr v rest) (sym so) ends;
    }

signed_fits_so : (t r : List ℕ) (z : ℤ) → IsSigned t z r → is_number z ≡ true
signed_fits_so t r (pos n) h = let f : n < 2 ^ 63 = h.fits.sfits in lt-ltb n (2 ^ 63) f
signed_fits_so t r (negsuc n) h = let f : n < 2 ^ 63 = h.fits.sfits in lt-ltb n (2 ^ 63) f

-- a text that begins as the text to the place
record Begun {V : Type 0} (R : List ℕ → V → List ℕ → Type 0) (text : List ℕ) (place : ℕ) : Type 0 where
  t : List ℕ
  v : V
  r : List ℕ
  stands : R t v r
  same : take place t ≡ take place text
  within : place ≤ length t

begun : {V : Type 0} (R : List ℕ → V → List ℕ → Type 0) (text : List ℕ) (place : ℕ) → IsFirstBad R text place → Begun R text place
begun R text place bad =
    let size : length (take place text) ≡ place = length-take-le place text bad.within in
    record {
      t = take place text ++ bad.before.0;
      v = bad.before.1;
      r = bad.before.2;
      stands = bad.before.3;
      same = take_at (take place text) bad.before.0 place size;
      within = omega (arith, size, length-append (take place text) bad.before.0);
    }

joined : (front m spell tail : List ℕ) → spell ≡ front ++ m → front ++ (m ++ tail) ≡ spell ++ tail
joined front m spell tail e = sym (append_assoc front m tail) ∙ ap (λ (s : List ℕ). s ++ tail) (sym e)

can_signed : (room : ℕ) (text : List ℕ) (place : ℕ) → IsFirstBad IsSigned text place → Can (part expr room) (take place text)
can_signed room text place bad =
    let b = begun IsSigned text place bad in
    let m = token IsSigned signed_decimal (λ t v r h. h.spelled) (λ v c g h s. record { spelled = refl; fits = s.fits; whole = s.whole }) text place bad b.t b.v b.r b.stands b.same b.within in
    (m.0, an_expr (roll-Expr (form.Number b.v)), refl, λ tail f. signed_expr room _ tail b.v (joined (take place text) m.0 (signed_decimal b.v) tail m.1) (signed_fits_so b.t b.r b.v b.stands) f.digit)

can_number : (room : ℕ) (text : List ℕ) (place : ℕ) → IsFirstBad (IsNumber 18446744073709551615) text place → Can (part number room) (take place text)
can_number room text place bad =
    let b = begun (IsNumber 18446744073709551615) text place bad in
    let m = token (IsNumber 18446744073709551615) decimal (λ t v r h. h.spelled) (λ v c g h s. record { spelled = refl; small = s.small; whole = s.whole }) text place bad b.t b.v b.r b.stands b.same b.within in
    (m.0, a_number b.v, refl, λ tail f. record { spelled = joined (take place text) m.0 (decimal b.v) tail m.1; within = lt-ltb b.v (2 ^ 64) (omega (arith, b.stands.small)); ends = f.digit })

can_quote_token : (text : List ℕ) (place : ℕ) → IsFirstBad IsQuoted text place → (v m : List ℕ) × (quoted v ≡ take place text ++ m) × (list_all is_byte v ≡ true)
can_quote_token text place bad =
    let b = begun IsQuoted text place bad in
    let m = token IsQuoted quoted (λ t v r h. h.spelled) (λ v c g h s. record { spelled = refl; small = s.small }) text place bad b.t b.v b.r b.stands b.same b.within in
    (b.v, m.0, m.1, bytes_fit b.v b.stands.small)

can_quoted : (sort : Sort) (room : ℕ) (text : List ℕ) (place : ℕ) → (sort ≡ expr) ⊎ (sort ≡ quoted_text) → IsFirstBad IsQuoted text place → Can (part sort room) (take place text)
can_quoted sort room text place (inl of) bad =
    let q = can_quote_token text place bad in
    let so : written (out-Expr (roll-Expr (form.Text q.0))) ≡ quote q.0 = ap written (out-roll-Expr (form.Text q.0)) in
    (q.1, an_expr (roll-Expr (form.Text q.0)), sym of, λ tail f. quote_expr room _ q.0 tail (roll-Expr (form.Text q.0)) so (record { spelled = joined (take place text) q.1 (quoted q.0) tail q.2; small = are_bytes q.0 q.3 }))
can_quoted sort room text place (inr of) bad =
    let q = can_quote_token text place bad in
    (q.1, a_quote q.0, sym of, λ tail f. record { spelled = joined (take place text) q.1 (quoted q.0) tail q.2; within = q.3; ends = tt })

-- after more parts

can_next : (head : Head) (count room : ℕ) (sort : Sort) (front : List ℕ) → wants head count ≡ Some sort → Can (part sort room) front → Can (after head count room) (32 ∷ front)
can_next head count room sort front takes can =
    let rest = can_left head (suc count) room (wanted_within head count sort takes) in (
      can.0 ++ rest.0,
      can.1 ∷ rest.1,
      (takes ∙ ap Some (sym can.2), rest.2),
      λ tail.
          let mid : List ℕ = rest.0 ++ tail in
          let after_part = rest.3 tail in
          (rest.0 ++ tail, (front ++ (can.0 ++ (rest.0 ++ tail)), ap (λ (s : List ℕ). 32 ∷ front ++ s) (append_assoc can.0 rest.0 tail), can.3 (rest.0 ++ tail) (follows_parts room rest.1 (rest.0 ++ tail) tail after_part)), after_part),
    )

can_later : (head : Head) (count room : ℕ) (next : Part Expr) (front : List ℕ) → wants head count ≡ Some (sort_of next) → ((more : List ℕ) → Follows more → IsPart room (spelled next ++ more) next more) → Can (after head (suc count) room) front → Can (after head count room) (32 ∷ spelled next ++ front)
can_later head count room next front takes stands can = (
  can.0,
  next ∷ can.1,
  (takes, can.2),
  λ tail.
      let after_part = can.3 tail in
      (front ++ (can.0 ++ tail), (spelled next ++ (front ++ (can.0 ++ tail)), append_assoc (32 ∷ spelled next) front (can.0 ++ tail), stands (front ++ (can.0 ++ tail)) (follows_parts room can.1 (front ++ (can.0 ++ tail)) tail after_part)), after_part),
)

completes : {spot : Spot} {text rest : List ℕ} {kind : LangErrorKind} → Refused spot text rest kind → Valid spot → Completes spot text rest
completes (at_first {sort = sort} {room = room} e) valid = record { front = []; is = refl; can = can_part sort room }
completes (in_signed {room = room} {text = text} place begins bad) valid = record { front = take place text; is = sym (take-append-drop place text); can = can_signed room text place bad }
completes (in_number {room = room} {text = text} place begins bad) valid = record { front = take place text; is = sym (take-append-drop place text); can = can_number room text place bad }
completes (in_quoted {sort = sort} {room = room} {text = text} place of begins bad) valid = record { front = take place text; is = sym (take-append-drop place text); can = can_quoted sort room text place of bad }
completes (no_word {room = room} e) valid = record { front = 40 ∷ []; is = refl; can = can_open room }
completes (unknown_word {room = room} letters rest some all ends none) valid = record { front = 40 ∷ []; is = refl; can = can_open room }
completes (after_word {room = room} w {text = text} {rest = rest} ends r) valid =
    let ih = completes r (omega arith) in
    record { front = 40 ∷ word_text w ++ ih.front; is = ap (λ (s : List ℕ). 40 ∷ word_text w ++ s) ih.is ∙ sym (append_assoc (40 ∷ word_text w) ih.front rest); can = can_form room w ih.front ih.can }
completes (at_once {head = head} {count = count} {room = room} e) valid = record { front = []; is = refl; can = can_left head count room valid }
completes (in_next {head = head} {count = count} {room = room} sort takes r) valid =
    let ih = completes r tt in
    record { front = 32 ∷ ih.front; is = ap (λ (s : List ℕ). 32 ∷ s) ih.is; can = can_next head count room sort ih.front takes ih.can }
completes (after_next {head = head} {count = count} {room = room} next {rest = rest} takes stands r) valid =
    let ih = completes r (wanted_within head count (sort_of next) takes) in
    record {
      front = 32 ∷ spelled next ++ ih.front;
      is = ap (λ (s : List ℕ). 32 ∷ s) (stands.spelled ∙ ap (λ (s : List ℕ). spelled next ++ s) ih.is) ∙ sym (append_assoc (32 ∷ spelled next) ih.front rest);
      can = can_later head count room next ih.front takes (λ more f. record { spelled = refl; within = stands.within; ends = ends_part next more f }) ih.can;
    }

-- ---- whole texts

-- a front of what can begin can begin
front_can : {V : Type 0} (R : List ℕ → V → List ℕ → Type 0) (xs ys : List ℕ) → CanBegin R (xs ++ ys) → CanBegin R xs
front_can R xs ys b = (ys ++ b.0, b.1, b.2, subst (λ t. R t b.1 b.2) (append_assoc xs ys b.0) b.3)

some_outputs : (ps : List (Part Expr)) (es : List Expr) → Takes job 0 ps → ps ≡ map an_expr es → 1 ≤ length es
some_outputs ps [] t e = absurd (lacks (subst (λ ps. Takes job 0 ps) e t))
  where
    lacks : Takes {A = Expr} job 0 [] → ⊥
    lacks t = cc
some_outputs ps (e ∷ es) t is = omega arith

job_can : (front : List ℕ) → Can (after job 0 31) front → CanBegin Spells (40 ∷ codes "job" ++ front)
job_can front can =
    let all = all_exprs job output_limit (λ count. refl) 0 can.1 can.2 (omega arith) in
    let text : List ℕ = front ++ can.0 in
    let program : Program = record { outputs = all.0 } in
    let stand : AreParts 31 (map an_expr all.0) (front ++ can.0) [] =
    subst (λ ps. AreParts 31 ps (front ++ can.0) []) all.1 (subst (λ t. AreParts 31 can.1 (front ++ t) []) (append-nil can.0) (can.3 [])) in
    let are : AreOutputs (front ++ can.0) all.0 [] = record { some = some_outputs can.1 all.0 can.2 all.1; few = omega (arith, all.2, ap length all.1, length-list all.0); stand = stand } in
    let is : IsJob (codes "job" ++ (front ++ can.0)) (front ++ can.0) = record { spelled = refl; ends = parts_follow_word 31 (map an_expr all.0) (front ++ can.0) [] stand } in
    (can.0, record { outputs = all.0 }, [], (whole (40 ∷ codes "job" ++ (front ++ can.0)) (codes "job" ++ (front ++ can.0)) (front ++ can.0) [] (record { outputs = all.0 }) all.0 refl is are refl, refl))

any_can : CanBegin Spells (40 ∷ codes "job" ++ [])
any_can = job_can [] (can_left job 0 31 (omega arith))

pub record CompletesText (text rest : List ℕ) : Type 0 where
  pub front : List ℕ
  pub is : text ≡ front ++ rest
  pub can : CanBegin Spells front

pub completes_text : {text rest : List ℕ} {kind : LangErrorKind} → RefusedText text rest kind → CompletesText text rest
completes_text (no_form e) = record { front = []; is = refl; can = front_can Spells [] (40 ∷ codes "job" ++ []) any_can }
completes_text (no_job e) = record { front = 40 ∷ []; is = refl; can = front_can Spells (40 ∷ []) (codes "job" ++ []) any_can }
completes_text (other_word letters rest some all ends other) = record { front = 40 ∷ []; is = refl; can = front_can Spells (40 ∷ []) (codes "job" ++ []) any_can }
completes_text (in_outputs {text = text} {rest = rest} ends r) =
    let ih = completes r (omega arith) in
    record { front = 40 ∷ codes "job" ++ ih.front; is = ap (λ (s : List ℕ). 40 ∷ codes "job" ++ s) ih.is; can = job_can ih.front ih.can }
completes_text (trailing {rest = rest} program stands some) = record {
  front = program_text program;
  is = stands.spelled;
  can = ([], program, [], (record { spelled = refl; some = stands.some; few = stands.few; within = stands.within }, refl));
}
