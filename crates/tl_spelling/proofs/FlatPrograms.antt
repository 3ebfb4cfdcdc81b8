-- No line feed stands in the text of a program.
use Rattle.std.proofs.Common.{◌≡◌, ℕ, zero, suc, ◌<◌, ◌≤◌, ◌^◌, ℤ, pos, negsuc, Bool, true, false, not, ◌&&◌, ◌==◌, nat_lt, nat_le, List, [], ◌∷◌, ◌++◌, codes, decimal, length, map, refl, sym, ◌∙◌, ap, subst, arith}
use Rattle.std.specs.Fmt.{signed_decimal}
use Rattle.std.specs.List.{AllByRecursion, list_all}
use Rattle.std.proofs.lemmas.Bool.{and_parts, and_from, ltb-true, leb-true}
use Rattle.tl_text.specs.Quoted.{quoted}
use Rattle.tl_lang.specs.declared.expr.Expr.{Expr}
use Rattle.tl_lang.specs.declared.expr.Expr.TheOpen as form
use Rattle.tl_lang.specs.declared.program.Program.{Program}
use Rattle.tl_lang.specs.Tree.{Form, fold_tree, at_parts}
use Rattle.tl_lang.specs.Value.{is_number}
use Rattle.tl_lang.proofs.Trees.{Proved, parts_of, along_trees}
use Rattle.tl_kind.specs.Written.{Part, an_expr, a_name, a_number, a_quote, written, written_fits, part_fits, parts_text, form_text, is_letter, is_name, is_byte, spelling, spelling_step, fits, program_text, IsWithin}
use Rattle.tl_spelling.proofs.NoFeeds.{is_flat, flat_both, flat_cons, flat_decimal, flat_quoted}

-- ---- names, numbers and quoted texts

flat_letters : (x : List ℕ) → list_all is_letter x ≡ true → is_flat x ≡ true
flat_letters [] h = refl
flat_letters (b ∷ bs) h =
    let both = and_parts (is_letter b) (list_all is_letter bs) h in
    let low = leb-true 0x61 b (and_parts (nat_le 0x61 b) (nat_le b 0x7A) both.0).0 in
    flat_cons b bs (λ e. omega (arith, e, low)) (flat_letters bs both.1)

flat_name : (x : List ℕ) → is_name x ≡ true → is_flat x ≡ true
flat_name x h =
    let inner = (and_parts (nat_lt 0 (length x)) (nat_le (length x) 16 && list_all is_letter x) h).1 in
    flat_letters x (and_parts (nat_le (length x) 16) (list_all is_letter x) inner).1

are_bytes : (s : List ℕ) → list_all is_byte s ≡ true → AllByRecursion (λ byte. byte < 256) s
are_bytes [] h = tt
are_bytes (b ∷ bs) h = let both = and_parts (is_byte b) (list_all is_byte bs) h in (ltb-true b 256 both.0, are_bytes bs both.1)

flat_text : (s : List ℕ) → list_all is_byte s ≡ true → is_flat (quoted s) ≡ true
flat_text s h = flat_quoted s (are_bytes s h)

flat_signed : (z : ℤ) → is_number z ≡ true → is_flat (signed_decimal z) ≡ true
flat_signed (pos n) h = let lt = ltb-true n (2 ^ 63) h in flat_decimal n (omega (arith, lt))
flat_signed (negsuc n) h = let lt = ltb-true n (2 ^ 63) h in flat_decimal (suc n) (omega (arith, lt))

-- ---- parts of a form

-- a text is flat where it is within the limits
abbrev Keeps : List ℕ → (ℕ → Bool) → Type 0
Keeps text within = (room : ℕ) → within room ≡ true → is_flat text ≡ true

abbrev Alike : List (Part (List ℕ)) → List (Part (ℕ → Bool)) → Type 0
Alike [] [] = Unit {0}
Alike (an_expr t ∷ ts) (an_expr f ∷ fs) = Keeps t f × Alike ts fs
Alike (a_name x ∷ ts) (a_name y ∷ fs) = (x ≡ y) × Alike ts fs
Alike (a_number m ∷ ts) (a_number n ∷ fs) = (m ≡ n) × Alike ts fs
Alike (a_quote s ∷ ts) (a_quote t ∷ fs) = (s ≡ t) × Alike ts fs
Alike ts fs = ⊥

flat_parts : (ts : List (Part (List ℕ))) (fs : List (Part (ℕ → Bool))) (room : ℕ) → Alike ts fs → list_all (part_fits room) fs ≡ true → is_flat (parts_text ts) ≡ true
flat_parts [] [] room alike h = refl
flat_parts (an_expr t ∷ ts) (an_expr f ∷ fs) room alike h =
    let both = and_parts (f room) (list_all (part_fits room) fs) h in
    flat_both t (parts_text ts) (alike.0 room both.0) (flat_parts ts fs room alike.1 both.1)
flat_parts (a_name x ∷ ts) (a_name y ∷ fs) room alike h =
    let both = and_parts (is_name y) (list_all (part_fits room) fs) h in
    flat_both x (parts_text ts) (subst (λ n. is_flat n ≡ true) (sym alike.0) (flat_name y both.0)) (flat_parts ts fs room alike.1 both.1)
flat_parts (a_number m ∷ ts) (a_number n ∷ fs) room alike h =
    let both = and_parts (nat_lt n (2 ^ 64)) (list_all (part_fits room) fs) h in
    let lt = ltb-true n (2 ^ 64) both.0 in
    flat_both (decimal m) (parts_text ts) (subst (λ k. is_flat (decimal k) ≡ true) (sym alike.0) (flat_decimal n lt)) (flat_parts ts fs room alike.1 both.1)
flat_parts (a_quote s ∷ ts) (a_quote t ∷ fs) room alike h =
    let both = and_parts (list_all is_byte t) (list_all (part_fits room) fs) h in
    flat_both (quoted s) (parts_text ts) (subst (λ k. is_flat (quoted k) ≡ true) (sym alike.0) (flat_text t both.0)) (flat_parts ts fs room alike.1 both.1)
flat_parts ts fs room alike h = absurd alike

flat_form : (word : List ℕ) (ts : List (Part (List ℕ))) (fs : List (Part (ℕ → Bool))) (room : ℕ) → is_flat word ≡ true → Alike ts fs
    → (nat_le (length fs) 16 && list_all (part_fits room) fs) ≡ true → is_flat (form_text word ts) ≡ true
flat_form word ts fs room letters alike h =
    flat_both word (parts_text ts) letters (flat_parts ts fs room alike (and_parts (nat_le (length fs) 16) (list_all (part_fits room) fs) h).1)

-- ---- every expression

abbrev fits_step : Form (ℕ → Bool) → ℕ → Bool
fits_step f = written_fits (written f)

abbrev Flat : Expr → Type 0
Flat e = Keeps (spelling e) (fits e)

-- a form of which each part is flat
abbrev Parted : Type 0
Parted = Form (Proved Flat)

one : (word : List ℕ) → is_flat word ≡ true → (room : ℕ) (a : Proved Flat) → (part_fits room (an_expr (fits a.0)) && true) ≡ true → is_flat (form_text word (an_expr (spelling a.0) ∷ [])) ≡ true
one word letters room a h = flat_form word (an_expr (spelling a.0) ∷ []) (an_expr (fits a.0) ∷ []) room letters (a.1, tt) h

two : (word : List ℕ) → is_flat word ≡ true → (room : ℕ) (a b : Proved Flat) → (part_fits room (an_expr (fits a.0)) && (part_fits room (an_expr (fits b.0)) && true)) ≡ true
    → is_flat (form_text word (an_expr (spelling a.0) ∷ an_expr (spelling b.0) ∷ [])) ≡ true
two word letters room a b h = flat_form word (an_expr (spelling a.0) ∷ an_expr (spelling b.0) ∷ []) (an_expr (fits a.0) ∷ an_expr (fits b.0) ∷ []) room letters (a.1, (b.1, tt)) h

three : (word : List ℕ) → is_flat word ≡ true → (room : ℕ) (a b c : Proved Flat) → (part_fits room (an_expr (fits a.0)) && (part_fits room (an_expr (fits b.0)) && (part_fits room (an_expr (fits c.0)) && true))) ≡ true
    → is_flat (form_text word (an_expr (spelling a.0) ∷ an_expr (spelling b.0) ∷ an_expr (spelling c.0) ∷ [])) ≡ true
three word letters room a b c h =
    flat_form word (an_expr (spelling a.0) ∷ an_expr (spelling b.0) ∷ an_expr (spelling c.0) ∷ []) (an_expr (fits a.0) ∷ an_expr (fits b.0) ∷ an_expr (fits c.0) ∷ []) room letters (a.1, (b.1, (c.1, tt))) h

named : (word : List ℕ) → is_flat word ≡ true → (room : ℕ) (x : List ℕ) (a b : Proved Flat) → (is_name x && (part_fits room (an_expr (fits a.0)) && (part_fits room (an_expr (fits b.0)) && true))) ≡ true
    → is_flat (form_text word (a_name x ∷ an_expr (spelling a.0) ∷ an_expr (spelling b.0) ∷ [])) ≡ true
named word letters room x a b h =
    flat_form word (a_name x ∷ an_expr (spelling a.0) ∷ an_expr (spelling b.0) ∷ []) (a_name x ∷ an_expr (fits a.0) ∷ an_expr (fits b.0) ∷ []) room letters (refl, (a.1, (b.1, tt))) h

alike_list : (parts : List (Proved Flat)) → Alike (map an_expr (map spelling (map (λ t. t.0) parts))) (map an_expr (map fits (map (λ t. t.0) parts)))
alike_list [] = tt
alike_list (a ∷ parts) = (a.1, alike_list parts)

keeps : (y : Parted) (room : ℕ) → fits_step (at_parts fits (parts_of y)) room ≡ true → is_flat (spelling_step (at_parts spelling (parts_of y))) ≡ true
keeps (form.Text s) room h = flat_text s h
keeps (form.Number z) room h = flat_signed z h
keeps (form.Var x) room h = flat_name x h
keeps y zero h = absurd (cc)
keeps (form.Input k) (suc room) h = flat_form (codes "in") (a_number k ∷ []) (a_number k ∷ []) room refl (refl, tt) h
keeps (form.Key key) (suc room) h = flat_form (codes "conf") (a_quote key ∷ []) (a_quote key ∷ []) room refl (refl, tt) h
keeps (form.Cat a b) (suc room) h = two (codes "cat") refl room a b h
keeps (form.Len a) (suc room) h = one (codes "len") refl room a h
keeps (form.Sub a i j) (suc room) h = three (codes "sub") refl room a i j h
keeps (form.Eq a b) (suc room) h = two (codes "eq") refl room a b h
keeps (form.Has a b) (suc room) h = two (codes "has") refl room a b h
keeps (form.Num a) (suc room) h = one (codes "num") refl room a h
keeps (form.Str a) (suc room) h = one (codes "str") refl room a h
keeps (form.Add a b) (suc room) h = two (codes "add") refl room a b h
keeps (form.Minus a b) (suc room) h = two (codes "minus") refl room a b h
keeps (form.Mul a b) (suc room) h = two (codes "mul") refl room a b h
keeps (form.Div a b) (suc room) h = two (codes "div") refl room a b h
keeps (form.Mod a b) (suc room) h = two (codes "mod") refl room a b h
keeps (form.Lt a b) (suc room) h = two (codes "lt") refl room a b h
keeps (form.Same a b) (suc room) h = two (codes "same") refl room a b h
keeps (form.If c a b) (suc room) h = three (codes "if") refl room c a b h
keeps (form.Let x a b) (suc room) h = named (codes "let") refl room x a b h
keeps (form.Lines a) (suc room) h = one (codes "lines") refl room a h
keeps (form.Split a s) (suc room) h = two (codes "split") refl room a s h
keeps (form.Join m s) (suc room) h = two (codes "join") refl room m s h
keeps (form.List parts) (suc room) h =
    flat_form (codes "list") (map an_expr (map spelling (map (λ t. t.0) parts))) (map an_expr (map fits (map (λ t. t.0) parts))) room refl (alike_list parts) h
keeps (form.Append m a) (suc room) h = two (codes "append") refl room m a h
keeps (form.At m i) (suc room) h = two (codes "at") refl room m i h
keeps (form.Count m) (suc room) h = one (codes "count") refl room m h
keeps (form.Sort m) (suc room) h = one (codes "sort") refl room m h
keeps (form.Each x m a) (suc room) h = named (codes "each") refl room x m a h
keeps (form.Keep x m a) (suc room) h = named (codes "keep") refl room x m a h
keeps (form.Fold s x m i a) (suc room) h =
    flat_form (codes "fold") (a_name s ∷ a_name x ∷ an_expr (spelling m.0) ∷ an_expr (spelling i.0) ∷ an_expr (spelling a.0) ∷ [])
    (a_name s ∷ a_name x ∷ an_expr (fits m.0) ∷ an_expr (fits i.0) ∷ an_expr (fits a.0) ∷ []) room refl (refl, (refl, (m.1, (i.1, (a.1, tt))))) h

flat_expr : (e : Expr) → Flat e
flat_expr = along_trees spelling_step fits_step Keeps (λ y room h. keeps y room h)

flat_outputs : (es : List Expr) → list_all (λ e. fits e 31) es ≡ true → is_flat (parts_text (map (λ e. an_expr (spelling e)) es)) ≡ true
flat_outputs [] h = refl
flat_outputs (e ∷ es) h =
    let both = and_parts (fits e 31) (list_all (λ e. fits e 31) es) h in
    flat_both (spelling e) (parts_text (map (λ e. an_expr (spelling e)) es)) (flat_expr e 31 both.0) (flat_outputs es both.1)

pub flat_program : (p : Program) → IsWithin p → is_flat (program_text p) ≡ true
flat_program p h = flat_outputs p.outputs h.within
