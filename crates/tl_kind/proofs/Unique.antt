-- A part has one reading; where a text is refused it has none.
use Rattle.std.proofs.Common.{◌≡◌, ℕ, suc, List, [], ◌∷◌, map, Option, Some, refl, sym, ◌∙◌, ap, subst, arith}
use Rattle.tl_text.proofs.Numbers.{one_number_stands}
use Rattle.tl_text.proofs.SignedNumbers.{one_signed_stands}
use Rattle.tl_text.proofs.Quotes.{one_quoted_stands}
use Rattle.tl_lang.specs.declared.expr.Expr.{Expr, out-Expr, roll-Expr}
use Rattle.tl_lang.specs.declared.expr.Expr.TheFolds.{ind-Expr}
use Rattle.tl_lang.specs.declared.expr.Expr.TheViews.{out-roll-Expr}
use Rattle.tl_lang.specs.Tree.{Form}
use Rattle.tl_lang.proofs.Trees.{Proved, parts_of}
use Rattle.tl_kind.specs.declared.begin.Begin.{Begin}
use Rattle.tl_kind.specs.declared.begin.Begin.TheVariants as begin
use Rattle.tl_kind.specs.Words.{word_text}
use Rattle.tl_kind.specs.Written.{Part, an_expr, a_name, a_number, a_quote, Written, quote, signed, variable, with_parts, map_part, map_written, written}
use Rattle.tl_kind.specs.Refusals.{Head, inner, Sort, sort_of, wants, IsPart}
use Rattle.tl_kind.specs.Reading.{AreParts, begin_of}
use Rattle.tl_kind.proofs.Trees.{written-at_parts}
use Rattle.tl_kind.proofs.Inverse.{same_written, Takes}
use Rattle.tl_kind.proofs.Readings.{ReadsExpr, reads, named, numbered, quoted_so, begins, one_run, one_name, word_letters, same_word, parts_follow_word}

-- ---- an expression that has one reading

abbrev One : Expr → Type 0
One e = (room other : ℕ) (text rest more : List ℕ) (d : Expr) → IsPart room text (an_expr e) rest → IsPart other text (an_expr d) more → (e ≡ d) × (rest ≡ more)

abbrev plain : Part (Proved One) → Part Expr
plain p = map_part (λ t. t.0) p

same_sort : (o : Option Sort) (a b : Sort) → o ≡ Some a → o ≡ Some b → a ≡ b
same_sort o a b e f = cc

one_part : (room other : ℕ) (text rest more : List ℕ) (p : Part (Proved One)) (q : Part Expr) → sort_of p ≡ sort_of q → IsPart room text (plain p) rest → IsPart other text q more → (plain p ≡ q) × (rest ≡ more)
one_part room other text rest more (an_expr e) (an_expr d) s g h = let one = e.1 room other text rest more d g h in (ap an_expr one.0, one.1)
one_part room other text rest more (a_name x) (a_name y) s g h = let one = one_name text x y rest more (named room text rest x g) (named other text more y h) in (ap a_name one.0, one.1)
one_part room other text rest more (a_number m) (a_number n) s g h = let one = one_number_stands 18446744073709551615 m n text rest more (omega arith) (numbered room text rest m g) (numbered other text more n h) in (ap a_number one.0, one.1)
one_part room other text rest more (a_quote a) (a_quote b) s g h = let one = one_quoted_stands text a b rest more (quoted_so room text rest a g) (quoted_so other text more b h) in (ap a_quote one.0, one.1)
one_part room other text rest more (an_expr e) (a_name x) s g h = absurd (cc)
one_part room other text rest more (an_expr e) (a_number n) s g h = absurd (cc)
one_part room other text rest more (an_expr e) (a_quote b) s g h = absurd (cc)
one_part room other text rest more (a_name x) (an_expr d) s g h = absurd (cc)
one_part room other text rest more (a_name x) (a_number n) s g h = absurd (cc)
one_part room other text rest more (a_name x) (a_quote b) s g h = absurd (cc)
one_part room other text rest more (a_number m) (an_expr d) s g h = absurd (cc)
one_part room other text rest more (a_number m) (a_name x) s g h = absurd (cc)
one_part room other text rest more (a_number m) (a_quote b) s g h = absurd (cc)
one_part room other text rest more (a_quote a) (an_expr d) s g h = absurd (cc)
one_part room other text rest more (a_quote a) (a_name x) s g h = absurd (cc)
one_part room other text rest more (a_quote a) (a_number n) s g h = absurd (cc)

tails : (a b : ℕ) (s t : List ℕ) → a ∷ s ≡ b ∷ t → s ≡ t
tails a b s t e = cc

apart : (s t text : List ℕ) → text ≡ 41 ∷ s → text ≡ 32 ∷ t → ⊥
apart s t text e f = let heads : 41 ∷ s ≡ 32 ∷ t = sym e ∙ f in differ (ap head heads)
  where
    head : List ℕ → ℕ
    head [] = 0
    head (b ∷ bs) = b

    differ : ◌≡◌ {A = ℕ} 41 32 → ⊥
    differ e = omega arith

sort_plain : (p : Part (Proved One)) → sort_of (plain p) ≡ sort_of p
sort_plain (an_expr e) = refl
sort_plain (a_name x) = refl
sort_plain (a_number n) = refl
sort_plain (a_quote s) = refl

one_parts : (head : Head) (count room other : ℕ) (text rest more : List ℕ) (ps : List (Part (Proved One))) (qs : List (Part Expr)) → Takes head count ps → Takes head count qs
    → AreParts room (map plain ps) text rest → AreParts other qs text more → (map plain ps ≡ qs) × (rest ≡ more)
one_parts head count room other text rest more [] [] t u g h = (refl, tails 41 41 rest more (sym g ∙ h))
one_parts head count room other text rest more [] (q ∷ qs) t u g h = absurd (apart rest h.1.0 text g h.1.1)
one_parts head count room other text rest more (p ∷ ps) [] t u g h = absurd (apart more g.1.0 text h g.1.1)
one_parts head count room other text rest more (p ∷ ps) (q ∷ qs) t u g h =
    let from : g.1.0 ≡ h.1.0 = tails 32 32 g.1.0 h.1.0 (sym g.1.1 ∙ h.1.1) in
    let sorts : sort_of p ≡ sort_of q = same_sort (wants head count) (sort_of p) (sort_of q) t.0 u.0 in
    let one = one_part room other h.1.0 g.0 h.0 p q sorts (subst (λ t. IsPart room t (plain p) g.0) from g.1.2) h.1.2 in
    let first : plain p ≡ q = one.0 in
    let rests = one_parts head (suc count) room other h.0 rest more ps qs t.1 u.1 (subst (λ t. AreParts room (map plain ps) t rest) one.1 g.2) h.2 in
    let others : map plain ps ≡ qs = rests.0 in
    (cc (first, others), rests.1)

takes_plain : (head : Head) (count : ℕ) (ps : List (Part (Proved One))) → Takes head count (map plain ps) → Takes head count ps
takes_plain head count [] t = t
takes_plain head count (p ∷ ps) t = (t.0 ∙ ap Some (sort_plain p), takes_plain head (suc count) ps t.1)

other_begin : {A : Type 0} (text : List ℕ) (a b : Begin) → begin_of text ≡ a → begin_of text ≡ b → (a ≡ b → ⊥) → A
other_begin text a b e f differ = absurd (differ (sym e ∙ f))

one_written : (room other : ℕ) (text rest more : List ℕ) (v : Written (Proved One)) (w : Written Expr) → ReadsExpr room text (map_written (λ t. t.0) v) rest → ReadsExpr other text w more → (map_written (λ t. t.0) v ≡ w) × (rest ≡ more)
one_written room other text rest more (quote a) (quote b) g h = let one = one_quoted_stands text a b rest more g h in (ap quote one.0, one.1)
one_written room other text rest more (signed y) (signed z) g h = let one = one_signed_stands text y z rest more g h in (ap signed one.0, one.1)
one_written room other text rest more (variable x) (variable y) g h = let one = one_name text x y rest more g h in (ap variable one.0, one.1)
one_written room other text rest more (with_parts w ps) (with_parts v qs) g h =
    let letters = one_run (word_text w) (word_text v) g.2 h.2 (word_letters w) (word_letters v) (parts_follow_word g.0 (map plain ps) g.2 rest g.4) (parts_follow_word h.0 qs h.2 more h.4) (tails 40 40 _ _ (sym g.3 ∙ h.3)) in
    let same : w ≡ v = same_word w v letters.0 in
    let parts = one_parts (inner v) 0 g.0 h.0 h.2 rest more ps qs (subst (λ w. Takes (inner w) 0 ps) same (takes_plain (inner w) 0 ps g.5)) h.5 (subst (λ t. AreParts g.0 (map plain ps) t rest) letters.1 g.4) h.4 in
    let these : map plain ps ≡ qs = parts.0 in
    (cc (same, these), parts.1)
one_written room other text rest more (quote a) (signed z) g h = other_begin text begin.Quote begin.Number (begins room text rest (quote a) g) (begins other text more (signed z) h) (λ e. cc)
one_written room other text rest more (quote a) (variable y) g h = other_begin text begin.Quote begin.Name (begins room text rest (quote a) g) (begins other text more (variable y) h) (λ e. cc)
one_written room other text rest more (quote a) (with_parts v qs) g h = other_begin text begin.Quote begin.Form (begins room text rest (quote a) g) (begins other text more (with_parts v qs) h) (λ e. cc)
one_written room other text rest more (signed y) (quote b) g h = other_begin text begin.Number begin.Quote (begins room text rest (signed y) g) (begins other text more (quote b) h) (λ e. cc)
one_written room other text rest more (signed y) (variable x) g h = other_begin text begin.Number begin.Name (begins room text rest (signed y) g) (begins other text more (variable x) h) (λ e. cc)
one_written room other text rest more (signed y) (with_parts v qs) g h = other_begin text begin.Number begin.Form (begins room text rest (signed y) g) (begins other text more (with_parts v qs) h) (λ e. cc)
one_written room other text rest more (variable x) (quote b) g h = other_begin text begin.Name begin.Quote (begins room text rest (variable x) g) (begins other text more (quote b) h) (λ e. cc)
one_written room other text rest more (variable x) (signed z) g h = other_begin text begin.Name begin.Number (begins room text rest (variable x) g) (begins other text more (signed z) h) (λ e. cc)
one_written room other text rest more (variable x) (with_parts v qs) g h = other_begin text begin.Name begin.Form (begins room text rest (variable x) g) (begins other text more (with_parts v qs) h) (λ e. cc)
one_written room other text rest more (with_parts w ps) (quote b) g h = other_begin text begin.Form begin.Quote (begins room text rest (with_parts w (map plain ps)) g) (begins other text more (quote b) h) (λ e. cc)
one_written room other text rest more (with_parts w ps) (signed z) g h = other_begin text begin.Form begin.Number (begins room text rest (with_parts w (map plain ps)) g) (begins other text more (signed z) h) (λ e. cc)
one_written room other text rest more (with_parts w ps) (variable y) g h = other_begin text begin.Form begin.Name (begins room text rest (with_parts w (map plain ps)) g) (begins other text more (variable y) h) (λ e. cc)

written_roll : (y : Form (Proved One)) → written (out-Expr (roll-Expr (parts_of y))) ≡ map_written (λ t. t.0) (written y)
written_roll y = ap written (out-roll-Expr (parts_of y)) ∙ written-at_parts (λ t. t.0) y

one_rolled : (y : Form (Proved One)) → One (roll-Expr (parts_of y))
one_rolled y room other text rest more d g h =
    let e : Expr = roll-Expr (parts_of y) in
    let here = subst (λ w. ReadsExpr room text w rest) (written_roll y) (reads room text rest e g) in
    let one = one_written room other text rest more (written y) (written (out-Expr d)) here (reads other text more d h) in
    (same_written e d (written_roll y ∙ one.0), one.1)

pub one_expr : (e : Expr) → One e
one_expr = ind-Expr One (λ x y is. subst (λ z. One (roll-Expr z)) is (one_rolled y))

-- ---- the same of parts alone

proved : Part Expr → Part (Proved One)
proved (an_expr e) = an_expr (e, one_expr e)
proved (a_name x) = a_name x
proved (a_number n) = a_number n
proved (a_quote s) = a_quote s

plain_proved : (p : Part Expr) → plain (proved p) ≡ p
unfolding proved
plain_proved (an_expr e) = refl
plain_proved (a_name x) = refl
plain_proved (a_number n) = refl
plain_proved (a_quote s) = refl

plain_all : (ps : List (Part Expr)) → map plain (map proved ps) ≡ ps
plain_all [] = refl
plain_all (p ∷ ps) = let here = plain_proved p in let there = plain_all ps in cc (here, there)

sort_proved : (p : Part Expr) → sort_of (proved p) ≡ sort_of p
unfolding proved
sort_proved (an_expr e) = refl
sort_proved (a_name x) = refl
sort_proved (a_number n) = refl
sort_proved (a_quote s) = refl

takes_proved : (head : Head) (count : ℕ) (ps : List (Part Expr)) → Takes head count ps → Takes head count (map proved ps)
takes_proved head count [] t = t
takes_proved head count (p ∷ ps) t = (t.0 ∙ ap Some (sym (sort_proved p)), takes_proved head (suc count) ps t.1)

pub the_part : (room other : ℕ) (text rest more : List ℕ) (p q : Part Expr) → sort_of p ≡ sort_of q → IsPart room text p rest → IsPart other text q more → (p ≡ q) × (rest ≡ more)
the_part room other text rest more p q s g h =
    let one = one_part room other text rest more (proved p) q (sort_proved p ∙ s) (subst (λ p. IsPart room text p rest) (sym (plain_proved p)) g) h in
    (sym (plain_proved p) ∙ one.0, one.1)

pub the_parts : (head : Head) (count room other : ℕ) (text rest more : List ℕ) (ps qs : List (Part Expr)) → Takes head count ps → Takes head count qs → AreParts room ps text rest → AreParts other qs text more → (ps ≡ qs) × (rest ≡ more)
the_parts head count room other text rest more ps qs t u g h =
    let one = one_parts head count room other text rest more (map proved ps) qs (takes_proved head count ps t) u (subst (λ ps. AreParts room ps text rest) (sym (plain_all ps)) g) h in
    (sym (plain_all ps) ∙ one.0, one.1)
