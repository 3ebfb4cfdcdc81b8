-- Quoted texts, as items between quote marks.
use Rattle.std.proofs.Common.{◌≡◌, ◌≢◌, ℕ, ◌+◌, ◌-◌, ◌<◌, ◌≤◌, List, [], ◌∷◌, ◌++◌, length, take, drop, get_or, refl, sym, ap, subst, ◌∙◌, append_assoc, add_assoc, add-one, arith}
use Rattle.std.specs.List.{All, AllByRecursion, flat_map}
use Rattle.std.proofs.lemmas.List.{append-nil, length-append, length-drop, length-take-le, take-append-drop, take_all, drop_more, take_at}
use Rattle.std.proofs.Math.Seq.{take-add}
use Rattle.std.proofs.lemmas.List.Concat.{flat_map-append}
use Rattle.std.proofs.lemmas.List.Elements.{recursion_from_All, All-nil, All-push}
use Rattle.tl_text.specs.Place.{CanBegin, IsFirstBad}
use Rattle.tl_text.specs.Quoted.{item, quoted, IsItem, BeginsItem, IsQuoted}
use Rattle.tl_text.proofs.Items.{item_first, item_ends}
use Rattle.tl_text.proofs.Places.{refused_at_end, refused_by_byte}

abbrev IsByte : ℕ → Type 0
IsByte byte = byte < 256

abbrev AreBytes : List ℕ → Type 0
AreBytes bytes = AllByRecursion IsByte bytes

-- no item begins with a quote mark
no_item_at_quote : (b : ℕ) (rest others : List ℕ) → b < 256 → item b ++ rest ≢ 34 ∷ others
no_item_at_quote b rest others small e =
    let first = item_first (34 ∷ others) b rest (record { spelled = sym e; small = small }) in
    omega (arith, first.1)

-- items at the front of a quoted text's are the items of its first bytes
pub items_go_on : (done bytes more rest : List ℕ) → AreBytes done → AreBytes bytes → flat_map item done ++ more ≡ flat_map item bytes ++ 34 ∷ rest
    → (left : List ℕ) × (bytes ≡ done ++ left) × (more ≡ flat_map item left ++ 34 ∷ rest) × AreBytes left
items_go_on [] bytes more rest d b e = (bytes, refl, e, b)
items_go_on (x ∷ done) [] more rest d b e = absurd (no_item_at_quote x (flat_map item done ++ more) rest d.0 (sym (append_assoc (item x) (flat_map item done) more) ∙ e))
items_go_on (x ∷ done) (y ∷ bytes) more rest d b e =
    let both : item x ++ (flat_map item done ++ more) ≡ item y ++ (flat_map item bytes ++ 34 ∷ rest) =
    sym (append_assoc (item x) (flat_map item done) more) ∙ e ∙ append_assoc (item y) (flat_map item bytes) (34 ∷ rest) in
    let one = item_ends x y (flat_map item done ++ more) (flat_map item bytes ++ 34 ∷ rest) d.0 b.0 both in
    let ih = items_go_on done bytes more rest d.1 b.1 one.1 in
    (ih.0, (cc (ih.1, one.0)), ih.2, ih.3)

-- a text that begins with quoted items, and the bytes of a quoted text
open_quote : (done bytes more rest : List ℕ) → AreBytes done → All IsByte bytes → (34 ∷ flat_map item done) ++ more ≡ quoted bytes ++ rest
    → (left : List ℕ) × (bytes ≡ done ++ left) × (more ≡ flat_map item left ++ 34 ∷ rest) × AreBytes left
open_quote done bytes more rest d b e =
    let inner : flat_map item done ++ more ≡ flat_map item bytes ++ 34 ∷ rest = cc (append_assoc (flat_map item bytes) (34 ∷ []) rest) in
    items_go_on done bytes more rest d (recursion_from_All IsByte bytes b) inner

pub one_quoted_stands : (text v w r s : List ℕ) → IsQuoted text v r → IsQuoted text w s → (v ≡ w) × (r ≡ s)
one_quoted_stands text v w r s g h =
    let e : (34 ∷ flat_map item v) ++ 34 ∷ r ≡ quoted w ++ s = sym (append_assoc (34 ∷ flat_map item v) (34 ∷ []) r) ∙ (sym g.spelled ∙ h.spelled) in
    let run = open_quote v w (34 ∷ r) s (recursion_from_All IsByte v g.small) h.small e in
    closed run.0 run.1 run.2 run.3
  where
    closed : (left : List ℕ) → w ≡ v ++ left → 34 ∷ r ≡ flat_map item left ++ 34 ∷ s → AreBytes left → (v ≡ w) × (r ≡ s)
    closed [] e f b = (sym (e ∙ append-nil v), cc)
    closed (x ∷ left) e f b = absurd (no_item_at_quote x (flat_map item left ++ 34 ∷ s) r b.0 (sym (f ∙ append_assoc (item x) (flat_map item left) (34 ∷ s))))

-- ---- the bytes that were read so far

-- the text begins with a quote mark and the items of these bytes
pub record IsOpen (done : List ℕ) (place : ℕ) (text : List ℕ) : Type 0 where
  pub front : take place text ≡ 34 ∷ flat_map item done
  pub within : place ≤ length text
  pub small : All IsByte done

open_split : (done : List ℕ) (place : ℕ) (text : List ℕ) → IsOpen done place text → text ≡ (34 ∷ flat_map item done) ++ drop place text
open_split done place text o = sym (take-append-drop place text) ∙ ap (λ (t : List ℕ). t ++ drop place text) o.front

open_length : (done : List ℕ) (place : ℕ) (text : List ℕ) → IsOpen done place text → length (34 ∷ flat_map item done) ≡ place
open_length done place text o = ap length (sym o.front) ∙ length-take-le place text o.within

close : (done : List ℕ) (rest : List ℕ) → (34 ∷ flat_map item done) ++ 34 ∷ rest ≡ quoted done ++ rest
close done rest = sym (append_assoc (34 ∷ flat_map item done) (34 ∷ []) rest)

pub open_starts : (text : List ℕ) → 0 < length text → get_or text 0 0 ≡ 34 → IsOpen [] 1 text
open_starts [] lt e = absurd (omega arith)
open_starts (c ∷ text) lt e = record { front = ap (λ (b : ℕ). b ∷ []) e; within = omega arith; small = All-nil IsByte }

pub open_goes_on : (done : List ℕ) (place b len : ℕ) (text : List ℕ) → IsOpen done place text → IsItem (drop place text) b (drop len (drop place text)) → len ≡ length (item b) → IsOpen (done ++ b ∷ []) (place + len) text
open_goes_on done place b len text o h e = record {
  front =
      let piece : take len (drop place text) ≡ item b = ap (λ (t : List ℕ). take len t) h.spelled ∙ take_at (item b) (drop len (drop place text)) len (sym e) in
      let split : take (place + len) text ≡ take place text ++ take len (drop place text) = take-add place len text in
      split ∙ rw (o.front, piece) (ap (λ (t : List ℕ). 34 ∷ t) (one_more done b));
  within = let dropped : length (drop place text) ≡ length text - place = length-drop place text in let w : place ≤ length text = o.within in let size : length (drop place text) ≡ length (item b) + length (drop len (drop place text)) = ap length h.spelled ∙ length-append (item b) (drop len (drop place text)) in omega (arith, dropped, w, size, e);
  small = All-push IsByte done b o.small h.small;
}
  where
    one_more : (done : List ℕ) (b : ℕ) → flat_map item done ++ item b ≡ flat_map item (done ++ b ∷ [])
    one_more done b = sym (flat_map-append item done (b ∷ []) ∙ ap (λ (t : List ℕ). flat_map item done ++ t) (append-nil (item b)))

-- ---- where quoted bytes stand

pub quoted_stands : (done : List ℕ) (place : ℕ) (text : List ℕ) → IsOpen done place text → place < length text → get_or text place 0 ≡ 34 → IsQuoted text done (drop (place + 1) text) × (place + 1 ≡ length (quoted done))
quoted_stands done place text o lt e =
    let next : drop place text ≡ 34 ∷ drop (place + 1) text = drop_more text place 0 lt ∙ ap (λ (b : ℕ). b ∷ drop (place + 1) text) e in
    let size : length (34 ∷ flat_map item done) ≡ place = open_length done place text o in (
      record { spelled = open_split done place text o ∙ ap (λ (t : List ℕ). (34 ∷ flat_map item done) ++ t) next ∙ close done (drop (place + 1) text); small = o.small },
      let sum : length (quoted done) ≡ length (34 ∷ flat_map item done) + 1 = length-append (34 ∷ flat_map item done) (34 ∷ []) in omega (arith, sum, size),
    )

-- ---- where none do

open_begins : (done : List ℕ) → All IsByte done → CanBegin IsQuoted (34 ∷ flat_map item done)
open_begins done small = (34 ∷ [], done, [], record { spelled = sym (append-nil (quoted done)); small = small })

pub refused_unopened : (text : List ℕ) → (0 < length text → get_or text 0 0 ≢ 34) → IsFirstBad IsQuoted text 0
refused_unopened text wrong =
    refused_by_byte IsQuoted (λ c. c ≡ 34) text 0 (omega arith) (34 ∷ 34 ∷ [], [], [], record { spelled = refl; small = All-nil IsByte })
    (λ t v rest h same. (rw (h.spelled) (omega arith), rw (h.spelled) refl)) wrong

pub refused_unclosed : (done : List ℕ) (place : ℕ) (text : List ℕ) → IsOpen done place text → length text ≤ place → IsFirstBad IsQuoted text place
refused_unclosed done place text o le =
    let whole : text ≡ 34 ∷ flat_map item done = sym (take_all place text le) ∙ o.front in
    refused_at_end IsQuoted text place (let w : place ≤ length text = o.within in omega (arith, w, le)) (subst (λ t. CanBegin IsQuoted t) (sym whole) (open_begins done o.small))
    (λ v rest h.
    let e : (34 ∷ flat_map item done) ++ [] ≡ quoted v ++ rest = append-nil (34 ∷ flat_map item done) ∙ (sym whole ∙ h.spelled) in
    let run = open_quote done v [] rest (recursion_from_All IsByte done o.small) h.small e in
    nothing (flat_map item run.0) rest run.2)
  where
    nothing : (front rest : List ℕ) → [] ≡ front ++ 34 ∷ rest → ⊥
    nothing [] rest e = cc
    nothing (x ∷ front) rest e = cc

-- what goes on after the items read so far is an item or the closing quote mark
next_item : (done : List ℕ) (v more rest : List ℕ) → All IsByte done → 0 < length more → get_or more 0 0 ≢ 34 → IsQuoted ((34 ∷ flat_map item done) ++ more) v rest → (b : ℕ) × (others : List ℕ) × IsItem more b others
next_item done v more rest small some odd h =
    let run = open_quote done v more rest (recursion_from_All IsByte done small) h.small h.spelled in
    first_item run.0 run.2 run.3
  where
    first_item : (left : List ℕ) → more ≡ flat_map item left ++ 34 ∷ rest → AreBytes left → (b : ℕ) × (others : List ℕ) × IsItem more b others
    first_item [] e b = absurd (odd (ap (λ (t : List ℕ). get_or t 0 0) e))
    first_item (x ∷ left) e b = (x, flat_map item left ++ 34 ∷ rest, record { spelled = e ∙ append_assoc (item x) (flat_map item left) (34 ∷ rest); small = b.0 })

pub refused_item : (done : List ℕ) (place offset : ℕ) (text : List ℕ) → IsOpen done place text → place < length text → get_or text place 0 ≢ 34
    → BeginsItem (take offset (drop place text)) → IsFirstBad IsItem (drop place text) offset → IsFirstBad IsQuoted text (place + offset)
refused_item done place offset text o lt odd begun bad =
    let front : List ℕ = 34 ∷ flat_map item done in
    let rest_is : drop place text ≡ get_or text place 0 ∷ drop (place + 1) text = drop_more text place 0 lt in
    let some : 0 < length (drop place text) = let dropped : length (drop place text) ≡ length text - place = length-drop place text in omega (arith, dropped) in
    let split : take (place + offset) text ≡ (34 ∷ flat_map item done) ++ take offset (drop place text) = take-add place offset text ∙ ap (λ (t : List ℕ). t ++ take offset (drop place text)) o.front in
    record {
      none = λ v rest h.
          let n = next_item done v (drop place text) rest o.small some (λ e. odd (sym (ap (λ (t : List ℕ). get_or t 0 0) rest_is) ∙ e)) (subst (λ t. IsQuoted t v rest) (open_split done place text o) h) in
          bad.none n.0 n.1 n.2;
      within = let dropped : length (drop place text) ≡ length text - place = length-drop place text in let w : offset ≤ length (drop place text) = bad.within in omega (arith, dropped, w);
      before = subst (λ t. CanBegin IsQuoted t) (sym split) (goes_on (take offset (drop place text)) begun);
      there = λ below b.
          let dropped : length (drop place text) ≡ length text - place = length-drop place text in
          let piece : List ℕ = take (offset + 1) (drop place text) in
          let pieces : take (place + offset + 1) text ≡ (34 ∷ flat_map item done) ++ take (offset + 1) (drop place text) =
          ap (λ (k : ℕ). take k text) (add_assoc place offset 1) ∙ take-add place (offset + 1) text ∙ ap (λ (t : List ℕ). t ++ take (offset + 1) (drop place text)) o.front in
          let same : take (place + offset + 1) text ++ b.0 ≡ (34 ∷ flat_map item done) ++ (take (offset + 1) (drop place text) ++ b.0) =
          ap (λ (t : List ℕ). t ++ b.0) pieces ∙ append_assoc (34 ∷ flat_map item done) (take (offset + 1) (drop place text)) b.0 in
          let first : take (offset + 1) (drop place text) ≡ get_or text place 0 ∷ take offset (drop (place + 1) text) = ap (λ (t : List ℕ). take (offset + 1) t) rest_is ∙ rw (add-one offset) refl in
          let head : take (offset + 1) (drop place text) ++ b.0 ≡ get_or text place 0 ∷ (take offset (drop (place + 1) text) ++ b.0) = ap (λ (t : List ℕ). t ++ b.0) first in
          let n = next_item done b.1 (take (offset + 1) (drop place text) ++ b.0) b.2 o.small (rw head (omega arith)) (λ e. odd (sym (ap (λ (t : List ℕ). get_or t 0 0) head) ∙ e)) (subst (λ t. IsQuoted t b.1 b.2) same b.3) in
          bad.there (omega arith) (b.0, n.0, n.1, n.2);
    }
  where
    items : (piece : List ℕ) (begun : BeginsItem piece) → flat_map item (done ++ begun.0 ∷ []) ≡ (flat_map item done ++ piece) ++ begun.1
    items piece begun = flat_map-append item done (begun.0 ∷ []) ∙ ap (λ (t : List ℕ). flat_map item done ++ t) (append-nil (item begun.0) ∙ begun.3) ∙ sym (append_assoc (flat_map item done) piece begun.1)

    goes_on : (piece : List ℕ) → BeginsItem piece → CanBegin IsQuoted ((34 ∷ flat_map item done) ++ piece)
    goes_on piece begun = (begun.1 ++ 34 ∷ [], done ++ begun.0 ∷ [], [], record { spelled = sym (append-nil (quoted (done ++ begun.0 ∷ [])) ∙ ap (λ (t : List ℕ). 34 ∷ t ++ 34 ∷ []) (items piece begun) ∙ append_assoc ((34 ∷ flat_map item done) ++ piece) begun.1 (34 ∷ [])); small = All-push IsByte done begun.0 o.small begun.2 })
