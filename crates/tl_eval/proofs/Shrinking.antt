-- No evaluation ends with more fuel than it begins with.
use Rattle.std.proofs.Common.{◌≡◌, ◌≤◌, ◌<◌, ℕ, ℤ, zero, suc, Bool, true, false, if◌then◌else◌, List, [], ◌∷◌, ◌++◌, map, drop, length, Result, Ok, Err, sym, refl, subst, arith}
use Rattle.std.specs.Global.{Global}
use Rattle.std.specs.declared.sync.Arc.{Arc}
use Rattle.tl_eval.specs.declared.frame.Frame.{Frame}
use Rattle.tl_eval.specs.declared.frame.Frame.TheVariants as frame
use Rattle.tl_eval.specs.declared.node.Node.{Node, roll-Node}
use Rattle.tl_eval.specs.declared.node.Node.TheOpen as form
use Rattle.tl_eval.specs.declared.node.Node.TheOpen.{Node-F}
use Rattle.tl_eval.specs.declared.node.Node.TheFolds.{map-Node, ind-Node}
use Rattle.tl_eval.specs.Nodes.{entered, gives}
use Rattle.tl_eval.specs.Frames.{names_of, goes_on, resume, listed, at_item}
use Rattle.tl_eval.specs.Walks.{later}
use Rattle.tl_eval.proofs.NodeLaws.{gives-roll}
use Rattle.tl_lang.specs.Value.{Value, text, number, list, on_list_text}
use Rattle.tl_lang.specs.Lists.{append}
use Rattle.tl_lang.specs.Fuel.{Ending, done, fault, Run, enter, give, answer, and_then, ◌>>=◌}
use Rattle.tl_lang.specs.Names.{Names}
use Rattle.tl_lang.specs.Mean.{units_left}
use Rattle.tl_lang.specs.Meaning.{Meaning, with_text, with_number, with_list, all_texts, each_from, kept, folded}

abbrev left_of : {A : Type 0} → Ending A → ℕ
left_of (done a left) = left
left_of (fault k left) = left

record Shrinks {A : Type 0} (run : Run A) : Type 0 where
  within : (fuel : ℕ) → left_of (run fuel) ≤ fuel

after : {A B : Type 0} (x : Ending A) (go : A → Run B) (fuel : ℕ) → left_of x ≤ fuel → ((a : A) → Shrinks (go a)) → left_of (and_then x go) ≤ fuel
after (done a left) go fuel le next = let more = (next a).within left in omega arith
after (fault k left) go fuel le next = le

bind : {A B : Type 0} (run : Run A) (go : A → Run B) → Shrinks run → ((a : A) → Shrinks (go a)) → Shrinks (run >>= go)
bind run go first next = record { within = λ fuel. after (run fuel) go fuel (first.within fuel) next }

enter_within : {A : Type 0} (run : Run A) → Shrinks run → (fuel : ℕ) → left_of (enter run fuel) ≤ fuel
enter_within run h zero = omega arith
enter_within run h (suc fuel) = let le = h.within fuel in omega arith

-- it also costs a unit
record Pays {A : Type 0} (run : Run A) : Type 0 where
  shrinks : Shrinks run
  pays : (left : ℕ) → left_of (run (suc left)) ≤ left

entering : {A : Type 0} (run : Run A) → Shrinks run → Pays (enter run)
entering run h = record { shrinks = record { within = enter_within run h }; pays = h.within }

answering : {A : Type 0} (a : Result A ℕ) → Shrinks (answer a)
answering (Ok a) = record { within = λ fuel. omega arith }
answering (Err k) = record { within = λ fuel. omega arith }

giving : {A : Type 0} (a : A) → Shrinks (give a)
giving a = record { within = λ fuel. omega arith }

faulting : {A : Type 0} (k : ℕ) → Shrinks {A = A} (fault k)
faulting k = record { within = λ fuel. omega arith }

on-text : {A : Type 0} (v : Value) (go : List ℕ → Run A) → ((s : List ℕ) → Shrinks (go s)) → Shrinks (with_text v go)
on-text (text s) go h = h s
on-text (number n) go h = faulting _
on-text (list ts) go h = faulting _

on-number : {A : Type 0} (v : Value) (go : ℤ → Run A) → ((n : ℤ) → Shrinks (go n)) → Shrinks (with_number v go)
on-number (text s) go h = faulting _
on-number (number n) go h = h n
on-number (list ts) go h = faulting _

on-list : {A : Type 0} (v : Value) (go : List (List ℕ) → Run A) → ((ts : List (List ℕ)) → Shrinks (go ts)) → Shrinks (with_list v go)
on-list (text s) go h = faulting _
on-list (number n) go h = faulting _
on-list (list ts) go h = h ts

either : (b : Bool) (x y : Run Value) → Shrinks x → Shrinks y → Shrinks (if b then x else y)
either true x y p q = p
either false x y p q = q

each : (body : List ℕ → Run Value) → ((s : List ℕ) → Shrinks (body s)) → (so_far : Value) (items : List (List ℕ)) → Shrinks (each_from body so_far items)
each body h so_far [] = giving so_far
each body h so_far (item ∷ items) = bind (body item) _ (h item) (λ v. bind _ _ (answering _) (λ more. each body h more items))

keeping : (body : List ℕ → Run Value) → ((s : List ℕ) → Shrinks (body s)) → (items : List (List ℕ)) → Shrinks (kept body items)
keeping body h [] = giving []
keeping body h (item ∷ items) = bind (body item) _ (h item) (λ v. on-number v _ (λ n. bind (kept body items) _ (keeping body h items) (λ ts. giving _)))

folding : (body : Value → List ℕ → Run Value) → ((v : Value) (s : List ℕ) → Shrinks (body v s)) → (so_far : Value) (items : List (List ℕ)) → Shrinks (folded body so_far items)
folding body h so_far [] = giving so_far
folding body h so_far (item ∷ items) = bind (body so_far item) _ (h so_far item) (λ next. folding body h next items)

-- ---- nodes

abbrev Always : Meaning → Type 0
Always m = (names : Names Value) → Pays (m names)

abbrev Proved : Type 0
Proved = (n : Node) × Always (gives n)

abbrev node_of : Proved → Node
node_of p = p.0

texts : (names : Names Value) (parts : List (Arc Proved Global)) → Shrinks (all_texts (map (λ (a : Arc Meaning Global). a.value names) (map (λ (a : Arc Node Global). record { ptr = a.ptr; value = gives a.value }) (map (λ (a : Arc Proved Global). record { ptr = a.ptr; value = a.value.0 }) parts))))
texts names [] = giving []
texts names (part ∷ parts) = bind _ _ ((part.value.1 names).shrinks) (λ v. on-text v _ (λ s. bind _ _ (texts names parts) (λ ts. giving _)))

keeps : (y : Node-F Proved) → Always (entered (map-Node Node Meaning gives (map-Node Proved Node node_of y)))
keeps (form.Known v) names = entering _ (giving _)
keeps (form.Unknown f) names = entering _ (faulting _)
keeps (form.Var x) names = entering _ (answering _)
keeps (form.Unary op a) names = entering _ (bind _ _ ((a.value.1 names).shrinks) (λ v. answering _))
keeps (form.Binary op a b) names = entering _ (bind _ _ ((a.value.1 names).shrinks) (λ v. bind _ _ ((b.value.1 names).shrinks) (λ w. answering _)))
keeps (form.Sub a i j) names = entering _ (bind _ _ ((a.value.1 names).shrinks) (λ v. bind _ _ ((i.value.1 names).shrinks) (λ w. bind _ _ ((j.value.1 names).shrinks) (λ u. answering _))))
keeps (form.If c a b) names = entering _ (bind _ _ ((c.value.1 names).shrinks) (λ v. on-number v _ (λ n. either _ _ _ ((b.value.1 names).shrinks) ((a.value.1 names).shrinks))))
keeps (form.Let x a b) names = entering _ (bind _ _ ((a.value.1 names).shrinks) (λ v. (b.value.1 _).shrinks))
keeps (form.List parts) names = entering _ (bind _ _ (texts names parts.value) (λ ts. answering _))
keeps (form.Each x m a) names = entering _ (bind _ _ ((m.value.1 names).shrinks) (λ v. on-list v _ (λ ts. each _ (λ s. (a.value.1 _).shrinks) _ ts)))
keeps (form.Keep x m a) names = entering _ (bind _ _ ((m.value.1 names).shrinks) (λ v. bind _ _ (on-list v _ (λ ts. keeping _ (λ s. (a.value.1 _).shrinks) ts)) (λ ts. giving _)))
keeps (form.Fold s x m i a) names = entering _ (bind _ _ ((m.value.1 names).shrinks) (λ v. bind _ _ ((i.value.1 names).shrinks) (λ start. on-list v _ (λ ts. folding _ (λ so_far item. (a.value.1 _).shrinks) start ts))))

paying : (n : Node) → Always (gives n)
paying = ind-Node (λ n. Always (gives n)) (λ x y is.
    subst (λ z. Always (gives (roll-Node z))) is (subst Always (sym (gives-roll (map-Node Proved Node node_of y))) (keeps y)))

shrinks : (n : Node) (names : Names Value) → Shrinks (gives n names)
shrinks n names = (paying n names).shrinks

-- ---- frames

listing : (names : Names Value) (parts : List (Arc Node Global)) → Shrinks (all_texts (map (λ (a : Arc Node Global). gives a.value names) parts))
listing names [] = giving []
listing names (part ∷ parts) = bind _ _ (shrinks part.value names) (λ v. on-text v _ (λ s. bind _ _ (listing names parts) (λ ts. giving _)))

list_of : (so_far : List (List ℕ)) (names : Names Value) (parts : List (Arc Node Global)) → Shrinks (listed names so_far parts)
list_of so_far names parts = bind _ _ (listing names parts) (λ ts. answering _)

going_on : (f : Frame) (names : Names Value) (v : Value) → Shrinks (goes_on f names v)
going_on (frame.Unary op) names v = answering _
going_on (frame.Binary op b) names v = bind _ _ (shrinks b.value names) (λ w. answering _)
going_on (frame.BinaryEnd op w) names v = answering _
going_on (frame.Sub i j) names v = bind _ _ (shrinks i.value names) (λ p. bind _ _ (shrinks j.value names) (λ q. answering _))
going_on (frame.SubFrom w j) names v = bind _ _ (shrinks j.value names) (λ q. answering _)
going_on (frame.SubTo w p) names v = answering _
going_on (frame.If a b) names v = on-number v _ (λ n. either _ _ _ (shrinks b.value names) (shrinks a.value names))
going_on (frame.Let x b) names v = shrinks b.value _
going_on (frame.LetBody x w) names v = giving _
going_on (frame.List parts so_far) names v = on-text v _ (λ s. list_of (so_far ++ s ∷ []) names (drop (suc (length so_far)) parts.value))
going_on (frame.Each x a) names v = on-list v _ (λ ts. each _ (λ s. shrinks a.value _) _ ts)
going_on (frame.EachItem walk so_far) names v = bind _ _ (answering (on_list_text append (list so_far) v)) (λ more. each (at_item walk names) (λ s. shrinks walk.body.value _) more (later walk))
going_on (frame.Keep x a) names v = bind _ _ (on-list v _ (λ ts. keeping _ (λ s. shrinks a.value _) ts)) (λ ts. giving _)
going_on (frame.KeepItem walk so_far) names v = on-number v _ (λ n. bind _ _ (keeping _ (λ s. shrinks walk.body.value _) _) (λ ts. giving _))
going_on (frame.Fold s x i a) names v = bind _ _ (shrinks i.value names) (λ start. on-list v _ (λ ts. folding _ (λ so_far item. shrinks a.value _) start ts))
going_on (frame.FoldStart s x w a) names v = on-list _ _ (λ ts. folding _ (λ so_far item. shrinks a.value _) v ts)
going_on (frame.FoldItem s so_far walk) names v = folding _ (λ so_far item. shrinks walk.body.value _) v _

resuming : (stack : List Frame) (x : Ending Value) (fuel : ℕ) → left_of x ≤ fuel → left_of (resume stack x) ≤ fuel
resuming [] x fuel le = le
resuming (f ∷ fs) x fuel le = resuming fs (and_then x (goes_on f (names_of fs))) fuel (after x (goes_on f (names_of fs)) fuel le (going_on f (names_of fs)))

left_is : (x : Ending Value) → units_left x ≡ left_of x
left_is (done v left) = refl
left_is (fault k left) = refl

-- a node that is entered costs a unit
pub costs : (n : Node) (stack : List Frame) (left : ℕ) → 1 ≤ left → units_left (resume stack (gives n (names_of stack) left)) < left
costs n stack zero has = absurd (omega arith)
costs n stack (suc left) has =
    let le = resuming stack (gives n (names_of stack) (suc left)) left ((paying n (names_of stack)).pays left) in
    let same = left_is (resume stack (gives n (names_of stack) (suc left))) in
    omega (arith, le, same)
