-- What a node gives, by the form at its top.
use denote.Hole.Carrier as carrier
use Rattle.std.proofs.Common.{◌≡◌, ℕ, if◌then◌else◌, List, [], ◌∷◌, map, ok_or, sym, ◌∙◌, ap}
use Rattle.std.proofs.lemmas.Simd.{map-map}
use Rattle.std.specs.Global.{Global}
use Rattle.std.specs.declared.sync.Arc.{Arc}
use Rattle.tl_eval.specs.declared.op.Unary.{Unary}
use Rattle.tl_eval.specs.declared.op.Binary.{Binary}
use Rattle.tl_eval.specs.declared.node.Node.{Node, out-Node, roll-Node}
use Rattle.tl_eval.specs.declared.node.Node.TheViews.{roll-out-Node}
use Rattle.tl_eval.specs.declared.node.Node.TheOpen as form
use Rattle.tl_eval.specs.declared.node.Node.TheOpen.{Node-F}
use Rattle.tl_eval.specs.declared.node.Node.TheVariants as node
use Rattle.tl_eval.specs.declared.node.Node.TheVariants.{rolls-Var, rolls-Unary, rolls-Binary, rolls-Sub, rolls-If, rolls-Let, rolls-List, rolls-Each, rolls-Keep, rolls-Fold}
use Rattle.tl_eval.specs.declared.node.Node.TheBlock.{the_members, member-Node, the_sigs, the_carrier}
use Rattle.tl_eval.specs.declared.node.Node.TheFolds.{family, steps, map-Node, map_is-Node}
use Rattle.tl_eval.specs.Ops.{of_one, of_two, of_sub}
use Rattle.tl_eval.specs.Nodes.{entered, gives}
use Rattle.tl_lang.specs.Value.{Value, text, list, no_meaning, no_fuel, list_within}
use Rattle.tl_lang.specs.Numbers.{is_zero}
use Rattle.tl_lang.specs.Fuel.{enter, give, fault, answer, ◌>>=◌}
use Rattle.tl_lang.specs.Names.{Names, visible}
use Rattle.tl_lang.specs.Meaning.{Meaning, one, two, three, with_number, with_list, all_texts, each_from, kept, folded}

pub gives-roll : (x : Node-F Node) → gives (roll-Node x) ≡ entered (map-Node Node Meaning gives x)
unfolding roll-Node carrier.fold carrier.roll
gives-roll x =
    carrier.fold-roll the_members the_sigs the_carrier (family Meaning) (steps Meaning entered) member-Node x
    ∙ (λ i. entered (map_is-Node (carrier.Values the_members the_sigs the_carrier) (family Meaning) (carrier.fold the_members the_sigs the_carrier (family Meaning) (steps Meaning entered)) x i))

abbrev Part : Type 0
Part = Arc Node Global

pub at-Var : (x : List ℕ) → gives (node.Var x) ≡ (λ names. enter (answer (ok_or (visible x names) no_meaning)))
at-Var x = ap gives (sym (rolls-Var x)) ∙ gives-roll (form.Var x)

pub at-Unary : (op : Unary) (a : Part) → gives (node.Unary op a) ≡ (λ names. enter (one (of_one op) (gives a.value names)))
at-Unary op a = ap gives (sym (rolls-Unary op a)) ∙ gives-roll (form.Unary op a)

pub at-Binary : (op : Binary) (a b : Part) → gives (node.Binary op a b) ≡ (λ names. enter (two (of_two op) (gives a.value names) (gives b.value names)))
at-Binary op a b = ap gives (sym (rolls-Binary op a b)) ∙ gives-roll (form.Binary op a b)

pub at-Sub : (a i j : Part) → gives (node.Sub a i j) ≡ (λ names. enter (three of_sub (gives a.value names) (gives i.value names) (gives j.value names)))
at-Sub a i j = ap gives (sym (rolls-Sub a i j)) ∙ gives-roll (form.Sub a i j)

pub at-If : (c a b : Part) → gives (node.If c a b) ≡ (λ names. enter (gives c.value names >>= (λ v. with_number v (λ n. if is_zero n then gives b.value names else gives a.value names))))
at-If c a b = ap gives (sym (rolls-If c a b)) ∙ gives-roll (form.If c a b)

pub at-Let : (x : List ℕ) (a b : Part) → gives (node.Let x a b) ≡ (λ names. enter (gives a.value names >>= (λ v. gives b.value ((x, v) ∷ names))))
at-Let x a b = ap gives (sym (rolls-Let x a b)) ∙ gives-roll (form.Let x a b)

pub at-List : (parts : Arc (List Part) Global) → gives (node.List parts) ≡ (λ names. enter (all_texts (map (λ a. gives a.value names) parts.value) >>= (λ ts. answer (list_within ts))))
at-List parts =
    ap gives (sym (rolls-List parts)) ∙ gives-roll (form.List parts)
    ∙ (λ i names. enter (all_texts (map-map (λ (m : Arc Meaning Global). m.value names) (λ (a : Part). record { ptr = a.ptr; value = gives a.value }) parts.value i) >>= (λ ts. answer (list_within ts))))

pub at-Each : (x : List ℕ) (m a : Part) → gives (node.Each x m a) ≡ (λ names. enter (gives m.value names >>= (λ v. with_list v (each_from (λ item. gives a.value ((x, text item) ∷ names)) (list [])))))
at-Each x m a = ap gives (sym (rolls-Each x m a)) ∙ gives-roll (form.Each x m a)

pub at-Keep : (x : List ℕ) (m a : Part) → gives (node.Keep x m a) ≡ (λ names. enter (gives m.value names >>= (λ v. with_list v (kept (λ item. gives a.value ((x, text item) ∷ names))) >>= (λ ts. give (list ts)))))
at-Keep x m a = ap gives (sym (rolls-Keep x m a)) ∙ gives-roll (form.Keep x m a)

pub at-Fold : (s x : List ℕ) (m i a : Part) → gives (node.Fold s x m i a) ≡ (λ names. enter (gives m.value names >>= (λ v. gives i.value names >>= (λ start. with_list v (folded (λ so_far item. gives a.value ((x, text item) ∷ (s, so_far) ∷ names)) start)))))
at-Fold s x m i a = ap gives (sym (rolls-Fold s x m i a)) ∙ gives-roll (form.Fold s x m i a)

-- with no fuel no node is entered
pub gives-none : (n : Node) (names : Names Value) → gives n names 0 ≡ fault no_fuel 0
gives-none n names = (λ i. gives (sym (roll-out-Node n) i) names 0) ∙ (λ i. gives-roll (out-Node n) i names 0)
