-- What a node gives, which is what its expression means.
use Rattle.std.specs.Prelude.{if◌then◌else◌, [], ◌∷◌, map, ok_or}
use Rattle.tl_eval.specs.declared.node.Node.{Node}
use Rattle.tl_eval.specs.declared.node.Node.TheOpen as node
use Rattle.tl_eval.specs.declared.node.Node.TheOpen.{Node-F}
use Rattle.tl_eval.specs.declared.node.Node.TheBlock.{laid-Node}
use Rattle.tl_eval.specs.declared.node.Node.TheFolds.{family, steps}
use Rattle.tl_eval.specs.Held.{meant, code_of}
use Rattle.tl_eval.specs.Ops.{of_one, of_two, of_sub}
use Rattle.tl_lang.specs.Value.{text, list, no_meaning, list_within}
use Rattle.tl_lang.specs.Numbers.{is_zero}
use Rattle.tl_lang.specs.Fuel.{fault, enter, give, answer, ◌>>=◌}
use Rattle.tl_lang.specs.Names.{visible}
use Rattle.tl_lang.specs.Meaning.{Meaning, one, two, three, with_number, with_list, all_texts, each_from, kept, folded}

-- what a node gives, once it was entered
abbrev pub inside : Node-F Meaning → Meaning
inside (node.Known v) names = give (meant v)
inside (node.Unknown f) names = fault (code_of f)
inside (node.Var x) names = answer (ok_or (visible x names) no_meaning)
inside (node.Unary op a) names = one (of_one op) (a.value names)
inside (node.Binary op a b) names = two (of_two op) (a.value names) (b.value names)
inside (node.Sub a i j) names = three of_sub (a.value names) (i.value names) (j.value names)
inside (node.If c a b) names = do
  v ← c.value names
  with_number v (λ n. if is_zero n then b.value names else a.value names)
inside (node.Let x a b) names = do
  v ← a.value names
  b.value ((x, v) ∷ names)
inside (node.List parts) names = do
  ts ← all_texts (map (λ a. a.value names) parts.value)
  answer (list_within ts)
inside (node.Each x m a) names = do
  v ← m.value names
  with_list v (each_from (λ item. a.value ((x, text item) ∷ names)) (list []))
inside (node.Keep x m a) names = do
  v ← m.value names
  ts ← with_list v (kept (λ item. a.value ((x, text item) ∷ names)))
  give (list ts)
inside (node.Fold s x m i a) names = do
  v ← m.value names
  start ← i.value names
  with_list v (folded (λ so_far item. a.value ((x, text item) ∷ (s, so_far) ∷ names)) start)

abbrev pub entered : Node-F Meaning → Meaning
entered n names = enter (inside n names)

-- what a node gives, from the names that are visible and the units of fuel that are left
abbrev pub gives : Node → Meaning
gives = laid-Node (family Meaning) (steps Meaning entered)
