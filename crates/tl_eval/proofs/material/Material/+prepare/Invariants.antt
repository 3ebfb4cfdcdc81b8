use Rattle.std.proofs.Common.{◌≡◌, map, take}
use Rattle.tl_eval.specs.Materials.{given_of}
use Rattle.tl_eval.specs.Nodes.{gives}
use Rattle.tl_lang.specs.Meaning.{evaluate}
use Rattle.tl_eval.proofs.material.Material.+prepare.Given as goal

abbrev pub invariant-prepare_all-loop-expr : goal.invariant-prepare_all-loop-expr
invariant-prepare_all-loop-expr l = map (λ node. gives node.value) l.nodes ≡ map (evaluate (given_of l.self)) (take l.expr-index l.exprs)
