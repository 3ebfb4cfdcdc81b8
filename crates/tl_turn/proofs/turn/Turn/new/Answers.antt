use Rattle.std.proofs.Common.{[], ◌∷◌, ◌++◌, Some, sym, ap, ◌∙◌, subst}
use Rattle.atomic_table.specs.Table.{opening}
use Rattle.tl_turn.specs.Law.{Kept}
use Rattle.tl_turn.specs.Plays.{new_root}
use Rattle.tl_turn.proofs.Keeps.{opens}
use Rattle.tl_turn.proofs.turn.Turn.new.Goals as goal

pub new-requires : goal.new-requires
new-requires g c =
    let slots = c.in_default.ensures.items ∙ ap (λ xs. xs ++ Some c.args.state ∷ []) c.new-slots.ensures.items in
    subst (λ xs. Kept g.S.Told.maker g.S.Told.log (opening (0 ∷ 0 ∷ 0 ∷ []) xs new_root)) (sym slots) (opens g.S.Told.maker g.S.Told.log c.args.state c.requires)
