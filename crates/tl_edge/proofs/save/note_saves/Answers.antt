use Rattle.std.proofs.Common.{rules, ◌∙◌, ap, slice_set}
use Rattle.tl_model.specs.Past.{event_with}
use Rattle.tl_edge.specs.Data.{save_next}
use Rattle.tl_steps.proofs.Lists.{changed_all, changed_first, changed_next}
use Rattle.tl_edge.proofs.save.note_saves.Goals as goal

pub loop-save-preserved : goal.loop-save-preserved
loop-save-preserved g c =
    ap (λ x. slice_set c.loop-save.saves c.loop-save.save-index x) c.save_next.ensures
    ∙ changed_next c.args.saves.now c.loop-save.saves c.loop-save.save-index _ (save_next (event_with (λ _. tt) c.args.event.now)) c.loop-save.invariant (search rules)

pub returns : goal.returns
returns g c =
    c.loop-save.invariant
    ∙ ap (λ k. changed_first k (save_next (event_with (λ _. tt) c.args.event.now)) c.args.saves.now) (search rules)
    ∙ changed_all c.args.saves.now (save_next (event_with (λ _. tt) c.args.event.now))
