use Rattle.std.proofs.Common.{◌≡◌}
use Rattle.tl_model.specs.Past.{event_with}
use Rattle.tl_edge.specs.Data.{save_next}
use Rattle.tl_steps.proofs.Lists.{changed_first}
use Rattle.tl_edge.proofs.save.note_saves.Given as goal

abbrev pub invariant-loop-save : goal.invariant-loop-save
invariant-loop-save g l = l.saves ≡ changed_first l.save-index (save_next (event_with (λ _. tt) l.event)) l.initial.saves
