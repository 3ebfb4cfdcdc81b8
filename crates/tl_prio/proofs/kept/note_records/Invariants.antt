use Rattle.std.proofs.Common.{◌≡◌}
use Rattle.tl_model.specs.Past.{act_with}
use Rattle.tl_steps.proofs.Lists.{changed_first}
use Rattle.tl_prio.specs.Data.{kept_after}
use Rattle.tl_prio.proofs.kept.note_records.Given as goal

abbrev pub invariant-loop-kept : goal.invariant-loop-kept
invariant-loop-kept g l = l.records ≡ changed_first l.kept-index (kept_after (act_with (λ _. tt) l.act)) l.initial.records
