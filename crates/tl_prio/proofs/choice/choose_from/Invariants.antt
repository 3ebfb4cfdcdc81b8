use Rattle.std.proofs.Common.{◌≡◌, drop}
use Rattle.tl_model.specs.Past.{Past}
use Rattle.tl_model.specs.Plan.{claims, has_turn_before, is_ready, is_task}
use Rattle.tl_prio.specs.Data.{HasClaims, choice_from, waiting_from}
use Rattle.tl_prio.proofs.choice.choose_from.Given as goal

abbrev pub invariant-loop-i : goal.invariant-loop-i
invariant-loop-i g l = (past : Past) → g.F.Facts.speaks_of l.facts past → HasClaims l.turns (claims past) →
    (l.waiting ≡ waiting_from (is_task past) l.seats l.records l.initial.waiting (drop l.i l.records))
    × (l.best ≡ choice_from (has_turn_before l.turns.rule past) (is_task past) (is_ready past) l.seats l.records l.initial.waiting (drop l.i l.records))
