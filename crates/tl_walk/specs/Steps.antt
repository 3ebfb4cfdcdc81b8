-- What one event changes, for each answer that a walk keeps.
use Rattle.std.specs.Prelude.{Option, if◌then◌else◌}
use Rattle.tl_types.specs.Same.{actor_same}
use Rattle.tl_types.specs.declared.actor.Actor.{Actor}
use Rattle.tl_types.specs.declared.file_id.FileId.{FileId}
use Rattle.tl_model.specs.declared.event.Event.{Event}
use Rattle.tl_model.specs.Past.{Plain, event_with}
use Rattle.tl_model.specs.Actors.{OpenRead, OpenClaim, read_after, claim_after, claim_after_loss, save_after}

-- an event without its ticket
abbrev pub plain : {T : Type 0} → Event T → Plain
plain e = event_with (λ _. tt) e

abbrev pub read_step : Plain → Actor → Option OpenRead → Option OpenRead
read_step e actor before = if actor_same actor e.actor then read_after e.act before else before

abbrev pub claim_step : Plain → Actor → Option OpenClaim → Option OpenClaim
claim_step e actor before = claim_after_loss e.act (if actor_same actor e.actor then claim_after e.act before else before)

abbrev pub save_step : Plain → Actor → Option FileId → Option FileId
save_step e actor before = if actor_same actor e.actor then save_after e.act before else before
