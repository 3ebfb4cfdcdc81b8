-- A job that is done leaves fewer tasks.
use Rattle.std.specs.Prelude.{◌∷◌}
use Rattle.tl_types.specs.declared.actor.Actor.{Actor}
use Rattle.tl_types.specs.declared.record_id.RecordId.{RecordId}
use Rattle.tl_types.specs.declared.worker_id.WorkerId.{WorkerId}
use Rattle.tl_model.specs.declared.event.Act.TheVariants.{Claim, Done}
use Rattle.tl_model.specs.Past.{Past}

abbrev pub after_done : Actor → WorkerId → RecordId → Past → Past
after_done actor worker made past = record { actor = actor; act = Done worker made } ∷ record { actor = actor; act = Claim worker made } ∷ past
