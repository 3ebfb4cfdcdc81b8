use Rattle.std.proofs.Common.{is_some, ap, ◌∙◌, sym}
use Rattle.tl_model.specs.Actors.{open_read}
use Rattle.tl_model.specs.Past.{without_tickets}
use Rattle.tl_cluster.specs.State.{State, past_of}
use Rattle.tl_cluster.proofs.Carry.{value_of}
use Rattle.tl_cluster.proofs.cluster.Cluster.shut.Goals as goal

pub give_up-requires-clause-reading : goal.give_up-requires-clause-reading
give_up-requires-clause-reading g c =
    let some = value_of (open_read (without_tickets c.self.inside.parts.events) c.args.actor)
    (ap (λ (s : State _). is_some (open_read (past_of s) c.args.actor)) c.self.view_is ∙ c.requires.reading) in
    (some.0, some.1, sym (c.file_read-file.ensures some.0 some.1))
