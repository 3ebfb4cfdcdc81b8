use Rattle.std.proofs.Common.{◌≡◌, true, is_some, Some, subst}
use Rattle.tl_types.specs.Block.{FileOutcome}
use Rattle.tl_types.specs.Outcome.{digest_of, outcome_size}
use Rattle.tl_types.specs.declared.file_id.FileId.{FileId}
use Rattle.tl_model.specs.Residency.{SavedAs, is_resident, saved_as}
use Rattle.tl_model.specs.Rules.{is_legal}
use Rattle.tl_model.specs.Values.{value}
use Rattle.tl_cluster.specs.State.{State, held, past_of, told_of}
use Rattle.tl_cluster.proofs.Looking.{saved-fact}
use Rattle.tl_cluster.proofs.Steps.{held-resident, stands-legal}
use Rattle.tl_cluster.proofs.Turning.{held-file, held-value}
use Rattle.tl_cluster.proofs.cluster.Cluster.stands.Goals as goal

pub returns-clause-legal : goal.returns-clause-legal
returns-clause-legal g c =
    subst (λ (s : State _). g.T.Ticket.tells ≡ true → is_legal s.header (told_of g.T.Ticket.content s) ≡ true) c.self.view_is
    (stands-legal g.T.Ticket.tells g.T.Ticket.content c.self.inside.parts c.self.invariant)

pub returns-clause-resident : goal.returns-clause-resident
returns-clause-resident g c =
    subst (λ (s : State _). (f : FileId) → is_some (held f s.workers) ≡ is_resident (past_of s) f) c.self.view_is
    (held-resident g.T.Ticket.tells g.T.Ticket.content c.self.inside.parts c.self.invariant.agrees)

pub returns-clause-of : goal.returns-clause-of
returns-clause-of g c =
    subst (λ (s : State _). (f : FileId) (block : FileOutcome) → held f s.workers ≡ Some block → block.file ≡ f) c.self.view_is
    (held-file c.self.inside.parts)

pub returns-clause-values : goal.returns-clause-values
returns-clause-values g c =
    subst (λ (s : State _). (f : FileId) (block : FileOutcome) → held f s.workers ≡ Some block → g.T.Ticket.tells ≡ true →
    block.outcome ≡ value (told_of g.T.Ticket.content s) f) c.self.view_is
    (held-value g.T.Ticket.tells g.T.Ticket.content c.self.inside.parts c.self.invariant.agrees)

pub returns-clause-saved : goal.returns-clause-saved
returns-clause-saved g c =
    subst (λ (s : State _). (f : FileId) (known : SavedAs) → saved_as (past_of s) f ≡ Some known → g.T.Ticket.tells ≡ true →
    (known.size ≡ outcome_size (value (told_of g.T.Ticket.content s) f)) × (known.digest.0 ≡ digest_of (value (told_of g.T.Ticket.content s) f))) c.self.view_is
    (saved-fact g.T.Ticket.tells g.T.Ticket.content c.self.inside.parts c.self.invariant.agrees)
