use Rattle.std.proofs.Common.{◌≡◌, true, is_some, Some, subst}
use Rattle.tl_types.specs.Block.{FileOutcome}
use Rattle.tl_types.specs.Outcome.{digest_of, outcome_size}
use Rattle.tl_types.specs.declared.file_id.FileId.{FileId}
use Rattle.tl_model.specs.Past.{events_with}
use Rattle.tl_model.specs.Residency.{SavedAs, is_resident, saved_as}
use Rattle.tl_model.specs.Rules.{holds, is_lawful}
use Rattle.tl_model.specs.Values.{value}
use Rattle.tl_core.specs.Answers.{past_of}
use Rattle.tl_core.specs.Residents.{held}
use Rattle.tl_core.specs.State.{State, undropped_judge}
use Rattle.tl_core.proofs.Facts.{held-resident, held-fact, saved-fact}
use Rattle.tl_core.proofs.cluster.Cluster.stands.Goals as goal

pub returns : goal.returns
returns g c =
    let j = c.self.inside.journal in
    let residents = c.self.inside.residents.items in
    record {
      lawful = subst (λ (s : State _). is_lawful s.header s.events ≡ true) c.self.view_is c.self.invariant.lawful;
      told = subst (λ (s : State _). g.T.Ticket.tells ≡ true → holds (undropped_judge s.header) s.header (events_with g.T.Ticket.content s.events) ≡ true) c.self.view_is c.self.invariant.told;
      resident = subst (λ (s : State _). (f : FileId) → is_some (held f s.residents) ≡ is_resident (past_of s) f) c.self.view_is
          (held-resident g.T.Ticket.tells g.T.Ticket.content j.header j.events residents j.spare c.self.invariant);
      of = subst (λ (s : State _). (f : FileId) (block : FileOutcome) → held f s.residents ≡ Some block → block.file ≡ f) c.self.view_is
          (λ f block is. (held-fact g.T.Ticket.tells g.T.Ticket.content j.header j.events residents j.spare c.self.invariant f block is).0);
      values = subst (λ (s : State _). (f : FileId) (block : FileOutcome) → held f s.residents ≡ Some block → g.T.Ticket.tells ≡ true → block.outcome ≡ value (events_with g.T.Ticket.content s.events) f) c.self.view_is
          (λ f block is. (held-fact g.T.Ticket.tells g.T.Ticket.content j.header j.events residents j.spare c.self.invariant f block is).1);
      saved = subst (λ (s : State _). (f : FileId) (known : SavedAs) → saved_as (past_of s) f ≡ Some known → g.T.Ticket.tells ≡ true →
          (known.size ≡ outcome_size (value (events_with g.T.Ticket.content s.events) f)) × (known.digest.0 ≡ digest_of (value (events_with g.T.Ticket.content s.events) f))) c.self.view_is
          (saved-fact g.T.Ticket.tells g.T.Ticket.content j.header j.events residents j.spare c.self.invariant);
    }
