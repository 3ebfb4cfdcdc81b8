use Rattle.std.proofs.Common.{List, [], refl, sym, ◌∙◌, subst, arith}
use Rattle.tl_model.specs.declared.event.Event.{Event}
use Rattle.tl_model.specs.declared.header.Header.{Header}
use Rattle.tl_model.specs.History.{calls_of}
use Rattle.tl_ledger.specs.Following.{Follows}
use Rattle.tl_ledger.specs.Parts.{FollowPast, StandFor}
use Rattle.tl_ledger.proofs.ledger.Ledger.new.Goals as goal

pub invariant_of-result : goal.invariant_of-result
invariant_of-result g c = (
  subst (λ (es : List (Event _)). Follows c.in_ok-new.field-0 0 (calls_of es)) (sym c.new.ensures.events)
      (record { names = record { names = c.in_ok-new.ensures.names; pins = c.in_ok-new.ensures.pins }; counted = refl; few = omega arith }),
  subst (λ (es : List (Event _)). FollowPast c.new-3.result c.new.result.header es) (sym c.new.ensures.events)
      (record { rule = c.new-3.ensures.rule ∙ (λ i. (sym c.new.ensures.header i).order); slots = c.new-3.ensures.slots; stand = λ ok. subst (λ (h : Header). StandFor h c.new-3.result []) (sym c.new.ensures.header) c.new-3.ensures.stand }),
)
