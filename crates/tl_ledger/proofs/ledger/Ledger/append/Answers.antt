use Rattle.std.proofs.Common.{◌<◌, ◌^◌, ℕ, List, length, sym, ap, ◌∙◌, subst}
use Rattle.tl_model.specs.declared.event.Event.{Event}
use Rattle.tl_model.specs.declared.header.Header.{Header}
use Rattle.tl_model.specs.History.{HistoryOf, calls_of}
use Rattle.tl_model.specs.Past.{without_tickets}
use Rattle.tl_model.specs.Rules.{lawful_judge}
use Rattle.tl_ledger.specs.Following.{Follows}
use Rattle.tl_ledger.specs.Parts.{FollowPast}
use Rattle.tl_ledger.proofs.Follow.{accepts-none, followed-by, no-call}
use Rattle.tl_ledger.proofs.Unnamed.{deletes-none}
use Rattle.tl_ledger.proofs.ledger.Ledger.append.Goals as goal

pub note-requires : goal.note-requires
note-requires g c = accepts-none c.args.event.act c.requires.no_call

pub invariant_of-self : goal.invariant_of-self
invariant_of-self g c =
    let events = c.self.inside.journal.events in
    let header = c.self.inside.journal.header in (
      subst (λ (es : List (Event _)). Follows c.self.inside.names c.self.inside.next.0 (calls_of es)) (sym c.append.ensures.events)
          (subst (λ (calls : HistoryOf _). Follows c.self.inside.names c.self.inside.next.0 calls)
          (sym (no-call c.args.event.actor c.args.event.act (calls_of events) c.requires.no_call)) c.self.invariant.0),
      subst (λ (h : Header). FollowPast c.note.new.self h c.append.new.self.events) (sym c.append.ensures.header)
          (subst (λ (es : List (Event _)). FollowPast c.note.new.self header es) (sym c.append.ensures.events)
          (followed-by c.self.inside.parts c.note.new.self header events c.args.event c.self.invariant.1 c.note.ensures.rule
          (c.note.ensures.slots (without_tickets events))
          (λ stand ok. c.note.ensures.stand header events stand (record {
            permitted = ok;
            few = subst (λ (n : ℕ). n < 2 ^ 64) (c.len-count.ensures ∙ ap (λ (es : List (Event _)). length es) c.append.ensures.events) c.len-count.type_inv;
            unnames = c.only_deletes_unname.ensures lawful_judge header c.args.event events ok (deletes-none c.args.event.act c.requires.no_call);
          })))),
    )
