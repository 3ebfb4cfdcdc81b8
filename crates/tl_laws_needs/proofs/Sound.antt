-- What is known of the past of a journal in which nothing is owed.
use Rattle.std.proofs.Common.{◌≡◌, true, List, ◌∷◌, Some, is_none, sym, subst}
use Rattle.std.specs.List.{AllByRecursion}
use Rattle.std.proofs.lemmas.Bool.{and_parts}
use Rattle.tl_types.specs.declared.file_id.FileId.{FileId}
use Rattle.tl_types.specs.declared.record_id.RecordId.{RecordId}
use Rattle.tl_model.specs.declared.event.Event.{Event}
use Rattle.tl_model.specs.declared.header.Header.{Header}
use Rattle.tl_model.specs.declared.record.Record.TheVariants as kind
use Rattle.tl_model.specs.Past.{Past, without_tickets}
use Rattle.tl_model.specs.History.{names, records, record_at}
use Rattle.tl_model.specs.Residency.{is_saved}
use Rattle.tl_model.specs.Rules.{Judge, is_permitted, broken, all_permitted, is_quiet, holds}
use Rattle.tl_laws.proofs.Permits.{permitted_of}
use Rattle.tl_laws.specs.Numbers.{Numbered}
use Rattle.tl_laws.proofs.Numbering.{all-numbered}
use Rattle.tl_laws.specs.Order.{HasOlderInputs}
use Rattle.tl_laws.proofs.Order.{all-ordered}
use Rattle.tl_laws.specs.Made.{IsMadeOf}
use Rattle.tl_laws.proofs.Made.{past-made}
use Rattle.tl_laws.proofs.Saves.{quiet-saves}
use Rattle.tl_laws.proofs.Tickets.{records-with}

-- records are numbered, of older inputs; names and inputs are theirs; each put's file is saved
pub record IsSound (past : Past) : Type 0 where
  pub numbers : Numbered (records past)
  pub older : AllByRecursion HasOlderInputs (records past)
  pub made : IsMadeOf (names past) (records past)
  pub saves : (f : FileId) (id : RecordId) → record_at past f.rec ≡ Some (kind.Put id) → f.out ≡ 0 → is_saved past f ≡ true

-- an event of such a journal is permitted by its own rule
pub permitted-last : {T : Type 0} (judge : Judge T) (header : Header) (e : Event T) (events : List (Event T)) → all_permitted judge header (e ∷ events) ≡ true →
    is_permitted judge header events (without_tickets events) e.actor e.act ≡ true
permitted-last judge header e events ok =
    (permitted_of judge header events e (and_parts (is_none (broken judge header events e)) (all_permitted judge header events) ok).0).1

-- and so were those before it
pub permitted-before : {T : Type 0} (judge : Judge T) (header : Header) (e : Event T) (events : List (Event T)) → all_permitted judge header (e ∷ events) ≡ true →
    all_permitted judge header events ≡ true
permitted-before judge header e events ok = (and_parts (is_none (broken judge header events e)) (all_permitted judge header events) ok).1

pub past-numbered : {T : Type 0} (judge : Judge T) (header : Header) (events : List (Event T)) → all_permitted judge header events ≡ true →
    Numbered (records (without_tickets events))
past-numbered judge header events ok = subst Numbered (sym (records-with (λ _. tt) events)) (all-numbered judge header events ok)

-- the past of a journal that a judge passes is sound
pub sound-of : {T : Type 0} (judge : Judge T) (header : Header) (events : List (Event T)) → holds judge header events ≡ true → IsSound (without_tickets events)
sound-of judge header events h =
    let ok = (and_parts (all_permitted judge header events) (is_quiet judge events) h).0 in
    record {
      numbers = past-numbered judge header events ok;
      older = subst (AllByRecursion HasOlderInputs) (sym (records-with (λ _. tt) events)) (all-ordered judge header events ok).older;
      made = past-made judge header events ok;
      saves = quiet-saves judge header events h;
    }
