-- The file that an event leaves without a name.
use Rattle.std.proofs.Common.{◌≡◌, ℕ, false, List, Option, Some, None, if◌then◌else◌, Ok, Err, refl, ap, ◌∙◌, subst}
use Rattle.tl_types.specs.declared.actor.Actor.{Actor}
use Rattle.tl_types.specs.declared.file_id.FileId.{FileId}
use Rattle.tl_model.specs.declared.command.Command.{Command}
use Rattle.tl_model.specs.declared.command.Command.TheVariants.{Delete}
use Rattle.tl_model.specs.declared.event.Act.{Act}
use Rattle.tl_model.specs.declared.event.Act.TheVariants.{Call}
use Rattle.tl_model.specs.declared.event.Event.{Event}
use Rattle.tl_model.specs.declared.reply.Reply.{Reply}
use Rattle.tl_model.specs.declared.reply.Reply.TheVariants.{Fine, NotEmpty}
use Rattle.tl_model.specs.History.{calls_of, names, names_of}
use Rattle.tl_model.specs.Journal.{calls_in}
use Rattle.tl_model.specs.Namespace.{Names, Node, PathOf, dir, file, node_at}
use Rattle.tl_model.specs.Past.{act_with, event_with, without_tickets}
use Rattle.tl_model.specs.Replies.{Found, and_then, is_full, refusal_of, reply_to, unless, walk, want_file}
use Rattle.tl_model.specs.Rules.{ok_file}
use Rattle.tl_laws.proofs.Paths.{walk-finds}
use Rattle.tl_laws.proofs.Refusals.{OnlyRefusesOr, walk-refuses}
use Rattle.tl_laws.proofs.Tickets.{names-with}
use Rattle.tl_steps.specs.Steps.{UnnamesOnly}
use Rattle.tl_edge.specs.Names.{deletes, file_in}
use Rattle.tl_ledger.specs.Naming.{deleted_file, file_named, gone_after}

-- an act that is no call deletes nothing
pub deletes-none : {T : Type 0} (act : Act T) → calls_in act ≡ 0 → deletes (act_with {U = Unit {0}} (λ _. tt) act) ≡ false
deletes-none (Call command reply) h = absurd (cc)
deletes-none act h = refl

-- ---- a delete

file-of : (node : Node) → file_in (Some node) ≡ ok_file (want_file node)
file-of dir = refl
file-of (file f pinned) = refl

by-walk : (names : Names) (path : PathOf) (w : Found) → walk names path ≡ w → OnlyRefusesOr w →
    Fine ≡ unless (refusal_of (and_then w (λ node. if is_full names path node then Err NotEmpty else Ok node))) Fine →
    file_in (node_at names path) ≡ ok_file (and_then w want_file)
by-walk names path (Ok node) e refuses is = ap file_in (walk-finds names path node e) ∙ file-of node
by-walk names path (Err Fine) e refuses is = absurd (cc)
by-walk names path (Err r) e refuses is = absurd (cc)

-- a delete that is done is of what stands at its path
deleted : (names : Names) (count : ℕ) (path : PathOf) → Fine ≡ reply_to {T = Unit {0}} names count (Delete path) →
    file_in (node_at names path) ≡ file_named names path
deleted names count path is = by-walk names path (walk names path) refl (walk-refuses names path) is

-- ---- calls

-- a call leaves the file without a name that it was to delete, where it was answered as done, and else none
pub call-unnames : {T : Type 0} (events : List (Event T)) (actor : Actor) (command : Command T) (reply : Reply) (count : ℕ) →
    reply ≡ reply_to (names_of (calls_of events)) count command →
    let event : Event T = record { actor = actor; act = Call command reply } in
    (deletes (act_with {U = Unit {0}} (λ _. tt) event.act) ≡ false → UnnamesOnly (without_tickets events) (event_with (λ _. tt) event) None) →
    ((path : PathOf) → event.act ≡ Call (Delete path) Fine →
    UnnamesOnly (without_tickets events) (event_with (λ _. tt) event) (file_in (node_at (names (without_tickets events)) path))) →
    UnnamesOnly (without_tickets events) (event_with (λ _. tt) event) (gone_after reply (deleted_file (names_of (calls_of events)) command))
call-unnames {T} events actor (Delete path) Fine count is others own =
    let event : Event T = record { actor = actor; act = Call (Delete path) Fine } in
    subst (λ (gone : Option FileId). UnnamesOnly (without_tickets events) (event_with (λ _. tt) event) gone)
    (ap (λ ns. file_in (node_at ns path)) (names-with (λ _. tt) events) ∙ deleted (names_of (calls_of events)) count path is)
    (own path refl)
call-unnames events actor command Fine count is others own = others refl
call-unnames events actor command reply count is others own = others refl
