use Rattle.std.proofs.Common.{◌≡◌, ◌+◌, ◌-◌, ◌≤◌, ◌∷◌, sym, ap, ◌∙◌, subst, arith}
use Rattle.tl_model.specs.declared.event.Act.TheVariants.{Call}
use Rattle.tl_model.specs.History.{calls_of, reply_after}
use Rattle.tl_model.specs.Past.{without_tickets}
use Rattle.tl_fleet.specs.Order.{StandsInOrder}
use Rattle.tl_fleet.specs.Workers.{held_count}
use Rattle.tl_vault.specs.Vault.{has_place, saved_of}
use Rattle.tl_cluster.specs.Called.{file_to_free, freed, if_resident, put_made, with_freed, with_saved}
use Rattle.tl_cluster.specs.Calls.{CanKeep, kept_after, workers_without}
use Rattle.tl_cluster.specs.Stands.{Agrees, PartsState}
use Rattle.tl_cluster.proofs.Freeing.{any_call}
use Rattle.tl_cluster.proofs.Keeping.{can-keep, copied-made}
use Rattle.tl_cluster.proofs.parts.Parts.answer.Goals as goal

pub keep_put-requires-clause-place : goal.keep_put-requires-clause-place
keep_put-requires-clause-place g c =
    let now : PartsState _ = c.args.self.now in
    let reply = c.in_ok-number.reply in
    let is : reply ≡ reply_after (calls_of now.events) c.args.command =
    c.in_ok-number.ensures.reply ∙ ap (λ (p : PartsState _). reply_after (calls_of p.events) c.args.command) c.self.view_is in
    subst (λ (p : PartsState _). CanKeep reply c.args.put p.vault) (sym c.self.view_is)
    (can-keep g.T.Ticket.tells g.T.Ticket.content now c.args.actor c.args.command reply c.args.put
    (record {
      stands = c.requires.stands;
      is = is;
      client = c.requires.client;
      idle = c.requires.idle;
      fits = c.requires.fitting;
      bytes = c.requires.bytes;
    }) c.requires.copy c.requires.place)

pub returns-clause-agrees : goal.returns-clause-agrees
returns-clause-agrees g c =
    let now : PartsState _ = c.args.self.now in
    let events = now.events in
    let past = without_tickets events in
    let actor = c.args.actor in
    let command = c.args.command in
    let reply = c.in_ok-number.reply in
    let a : Agrees g.T.Ticket.tells g.T.Ticket.content now = c.requires.stands.agrees in
    let is : reply ≡ reply_after (calls_of events) command =
    c.in_ok-number.ensures.reply ∙ ap (λ (p : PartsState _). reply_after (calls_of p.events) command) c.self.view_is in
    let put = copied-made g.T.Ticket.content command reply c.args.put c.requires.copy in
    let file : c.file_to_free.result ≡ file_to_free events command =
    c.file_to_free.ensures ∙ ap (λ (p : PartsState _). file_to_free p.events command) c.self.view_is in
    let out : c.file_held-freed.result ≡ freed events command =
    c.file_held-freed.ensures a.sized.0 now.header past
    (subst (λ (p : PartsState _). StandsInOrder a.sized.0 now.header past p.workers) (sym c.self.view_is) a.sized.1)
    ∙ ap (if_resident past) file in
    let room : 51 + held_count now.workers ≤ now.spare = c.requires.room in
    let spare : c.self.inside.ledger.spare ≡ now.spare = ap (λ (p : PartsState _). p.spare) c.self.view_is in
    let used : c.call.new.self.spare ≡ c.self.inside.ledger.spare - 1 = c.in_ok-number.ensures.spare in
    let left : c.call.new.self.spare ≤ c.keep_put.new.ledger.spare + 1 = c.keep_put.ensures.spare in
    let after : c.keep_put.new.ledger.spare ≤ c.record_freed.new.ledger.spare + 1 = c.record_freed.ensures.spare in
    let enough : 48 + held_count now.workers ≤ c.record_freed.new.ledger.spare = omega arith in
    let header = c.record_freed.ensures.header ∙ c.keep_put.ensures.header ∙ c.in_ok-number.ensures.header
    ∙ ap (λ (p : PartsState _). p.header) c.self.view_is in
    let call : c.call.new.self.events ≡ record { actor = actor; act = Call command reply } ∷ events = c.in_ok-number.ensures.events
    ∙ ap (λ (p : PartsState _). record { actor = actor; act = Call command reply } ∷ p.events) c.self.view_is in
    let all = c.record_freed.ensures.events ∙ ap (λ o. with_freed actor o c.keep_put.new.ledger.events) out
    ∙ ap (with_freed actor (freed events command)) (c.keep_put.ensures.events ∙ ap (λ o. with_saved actor o c.call.new.self.events) put
    ∙ ap (with_saved actor (put_made reply command)) call) in
    let workers = c.take_out.ensures ∙ ap (λ o. workers_without o c.self.inside.fleet) out
    ∙ ap (λ (p : PartsState _). workers_without (freed events command) p.workers) c.self.view_is in
    subst (λ (p : PartsState _). Agrees g.T.Ticket.tells g.T.Ticket.content p) (sym (λ i. record {
      header = header i;
      events = all i;
      spare = c.record_freed.new.ledger.spare;
      workers = workers i;
      vault = c.keep_put.new.vault;
    }))
    (any_call g.T.Ticket.tells g.T.Ticket.content now actor command reply c.args.put c.keep_put.new.vault c.record_freed.new.ledger.spare
    (record {
      stands = c.requires.stands;
      is = is;
      client = c.requires.client;
      idle = c.requires.idle;
      fits = c.requires.fitting;
      bytes = c.requires.bytes;
    }) c.requires.copy
    (record {
      kept = λ f. c.keep_put.ensures.kept f ∙ ap (λ (p : PartsState _). kept_after reply c.args.put f (saved_of f p.vault)) c.self.view_is;
      places = λ f. c.keep_put.ensures.places f ∙ ap (λ (p : PartsState _). has_place f p.vault) c.self.view_is;
    }) enough)
