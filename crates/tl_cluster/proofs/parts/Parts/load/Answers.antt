use Rattle.std.proofs.Common.{◌≡◌, ℕ, ◌-◌, ◌∷◌, false, sym, ap, ◌∙◌, subst}
use Rattle.tl_types.specs.Block.{FileOutcome}
use Rattle.tl_types.specs.Outcome.{digest_of}
use Rattle.tl_types.specs.declared.file_id.FileId.{FileId}
use Rattle.tl_model.specs.declared.event.Act.TheVariants.{Load, Served}
use Rattle.tl_fleet.specs.Workers.{Workers, all_touched, installed}
use Rattle.tl_fleet.specs.Workers as fleet
use Rattle.tl_cluster.specs.Main.{with_loaded, with_served}
use Rattle.tl_cluster.specs.Stands.{Agrees, IsRoomierOnly, PartsState}
use Rattle.tl_cluster.proofs.Carry.{err_of, ok_of}
use Rattle.tl_cluster.proofs.Loading.{loaded}
use Rattle.tl_cluster.proofs.Rooms.{absent-workers, only-roomier, with-room}
use Rattle.tl_cluster.proofs.parts.Parts.load.Goals as goal

pub install-requires-clause-absent : goal.install-requires-clause-absent
install-requires-clause-absent g c =
    let now : PartsState _ = c.args.self.now in
    let room = c.in_ok-reserve.ensures.ok in
    let file = c.args.block.file in
    subst (λ (p : PartsState _). fleet.is_resident file p.workers ≡ false) (sym (c.self.view_is ∙ room.is))
    (absent-workers g.T.Ticket.tells g.T.Ticket.content now file c.requires.stands.agrees c.requires.nowhere)

pub returns-then-is_err-clause-err : goal.returns-then-is_err-clause-err
returns-then-is_err-clause-err g c =
    let inside = c.self.inside in
    let room = c.in_ok-reserve.ensures.ok in
    let same : c.install.new.self ≡ inside.fleet =
    err_of c.install.result (c.install.new.self ≡ inside.fleet) c.install.ensures.err (sym c.is_err.ensures.value ∙ c.if-is_err.true) in
    subst (IsRoomierOnly g.T.Ticket.tells g.T.Ticket.content c.args.self.now) (sym ((λ i. record {
      header = inside.ledger.header;
      events = inside.ledger.events;
      spare = inside.ledger.spare;
      workers = same i;
      vault = inside.vault;
    }) ∙ c.self.view_is))
    (only-roomier g.T.Ticket.tells g.T.Ticket.content 1 c.args.self.now c.reserve.new.self room c.requires.stands)

pub returns-clause-agrees : goal.returns-clause-agrees
returns-clause-agrees g c =
    let now : PartsState _ = c.args.self.now in
    let inside = c.self.inside in
    let actor = c.args.actor in
    let worker = c.args.worker in
    let block : FileOutcome = c.args.block in
    let digest = c.digest-digest.result in
    let room = c.in_ok-reserve.ensures.ok in
    let brought : c.install.new.self ≡ installed worker block inside.fleet =
    ok_of c.install.result (c.install.new.self ≡ installed worker block inside.fleet) c.install.ensures.ok (sym c.is_err.ensures.value ∙ c.if-is_err.false) in
    let file : c.file-file.result ≡ block.file = c.file-file.ensures ∙ ap (λ (b : FileOutcome). b.file) c.get.ensures in
    let digests : digest.0 ≡ digest_of block.outcome = c.digest-digest.ensures ∙ ap (λ (b : FileOutcome). digest_of b.outcome) c.get-2.ensures in
    let workers : c.touch.new.self ≡ all_touched block.file (installed worker block inside.fleet) =
    c.touch.ensures.touched ∙ (λ i. all_touched (file i) (brought i)) in
    let events : c.append-2.new.self.events
    ≡ record { actor = actor; act = Served block.file digest } ∷ record { actor = actor; act = Load worker block.file } ∷ inside.ledger.events =
    c.append-2.ensures.events ∙ (λ i. record { actor = actor; act = Served (file i) digest } ∷ c.append.ensures.events i)
    ∙ ap (λ (f : FileId). record { actor = actor; act = Served block.file digest } ∷ record { actor = actor; act = Load worker f } ∷ inside.ledger.events) file in
    let header = c.append-2.ensures.header ∙ c.append.ensures.header in
    let spare : c.append-2.new.self.spare ≡ inside.ledger.spare - 1 - 1 = c.append-2.ensures.spare ∙ ap (λ (n : ℕ). n - 1) c.append.ensures.spare in
    subst (Agrees g.T.Ticket.tells g.T.Ticket.content) (sym ((λ i. record {
      header = header i;
      events = events i;
      spare = spare i;
      workers = workers i;
      vault = inside.vault;
    }) ∙ ap (λ (p : PartsState _). with_served actor block.file digest (with_loaded actor worker block p)) (c.self.view_is ∙ room.is)))
    (loaded g.T.Ticket.tells g.T.Ticket.content (record now { spare = c.reserve.new.self.spare }) actor worker block digest
    (with-room g.T.Ticket.tells g.T.Ticket.content 1 now c.reserve.new.self room c.requires.stands)
    c.requires.actor c.requires.worker c.requires.reading c.requires.saved c.requires.value c.requires.nowhere digests room.room)
