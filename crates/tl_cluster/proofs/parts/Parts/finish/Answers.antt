use Rattle.std.proofs.Common.{◌≡◌, ℕ, ◌+◌, ◌≤◌, false, length, sym, ap, ◌∙◌, subst, arith}
use Rattle.std.specs.List.{AllByRecursion}
use Rattle.tl_model.specs.Past.{without_tickets}
use Rattle.tl_store.specs.Contents.{Blocks}
use Rattle.tl_fleet.specs.Events.{files_of, installed_each}
use Rattle.tl_fleet.specs.Order.{Ascends}
use Rattle.tl_fleet.specs.Workers.{held_count, is_resident}
use Rattle.tl_cluster.specs.Jobs.{missing_of, with_done}
use Rattle.tl_cluster.specs.Stands.{Agrees, IsRoomierOnly, PartsState}
use Rattle.tl_cluster.proofs.Claiming.{lawful-numbered}
use Rattle.tl_cluster.proofs.Finishing.{finished, missing-absent, missing-ascend}
use Rattle.tl_cluster.proofs.Rooms.{only-roomier}
use Rattle.tl_cluster.proofs.parts.Parts.finish.Goals as goal

pub install_all-requires-clause-absent : goal.install_all-requires-clause-absent
install_all-requires-clause-absent g c =
    let now : PartsState _ = c.args.self.now in
    let room = c.in_ok-reserve.ensures.ok in
    let missing : Blocks = c.in_ok-missing.missing.items in
    subst (λ (p : PartsState _). AllByRecursion (λ block. is_resident block.file p.workers ≡ false) missing) (sym (c.self.view_is ∙ room.is))
    (subst (λ (bs : Blocks). AllByRecursion (λ block. is_resident block.file now.workers ≡ false) bs) (sym c.in_ok-missing.ensures)
    (missing-absent now.workers c.args.blocks.now))

pub install_all-requires-clause-ascending : goal.install_all-requires-clause-ascending
install_all-requires-clause-ascending g c =
    let now : PartsState _ = c.args.self.now in
    subst (λ (bs : Blocks). Ascends (files_of bs)) (sym c.in_ok-missing.ensures)
    (missing-ascend (without_tickets now.events) c.args.made now.workers c.args.blocks.now
    (lawful-numbered now.header now.events c.requires.stands.agrees.lawful) c.requires.outputs)

pub returns-in_default-clause-err : goal.returns-in_default-clause-err
returns-in_default-clause-err g c =
    let inside = c.self.inside in
    let same : c.install_all.new.self ≡ inside.fleet = c.in_default.ensures.err in
    subst (IsRoomierOnly g.T.Ticket.tells g.T.Ticket.content c.args.self.now) (sym ((λ i. record {
      header = inside.ledger.header;
      events = inside.ledger.events;
      spare = inside.ledger.spare;
      workers = same i;
      vault = inside.vault;
    }) ∙ c.self.view_is))
    (only-roomier g.T.Ticket.tells g.T.Ticket.content c.len.result c.args.self.now c.reserve.new.self c.in_ok-reserve.ensures.ok c.requires.stands)

pub returns-clause-agrees : goal.returns-clause-agrees
returns-clause-agrees g c =
    let now : PartsState _ = c.args.self.now in
    let inside = c.self.inside in
    let worker = c.args.worker in
    let blocks : Blocks = c.args.blocks.now in
    let missing : Blocks = missing_of now.workers blocks in
    let mid : PartsState _ = c.reserve.new.self in
    let room = c.in_ok-reserve.ensures.ok in
    let workers : c.install_all.new.self ≡ installed_each worker missing inside.fleet =
    c.in-Ok.ensures.ok ∙ ap (λ (bs : Blocks). installed_each worker bs inside.fleet) c.in_ok-missing.ensures in
    let counted : c.len.result ≡ length c.in_ok-missing.missing.items = omega (arith, c.len.ensures, c.in_ok-missing.missing.ok.0) in
    let enough : 51 + held_count now.workers + length missing ≤ mid.spare =
    subst (λ (n : ℕ). 51 + held_count now.workers + n ≤ mid.spare) (counted ∙ ap length c.in_ok-missing.ensures) room.room in
    subst (Agrees g.T.Ticket.tells g.T.Ticket.content) (sym ((λ i. record {
      header = c.append.ensures.header i;
      events = c.append.ensures.events i;
      spare = c.append.ensures.spare i;
      workers = workers i;
      vault = inside.vault;
    }) ∙ ap (λ (p : PartsState _). with_done c.args.actor worker c.args.made missing p) (c.self.view_is ∙ room.is)))
    (finished g.T.Ticket.tells g.T.Ticket.content now c.args.actor worker c.args.made blocks mid.spare c.requires.stands c.requires.actor c.requires.worker
    c.requires.claim c.requires.outputs c.requires.values enough)
