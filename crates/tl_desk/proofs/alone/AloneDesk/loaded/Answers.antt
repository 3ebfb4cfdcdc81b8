use Rattle.std.proofs.Common.{◌≡◌, ap}
use Rattle.tl_cluster.proofs.Carry.{if_ok}
use Rattle.tl_desk.proofs.Owning.{Holds, either-way, load-header, serves}
use Rattle.tl_desk.proofs.alone.AloneDesk.loaded.Goals as goal

pub returns-clause-ok : goal.returns-clause-ok
returns-clause-ok g c =
    let s = c.stands.ensures in
    let old = c.args.self.now.cluster in
    let held : Holds g.T.Ticket.tells g.T.Ticket.content old =
    record { resident = s.resident; file = s.of; values = s.values } in
    if_ok c.loaded.result _ _
    (λ answer. serves g.T.Ticket.tells g.T.Ticket.content old c.loaded.new.self c.args.self.now.actor
    c.args.worker c.args.block answer held c.requires.saved c.requires.value)
    c.loaded.ensures.ok

pub returns-clause-home : goal.returns-clause-home
returns-clause-home g c =
    let old = c.args.self.now.cluster in
    let same : (c.loaded.new.self).header ≡ old.header =
    either-way c.loaded.result _ c.loaded.ensures.ok c.loaded.ensures.err
    (λ answer. load-header old c.loaded.new.self c.args.self.now.actor c.args.worker c.args.block answer)
    (λ kept. ap (λ s. s.header) kept) in
    λ i. record { actor = c.args.self.now.actor; header = same i }
