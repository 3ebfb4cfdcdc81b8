use Rattle.std.proofs.Common.{◌≡◌, ap}
use Rattle.tl_cluster.proofs.Carry.{if_ok}
use Rattle.tl_desk.proofs.Owning.{collects, either-way, let-go-header}
use Rattle.tl_desk.proofs.alone.AloneDesk.collect.Goals as goal

pub returns-clause-ok : goal.returns-clause-ok
returns-clause-ok g c =
    let old = c.args.self.now.cluster in
    if_ok c.collect.result _ _
    (λ k. collects c.args.self.now.actor c.args.n k old c.collect.new.self)
    c.collect.ensures.collected

pub returns-clause-home : goal.returns-clause-home
returns-clause-home g c =
    let old = c.args.self.now.cluster in
    let actor = c.args.self.now.actor in
    let same : (c.collect.new.self).header ≡ old.header =
    either-way c.collect.result _ c.collect.ensures.collected c.collect.ensures.err
    (λ k collected. let-go-header actor k old c.collect.new.self collected.0)
    (λ kept. ap (λ s. s.header) kept) in
    λ i. record { actor = actor; header = same i }
