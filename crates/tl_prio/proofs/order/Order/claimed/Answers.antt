use Rattle.std.proofs.Common.{ℕ, ◌+◌, ◌==◌, if◌then◌else◌, refl, subst, sym}
use Rattle.tl_model.specs.Plan.{claims}
use Rattle.tl_prio.specs.Data.{HasClaims, OrderData}
use Rattle.tl_prio.specs.Standing.{StandsFor}
use Rattle.tl_prio.proofs.Counting.{room-for-one}
use Rattle.tl_prio.proofs.Noting.{stands-counted}
use Rattle.tl_prio.proofs.order.Order.claimed.Goals as goal

pub returns-clause-stands : goal.returns-clause-stands
returns-clause-stands c = λ past worker made stands same short.
    let before = subst (λ (o : OrderData). StandsFor o past) (sym c.self.view_is) stands in
    stands-counted _ _ past worker made refl refl
    (subst (λ (q : ℕ). HasClaims c.claimed.new.self (λ p. if q == p then claims past p + 1 else claims past p)) same
    (c.claimed.ensures.claims (claims past) before.turns (room-for-one past c.args.prio stands.within short)))
    before
