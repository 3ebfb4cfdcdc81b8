use Rattle.std.proofs.Common.{◌<◌, ◌^◌, length, ap, ◌∙◌, subst}
use Rattle.tl_desk.proofs.alone.AloneDesk.stands.Goals as goal

pub returns-clause-count : goal.returns-clause-count
returns-clause-count g c =
    subst (λ n. n < 2 ^ 64) (c.len-count.ensures ∙ ap length c.journal.ensures.events) c.len-count.type_inv
