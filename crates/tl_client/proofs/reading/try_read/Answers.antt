use Rattle.std.proofs.Common.{ℕ, List, ap}
use Rattle.tl_model.specs.declared.command.Form.TheVariants.{Try}
use Rattle.tl_core.specs.State.{State}
use Rattle.tl_client.proofs.Waiting.{opened-read}
use Rattle.tl_client.proofs.reading.try_read.Goals as goal

pub try_for-requires-clause-reading : goal.try_for-requires-clause-reading
try_for-requires-clause-reading c =
    opened-read c.args.cluster.now.events c.call.new.self.events c.args.actor c.in_ok-clone.field-0 c.args.prio Try c.in_ok-at.reply c.in-Opened.file
    c.in-Opened.is (ap (λ (s : State (List ℕ)). s.events) c.in_ok-at.ensures.ok.2)
