use Rattle.std.proofs.Common.{ℕ, List, ap}
use Rattle.tl_core.specs.State.{State}
use Rattle.tl_client.proofs.Waiting.{opened-read}
use Rattle.tl_client.proofs.reading.read.Goals as goal

pub wait_for-requires-clause-reading : goal.wait_for-requires-clause-reading
wait_for-requires-clause-reading c =
    opened-read c.args.cluster.now.events c.call.new.self.events c.args.actor c.in_ok-clone.field-0 c.args.prio c.args.form c.in_ok-at.reply c.in-Opened.file
    c.in-Opened.is (ap (λ (s : State (List ℕ)). s.events) c.in_ok-at.ensures.ok.2)
