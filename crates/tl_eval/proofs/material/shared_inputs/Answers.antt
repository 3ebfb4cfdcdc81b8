use Rattle.tl_eval.proofs.Sharing.{fault_found}
use Rattle.tl_eval.proofs.material.shared_inputs.Goals as goal

pub returns-in-Fault : goal.returns-in-Fault
returns-in-Fault c =
    let so_far = c.loop-input.invariant in
    fault_found c.args.inputs.items c.loop-input.inputs.items so_far.0 c.in-Some.input c.pop.new.self.items _ so_far.1 c.in-Some.ensures.items c.in-Fault.is
