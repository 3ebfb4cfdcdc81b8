use Rattle.std.proofs.Common.{◌≡◌, ◌+◌, arith, length, refl}
use Rattle.tl_eval.proofs.Outputs.{next_begins, all_end}
use Rattle.tl_eval.proofs.running.Running.end_output.Goals as goal

pub returns-in_ok-running-in-Some : goal.returns-in_ok-running-in-Some
returns-in_ok-running-in-Some c =
    let long : c.len.result ≡ length c.push.new.self.items = omega (arith, c.len.ensures, c.push.new.self.ok.0) in
    next_begins c.args.self _ _ c.args.left _ _ c.in-Some.root.now c.requires.way c.requires.left refl refl c.in_ok-push.ensures.items long c.in-Some.ensures.value c.from.ensures (omega (arith, c.from.type_inv)) refl c.in_ok-running-in-Some.ensures c.clear.ensures refl

pub returns-in-None : goal.returns-in-None
returns-in-None c =
    let long : c.len.result ≡ length c.push.new.self.items = omega (arith, c.len.ensures, c.push.new.self.ok.0) in
    all_end c.args.self (record { outcomes = c.push.new.self; entered = c.args.self.spent + c.from.result }) _ c.args.left _ _ c.in_ok-push.ensures.items long c.in-None.ensures.value c.from.ensures refl
