use Rattle.std.proofs.Common.{refl, ◌∷◌}
use Rattle.std.proofs.lemmas.Result.{IfErr-weaker}
use Rattle.tl_script.specs.Tokens.{a_verb}
use Rattle.tl_script.specs.Places.{command, after_verb, Refused, wrong}
use Rattle.tl_script.specs.Reading.{StopsAs}
use Rattle.tl_script.proofs.Steps.{stops_later}
use Rattle.tl_script.proofs.Wrong.{wrong_command}
use Rattle.tl_script.proofs.command.command.Goals as goal

pub returns-in_default-clause-bad : goal.returns-in_default-clause-bad
returns-in_default-clause-bad c = wrong c.args.text.now refl (wrong_command c.args.header.now c.args.text.now c.in_default.ensures.none) refl

pub returns-clause-bad : goal.returns-clause-bad
returns-clause-bad c =
    IfErr-weaker c.arguments.result (StopsAs (Refused (after_verb c.args.header.now c.in-Some.verb) c.in-Some.rest.now)) (StopsAs (Refused (command c.args.header.now) (0x20 ∷ c.args.text.now)))
    (λ s h. stops_later (command c.args.header.now) (after_verb c.args.header.now c.in-Some.verb) (0x20 ∷ c.args.text.now) (a_verb c.in-Some.verb) c.in-Some.rest.now s (c.args.text.now, refl, c.in-Some.ensures.found) refl h) c.arguments.ensures.bad
