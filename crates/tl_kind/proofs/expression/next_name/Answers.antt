use Rattle.std.proofs.Common.{◌≡◌, ℕ, Some}
use Rattle.std.proofs.lemmas.Result.{IfErr-weaker}
use Rattle.tl_kind.specs.Refusals.{name, wrong_first}
use Rattle.tl_kind.specs.Reading.{StopsAs, NextRefused}
use Rattle.tl_kind.proofs.Steps.{stops_after_space, stops_name}
use Rattle.tl_kind.proofs.expression.next_name.Goals as goal

pub returns-clause-bad : goal.returns-clause-bad
returns-clause-bad c =
    IfErr-weaker c.name.result (StopsAs (λ rest kind. (rest ≡ c.expect.new.cursor.rest.now) × (wrong_first name 0 c.expect.new.cursor.rest.now ≡ Some kind)) c.name.new.cursor.rest.now)
    (λ s. (room : ℕ) → StopsAs (NextRefused name room c.args.cursor.now.rest.now) c.name.new.cursor.rest.now s)
    (λ s h room. stops_after_space name room c.args.cursor.now.rest.now c.expect.new.cursor.rest.now c.name.new.cursor.rest.now s c.in_ok-expect.ensures.found (stops_name room c.expect.new.cursor.rest.now c.name.new.cursor.rest.now s h)) c.name.ensures.bad
