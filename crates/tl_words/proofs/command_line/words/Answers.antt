use Rattle.std.proofs.Common.{◌≡◌, Some, arith, codes, map}
use Rattle.std.proofs.lemmas.Grind.{common_steps}
use Rattle.std.specs.Prelude.{slice_get, string_bytes}
use Rattle.tl_words.proofs.Requests.{check_exact, no_dashes_there, none_with_dashes, upgrade_exact}
use Rattle.tl_words.proofs.command_line.words.Goals as goal

pub returns-then-has_break : goal.returns-then-has_break
returns-then-has_break c = none_with_dashes string_bytes c.args.args.now c.has_break.result c.has_break.ensures c.if-has_break.true

pub alone-requires-clause-whole : goal.alone-requires-clause-whole
alone-requires-clause-whole c = no_dashes_there string_bytes c.args.args.now c.has_break.result c.has_break.ensures c.if-has_break.false

pub run-requires-clause-whole : goal.run-requires-clause-whole
run-requires-clause-whole c = no_dashes_there string_bytes c.args.args.now c.has_break.result c.has_break.ensures c.if-has_break.false

pub generate-requires-clause-whole : goal.generate-requires-clause-whole
generate-requires-clause-whole c = no_dashes_there string_bytes c.args.args.now c.has_break.result c.has_break.ensures c.if-has_break.false

pub returns-in-check : goal.returns-in-check
returns-in-check c =
    let at : slice_get (map string_bytes c.args.args.now) 0 ≡ Some (codes "check") = grind (arith, common_steps) in
    check_exact string_bytes c.args.args.now c.by_itself.result at c.by_itself.ensures.alone c.by_itself.ensures.more

pub returns-in-upgrade : goal.returns-in-upgrade
returns-in-upgrade c =
    let at : slice_get (map string_bytes c.args.args.now) 0 ≡ Some (codes "upgrade") = grind (arith, common_steps) in
    upgrade_exact string_bytes c.args.args.now c.by_itself-in-upgrade.result at c.by_itself-in-upgrade.ensures.alone c.by_itself-in-upgrade.ensures.more
