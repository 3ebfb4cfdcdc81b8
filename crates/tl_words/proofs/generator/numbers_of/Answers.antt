use Rattle.std.proofs.Common.{◌≡◌, ◌∙◌, rules, ap, ap₂, true}
use Rattle.clap.specs.Walk.{rule_of}
use Rattle.clap.specs.Simple.{App, app_of, on_top, with_rule}
use Rattle.tl_words.proofs.NumberWords.{number_rule, numbers_app, run_rule}
use Rattle.std.proofs.Common.{codes}
use Rattle.tl_words.proofs.Results.{as_read, as_taken, disabled_app, numbers_not_refused}
use Rattle.tl_words.proofs.generator.numbers_of.Goals as goal

abbrev without_help : App → App
without_help = on_top (λ s. record s { disable_help_flag = true })

pub returns-in_default-clause-only : goal.returns-in_default-clause-only
returns-in_default-clause-only c =
    let count_is : rule_of c.action-count.result ≡ number_rule (codes "count") = search rules in
    let seed_is : rule_of c.action-seed.result ≡ number_rule (codes "seed") = search rules in
    let run_is : rule_of c.action-run.result ≡ run_rule = search rules in
    let is : app_of c.in_ok-command.command ≡ numbers_app = c.in_ok-command.ensures.shape (search rules) ∙ ap₂ with_rule (c.in_ok-arg-2.ensures.shape (search rules)
    ∙ ap₂ with_rule (c.in_ok-arg.ensures.shape (search rules) ∙ ap₂ with_rule (disabled_app _ _ c.disable_help_flag.ensures ∙ ap without_help c.new-4.ensures.app) count_is) seed_is) run_is in
    numbers_not_refused _ _ _ is c.in_ok-matches.ensures.taken c.in_default.is

pub returns-clause-read : goal.returns-clause-read
returns-clause-read c =
    let count_is : rule_of c.action-count.result ≡ number_rule (codes "count") = search rules in
    let seed_is : rule_of c.action-seed.result ≡ number_rule (codes "seed") = search rules in
    let run_is : rule_of c.action-run.result ≡ run_rule = search rules in
    let is : app_of c.in_ok-command.command ≡ numbers_app = c.in_ok-command.ensures.shape (search rules) ∙ ap₂ with_rule (c.in_ok-arg-2.ensures.shape (search rules)
    ∙ ap₂ with_rule (c.in_ok-arg.ensures.shape (search rules) ∙ ap₂ with_rule (disabled_app _ _ c.disable_help_flag.ensures ∙ ap without_help c.new-4.ensures.app) count_is) seed_is) run_is in
    as_read _ _ c.numbers_in.ensures.count c.numbers_in.ensures.seed c.numbers_in.ensures.run _ _ _ is c.in_ok-matches.ensures.matches c.in_ok-matches.ensures.taken c.in-Some.is c.requires

pub returns-clause-only : goal.returns-clause-only
returns-clause-only c =
    let count_is : rule_of c.action-count.result ≡ number_rule (codes "count") = search rules in
    let seed_is : rule_of c.action-seed.result ≡ number_rule (codes "seed") = search rules in
    let run_is : rule_of c.action-run.result ≡ run_rule = search rules in
    let is : app_of c.in_ok-command.command ≡ numbers_app = c.in_ok-command.ensures.shape (search rules) ∙ ap₂ with_rule (c.in_ok-arg-2.ensures.shape (search rules)
    ∙ ap₂ with_rule (c.in_ok-arg.ensures.shape (search rules) ∙ ap₂ with_rule (disabled_app _ _ c.disable_help_flag.ensures ∙ ap without_help c.new-4.ensures.app) count_is) seed_is) run_is in
    as_taken _ _ c.numbers_in.ensures.count c.numbers_in.ensures.seed c.numbers_in.ensures.run _ _ _ is c.in_ok-matches.ensures.matches c.in_ok-matches.ensures.taken c.in-Some.is c.numbers_in.ensures.only
