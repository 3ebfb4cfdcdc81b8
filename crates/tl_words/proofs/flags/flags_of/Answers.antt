use Rattle.std.proofs.Common.{◌≡◌, ◌∙◌, rules, ap, ap₂, true}
use Rattle.clap.specs.Walk.{rule_of}
use Rattle.clap.specs.Simple.{App, app_of, on_top, with_rule}
use Rattle.tl_words.proofs.FlagWords.{crew_rule, flags_app, journal_rule}
use Rattle.tl_words.proofs.Results.{disabled_app, flags_are_read, flags_are_told, flags_not_refused, flags_spelled}
use Rattle.tl_words.proofs.flags.flags_of.Goals as goal

abbrev without_help : App → App
without_help = on_top (λ s. record s { disable_help_flag = true })

pub returns-in_default-clause-only : goal.returns-in_default-clause-only
returns-in_default-clause-only c =
    let journal_is : rule_of c.action-journal.result ≡ journal_rule = search rules in
    let crew_is : rule_of c.action-crew.result ≡ crew_rule = search rules in
    let is : app_of c.in_ok-command.command ≡ flags_app = c.in_ok-command.ensures.shape (search rules) ∙ ap₂ with_rule (c.in_ok-arg.ensures.shape (search rules)
    ∙ ap₂ with_rule (disabled_app _ _ c.disable_help_flag.ensures ∙ ap without_help c.new-3.ensures.app) journal_is) crew_is in
    flags_not_refused _ _ _ is c.in_ok-matches.ensures.taken c.in_default.is

pub returns-clause-read : goal.returns-clause-read
returns-clause-read c =
    let journal_is : rule_of c.action-journal.result ≡ journal_rule = search rules in
    let crew_is : rule_of c.action-crew.result ≡ crew_rule = search rules in
    let is : app_of c.in_ok-command.command ≡ flags_app = c.in_ok-command.ensures.shape (search rules) ∙ ap₂ with_rule (c.in_ok-arg.ensures.shape (search rules)
    ∙ ap₂ with_rule (disabled_app _ _ c.disable_help_flag.ensures ∙ ap without_help c.new-3.ensures.app) journal_is) crew_is in
    flags_are_read _ _ _ c.in-Some.matches _ _ is c.in_ok-matches.ensures.matches c.in_ok-matches.ensures.taken c.in-Some.is c.get_flag.ensures.value c.get_flag.ensures.other c.get_str.ensures c.requires

pub returns-clause-only : goal.returns-clause-only
returns-clause-only c command journal crew small are =
    let journal_is : rule_of c.action-journal.result ≡ journal_rule = search rules in
    let crew_is : rule_of c.action-crew.result ≡ crew_rule = search rules in
    let is : app_of c.in_ok-command.command ≡ flags_app = c.in_ok-command.ensures.shape (search rules) ∙ ap₂ with_rule (c.in_ok-arg.ensures.shape (search rules)
    ∙ ap₂ with_rule (disabled_app _ _ c.disable_help_flag.ensures ∙ ap without_help c.new-3.ensures.app) journal_is) crew_is in
    flags_are_told _ _ _ c.in-Some.matches _ _ is c.in_ok-matches.ensures.matches c.in_ok-matches.ensures.taken c.in-Some.is c.get_flag.ensures.value c.get_flag.ensures.other c.get_str.ensures
    journal _ (flags_spelled command _ journal crew small are)
