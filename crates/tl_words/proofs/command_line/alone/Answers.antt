use Rattle.std.proofs.Common.{sym, ◌∙◌}
use Rattle.tl_words.proofs.Requests.{alone_crew, alone_refused, alone_said}
use Rattle.tl_words.proofs.command_line.alone.Goals as goal

pub returns-in_default : goal.returns-in_default
returns-in_default c = alone_refused _ _ c.requires.command c.in_ok-journal.ensures.read c.in_ok-journal.ensures.only c.in_default.is

pub returns-then-is_some : goal.returns-then-is_some
returns-then-is_some c = alone_crew _ _ c.requires.command c.in_ok-journal.ensures.read c.in_ok-journal.ensures.only c.in-Some.field-0 c.in-Some.is (sym c.is_some.ensures ∙ c.if-is_some.true)

pub returns : goal.returns
returns c = alone_said _ _ c.requires.command c.in_ok-journal.ensures.read c.in_ok-journal.ensures.only c.in-Some.field-0 c.in-Some.is (sym c.is_some.ensures ∙ c.if-is_some.false)
