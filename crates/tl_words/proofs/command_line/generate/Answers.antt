use Rattle.tl_words.proofs.Requests.{gen_said}
use Rattle.tl_words.proofs.command_line.generate.Goals as goal

pub returns : goal.returns
returns c = gen_said _ _ c.requires.command c.in_ok-count.ensures.read c.in_ok-count.ensures.only c.in-Some.field-0 c.in-Some-count_of.count c.in-Some-number_of.seed c.in-Some.is
    c.in-Some-count_of.ensures.found.0 c.in-Some-count_of.ensures.found.1 c.in-Some-number_of.ensures.fits c.in-Some-count_of.ensures.found.2 c.in-Some-number_of.ensures.found
