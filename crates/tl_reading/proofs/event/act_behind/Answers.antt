use Rattle.tl_reading.proofs.event.act_behind.Goals as goal

pub returns-in-Some : goal.returns-in-Some
returns-in-Some c = record {
  word = c.in-Some.ensures.word;
  within = c.in-Some.ensures.within c.args.header.now;
  found = c.in-Some.ensures.found;
  shown = c.in-Some.ensures.shown;
  none = tt;
}
