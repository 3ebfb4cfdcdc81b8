use Rattle.std.proofs.Common.{[], length}
use Rattle.tl_text.specs.PathText.{EndsToken}
use Rattle.tl_lang.specs.Conf.{pairs_of}
use Rattle.tl_model.specs.declared.header.Version.{Version}
use Rattle.tl_script.specs.Places.{settings}
use Rattle.tl_script.specs.Commands.{with_conf}
use Rattle.tl_script.specs.Reading.{keys_of, AreConf, Precede, RefusedToo}
use Rattle.tl_script.proofs.job.conf.Given as goal

abbrev pub invariant-pairs : goal.invariant-pairs
invariant-pairs l = record {
  ended : EndsToken l.rest;
  told : Precede l.text (with_conf (pairs_of l.pairs.items)) l.rest;
  conf : AreConf (pairs_of l.pairs.items);
  later : (version : Version) → RefusedToo (settings version []) l.text (settings version (keys_of l.pairs.items)) l.rest;
}

abbrev pub decreases-pairs : goal.decreases-pairs
decreases-pairs l = length l.rest
