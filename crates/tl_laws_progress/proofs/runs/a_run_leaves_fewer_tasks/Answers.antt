use Rattle.std.proofs.lemmas.Bool.{and_parts}
use Rattle.tl_model.specs.Rules.{all_permitted, is_quiet, lawful_judge}
use Rattle.tl_laws_progress.proofs.Running.{permitted-run-leaves-fewer}
use Rattle.tl_laws_progress.proofs.runs.a_run_leaves_fewer_tasks.Goals as goal

pub returns : goal.returns
returns g c = λ header events later actor worker made lawful run.
    permitted-run-leaves-fewer header events later actor worker made (and_parts (all_permitted lawful_judge header later) (is_quiet lawful_judge later) lawful).0 run
