use Rattle.std.proofs.lemmas.Bool.{and_parts}
use Rattle.tl_model.specs.Rules.{all_permitted, is_quiet, lawful_judge}
use Rattle.tl_model.specs.Past.{without_tickets}
use Rattle.tl_laws_progress.proofs.Fewer.{idle-ends-none}
use Rattle.tl_laws_progress.proofs.Running.{next-and-drops-leave-fewer}
use Rattle.tl_laws_progress.proofs.runs.next_leaves_fewer_tasks_despite_drops.Goals as goal

pub returns : goal.returns
returns g c = λ header events lawful idle actor worker made is claimed finished may_first may_last.
    next-and-drops-leave-fewer header events (and_parts (all_permitted lawful_judge header events) (is_quiet lawful_judge events) lawful).0
    actor worker made (idle-ends-none (without_tickets events) actor worker made idle) is claimed finished may_first may_last
