use Rattle.std.proofs.Common.{sym, subst}
use Rattle.std.proofs.lemmas.Bool.{and_parts}
use Rattle.tl_model.specs.Past.{without_tickets}
use Rattle.tl_model.specs.Rules.{lawful_judge, all_permitted, is_quiet}
use Rattle.tl_laws.specs.Numbers.{Numbered}
use Rattle.tl_laws.proofs.Numbering.{all-numbered}
use Rattle.tl_laws.proofs.Tickets.{records-with}
use Rattle.tl_laws_progress.proofs.Fewer.{done-leaves-fewer}
use Rattle.tl_laws_progress.proofs.done_leaves_fewer_tasks.Goals as goal

pub returns : goal.returns
returns g c = λ header events lawful idle actor worker i r at task.
    done-leaves-fewer (without_tickets events) actor worker i r
    (subst Numbered (sym (records-with (λ _. tt) events))
    (all-numbered lawful_judge header events (and_parts (all_permitted lawful_judge header events) (is_quiet lawful_judge events) lawful).0))
    idle at task
