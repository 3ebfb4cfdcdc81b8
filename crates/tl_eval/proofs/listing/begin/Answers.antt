use Rattle.tl_eval.proofs.Leading.{settles, list_begins, list_is_empty}
use Rattle.tl_eval.proofs.listing.begin.Goals as goal

pub returns-in_ok-try_clone-in-Some : goal.returns-in_ok-try_clone-in-Some
returns-in_ok-try_clone-in-Some c =
    list_begins _ _ _ _ c.args.parts.now c.in_ok-try_clone-in-Some.field-0 _ _ _ c.new-texts.ensures c.deref.ensures c.in_ok-try_clone-in-Some.ensures c.in-Some.ensures.value c.wait.ensures

pub returns-in_ok-list_of-in-None : goal.returns-in_ok-list_of-in-None
returns-in_ok-list_of-in-None c =
    settles _ _ _ _ _ c.settled.ensures c.in_ok-list_of-in-None.ensures (list_is_empty _ c.args.parts.now _ _ c.new-texts.ensures c.deref.ensures c.in-None.ensures.value)
