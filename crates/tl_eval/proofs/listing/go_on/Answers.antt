use Rattle.tl_eval.proofs.Leading.{settles, list_goes_on, list_ends}
use Rattle.tl_eval.proofs.listing.go_on.Goals as goal

pub returns-in-Some : goal.returns-in-Some
returns-in-Some c =
    list_goes_on _ _ _ _ c.args.parts c.in_ok-try_clone-in-Some.field-0 _ _ _ _ _ _ _ c.in-Text.is c.in_ok-push.ensures.ok c.len.ensures c.deref.ensures c.in_ok-try_clone-in-Some.ensures c.in-Some.ensures.value c.wait.ensures

pub returns : goal.returns
returns c =
    settles _ _ _ _ _ c.settled.ensures c.in_ok-list_of-in-None.ensures
    (list_ends _ c.args.parts _ _ _ _ _ _ c.in-Text.is c.in_ok-push.ensures.ok c.len.ensures c.deref.ensures c.in-None.ensures.value)
