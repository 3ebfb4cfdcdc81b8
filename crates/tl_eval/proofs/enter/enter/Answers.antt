use Rattle.tl_eval.specs.Frames.{names_of}
use Rattle.tl_eval.proofs.NodeLaws.{at-List}
use Rattle.tl_eval.proofs.Leading.{node_leads, at-Each-clone, at-Keep-clone, at-Fold-clone}
use Rattle.tl_eval.proofs.enter.enter.Goals as goal

pub returns-in-List : goal.returns-in-List
returns-in-List c = node_leads _ _ _ (names_of c.args.stack.now) _ _ _ c.in-List.is (at-List c.in-List.parts) c.begin.ensures

pub returns-in_ok-try_clone-in-Each-2 : goal.returns-in_ok-try_clone-in-Each-2
returns-in_ok-try_clone-in-Each-2 c =
    node_leads _ _ _ (names_of c.args.stack.now) _ _ _ c.in-Each.is
    (at-Each-clone _ _ c.in-Each.items c.in-Each.body c.in_ok-try_clone-in-Each-2.field-0 c.in_ok-try_clone-in-Each.ensures c.in_ok-try_clone-in-Each-2.ensures)
    c.wait-in-Each.ensures

pub returns-in_ok-try_clone-in-Keep-2 : goal.returns-in_ok-try_clone-in-Keep-2
returns-in_ok-try_clone-in-Keep-2 c =
    node_leads _ _ _ (names_of c.args.stack.now) _ _ _ c.in-Keep.is
    (at-Keep-clone _ _ c.in-Keep.items c.in-Keep.body c.in_ok-try_clone-in-Keep-2.field-0 c.in_ok-try_clone-in-Keep.ensures c.in_ok-try_clone-in-Keep-2.ensures)
    c.wait-in-Keep.ensures

pub returns-in_ok-try_clone-in-Fold-4 : goal.returns-in_ok-try_clone-in-Fold-4
returns-in_ok-try_clone-in-Fold-4 c =
    node_leads _ _ _ (names_of c.args.stack.now) _ _ _ c.in-Fold.is
    (at-Fold-clone _ _ _ _ c.in-Fold.items c.in-Fold.start c.in-Fold.body c.in_ok-try_clone-in-Fold-3.field-0 c.in_ok-try_clone-in-Fold-4.field-0 c.in_ok-try_clone-in-Fold.ensures c.in_ok-try_clone-in-Fold-2.ensures c.in_ok-try_clone-in-Fold-3.ensures c.in_ok-try_clone-in-Fold-4.ensures)
    c.wait-in-Fold.ensures
