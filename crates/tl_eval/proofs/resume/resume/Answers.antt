use Rattle.std.proofs.Common.{refl}
use Rattle.tl_eval.specs.Frames.{names_of}
use Rattle.tl_eval.proofs.Leading.{frame_settles, frame_leads, let_leads}
use Rattle.tl_eval.proofs.resume.resume.Goals as goal

pub returns-in-Unary : goal.returns-in-Unary
returns-in-Unary c = frame_settles _ _ _ _ (names_of c.args.stack.now) _ _ _ c.in-Unary.is c.settled.ensures c.in_ok-unary-in-Unary.ensures refl

pub returns-in-BinaryEnd : goal.returns-in-BinaryEnd
returns-in-BinaryEnd c = frame_settles _ _ _ _ (names_of c.args.stack.now) _ _ _ c.in-BinaryEnd.is c.settled-in-BinaryEnd.ensures c.in_ok-binary-in-BinaryEnd.ensures refl

pub returns-in-SubTo : goal.returns-in-SubTo
returns-in-SubTo c = frame_settles _ _ _ _ (names_of c.args.stack.now) _ _ _ c.in-SubTo.is c.settled-in-SubTo.ensures c.in_ok-sub-in-SubTo.ensures refl

pub returns-in-Let : goal.returns-in-Let
returns-in-Let c = let_leads _ _ _ (names_of c.args.stack.now) _ _ _ c.in-Let.body c.in-Let.is c.wait-in-Let.ensures

pub returns : goal.returns
returns c = frame_leads _ _ _ (names_of c.args.stack.now) _ _ _ c.in-FoldItem.is c.go_on_fold.ensures
