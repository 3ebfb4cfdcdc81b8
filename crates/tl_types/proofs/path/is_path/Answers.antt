use Rattle.std.proofs.Common.{arith}
use Rattle.std.proofs.lemmas.List.{length-map}
use Rattle.std.proofs.lemmas.List.Folds.{list_all-map}
use Rattle.tl_types.specs.Parts.{lists_of}
use Rattle.tl_types.proofs.Spelling.{is_path-last, is_path-no_components}
use Rattle.tl_types.proofs.path.is_path.Goals as goal

pub returns-then-not-has_components : goal.returns-then-not-has_components
returns-then-not-has_components c = is_path-no_components (lists_of c.args.parts.now) (rw list_all-map (cc))

pub returns : goal.returns
returns c =
    is_path-last _ _ (simp length-map (omega arith)) (rw list_all-map (cc)) c.spelling_len.ensures
