use Rattle.std.proofs.Common.{[], ◌∷◌, refl}
use Rattle.std.proofs.lemmas.Bool.{le-leb}
use Rattle.tl_script.specs.Tokens.{a_path, a_text}
use Rattle.tl_script.specs.Places.{path_then, text_then, end, text_limit}
use Rattle.tl_script.proofs.Steps.{exit, stops_later, follows_spaced, when_true}
use Rattle.tl_script.proofs.command.put.Goals as goal

pub returns-in_err-path-clause-bad : goal.returns-in_err-path-clause-bad
returns-in_err-path-clause-bad c = exit c.from_residual.result c.in_err-path.field-0.0 _ c.from_residual.ensures.1 (c.in_err-path.ensures.bad (text_then end))

pub returns-in_err-text-clause-bad : goal.returns-in_err-text-clause-bad
returns-in_err-text-clause-bad c =
    exit c.from_residual-in_err-text.result c.in_err-text.field-0.0 _ c.from_residual-in_err-text.ensures.1
    (stops_later (path_then (text_then end)) (text_then end) c.args.text.now (a_path c.in_ok-path.path) c.in_ok-path.rest.now c.in_err-text.field-0.0 c.in_ok-path.ensures.found refl (c.in_err-text.ensures.bad end))

pub returns-in_err-at_end-clause-bad : goal.returns-in_err-at_end-clause-bad
returns-in_err-at_end-clause-bad c =
    exit c.from_residual-in_err-at_end.result c.in_err-at_end.field-0.0 _ c.from_residual-in_err-at_end.ensures.1
    (stops_later (path_then (text_then end)) (text_then end) c.args.text.now (a_path c.in_ok-path.path) c.in_ok-path.rest.now c.in_err-at_end.field-0.0 c.in_ok-path.ensures.found refl
    (stops_later (text_then end) end c.in_ok-path.rest.now (a_text c.in_ok-text.text) c.in_ok-text.rest.now c.in_err-at_end.field-0.0 c.in_ok-text.ensures.found (when_true _ end (le-leb _ text_limit c.in_ok-text.ensures.short)) c.in_err-at_end.ensures.bad))

pub returns-clause-found : goal.returns-clause-found
returns-clause-found c = λ header. record {
  command = (c.in_ok-path.ensures.found.2.path, record { are_bytes = c.in_ok-text.ensures.found.2.0.small; short = c.in_ok-text.ensures.short });
  word = refl;
  spelled_so = follows_spaced c.args.text.now (a_path c.in_ok-path.path) c.in_ok-path.rest.now (a_text c.in_ok-text.text ∷ []) c.in_ok-path.ensures.found (follows_spaced c.in_ok-path.rest.now (a_text c.in_ok-text.text) c.in_ok-text.rest.now [] c.in_ok-text.ensures.found c.in_ok-at_end.ensures.found);
}
