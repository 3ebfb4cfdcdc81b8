use Rattle.std.proofs.Common.{arith, ◌++◌, ◌∷◌, []}
use Rattle.tl_model.specs.declared.header.Version.{Version}
use Rattle.tl_script.specs.declared.word.Mark.TheVariants as mark_is
use Rattle.tl_script.specs.Tokens.{a_mark, a_text}
use Rattle.tl_script.specs.Places.{settings, key, text_then}
use Rattle.tl_script.specs.Reading.{keys_of}
use Rattle.tl_script.proofs.Steps.{exit, stops_later}
use Rattle.tl_script.proofs.Wrong.{refused_setting}
use Rattle.tl_script.proofs.Confs.{keys_length, may_conf, may_key}
use Rattle.tl_script.proofs.job.next_pair.Goals as goal

pub returns-in_default-clause-bad : goal.returns-in_default-clause-bad
returns-in_default-clause-bad c = λ version. refused_setting version (keys_of c.args.pairs.now) c.args.text.now c.requires.ended c.requires.more (λ rest few h. c.in_default.ensures.none rest h)

pub returns-then-pairs-ge-PAIRS_LIMIT-clause-bad : goal.returns-then-pairs-ge-PAIRS_LIMIT-clause-bad
returns-then-pairs-ge-PAIRS_LIMIT-clause-bad c = λ version.
    refused_setting version (keys_of c.args.pairs.now) c.args.text.now c.requires.ended c.requires.more (λ rest few h. let same = keys_length c.args.pairs.now in omega arith)

pub returns-in_err-key-clause-bad : goal.returns-in_err-key-clause-bad
returns-in_err-key-clause-bad c =
    let same = keys_length c.args.pairs.now in
    exit c.from_residual.result c.in_err-key.field-0.0 _ c.from_residual.ensures.1
    (λ (version : Version).
    stops_later (settings version (keys_of c.args.pairs.now)) (key version (keys_of c.args.pairs.now)) c.args.text.now (a_mark mark_is.Conf) c.in-Some.rest.now c.in_err-key.field-0.0 c.in-Some.ensures.found (may_conf version (keys_of c.args.pairs.now) (omega arith)) (c.in_err-key.ensures.bad version))

pub returns-in_err-value-clause-bad : goal.returns-in_err-value-clause-bad
returns-in_err-value-clause-bad c =
    let same = keys_length c.args.pairs.now in
    exit c.from_residual-in_err-value.result c.in_err-value.field-0.0 _ c.from_residual-in_err-value.ensures.1
    (λ (version : Version).
    stops_later (settings version (keys_of c.args.pairs.now)) (key version (keys_of c.args.pairs.now)) c.args.text.now (a_mark mark_is.Conf) c.in-Some.rest.now c.in_err-value.field-0.0 c.in-Some.ensures.found (may_conf version (keys_of c.args.pairs.now) (omega arith))
    (stops_later (key version (keys_of c.args.pairs.now)) (text_then (settings version (keys_of c.args.pairs.now ++ c.in_ok-key.key ∷ []))) c.in-Some.rest.now (a_text c.in_ok-key.key) c.in_ok-key.rest.now c.in_err-value.field-0.0 c.in_ok-key.ensures.found
    (may_key version (keys_of c.args.pairs.now) c.in_ok-key.key c.in_ok-key.ensures.short c.in_ok-key.ensures.fresh) (c.in_err-value.ensures.bad (settings version (keys_of c.args.pairs.now ++ c.in_ok-key.key ∷ [])))))
