use Rattle.std.proofs.Common.{◌≡◌, ℕ, ◌<◌, List, [], false, length, refl, ap, subst, sym, ◌∙◌, arith}
use Rattle.std.specs.Global.{Vec}
use Rattle.tl_model.specs.declared.header.Version.{Version}
use Rattle.tl_script.specs.declared.word.Mark.TheVariants as mark_is
use Rattle.tl_script.specs.Tokens.{a_mark}
use Rattle.tl_script.specs.Places.{settings, has_key, Refused, later, conf_limit}
use Rattle.tl_script.specs.Reading.{StopsAs, keys_of}
use Rattle.tl_script.proofs.Steps.{exit, stops_more}
use Rattle.tl_script.proofs.Confs.{are_conf_more, conf_precedes, pair_too}
use Rattle.tl_script.proofs.job.conf.Goals as goal

pub returns-in-Some-clause-later : goal.returns-in-Some-clause-later
returns-in-Some-clause-later c = λ version kind r. c.pairs.invariant.later version kind (later (a_mark mark_is.In) c.in-Some.after.now c.in-Some.ensures.found refl r)

pub pairs-preserved : goal.pairs-preserved
pairs-preserved c =
    let pushed = c.in_ok-push.ensures.items in
    let same : c.deref.result.now ≡ c.pairs.pairs.items = c.deref.ensures.value in
    let room : length c.pairs.pairs.items < conf_limit = omega (arith, ap length same, c.in_ok-pair.ensures.room) in
    let fresh : has_key (keys_of c.pairs.pairs.items) c.in_ok-pair.pair.0.items ≡ false = ap (λ (ps : List (Vec ℕ × Vec ℕ)). has_key (keys_of ps) c.in_ok-pair.pair.0.items) (sym same) ∙ c.in_ok-pair.ensures.fresh in
    record {
      ended = c.in_ok-pair.ensures.ended;
      told = rw pushed (conf_precedes c.args.text.now c.pairs.rest.now c.in_ok-pair.others.now c.pairs.pairs.items c.in_ok-pair.pair c.pairs.invariant.told c.in_ok-pair.ensures.found);
      conf = rw pushed (are_conf_more c.pairs.pairs.items c.in_ok-pair.pair c.pairs.rest.now c.in_ok-pair.others.now c.pairs.invariant.conf room c.in_ok-pair.ensures.short fresh c.in_ok-pair.ensures.found);
      later = rw pushed (λ version kind r. c.pairs.invariant.later version kind (pair_too version c.pairs.pairs.items c.in_ok-pair.pair c.pairs.rest.now c.in_ok-pair.others.now room c.in_ok-pair.ensures.short fresh c.in_ok-pair.ensures.found kind r));
    }

pub returns-in_err-pair-clause-bad : goal.returns-in_err-pair-clause-bad
returns-in_err-pair-clause-bad c =
    let same : c.deref.result.now ≡ c.pairs.pairs.items = c.deref.ensures.value in
    exit c.from_residual.result c.in_err-pair.field-0.0 _ c.from_residual.ensures.1
    (λ (version : Version).
    stops_more (Refused (settings version (keys_of c.pairs.pairs.items)) c.pairs.rest.now) (Refused (settings version []) c.args.text.now) c.in_err-pair.field-0.0 (c.pairs.invariant.later version)
    (subst (λ (ps : List (Vec ℕ × Vec ℕ)). StopsAs (Refused (settings version (keys_of ps)) c.pairs.rest.now) c.in_err-pair.field-0.0) same (c.in_err-pair.ensures.bad version)))
