use Rattle.std.proofs.Common.{◌≡◌, ℕ, ◌<◌, length, subst, arith}
use Rattle.tl_script.specs.Places.{Place, paths_then, Refused}
use Rattle.tl_script.specs.Reading.{StopsAs}
use Rattle.tl_script.proofs.Steps.{exit, stops_more}
use Rattle.tl_script.proofs.Wrong.{refused_few}
use Rattle.tl_script.proofs.Confs.{paths_precede, all_behind, count_behind, path_too, mark_too}
use Rattle.tl_script.proofs.job.paths.Goals as goal

pub returns-then-len-least-clause-bad : goal.returns-then-len-least-clause-bad
returns-then-len-least-clause-bad c = λ after.
    c.paths.invariant.later after _
    (refused_few c.args.limit c.args.least (length c.paths.paths.items) c.args.word after c.paths.rest.now c.in-Some.after.now c.in-Some.ensures.found (omega (arith, c.len.ensures, c.if-len-least.true)))

pub returns-in-Some-clause-later : goal.returns-in-Some-clause-later
returns-in-Some-clause-later c = λ after.
    mark_too c.args.limit c.args.least c.args.word after c.args.text.now c.paths.rest.now c.in-Some.after.now (length c.paths.paths.items) (c.paths.invariant.later after) (omega (arith, c.len.ensures, c.if-len-least.false)) c.in-Some.ensures.found

pub returns-in_err-path-clause-bad : goal.returns-in_err-path-clause-bad
returns-in_err-path-clause-bad c =
    let count : c.len-in-paths.result ≡ length c.paths.paths.items = omega (arith, c.len-in-paths.ensures, c.paths.paths.ok.0) in
    exit c.from_residual.result c.in_err-path.field-0.0 _ c.from_residual.ensures.1
    (λ (after : ℕ → Place).
    stops_more (Refused (paths_then c.args.limit c.args.least (length c.paths.paths.items) c.args.word after) c.paths.rest.now) (Refused (paths_then c.args.limit c.args.least 0 c.args.word after) c.args.text.now) c.in_err-path.field-0.0 (c.paths.invariant.later after)
    (subst (λ (n : ℕ). StopsAs (Refused (paths_then c.args.limit c.args.least n c.args.word after) c.paths.rest.now) c.in_err-path.field-0.0) count (c.in_err-path.ensures.bad c.args.least c.args.word after c.in_default.ensures.none)))

pub paths-preserved : goal.paths-preserved
paths-preserved c =
    let room : length c.paths.paths.items < c.args.limit = omega (arith, c.in_ok-path.ensures.room, c.len-in-paths.ensures, c.paths.paths.ok.0) in
    let pushed = c.in_ok-push.ensures.items in
    record {
      ended = c.in_ok-path.ensures.ended;
      told = rw pushed (paths_precede c.args.text.now c.paths.rest.now c.in_ok-path.others.now c.paths.paths.items c.in_ok-path.path c.paths.invariant.told c.in_ok-path.ensures.found);
      all = rw pushed (all_behind c.paths.paths.items c.in_ok-path.path c.paths.invariant.all c.in_ok-path.ensures.found.2.path);
      few = rw pushed (omega (arith, count_behind c.paths.paths.items c.in_ok-path.path));
      later = λ after. rw pushed (path_too c.args.limit c.args.least c.args.word after c.args.text.now c.paths.rest.now c.in_ok-path.others.now c.paths.paths.items c.in_ok-path.path (c.paths.invariant.later after) room c.in_ok-path.ensures.found);
    }
