use Rattle.std.proofs.Common.{rules, ◌≡◌, ◌∙◌, ◌<◌, true, false, length, take, is_err, Ok, Err, OnOk, OnErr, ap}
use Rattle.std.specs.declared.result.Result.{Result}
use Rattle.tl_fleet.specs.Installs.{removed_each}
use Rattle.tl_fleet.specs.Workers.{is_resident, installed}
use Rattle.tl_fleet.proofs.Together.{still_absent, one_more, undone}
use Rattle.tl_fleet.proofs.installs.install_copies.Goals as goal

where_err : {T E : Type 0} (r : Result T E) {P : Type 0} → is_err r ≡ true → OnErr r P → P
where_err (Ok x) e h = absurd (cc)
where_err (Err x) e h = h

where_ok : {T E : Type 0} (r : Result T E) {P : Type 0} → is_err r ≡ false → OnOk r P → P
where_ok (Ok x) e h = h
where_ok (Err x) e h = absurd (cc)

pub install_copy-requires-clause-absent : goal.install_copy-requires-clause-absent
install_copy-requires-clause-absent c =
    let d = c.index-blocks-i.result in
    let l : c.loop-i.i < length c.args.blocks.now = search rules in
    ap (λ b. is_resident b.file c.loop-i.workers) c.index-blocks-i.is
    ∙ ap (is_resident _) c.loop-i.invariant
    ∙ still_absent c.args.w c.args.blocks.now c.loop-i.i d c.args.workers.now l c.requires.absent c.requires.ascending

pub returns-then-is_err-clause-err : goal.returns-then-is_err-clause-err
returns-then-is_err-clause-err c =
    let back = where_err c.install_copy.result (search rules) c.install_copy.ensures.err in
    let taken : c.remove_each.new.workers ≡ removed_each c.args.w (take c.loop-i.i c.args.blocks.now) c.install_copy.new.workers = c.remove_each.ensures in
    taken ∙ ap (removed_each c.args.w (take c.loop-i.i c.args.blocks.now)) (back ∙ c.loop-i.invariant)
    ∙ undone c.args.w c.args.blocks.now c.loop-i.i c.args.workers.now c.requires.absent c.requires.ascending

pub loop-i-preserved : goal.loop-i-preserved
loop-i-preserved c =
    let d = c.index-blocks-i.result in
    let l : c.loop-i.i < length c.args.blocks.now = search rules in
    where_ok c.install_copy.result (search rules) c.install_copy.ensures.ok
    ∙ ap (λ b. installed c.args.w b c.loop-i.workers) c.index-blocks-i.is
    ∙ ap (installed c.args.w _) c.loop-i.invariant
    ∙ one_more c.args.w c.args.blocks.now c.loop-i.i d c.args.workers.now l
