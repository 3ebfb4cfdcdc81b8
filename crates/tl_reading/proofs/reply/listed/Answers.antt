use Rattle.std.proofs.Common.{◌≡◌, ◌<◌, ◌∷◌, [], ◌++◌, length, sym, ◌∙◌, ap, subst, arith}
use Rattle.std.specs.List.{AllByRecursion}
use Rattle.std.proofs.lemmas.List.{length-append}
use Rattle.tl_spelling.specs.Shown.{IsEntry}
use Rattle.tl_reading.specs.Replies.{listed}
use Rattle.tl_reading.proofs.Names.{entries-push, listed-push, one_more}
use Rattle.tl_reading.proofs.Stopping.{exit, stop_more}
use Rattle.tl_reading.proofs.reply.listed.Goals as goal

pub returns-in_err-entry-clause-none : goal.returns-in_err-entry-clause-none
returns-in_err-entry-clause-none c =
    exit c.from_residual.result c.in_err-entry.field-0.0 _ c.from_residual.ensures.1
    (stop_more _ _ c.in_err-entry.field-0.0
    (λ none entries rest many are e.
    let fewer : length c.entries.entries.items < length entries = omega (arith, c.entries-test.true, c.len.ensures, c.entries.entries.ok.0, many) in
    let next = one_more c.entries.entries.items c.entries.rest.now entries rest c.entries.invariant.1 are fewer (sym c.entries.invariant.0 ∙ e) in
    none next.0 next.1 next.2 next.3)
    c.in_err-entry.ensures.none)

pub entries-preserved : goal.entries-preserved
entries-preserved c =
    let more : c.push.new.self.items ≡ c.entries.entries.items ++ c.in_ok-entry.entry ∷ [] = c.in_ok-push.ensures.items in
    let said : c.args.text.now ≡ listed (c.entries.entries.items ++ c.in_ok-entry.entry ∷ []) c.in_ok-entry.later.now =
    c.entries.invariant.0 ∙ ap (λ text. listed c.entries.entries.items text) c.in_ok-entry.ensures.found ∙ sym (listed-push c.entries.entries.items c.in_ok-entry.entry c.in_ok-entry.later.now) in (
      said ∙ ap (λ entries. listed entries c.in_ok-entry.later.now) (sym more),
      subst (AllByRecursion IsEntry) (sym more) (entries-push c.entries.entries.items c.in_ok-entry.entry c.entries.invariant.1 c.in_ok-entry.ensures.within),
      omega (arith, ap length more, length-append c.entries.entries.items (c.in_ok-entry.entry ∷ []), c.entries-test.true, c.len.ensures, c.entries.entries.ok.0),
    )
