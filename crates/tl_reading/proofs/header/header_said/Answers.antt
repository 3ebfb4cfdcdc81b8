use Rattle.std.proofs.Common.{codes, sym, ◌∙◌, ap, arith}
use Rattle.tl_model.specs.declared.header.Version.{Version}
use Rattle.tl_script.specs.Script.{order_text}
use Rattle.tl_script.proofs.Headers.{behind, no_digit_workers, no_digit_capacity, no_digit_order, behind_version, behind_workers, behind_capacity}
use Rattle.tl_spelling.proofs.OneJournal.{header_parts}
use Rattle.tl_reading.proofs.Standing.{same_version}
use Rattle.tl_reading.proofs.header.header_said.Goals as goal

pub returns-in_err-version-clause-none : goal.returns-in_err-version-clause-none
returns-in_err-version-clause-none c = rw c.from_residual.ensures (λ h is e. c.in_err-version.ensures.none h.version (behind_version h) (e ∙ header_parts h))

pub returns-in_err-workers-clause-none : goal.returns-in_err-workers-clause-none
returns-in_err-workers-clause-none c = rw c.from_residual-in_err-workers.ensures (λ h is e.
    let v = same_version c.args.line.now c.in_ok-version.version h.version c.in_ok-version.rest.now (behind_version h) c.in_ok-version.ensures.found (e ∙ header_parts h) in
    c.in_err-workers.ensures.none h.workers (behind_workers h) is.some_workers is.workers (no_digit_workers h) v.1)

pub returns-in_err-capacity-clause-none : goal.returns-in_err-capacity-clause-none
returns-in_err-capacity-clause-none c = rw c.from_residual-in_err-capacity.ensures (λ h is e.
    let v = same_version c.args.line.now c.in_ok-version.version h.version c.in_ok-version.rest.now (behind_version h) c.in_ok-version.ensures.found (e ∙ header_parts h) in
    let w = behind c.in_ok-version.rest.now (codes " workers ") c.in_ok-workers.workers h.workers c.in_ok-workers.rest.now (behind_workers h) c.in_ok-workers.ensures.found v.1 (omega (arith, c.in_ok-workers.ensures.within.1)) (omega (arith, is.workers)) c.in_ok-workers.ensures.ended (no_digit_workers h) in
    c.in_err-capacity.ensures.none h.capacity (behind_capacity h) is.some_capacity is.capacity (no_digit_capacity h) w.1)

pub returns-in_err-hot-clause-none : goal.returns-in_err-hot-clause-none
returns-in_err-hot-clause-none c = rw c.from_residual-in_err-hot.ensures (λ h is e.
    let v = same_version c.args.line.now c.in_ok-version.version h.version c.in_ok-version.rest.now (behind_version h) c.in_ok-version.ensures.found (e ∙ header_parts h) in
    let w = behind c.in_ok-version.rest.now (codes " workers ") c.in_ok-workers.workers h.workers c.in_ok-workers.rest.now (behind_workers h) c.in_ok-workers.ensures.found v.1 (omega (arith, c.in_ok-workers.ensures.within.1)) (omega (arith, is.workers)) c.in_ok-workers.ensures.ended (no_digit_workers h) in
    let k = behind c.in_ok-workers.rest.now (codes " capacity ") c.in_ok-capacity.capacity h.capacity c.in_ok-capacity.rest.now (behind_capacity h) c.in_ok-capacity.ensures.found w.1 (omega (arith, c.in_ok-capacity.ensures.within.1)) (omega (arith, is.capacity)) c.in_ok-capacity.ensures.ended (no_digit_capacity h) in
    c.in_err-hot.ensures.none h.hot (order_text h.version h.order) is.some_hot is.hot (no_digit_order h.version h.order) k.1)

pub returns-in_err-order-clause-none : goal.returns-in_err-order-clause-none
returns-in_err-order-clause-none c = rw c.from_residual-in_err-order.ensures (λ h is e.
    let v = same_version c.args.line.now c.in_ok-version.version h.version c.in_ok-version.rest.now (behind_version h) c.in_ok-version.ensures.found (e ∙ header_parts h) in
    let w = behind c.in_ok-version.rest.now (codes " workers ") c.in_ok-workers.workers h.workers c.in_ok-workers.rest.now (behind_workers h) c.in_ok-workers.ensures.found v.1 (omega (arith, c.in_ok-workers.ensures.within.1)) (omega (arith, is.workers)) c.in_ok-workers.ensures.ended (no_digit_workers h) in
    let k = behind c.in_ok-workers.rest.now (codes " capacity ") c.in_ok-capacity.capacity h.capacity c.in_ok-capacity.rest.now (behind_capacity h) c.in_ok-capacity.ensures.found w.1 (omega (arith, c.in_ok-capacity.ensures.within.1)) (omega (arith, is.capacity)) c.in_ok-capacity.ensures.ended (no_digit_capacity h) in
    let t = behind c.in_ok-capacity.rest.now (codes " hot ") c.in_ok-hot.hot h.hot c.in_ok-hot.rest.now (order_text h.version h.order) c.in_ok-hot.ensures.found k.1 (omega (arith, c.in_ok-hot.ensures.within.1)) (omega (arith, is.hot)) c.in_ok-hot.ensures.ended (no_digit_order h.version h.order) in
    c.in_err-order.ensures.none h.order (t.1 ∙ ap (λ (x : Version). order_text x h.order) (sym v.0)))
