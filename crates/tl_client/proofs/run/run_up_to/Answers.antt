use Rattle.std.proofs.Common.{◌≡◌, ◌+◌, ◌≤◌, ◌∷◌, Bool, true, length, Some, sym, ap, ◌∙◌, subst, arith}
use Rattle.tl_model.specs.declared.header.Header.{Header}
use Rattle.tl_model.specs.Past.{without_tickets}
use Rattle.tl_model.specs.Plan.{next}
use Rattle.tl_client.specs.Pieces.{RanNext}
use Rattle.tl_client.proofs.run.run_up_to.Goals as goal

pub jobs-preserved : goal.jobs-preserved
jobs-preserved c =
    let ran : RanNext c.jobs.cluster.header.order c.jobs.cluster.events c.run_next.new.cluster.events c.args.actor c.args.worker true =
    subst (λ (b : Bool). RanNext c.jobs.cluster.header.order c.jobs.cluster.events c.run_next.new.cluster.events c.args.actor c.args.worker b) c.if-not-branch.false c.in_ok-run_next.ensures.ok in
    let count : length (ran.0 ∷ c.jobs.invariant.ran.0) ≡ c.jobs.count + 1 =
    let before : length c.jobs.invariant.ran.0 ≡ c.jobs.count = c.jobs.invariant.ran.2 in omega arith in
    let is_next : next c.args.cluster.now.header.order (without_tickets c.jobs.cluster.events) ≡ Some ran.0 =
    ap (λ (h : Header). next h.order (without_tickets c.jobs.cluster.events)) (sym c.jobs.invariant.header) ∙ ran.1 in
    record {
      ran = (ran.0 ∷ c.jobs.invariant.ran.0, (c.jobs.cluster.events, c.jobs.invariant.ran.1, is_next, ran.2), count);
      few = omega arith;
      header = c.run_next.ensures.header ∙ c.jobs.invariant.header;
      rest = c.run_next.ensures.rest;
      reads = λ a. c.run_next.ensures.reads a ∙ c.jobs.invariant.reads a;
      saves = λ a. c.run_next.ensures.saves a ∙ c.jobs.invariant.saves a;
    }
