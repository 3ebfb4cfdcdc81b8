use Rattle.std.proofs.Common.{◌≡◌, ℕ, ◌∷◌, Bool, true, false, Option, Some, None, List, sym, ap, ◌∙◌, subst}
use Rattle.tl_types.specs.Block.{FileOutcome}
use Rattle.tl_types.specs.declared.file_id.FileId.{FileId}
use Rattle.tl_model.specs.Actors.{open_read, open_save}
use Rattle.tl_model.specs.Past.{without_tickets}
use Rattle.tl_model.specs.Residency.{is_available}
use Rattle.tl_model.specs.declared.header.Header.{Header}
use Rattle.tl_model.specs.Plan.{next}
use Rattle.tl_core.specs.Answers.{past_of}
use Rattle.tl_client.specs.Pieces.{Events, IsServedNow, RanNext}
use Rattle.tl_client.proofs.Waiting.{never-stuck, fewer-tasks}
use Rattle.tl_client.proofs.reading.serve.Goals as goal

pub serve_now-requires-clause-reading : goal.serve_now-requires-clause-reading
serve_now-requires-clause-reading c =
    (c.requires.reading.0, c.rounds.invariant.reads c.args.actor ∙ c.requires.reading.1, c.requires.reading.2)

pub unreachable-requires : goal.unreachable-requires
unreachable-requires c =
    let read = c.requires.reading.0 in
    let now : Events = c.rounds.cluster.events in
    let is : open_read (past_of c.rounds.cluster) c.args.actor ≡ Some read = c.rounds.invariant.reads c.args.actor ∙ c.requires.reading.1 in
    let looked : IsServedNow now c.serve_now.new.cluster.events c.args.actor c.args.worker c.args.file None =
    subst (λ (o : Option FileOutcome). IsServedNow now c.serve_now.new.cluster.events c.args.actor c.args.worker c.args.file o) c.in-None.is c.in_ok-block.ensures.ok in
    let missing : is_available (past_of c.rounds.cluster) read.file ≡ false =
    subst (λ (f : FileId). is_available (past_of c.rounds.cluster) f ≡ false) (sym c.requires.reading.2) looked.0 in
    let ran : RanNext c.serve_now.new.cluster.header.order c.serve_now.new.cluster.events c.run_next.new.cluster.events c.args.actor c.args.worker false =
    subst (λ (b : Bool). RanNext c.serve_now.new.cluster.header.order c.serve_now.new.cluster.events c.run_next.new.cluster.events c.args.actor c.args.worker b) c.if-not-branch.true c.in_ok-run_next-in-None.ensures.ok in
    let none : next c.rounds.cluster.header.order (past_of c.rounds.cluster) ≡ None =
    ap (λ (h : Header). next h.order (past_of c.rounds.cluster)) (sym c.serve_now.ensures.header)
    ∙ subst (λ (es : Events). next c.serve_now.new.cluster.header.order (without_tickets es) ≡ None) looked.1 ran.0 in
    never-stuck c.rounds.cluster c.args.actor read c.stands.ensures.lawful c.rounds.invariant.rest is missing none

pub rounds-smaller : goal.rounds-smaller
rounds-smaller c =
    let now : Events = c.rounds.cluster.events in
    let looked : IsServedNow now c.serve_now.new.cluster.events c.args.actor c.args.worker c.args.file None =
    subst (λ (o : Option FileOutcome). IsServedNow now c.serve_now.new.cluster.events c.args.actor c.args.worker c.args.file o) c.in-None.is c.in_ok-block.ensures.ok in
    let ran : RanNext c.serve_now.new.cluster.header.order now c.run_next.new.cluster.events c.args.actor c.args.worker true =
    subst (λ (es : Events). RanNext c.serve_now.new.cluster.header.order es c.run_next.new.cluster.events c.args.actor c.args.worker true) looked.1
    (subst (λ (b : Bool). RanNext c.serve_now.new.cluster.header.order c.serve_now.new.cluster.events c.run_next.new.cluster.events c.args.actor c.args.worker b) c.if-not-branch.false c.in_ok-run_next-in-None.ensures.ok) in
    let is_next : next c.rounds.cluster.header.order (past_of c.rounds.cluster) ≡ Some ran.0 =
    ap (λ (h : Header). next h.order (past_of c.rounds.cluster)) (sym c.serve_now.ensures.header) ∙ ran.1 in
    fewer-tasks c.rounds.cluster c.run_next.new.cluster.events c.args.actor c.args.worker ran.0 c.stands.ensures.lawful c.rounds.invariant.rest is_next ran.2

pub rounds-preserved : goal.rounds-preserved
rounds-preserved c =
    let now : Events = c.rounds.cluster.events in
    let looked : IsServedNow now c.serve_now.new.cluster.events c.args.actor c.args.worker c.args.file None =
    subst (λ (o : Option FileOutcome). IsServedNow now c.serve_now.new.cluster.events c.args.actor c.args.worker c.args.file o) c.in-None.is c.in_ok-block.ensures.ok in
    let ran : RanNext c.serve_now.new.cluster.header.order now c.run_next.new.cluster.events c.args.actor c.args.worker true =
    subst (λ (es : Events). RanNext c.serve_now.new.cluster.header.order es c.run_next.new.cluster.events c.args.actor c.args.worker true) looked.1
    (subst (λ (b : Bool). RanNext c.serve_now.new.cluster.header.order c.serve_now.new.cluster.events c.run_next.new.cluster.events c.args.actor c.args.worker b) c.if-not-branch.false c.in_ok-run_next-in-None.ensures.ok) in
    let is_next : next c.args.cluster.now.header.order (past_of c.rounds.cluster) ≡ Some ran.0 =
    ap (λ (h : Header). next h.order (past_of c.rounds.cluster)) (sym (c.serve_now.ensures.header ∙ c.rounds.invariant.header)) ∙ ran.1 in
    record {
      runs = (ran.0 ∷ c.rounds.invariant.runs.0, (now, c.rounds.invariant.runs.1, looked.0, is_next, ran.2));
      header = c.run_next.ensures.header ∙ c.serve_now.ensures.header ∙ c.rounds.invariant.header;
      rest = c.run_next.ensures.rest;
      reads = λ a. c.run_next.ensures.reads a ∙ ap (λ (es : Events). open_read (without_tickets es) a) looked.1 ∙ c.rounds.invariant.reads a;
      saves = λ a. c.run_next.ensures.saves a ∙ ap (λ (es : Events). open_save (without_tickets es) a) looked.1 ∙ c.rounds.invariant.saves a;
    }
