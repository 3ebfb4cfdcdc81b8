use Rattle.std.proofs.Common.{◌≡◌, ◌∷◌}
use Rattle.tl_model.specs.Past.{event_with}
use Rattle.tl_spelling.specs.Events.{event_text}
use Rattle.tl_spelling.specs.Journals.{line_of}
use Rattle.tl_spelling.proofs.Printing.{event_step, kept_by, kept_on}
use Rattle.tl_spelling.proofs.journal.event_lines.Goals as goal

pub events-preserved : goal.events-preserved
events-preserved g c =
    let event = c.in-Some.event.now in
    let split : c.events.rest.now ≡ event ∷ c.in-Some.later.now = c.in-Some.ensures.cases.0 in
    record {
      printed = event_step c.args.out.now.items c.events.out.items c.event_line.new.out.items c.next_source.result.now event c.events.rest.now c.in-Some.later.now c.events.left.now c.later_sources-left.result.now
          c.args.sources.now c.args.events.now split c.next_source.ensures c.later_sources-left.ensures c.in_ok-event_line.ensures.ok c.events.invariant.printed;
      kept = kept_on c.args.out.now.items c.events.out.items c.event_line.new.out.items c.events.invariant.kept
          (kept_by c.events.out.items c.event_line.new.out.items (line_of (event_text (event_with (λ _. c.next_source.result.now) event))) c.in_ok-event_line.ensures.ok);
    }
