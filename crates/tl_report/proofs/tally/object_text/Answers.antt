use Rattle.tl_report.specs.Summary.{how_many}
use Rattle.tl_report.proofs.Json.{no_float, compact, told_text}
use Rattle.tl_report.proofs.tally.object_text.Goals as goal

pub returns : goal.returns
returns g c =
    told_text _ _ _ _ c.in_ok-value.ensures (no_float (λ key. how_many key c.args.events.now)) (compact (λ key. how_many key c.args.events.now)) c.to_string.ensures.text
