use Rattle.std.proofs.Common.{◌≡◌, ◌∙◌, List, [], reverse, sym, ap, subst}
use Rattle.std.specs.List.{AllByRecursion}
use Rattle.std.proofs.lemmas.List.{append-nil, reverse-reverse}
use Rattle.tl_script.specs.declared.script.Line.{Line}
use Rattle.tl_run.specs.Plays.{IsLine}
use Rattle.tl_run.proofs.play.play.Goals as goal

pub lines-init : goal.lines-init
lines-init c =
    let again : reverse c.reverse.new.self.items ≡ c.args.lines.items = ap reverse c.reverse.ensures.items ∙ reverse-reverse c.args.lines.items in
    record {
      played = ([], sym c.reverse.ensures.items ∙ sym (append-nil c.reverse.new.self.items), (c.in_ok-cluster.ensures.events, c.new-printed.ensures.items));
      lines = subst (λ (lines : List Line). AllByRecursion (IsLine c.args.header) lines) (sym again) c.requires.lines;
      rest = c.in_ok-cluster.ensures.rest;
      header = c.in_ok-cluster.ensures.header;
    }
