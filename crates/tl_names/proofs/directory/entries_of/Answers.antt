use Rattle.std.proofs.Common.{◌∙◌, ap}
use Rattle.std.specs.Map.Iter.{deref_pair}
use Rattle.std.proofs.lemmas.Map.Iter.{rest_more}
use Rattle.tl_names.specs.Tables.{entry_in}
use Rattle.tl_names.proofs.Entries.{listed_more}
use Rattle.tl_names.proofs.directory.entries_of.Goals as goal

pub loop-name-preserved : goal.loop-name-preserved
loop-name-preserved c =
    listed_more c.loop-name.entries.items c.push.new.self.items c.in_ok-entry_of.field-0 (c.in-Some.name.now, c.in-Some.child.now) c.loop-name.name-iterator c.next.new.self _
    (rest_more deref_pair c.loop-name.name-iterator c.next.new.self c.next.result (c.in-Some.name, c.in-Some.child) c.in-Some.is c.next.ensures.steps)
    (c.in_ok-entry_of.ensures ∙ ap (λ name. entry_in (name, c.in-Some.child.now)) c.deref.ensures.value) c.in_ok-push.ensures.items c.loop-name.invariant
