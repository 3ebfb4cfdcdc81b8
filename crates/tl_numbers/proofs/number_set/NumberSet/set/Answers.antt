use Rattle.std.proofs.Common.{◌∙◌, Bool, List, set, ap, arith}
use Rattle.tl_numbers.proofs.Layering.{written}
use Rattle.tl_numbers.proofs.Views.{members-written, within-bound}
use Rattle.tl_numbers.proofs.number_set.NumberSet.set.Goals as goal

pub write-marked-requires : goal.write-marked-requires
write-marked-requires c =
    let within = within-bound c.self.inside.bound c.self.inside.first.items c.args.self.now c.args.n c.self.view_is c.requires in
    omega (arith, within, c.self.invariant.in_first)

pub write-marked-requires-2 : goal.write-marked-requires-2
write-marked-requires-2 c =
    let within = within-bound c.self.inside.bound c.self.inside.first.items c.args.self.now c.args.n c.self.view_is c.requires in
    omega (arith, within, c.self.invariant.in_second)

pub write-marked-requires-3 : goal.write-marked-requires-3
write-marked-requires-3 c =
    let within = within-bound c.self.inside.bound c.self.inside.first.items c.args.self.now c.args.n c.self.view_is c.requires in
    omega (arith, within, c.self.invariant.in_third)

pub write-requires : goal.write-requires
write-requires c =
    let within = within-bound c.self.inside.bound c.self.inside.first.items c.args.self.now c.args.n c.self.view_is c.requires in
    omega (arith, within, c.self.invariant.in_fourth)

pub invariant_of-self : goal.invariant_of-self
invariant_of-self c =
    let old = c.self.inside in
    let within = within-bound old.bound old.first.items c.args.self.now c.args.n c.self.view_is c.requires in
    written old.bound c.args.n within old.first.items old.second.items old.third.items old.fourth.items
    c.write-marked.new.words.items c.write-marked-2.new.words.items c.write-marked-3.new.words.items c.write.new.words.items
    _ _ _ c.self.invariant c.write-marked.ensures.len c.write-marked-2.ensures.len c.write-marked-3.ensures.len c.write.ensures.len
    c.write-marked.ensures.others c.write-marked.ensures.mark c.write-marked.ensures.marks
    c.write-marked-2.ensures.here c.write-marked-2.ensures.others c.write-marked-2.ensures.mark c.write-marked-2.ensures.marks
    c.write-marked-3.ensures.here c.write-marked-3.ensures.others c.write-marked-3.ensures.mark c.write-marked-3.ensures.marks
    c.write.ensures.here c.write.ensures.others

pub returns : goal.returns
returns c =
    let old = c.self.inside in
    let within = within-bound old.bound old.first.items c.args.self.now c.args.n c.self.view_is c.requires in
    members-written old.bound c.args.n c.args.is_member old.first.items c.write-marked.new.words.items within c.write-marked.ensures.here c.write-marked.ensures.others
    ∙ ap (λ (members : List Bool). set members c.args.n c.args.is_member) c.self.view_is
