use Rattle.std.proofs.Common.{◌-◌, ◌++◌, ◌∙◌, Bool, List, false, length, replicate, ap, arith}
use Rattle.tl_numbers.proofs.Views.{length-members, members-grown, no-room}
use Rattle.tl_numbers.proofs.number_set.NumberSet.room.Goals as goal

pub returns-then-bound-self-clause-room : goal.returns-then-bound-self-clause-room
returns-then-bound-self-clause-room c =
    let size = length-members c.self.inside.bound c.self.inside.first.items in
    no-room c.args.self.now c.args.bound (omega (arith, c.if-bound-self.true, size, ap length c.self.view_is))

pub returns-then-bound-ge-BOUND_LIMIT-clause-enough : goal.returns-then-bound-ge-BOUND_LIMIT-clause-enough
returns-then-bound-ge-BOUND_LIMIT-clause-enough c enough =
    let size = length-members c.self.inside.bound c.self.inside.first.items in
    absurd (omega (arith, enough, c.if-bound-self.false, size, ap length c.self.view_is))

pub invariant_of-self : goal.invariant_of-self
invariant_of-self c = c.grow_all.ensures.kept c.self.inside.bound c.self.invariant

pub returns-in_err-grow_all-clause-enough : goal.returns-in_err-grow_all-clause-enough
returns-in_err-grow_all-clause-enough c enough =
    let size = length-members c.self.inside.bound c.self.inside.first.items in
    absurd (omega (arith, enough, c.if-bound-self.false, size, ap length c.self.view_is))

pub invariant_of-self-2 : goal.invariant_of-self-2
invariant_of-self-2 c = c.in_ok-grow_all.ensures.grown c.self.inside.bound (omega (arith, c.if-bound-self.false)) c.self.invariant

pub returns-clause-room : goal.returns-clause-room
returns-clause-room c =
    members-grown c.self.inside.bound c.args.bound c.self.inside.first.items c.grow_all.new.first.items
    (omega (arith, c.if-bound-self.false)) c.self.invariant.none_past c.grow_all.ensures.same
    ∙ ap (λ (members : List Bool). members ++ replicate (c.args.bound - length members) false) c.self.view_is
