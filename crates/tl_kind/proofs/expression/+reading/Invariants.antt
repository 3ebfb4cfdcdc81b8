use Rattle.std.proofs.Common.{◌+◌, ◌*◌, ◌≡◌, length}
use Rattle.tl_kind.specs.Reading.{AreSeveral}
use Rattle.tl_kind.proofs.expression.+reading.Given as goal

abbrev pub decreases-expression : goal.decreases-expression
decreases-expression l = 9 * l.room + 1

abbrev pub decreases-nested : goal.decreases-nested
decreases-nested l = 9 * l.room

abbrev pub decreases-form : goal.decreases-form
decreases-form l = 9 * l.room + 5

abbrev pub decreases-parts : goal.decreases-parts
decreases-parts l = 9 * l.room + 4

abbrev pub decreases-next_part : goal.decreases-next_part
decreases-next_part l = 9 * l.room + 2

abbrev pub decreases-one : goal.decreases-one
decreases-one l = 9 * l.room + 3

abbrev pub decreases-two : goal.decreases-two
decreases-two l = 9 * l.room + 3

abbrev pub decreases-three : goal.decreases-three
decreases-three l = 9 * l.room + 3

abbrev pub decreases-binding : goal.decreases-binding
decreases-binding l = 9 * l.room + 3

abbrev pub decreases-fold : goal.decreases-fold
decreases-fold l = 9 * l.room + 3

abbrev pub decreases-list : goal.decreases-list
decreases-list l = 9 * l.room + 3

abbrev pub decreases-several : goal.decreases-several
decreases-several l = 9 * l.room + 2

abbrev pub invariant-several-loop : goal.invariant-several-loop
invariant-several-loop l = record {
  count : length l.parts.items ≡ l.counter;
  stand : AreSeveral l.room l.parts.items l.fn.cursor.rest.now l.cursor.rest.now;
}
