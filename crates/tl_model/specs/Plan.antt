-- The plan: which jobs must be run, which wait for which, and which is next.
use Rattle.std.specs.Prelude.{ℕ, ◌+◌, ◌*◌, ◌==◌, nat_lt, max, Bool, false, ◌&&◌, ◌||◌, not, List, [], ◌∷◌, map, filter, Option, Some, None, option_map, if◌then◌else◌}
use Rattle.std.specs.List.{list_any, find}
use Rattle.tl_types.specs.Same.{record_same, file_same}
use Rattle.tl_types.specs.declared.file_id.FileId.{FileId}
use Rattle.tl_types.specs.declared.record_id.RecordId.{RecordId}
use Rattle.tl_model.specs.declared.event.Act.{Act}
use Rattle.tl_model.specs.declared.event.Act.TheVariants.{Claim}
use Rattle.tl_model.specs.declared.header.OrderRule.{OrderRule}
use Rattle.tl_model.specs.declared.header.OrderRule.TheVariants.{Strict, Shares}
use Rattle.tl_model.specs.declared.record.Record.{Record}
use Rattle.tl_model.specs.Past.{Past}
use Rattle.tl_model.specs.Tables.{Table, downward, answer_at, chosen, first_by}
use Rattle.tl_model.specs.History.{records, id_of, is_job, inputs_of, outputs_of, own_prio, has_input}
use Rattle.tl_model.specs.Actors.{OpenRead, open_read, actors, is_read, is_running}
use Rattle.tl_model.specs.Residency.{is_available, all_available, was_done}

-- whether a record is of this number
abbrev pub has_id : RecordId → Record → Bool
has_id made r = record_same made (id_of r)

-- a task of the table that isn't running has the file as input
abbrev pub is_awaited : Past → Table Record Bool → FileId → Bool
is_awaited past tasks f = list_any (λ r. has_input f r && not (is_running past (id_of r))) (chosen tasks)

-- a read on the file is open, or a task of the table that isn't running has it as input
abbrev pub is_wanted_by : Past → Table Record Bool → FileId → Bool
is_wanted_by past tasks f = is_read past f || is_awaited past tasks f

abbrev pub lacks : Past → Table Record Bool → FileId → Bool
lacks past tasks f = is_wanted_by past tasks f && not (is_available past f)

-- a job is a task where it was never done, or where an output is wanted and not available
abbrev pub task_among : Past → Table Record Bool → Record → Bool
task_among past tasks r = is_job r && (not (was_done past (id_of r)) || list_any (lacks past tasks) (outputs_of r))

-- which records are tasks, found from the greatest number down: who reads a file has a greater one
abbrev pub tasks : Past → Table Record Bool
tasks past = downward (task_among past) (records past)

abbrev pub is_task : Past → RecordId → Bool
is_task past made = answer_at (has_id made) false (tasks past)

-- a read on the file is open, or a task that isn't running has it as input
abbrev pub is_wanted : Past → FileId → Bool
is_wanted past f = is_wanted_by past (tasks past) f

-- ---- waiting

abbrev pub is_missing_input : Past → Record → FileId → Bool
is_missing_input past reader f = has_input f reader && not (is_available past f)

-- a task that isn't running waits for the record that makes an input which isn't available
abbrev pub waits_for : Past → Record → Record → Bool
waits_for past reader maker = not (is_running past (id_of reader)) && list_any (is_missing_input past reader) (outputs_of maker)

abbrev pub waits : Past → Record → Record → Bool
waits past reader maker = is_task past (id_of reader) && waits_for past reader maker

-- the greatest of some priorities, and 0
abbrev pub greatest : List ℕ → ℕ
greatest [] = 0
greatest (p ∷ ps) = max p (greatest ps)

abbrev pub prio_of_read : Record → Option OpenRead → ℕ
prio_of_read r None = 0
prio_of_read r (Some read) = if list_any (file_same read.file) (outputs_of r) then read.prio else 0

-- of the open reads on its outputs
abbrev pub prio_of_reads : Past → Record → ℕ
prio_of_reads past r = greatest (map (λ actor. prio_of_read r (open_read past actor)) actors)

-- of the tasks of the table that wait for it
abbrev pub prio_of_waiting : Past → Table Record ℕ → Record → ℕ
prio_of_waiting past prios r = greatest (map (λ entry. if waits past entry.0 r then entry.1 else 0) prios)

abbrev pub prio_of_own : Past → Record → ℕ
prio_of_own past r = if was_done past (id_of r) then 0 else own_prio r

-- the greatest of the job's own priority while it was never done, of those of open reads on its outputs, and of those
-- of the tasks that wait for it
abbrev pub prio_among : Past → Table Record ℕ → Record → ℕ
prio_among past prios r = max (prio_of_own past r) (max (prio_of_reads past r) (prio_of_waiting past prios r))

abbrev pub prios : Past → Table Record ℕ
prios past = downward (prio_among past) (records past)

abbrev pub prio : Past → RecordId → ℕ
prio past made = answer_at (has_id made) 0 (prios past)

-- ---- the choice

-- a task that isn't running and all whose inputs are available
abbrev pub can_run : Past → Record → Bool
can_run past r = is_task past (id_of r) && not (is_running past (id_of r)) && all_available past (inputs_of r)

abbrev pub ready : Past → List Record
ready past = filter (can_run past) (records past)

abbrev pub is_ready : Past → RecordId → Bool
is_ready past made = list_any (has_id made) (ready past)

-- ---- whose turn it is

-- how many claims were of a record that had this priority then
abbrev pub claims_after : Past → Act (Unit {0}) → ℕ → ℕ → ℕ
claims_after past (Claim worker made) p before = if prio past made == p then before + 1 else before
claims_after past _ p before = before

abbrev pub claims : Past → ℕ → ℕ
claims [] p = 0
claims (e ∷ past) p = claims_after past e.act p (claims past p)

-- one priority got less of its share than another: `(claims + 1) / (priority + 1)` is less
abbrev pub got_less : Past → ℕ → ℕ → Bool
got_less past p q = nat_lt ((claims past p + 1) * (q + 1)) ((claims past q + 1) * (p + 1))

-- one priority has its turn before another: under strict order the greater has; under shares that which got less of its
-- share, and where none did the greater
abbrev pub has_turn_before : OrderRule → Past → ℕ → ℕ → Bool
has_turn_before Strict past p q = nat_lt q p
has_turn_before Shares past p q = got_less past p q || not (got_less past q p) && nat_lt q p

abbrev pub prio_of : Past → Record → ℕ
prio_of past r = prio past (id_of r)

-- the priority that has its turn, where some record is ready
abbrev pub level : OrderRule → Past → Option ℕ
level order past = first_by (has_turn_before order past) (map (prio_of past) (ready past))

abbrev pub has_prio : Past → ℕ → Record → Bool
has_prio past p r = prio_of past r == p

-- the ready record of this priority, and among these of the least number
abbrev pub first_at : Past → Option ℕ → Option RecordId
first_at past None = None
first_at past (Some p) = option_map id_of (find (has_prio past p) (ready past))

-- the ready record of least number among those whose priority has its turn
abbrev pub next : OrderRule → Past → Option RecordId
next order past = first_at past (level order past)
