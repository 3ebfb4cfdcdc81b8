-- The tables keep step with a call.
use Rattle.std.proofs.Common.{◌≡◌, ◌≤◌, ◌<◌, ◌+◌, ℕ, length, sym, ap, ◌∙◌, arith, length-append}
use Rattle.tl_types.specs.declared.actor.Actor.{Actor}
use Rattle.tl_model.specs.declared.command.Command.{Command}
use Rattle.tl_model.specs.declared.command.Command.TheVariants.{Put, Job, Read, Delete, Mkdir, Rename, Pin, Unpin, List as list, Stat, Free as free}
use Rattle.tl_model.specs.declared.event.Act.TheVariants.{Call}
use Rattle.tl_model.specs.declared.reply.Reply.{Reply}
use Rattle.tl_model.specs.declared.reply.Reply.TheVariants.{Made, Fine, Opened, Listed, Stated, Exists, NoSuch, NotFile, NotDir, NotEmpty, TooDeep, IntoItself, TooMany}
use Rattle.tl_model.specs.History.{HistoryOf, names_of, record_made, records_of, reply_after, with_call}
use Rattle.tl_model.specs.Namespace.{Names}
use Rattle.tl_model.specs.Replies.{reply_to}
use Rattle.tl_ledger.proofs.Added.{put-below, job-below}
use Rattle.tl_names.specs.Answers.{Tables, IsNamesOf}
use Rattle.tl_ledger.specs.Following.{Follows}

-- a call that is answered so leaves no more records than there may be
few-after : {T : Type 0} (names : Names) (count : ℕ) (command : Command T) (reply : Reply) → reply ≡ reply_to names count command → count ≤ 1048576 →
    count + length (record_made reply command names) ≤ 1048576
few-after names count (Put path len digest ticket) (Made made) is few =
    let less : count < 1048576 = put-below names count path len digest ticket made (sym is) in omega arith
few-after {T} names count (Job core prio inputs outputs) (Made made) is few =
    let less : count < 1048576 = job-below T names count core prio inputs outputs made (sym is) in omega arith
few-after names count (Read path prio form) (Made made) is few = omega arith
few-after names count (Delete path) (Made made) is few = omega arith
few-after names count (Mkdir path) (Made made) is few = omega arith
few-after names count (Rename from to) (Made made) is few = omega arith
few-after names count (Pin path) (Made made) is few = omega arith
few-after names count (Unpin path) (Made made) is few = omega arith
few-after names count (list path) (Made made) is few = omega arith
few-after names count (Stat path) (Made made) is few = omega arith
few-after names count (free path) (Made made) is few = omega arith
few-after names count command Fine is few = omega arith
few-after names count command (Opened f) is few = omega arith
few-after names count command (Listed entries) is few = omega arith
few-after names count command (Stated status) is few = omega arith
few-after names count command Exists is few = omega arith
few-after names count command NoSuch is few = omega arith
few-after names count command NotFile is few = omega arith
few-after names count command NotDir is few = omega arith
few-after names count command NotEmpty is few = omega arith
few-after names count command TooDeep is few = omega arith
few-after names count command IntoItself is few = omega arith
few-after names count command TooMany is few = omega arith

pub followed : {T : Type 0} (old new : Tables) (next next' : ℕ) (calls : HistoryOf T) (actor : Actor) (command : Command T) (reply : Reply) → Follows old next calls →
    (reply ≡ reply_after calls command) × IsNamesOf new (with_call actor (Call command reply) calls) →
    ((names : Names) → next' ≡ next + length (record_made reply command names)) → Follows new next' (with_call actor (Call command reply) calls)
followed old new next next' calls actor command reply f said count =
    let names = names_of calls in
    let more = record_made reply command names in
    let enough : next + length more ≤ 1048576 =
    few-after names next command reply (said.0 ∙ ap (λ n. reply_to names n command) (sym f.counted)) f.few in
    let is : next' ≡ next + length more = count names in
    record {
      names = said.1;
      counted = is ∙ ap (λ n. n + length more) f.counted ∙ sym (length-append (records_of calls) more);
      few = omega arith;
    }
