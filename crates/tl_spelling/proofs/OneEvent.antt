-- No text is two events.
use Rattle.std.proofs.Common.{◌≡◌, ℕ, ◌<◌, ◌≤◌, ◌^◌, Bool, true, false, if◌then◌else◌, List, [], ◌∷◌, ◌++◌, bytes_eq, codes, decimal, length, Option, Some, None, refl, sym, ◌∙◌, ap, arith}
use Rattle.hex.specs.Hex.{encode_lower}
use Rattle.tl_types.specs.Outcome.{digest_of}
use Rattle.tl_types.specs.declared.outcome.Outcome.TheVariants.{Value}
use Rattle.tl_text.specs.File.{file_text}
use Rattle.tl_text.specs.PathText.{EndsToken}
use Rattle.tl_model.specs.declared.command.Command.{Command}
use Rattle.tl_model.specs.declared.command.Command.TheVariants as command
use Rattle.tl_model.specs.declared.event.Act.{Act}
use Rattle.tl_model.specs.declared.event.Act.TheVariants.{Call, Served, Shut, Claim, Done, Back, Lose, Free, Drop, Load, Save, Saved, Unsave, Collect}
use Rattle.tl_model.specs.declared.event.Event.{Event}
use Rattle.tl_model.specs.declared.header.Header.{Header}
use Rattle.tl_report.specs.Words.{spaced, reply_words}
use Rattle.tl_script.specs.declared.script.Op.{Op}
use Rattle.tl_script.specs.declared.script.Op.TheVariants as op
use Rattle.tl_script.specs.Commands.{IsOp, Says}
use Rattle.tl_script.proofs.OneToken.{one_word}
use Rattle.tl_script.proofs.Unique.{same_command}
use Rattle.tl_script.proofs.WordTables.{no_space}
use Rattle.tl_spelling.specs.Commands.{op_of, command_text}
use Rattle.tl_spelling.specs.Events.{act_words, event_text}
use Rattle.tl_spelling.specs.Shown.{IsAct, IsEvent, shown, shown_act, shown_command}
use Rattle.tl_spelling.proofs.Cuts.{tail_of, no_digit_at_space, cut_number, cut_worker, cut_file, whole_record, whole_worker, whole_file, whole_digest}
use Rattle.tl_spelling.proofs.OneReply.{one_reply}

-- ---- commands

-- the command of a journal that a command of a script is
command_from : Op → Command (List ℕ)
command_from (op.Put path bytes) = command.Put path (length bytes) (record { 0 = digest_of (Value bytes) }) bytes
command_from (op.Job core prio inputs outputs) = command.Job core prio inputs outputs
command_from (op.Read path prio form) = command.Read path prio form
command_from (op.Delete path) = command.Delete path
command_from (op.Mkdir path) = command.Mkdir path
command_from (op.Rename from to) = command.Rename from to
command_from (op.Pin path) = command.Pin path
command_from (op.Unpin path) = command.Unpin path
command_from (op.List path) = command.List path
command_from (op.Stat path) = command.Stat path
command_from (op.Free path) = command.Free path
command_from other = command.Mkdir []

from_op : (c : Command (List ℕ)) → command_from (op_of c) ≡ shown_command c
unfolding command_from
from_op (command.Put path len digest bytes) = refl
from_op (command.Job core prio inputs outputs) = refl
from_op (command.Read path prio form) = refl
from_op (command.Delete path) = refl
from_op (command.Mkdir path) = refl
from_op (command.Rename from to) = refl
from_op (command.Pin path) = refl
from_op (command.Unpin path) = refl
from_op (command.List path) = refl
from_op (command.Stat path) = refl
from_op (command.Free path) = refl

pub says_itself : (header : Header) (c : Command (List ℕ)) → IsOp header (op_of c) → Says header (command_text c) (op_of c)
says_itself header c h = record { command = h; spelled_so = refl }

pub one_command : (header : Header) (c d : Command (List ℕ)) → header.workers < 2 ^ 8 → IsOp header (op_of c) → IsOp header (op_of d) → command_text c ≡ command_text d → shown_command c ≡ shown_command d
one_command header c d w h k e =
    let ops = same_command header (command_text c) (op_of c) (op_of d) w (says_itself header c h) (record { command = k; spelled_so = e }) in
    sym (from_op c) ∙ ap command_from ops ∙ from_op d

-- ---- the word of an act

pub data Deed : Type 0 where
  call : Deed
  served : Deed
  shut : Deed
  claim : Deed
  done : Deed
  back : Deed
  lose : Deed
  free : Deed
  drop : Deed
  load : Deed
  save : Deed
  saved : Deed
  unsave : Deed
  collect : Deed

deed_of : Act (List ℕ) → Deed
deed_of (Call c r) = call
deed_of (Served f d) = served
deed_of (Shut f) = shut
deed_of (Claim w r) = claim
deed_of (Done w r) = done
deed_of (Back r) = back
deed_of (Lose w) = lose
deed_of (Free f) = free
deed_of (Drop w f) = drop
deed_of (Load w f) = load
deed_of (Save f) = save
deed_of (Saved f n d) = saved
deed_of (Unsave f) = unsave
deed_of (Collect r) = collect

deed_word : Deed → List ℕ
deed_word call = codes "call"
deed_word served = codes "served"
deed_word shut = codes "shut"
deed_word claim = codes "claim"
deed_word done = codes "done"
deed_word back = codes "back"
deed_word lose = codes "lose"
deed_word free = codes "free"
deed_word drop = codes "drop"
deed_word load = codes "load"
deed_word save = codes "save"
deed_word saved = codes "saved"
deed_word unsave = codes "unsave"
deed_word collect = codes "collect"

deed_named : List ℕ → Option Deed
deed_named word =
    if bytes_eq word (codes "call") then Some call
    else if bytes_eq word (codes "served") then Some served
    else if bytes_eq word (codes "shut") then Some shut
    else if bytes_eq word (codes "claim") then Some claim
    else if bytes_eq word (codes "done") then Some done
    else if bytes_eq word (codes "back") then Some back
    else if bytes_eq word (codes "lose") then Some lose
    else if bytes_eq word (codes "free") then Some free
    else if bytes_eq word (codes "drop") then Some drop
    else if bytes_eq word (codes "load") then Some load
    else if bytes_eq word (codes "save") then Some save
    else if bytes_eq word (codes "saved") then Some saved
    else if bytes_eq word (codes "unsave") then Some unsave
    else if bytes_eq word (codes "collect") then Some collect
    else None

every_deed : (d : Deed) → deed_named (deed_word d) ≡ Some d
unfolding deed_named deed_word
every_deed call = refl
every_deed served = refl
every_deed shut = refl
every_deed claim = refl
every_deed done = refl
every_deed back = refl
every_deed lose = refl
every_deed free = refl
every_deed drop = refl
every_deed load = refl
every_deed save = refl
every_deed saved = refl
every_deed unsave = refl
every_deed collect = refl

inside : (s t : Deed) → ◌≡◌ {A = Option Deed} (Some s) (Some t) → s ≡ t
inside s t e = cc

same_deed : (s t : Deed) → deed_word s ≡ deed_word t → s ≡ t
same_deed s t e = inside s t (sym (every_deed s) ∙ ap deed_named e ∙ every_deed t)

deed_no_space : (d : Deed) → no_space (deed_word d) ≡ true
unfolding deed_word
deed_no_space call = refl
deed_no_space served = refl
deed_no_space shut = refl
deed_no_space claim = refl
deed_no_space done = refl
deed_no_space back = refl
deed_no_space lose = refl
deed_no_space free = refl
deed_no_space drop = refl
deed_no_space load = refl
deed_no_space save = refl
deed_no_space saved = refl
deed_no_space unsave = refl
deed_no_space collect = refl

-- ---- what stands behind that word

about : Act (List ℕ) → List ℕ
about (Call c r) = reply_words r ++ 0x20 ∷ command_text c
about (Served f d) = file_text f ++ 0x20 ∷ encode_lower d.0
about (Shut f) = file_text f
about (Claim w r) = decimal w.0 ++ 0x20 ∷ decimal r.0
about (Done w r) = decimal w.0 ++ 0x20 ∷ decimal r.0
about (Back r) = decimal r.0
about (Lose w) = decimal w.0
about (Free f) = file_text f
about (Drop w f) = decimal w.0 ++ 0x20 ∷ file_text f
about (Load w f) = decimal w.0 ++ 0x20 ∷ file_text f
about (Save f) = file_text f
about (Saved f n d) = file_text f
about (Unsave f) = file_text f
about (Collect r) = decimal r.0

act_parts : (word : List ℕ) (a : Act (List ℕ)) → spaced (word ∷ act_words a) ≡ word ++ 0x20 ∷ (deed_word (deed_of a) ++ 0x20 ∷ about a)
unfolding deed_word deed_of about
act_parts word (Call c r) = refl
act_parts word (Served f d) = refl
act_parts word (Shut f) = refl
act_parts word (Claim w r) = refl
act_parts word (Done w r) = refl
act_parts word (Back r) = refl
act_parts word (Lose w) = refl
act_parts word (Free f) = refl
act_parts word (Drop w f) = refl
act_parts word (Load w f) = refl
act_parts word (Save f) = refl
act_parts word (Saved f n d) = refl
act_parts word (Unsave f) = refl
act_parts word (Collect r) = refl

-- ---- one act, one event

one_about : (header : Header) (a b : Act (List ℕ)) → header.workers < 2 ^ 8 → deed_of a ≡ deed_of b → IsAct header a → IsAct header b → about a ≡ about b → shown_act a ≡ shown_act b
unfolding deed_of about
one_about header (Call c r) (Call d s) small same h k e =
    let replies = one_reply r s (command_text c) (command_text d) h.0 k.0 e in
    let commands = one_command header c d small h.1 k.1 replies.1 in
    λ j. Call (commands j) (replies.0 j)
one_about header (Served f d) (Served g e) small same h k is =
    let files = cut_file f g (0x20 ∷ encode_lower d.0) (0x20 ∷ encode_lower e.0) h.0 k.0 (no_digit_at_space (encode_lower d.0)) (no_digit_at_space (encode_lower e.0)) is in
    let digests = whole_digest d e h.1 k.1 (tail_of 0x20 0x20 (encode_lower d.0) (encode_lower e.0) files.1) in
    λ j. Served (files.0 j) (digests j)
one_about header (Shut f) (Shut g) small same h k e = ap Shut (whole_file f g h k e)
one_about header (Claim v r) (Claim w s) small same h k e =
    let workers = cut_worker v w (0x20 ∷ decimal r.0) (0x20 ∷ decimal s.0) h.0 k.0 (no_digit_at_space (decimal r.0)) (no_digit_at_space (decimal s.0)) e in
    let records = whole_record r s h.1 k.1 (tail_of 0x20 0x20 (decimal r.0) (decimal s.0) workers.1) in
    λ j. Claim (workers.0 j) (records j)
one_about header (Done v r) (Done w s) small same h k e =
    let workers = cut_worker v w (0x20 ∷ decimal r.0) (0x20 ∷ decimal s.0) h.0 k.0 (no_digit_at_space (decimal r.0)) (no_digit_at_space (decimal s.0)) e in
    let records = whole_record r s h.1 k.1 (tail_of 0x20 0x20 (decimal r.0) (decimal s.0) workers.1) in
    λ j. Done (workers.0 j) (records j)
one_about header (Back r) (Back s) small same h k e = ap Back (whole_record r s h k e)
one_about header (Lose v) (Lose w) small same h k e = ap Lose (whole_worker v w h k e)
one_about header (Free f) (Free g) small same h k e = ap Free (whole_file f g h k e)
one_about header (Drop v f) (Drop w g) small same h k e =
    let workers = cut_worker v w (0x20 ∷ file_text f) (0x20 ∷ file_text g) h.0 k.0 (no_digit_at_space (file_text f)) (no_digit_at_space (file_text g)) e in
    let files = whole_file f g h.1 k.1 (tail_of 0x20 0x20 (file_text f) (file_text g) workers.1) in
    λ j. Drop (workers.0 j) (files j)
one_about header (Load v f) (Load w g) small same h k e =
    let workers = cut_worker v w (0x20 ∷ file_text f) (0x20 ∷ file_text g) h.0 k.0 (no_digit_at_space (file_text f)) (no_digit_at_space (file_text g)) e in
    let files = whole_file f g h.1 k.1 (tail_of 0x20 0x20 (file_text f) (file_text g) workers.1) in
    λ j. Load (workers.0 j) (files j)
one_about header (Save f) (Save g) small same h k e = ap Save (whole_file f g h k e)
one_about header (Saved f n d) (Saved g m d') small same h k e = let files = whole_file f g h k e in λ j. shown_act (Saved (files j) n d)
one_about header (Unsave f) (Unsave g) small same h k e = ap Unsave (whole_file f g h k e)
one_about header (Collect r) (Collect s) small same h k e = ap Collect (whole_record r s h k e)
one_about header a b small same h k e = absurd (cc)

pub one_event : (header : Header) (a b : Event (List ℕ)) → header.workers < 2 ^ 8 → IsEvent header a → IsEvent header b → event_text a ≡ event_text b → shown a ≡ shown b
one_event header a b small h k e =
    let flat : decimal a.actor.0 ++ (0x20 ∷ (deed_word (deed_of a.act) ++ 0x20 ∷ about a.act)) ≡ decimal b.actor.0 ++ (0x20 ∷ (deed_word (deed_of b.act) ++ 0x20 ∷ about b.act)) =
    sym (act_parts (decimal a.actor.0) a.act) ∙ e ∙ act_parts (decimal b.actor.0) b.act in
    let actors = cut_number a.actor.0 b.actor.0 (0x20 ∷ (deed_word (deed_of a.act) ++ 0x20 ∷ about a.act)) (0x20 ∷ (deed_word (deed_of b.act) ++ 0x20 ∷ about b.act))
    (omega (arith, h.0)) (omega (arith, k.0)) (no_digit_at_space (deed_word (deed_of a.act) ++ 0x20 ∷ about a.act)) (no_digit_at_space (deed_word (deed_of b.act) ++ 0x20 ∷ about b.act)) flat in
    let words = one_word (deed_word (deed_of a.act)) (deed_word (deed_of b.act)) (0x20 ∷ about a.act) (0x20 ∷ about b.act) (deed_no_space (deed_of a.act)) (deed_no_space (deed_of b.act)) refl refl
    (tail_of 0x20 0x20 (deed_word (deed_of a.act) ++ 0x20 ∷ about a.act) (deed_word (deed_of b.act) ++ 0x20 ∷ about b.act) actors.1) in
    let acts = one_about header a.act b.act small (same_deed (deed_of a.act) (deed_of b.act) words.0) h.1 k.1 (tail_of 0x20 0x20 (about a.act) (about b.act) words.1) in
    λ j. record { actor = record { 0 = actors.0 j }; act = acts j }
