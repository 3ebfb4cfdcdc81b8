-- No line feed stands in the text of an event.
use Rattle.std.proofs.Common.{◌≡◌, ℕ, ◌<◌, ◌≤◌, ◌^◌, Bool, true, false, if◌then◌else◌, List, [], ◌∷◌, ◌++◌, codes, decimal, drop, length, map, refl, arith}
use Rattle.std.specs.List.{All, AllByRecursion}
use Rattle.std.proofs.lemmas.List.Elements.{recursion_from_All}
use Rattle.hex.specs.Hex.{encode_lower}
use Rattle.tl_types.specs.Path.{IsPath, spelled}
use Rattle.tl_text.specs.File.{file_text}
use Rattle.tl_text.specs.Quoted.{quoted}
use Rattle.tl_text.proofs.Components.{component_has}
use Rattle.tl_lang.specs.Conf.{Pair}
use Rattle.tl_lang.specs.declared.job.JobSpecCore.{JobSpecCore}
use Rattle.tl_kind.specs.Written.{program_text}
use Rattle.tl_model.specs.declared.command.Command.{Command}
use Rattle.tl_model.specs.declared.command.Command.TheVariants as command
use Rattle.tl_model.specs.declared.command.Form.TheVariants.{Cat, Sum, Try}
use Rattle.tl_model.specs.declared.event.Act.{Act}
use Rattle.tl_model.specs.declared.event.Act.TheVariants.{Call, Served, Shut, Claim, Done, Back, Lose, Free, Drop, Load, Save, Saved, Unsave, Collect}
use Rattle.tl_model.specs.declared.event.Event.{Event}
use Rattle.tl_model.specs.declared.header.Header.{Header}
use Rattle.tl_model.specs.declared.reply.Entry.{Entry}
use Rattle.tl_model.specs.declared.reply.Reply.{Reply}
use Rattle.tl_model.specs.declared.reply.Reply.TheVariants.{Made, Fine, Opened, Listed, Stated, Exists, NoSuch, NotFile, NotDir, NotEmpty, TooDeep, IntoItself, TooMany}
use Rattle.tl_model.specs.declared.reply.Status.TheVariants.{File, Dir}
use Rattle.tl_report.specs.Words as words
use Rattle.tl_script.specs.Tokens.{Token, spaced}
use Rattle.tl_script.specs.Commands.{AreBytes, IsJob, IsOp, with_conf, with_paths, job_arguments}
use Rattle.tl_script.specs.Reading.{file_tokens}
use Rattle.tl_spelling.specs.Commands.{op_of, command_text}
use Rattle.tl_spelling.specs.Events.{act_words, event_text}
use Rattle.tl_spelling.specs.Shown.{IsRecord, IsWorker, IsFile, IsEntry, IsReply, IsAct, IsEvent}
use Rattle.tl_spelling.proofs.NoFeeds.{is_flat, flat_both, flat_decimal, flat_file, flat_digest, flat_bytes, flat_path, flat_quoted}
use Rattle.tl_spelling.proofs.FlatPrograms.{flat_program}

-- ---- commands

flat_text : (bytes : List ℕ) → AreBytes bytes → is_flat (quoted bytes) ≡ true
flat_text bytes h = flat_quoted bytes (recursion_from_All (λ byte. byte < 256) bytes h)

flat_conf : (pairs : List Pair) (more : List Token) → AllByRecursion (λ pair. AreBytes pair.0 × AreBytes pair.1) pairs → is_flat (spaced more) ≡ true → is_flat (spaced (with_conf pairs more)) ≡ true
flat_conf [] more h k = k
flat_conf (p ∷ pairs) more h k =
    flat_both (quoted p.0) (0x20 ∷ (quoted p.1 ++ spaced (with_conf pairs more))) (flat_text p.0 h.0.0)
    (flat_both (quoted p.1) (spaced (with_conf pairs more)) (flat_text p.1 h.0.1) (flat_conf pairs more h.1 k))

flat_paths : (paths : List (List (List ℕ))) (more : List Token) → AllByRecursion IsPath paths → is_flat (spaced more) ≡ true → is_flat (spaced (with_paths paths more)) ≡ true
flat_paths [] more h k = k
flat_paths (p ∷ paths) more h k = flat_both (spelled p) (spaced (with_paths paths more)) (flat_path p h.0) (flat_paths paths more h.1 k)

flat_job : (header : Header) (core : JobSpecCore) (prio : ℕ) (inputs outputs : List (List (List ℕ))) → IsJob header.version core prio inputs outputs → is_flat (spaced (job_arguments core prio inputs outputs)) ≡ true
flat_job header core prio inputs outputs h =
    let running : List Token = drop 1 (file_tokens [] [] core.program) in
    let making : List Token = file_tokens [] outputs core.program in
    let reading : List Token = drop 2 (job_arguments (record { program = core.program; conf = []; fuel = 0 }) 0 inputs outputs) in
    let program : is_flat (spaced running) ≡ true = flat_both (program_text core.program.program) [] (flat_program core.program.program h.program) refl in
    let made : is_flat (spaced making) ≡ true = flat_paths outputs running h.output_paths program in
    let read : is_flat (spaced reading) ≡ true = flat_paths inputs making h.input_paths made in
    flat_both (decimal prio) (0x20 ∷ (decimal core.fuel ++ spaced (with_conf core.conf reading))) (flat_decimal prio (omega (arith, h.priority)))
    (flat_both (decimal core.fuel) (spaced (with_conf core.conf reading)) (flat_decimal core.fuel (omega (arith, h.fuel))) (flat_conf core.conf reading h.conf_bytes read))

flat_one : (p : List (List ℕ)) → IsPath p → is_flat (spelled p ++ []) ≡ true
flat_one p h = flat_both (spelled p) [] (flat_path p h) refl

flat_read : (prio : ℕ) (p : List (List ℕ)) → prio ≤ 7 → IsPath p → is_flat (decimal prio ++ 0x20 ∷ (spelled p ++ [])) ≡ true
flat_read prio p small h = flat_both (decimal prio) (0x20 ∷ (spelled p ++ [])) (flat_decimal prio (omega (arith, small))) (flat_one p h)

pub flat_command : (header : Header) (c : Command (List ℕ)) → IsOp header (op_of c) → is_flat (command_text c) ≡ true
flat_command header (command.Put path len digest bytes) h =
    flat_both (spelled path) (0x20 ∷ (quoted bytes ++ [])) (flat_path path h.0) (flat_both (quoted bytes) [] (flat_text bytes h.1.are_bytes) refl)
flat_command header (command.Job core prio inputs outputs) h = flat_job header core prio inputs outputs h
flat_command header (command.Read path prio Cat) h = flat_read prio path h.1 h.0
flat_command header (command.Read path prio Sum) h = flat_read prio path h.1 h.0
flat_command header (command.Read path prio Try) h = flat_read prio path h.1 h.0
flat_command header (command.Delete path) h = flat_one path h
flat_command header (command.Mkdir path) h = flat_one path h
flat_command header (command.Rename from to) h = flat_both (spelled from) (0x20 ∷ (spelled to ++ [])) (flat_path from h.0) (flat_one to h.1)
flat_command header (command.Pin path) h = flat_one path h
flat_command header (command.Unpin path) h = flat_one path h
flat_command header (command.List path) h = flat_one path h
flat_command header (command.Stat path) h = flat_one path h
flat_command header (command.Free path) h = flat_one path h

-- ---- replies

flat_ending : (dir : Bool) → is_flat (if dir then codes "/" else []) ≡ true
flat_ending true = refl
flat_ending false = refl

flat_names : (word : List ℕ) (entries : List Entry) → is_flat word ≡ true → AllByRecursion IsEntry entries → is_flat (words.spaced (word ∷ map words.entry_word entries)) ≡ true
flat_names word [] h k = h
flat_names word (entry ∷ entries) h k =
    flat_both word (0x20 ∷ words.spaced (words.entry_word entry ∷ map words.entry_word entries)) h
    (flat_names (words.entry_word entry) entries (flat_both entry.name (if entry.dir then codes "/" else []) (flat_bytes entry.name (component_has entry.name k.0).bytes) (flat_ending entry.dir)) k.1)

flat_pin : (pinned : Bool) → is_flat (if pinned then codes "pinned" else codes "loose") ≡ true
flat_pin true = refl
flat_pin false = refl

pub flat_reply : (reply : Reply) → IsReply reply → is_flat (words.reply_words reply) ≡ true
flat_reply (Made r) h = flat_decimal r.0 (omega (arith, h))
flat_reply Fine h = refl
flat_reply (Opened f) h = flat_file f h
flat_reply (Listed entries) h = flat_names (decimal (length entries)) entries (flat_decimal (length entries) h.1) h.0
flat_reply (Stated (File f pinned)) h = flat_both (file_text f) (0x20 ∷ (if pinned then codes "pinned" else codes "loose")) (flat_file f h) (flat_pin pinned)
flat_reply (Stated (Dir n)) h = flat_decimal n h
flat_reply Exists h = refl
flat_reply NoSuch h = refl
flat_reply NotFile h = refl
flat_reply NotDir h = refl
flat_reply NotEmpty h = refl
flat_reply TooDeep h = refl
flat_reply IntoItself h = refl
flat_reply TooMany h = refl

-- ---- events

flat_worker : (n : ℕ) → n < 256 → is_flat (decimal n) ≡ true
flat_worker n h = flat_decimal n (omega (arith, h))

flat_record : (n : ℕ) → n < 2 ^ 32 → is_flat (decimal n) ≡ true
flat_record n h = flat_decimal n (omega (arith, h))

flat_act : (header : Header) (a : Act (List ℕ)) → IsAct header a → is_flat (words.spaced (act_words a)) ≡ true
flat_act header (Call c r) h = flat_both (words.reply_words r) (0x20 ∷ command_text c) (flat_reply r h.0) (flat_command header c h.1)
flat_act header (Served f d) h = flat_both (file_text f) (0x20 ∷ encode_lower d.0) (flat_file f h.0) (flat_digest d.0 h.1.0)
flat_act header (Shut f) h = flat_file f h
flat_act header (Claim w r) h = flat_both (decimal w.0) (0x20 ∷ decimal r.0) (flat_worker w.0 h.0) (flat_record r.0 h.1)
flat_act header (Done w r) h = flat_both (decimal w.0) (0x20 ∷ decimal r.0) (flat_worker w.0 h.0) (flat_record r.0 h.1)
flat_act header (Back r) h = flat_record r.0 h
flat_act header (Lose w) h = flat_worker w.0 h
flat_act header (Free f) h = flat_file f h
flat_act header (Drop w f) h = flat_both (decimal w.0) (0x20 ∷ file_text f) (flat_worker w.0 h.0) (flat_file f h.1)
flat_act header (Load w f) h = flat_both (decimal w.0) (0x20 ∷ file_text f) (flat_worker w.0 h.0) (flat_file f h.1)
flat_act header (Save f) h = flat_file f h
flat_act header (Saved f n d) h = flat_file f h
flat_act header (Unsave f) h = flat_file f h
flat_act header (Collect r) h = flat_record r.0 h

-- an event's words are its actor, a space, and those of its act
pub event_words : (word : List ℕ) (a : Act (List ℕ)) → words.spaced (word ∷ act_words a) ≡ word ++ 0x20 ∷ words.spaced (act_words a)
event_words word (Call c r) = refl
event_words word (Served f d) = refl
event_words word (Shut f) = refl
event_words word (Claim w r) = refl
event_words word (Done w r) = refl
event_words word (Back r) = refl
event_words word (Lose w) = refl
event_words word (Free f) = refl
event_words word (Drop w f) = refl
event_words word (Load w f) = refl
event_words word (Save f) = refl
event_words word (Saved f n d) = refl
event_words word (Unsave f) = refl
event_words word (Collect r) = refl

pub flat_event : (header : Header) (e : Event (List ℕ)) → IsEvent header e → is_flat (event_text e) ≡ true
flat_event header e h =
    rw (event_words (decimal e.actor.0) e.act)
    (flat_both (decimal e.actor.0) (0x20 ∷ words.spaced (act_words e.act)) (flat_decimal e.actor.0 (omega (arith, h.0))) (flat_act header e.act h.1))
