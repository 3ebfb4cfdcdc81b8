-- What is printed one after the other.
use Rattle.std.proofs.Common.{◌≡◌, ℕ, suc, ◌+◌, ◌<◌, List, [], ◌∷◌, ◌++◌, codes, decimal, drop, get_or, length, reverse, take, ap, sym, refl, ◌∙◌, add-one, append_assoc, append-nil, drop-cons, OnOk, OnErr, Result, Ok, Err}
use Rattle.std.proofs.Math.Seq.{take-append_seam}
use Rattle.std.proofs.lemmas.List.{length-reverse, reverse-reverse, take-append-drop}
use Rattle.std.specs.Global.{Vec}
use Rattle.tl_text.specs.Quoted.{quoted}
use Rattle.tl_lang.specs.Checked.{CheckedProgram}
use Rattle.tl_lang.specs.Conf.{Pair, pair_of, pairs_of}
use Rattle.tl_lang.specs.declared.job.JobSpecCore.{JobSpecCore}
use Rattle.tl_kind.specs.Written.{program_text}
use Rattle.tl_model.specs.declared.event.Event.{Event}
use Rattle.tl_script.specs.Tokens.{Token, a_number, token_text, spaced}
use Rattle.tl_script.specs.Commands.{with_conf, with_paths, job_arguments}
use Rattle.tl_script.specs.Reading.{file_tokens}
use Rattle.tl_spelling.specs.Commands.{Puts}
use Rattle.tl_model.specs.declared.header.Header.{Header}
use Rattle.tl_model.specs.Past.{event_with}
use Rattle.tl_spelling.specs.Events.{event_text}
use Rattle.tl_spelling.specs.Journals.{end_text, event_lines, header_text, line_of, next_source, puts_in, spelled_journal, told_by}

-- a token behind a space
pub puts_one : (token : Token) (old new : List ℕ) → new ≡ old ++ 0x20 ∷ token_text token → Puts old new (λ more. token ∷ more)
puts_one token old new e more = ap (λ (text : List ℕ). text ++ spaced more) e ∙ append_assoc old (0x20 ∷ token_text token) (spaced more)

-- one after the other
pub puts_both : (a b c : List ℕ) (f g : List Token → List Token) → Puts a b f → Puts b c g → Puts a c (λ more. f (g more))
puts_both a b c f g first second more = second more ∙ first (g more)

-- a pair of a configuration
pub pair_put : (old one two new key value : List ℕ) → one ≡ old ++ codes " conf" → two ≡ one ++ 0x20 ∷ quoted key → new ≡ two ++ 0x20 ∷ quoted value → Puts old new (with_conf ((key, value) ∷ []))
pair_put old one two new key value begun keyed valued more =
    ap (λ (text : List ℕ). text ++ spaced more) valued ∙ append_assoc two (0x20 ∷ quoted value) (spaced more)
    ∙ ap (λ (text : List ℕ). text ++ 0x20 ∷ (quoted value ++ spaced more)) keyed ∙ append_assoc one (0x20 ∷ quoted key) (0x20 ∷ (quoted value ++ spaced more))
    ∙ ap (λ (text : List ℕ). text ++ 0x20 ∷ (quoted key ++ 0x20 ∷ (quoted value ++ spaced more))) begun
    ∙ append_assoc old (codes " conf") (0x20 ∷ (quoted key ++ 0x20 ∷ (quoted value ++ spaced more)))

-- a job's numbers and its configuration
pub terms_put : (old one two new : List ℕ) (prio fuel : ℕ) (conf : List Pair) → one ≡ old ++ 0x20 ∷ decimal prio → two ≡ one ++ 0x20 ∷ decimal fuel → Puts two new (with_conf conf)
    → Puts old new (λ more. a_number prio ∷ a_number fuel ∷ with_conf conf more)
terms_put old one two new prio fuel conf first second third more =
    third more ∙ puts_one (a_number fuel) one two second (with_conf conf more) ∙ puts_one (a_number prio) old one first (a_number fuel ∷ with_conf conf more)

-- a job's files and its program
pub files_put : (old one two three four new : List ℕ) (inputs outputs : List (List (List ℕ))) (checked : CheckedProgram) → Puts old one (with_paths inputs) → two ≡ one ++ codes " out"
    → Puts two three (with_paths outputs) → four ≡ three ++ codes " run " → new ≡ four ++ program_text checked.program → new ≡ old ++ spaced (file_tokens inputs outputs checked)
files_put old one two three four new inputs outputs checked first out second run last =
    let text : List ℕ = program_text checked.program in
    let running : List Token = drop 1 (file_tokens [] [] checked) in
    let ended : new ≡ three ++ (codes " run " ++ (text ++ [])) =
    last ∙ ap (λ (t : List ℕ). t ++ text) run ∙ append_assoc three (codes " run ") text ∙ ap (λ (t : List ℕ). three ++ (codes " run " ++ t)) (sym (append-nil text)) in
    let behind : two ++ spaced (with_paths outputs running) ≡ one ++ spaced (file_tokens [] outputs checked) =
    ap (λ (t : List ℕ). t ++ spaced (with_paths outputs running)) out ∙ append_assoc one (codes " out") (spaced (with_paths outputs running)) in
    ended ∙ second running ∙ behind ∙ first (file_tokens [] outputs checked)

-- a job
pub job_put : (old one two three new : List ℕ) (core : JobSpecCore) (prio : ℕ) (inputs outputs : List (List (List ℕ))) → one ≡ old ++ codes "job"
    → Puts one two (λ more. a_number prio ∷ a_number core.fuel ∷ with_conf core.conf more) → three ≡ two ++ codes " in"
    → new ≡ three ++ spaced (file_tokens inputs outputs core.program) → new ≡ old ++ (codes "job" ++ spaced (job_arguments core prio inputs outputs))
job_put old one two three new core prio inputs outputs begun terms reading last =
    let files : List Token = file_tokens inputs outputs core.program in
    let from : List Token = drop 2 (job_arguments (record { program = core.program; conf = []; fuel = 0 }) 0 inputs outputs) in
    let behind : new ≡ two ++ spaced from = last ∙ ap (λ (t : List ℕ). t ++ spaced files) reading ∙ append_assoc two (codes " in") (spaced files) in
    behind ∙ terms from ∙ ap (λ (t : List ℕ). t ++ spaced (job_arguments core prio inputs outputs)) begun ∙ append_assoc old (codes "job") (spaced (job_arguments core prio inputs outputs))

-- ---- what stood there stays

pub kept_by : (old new more : List ℕ) → new ≡ old ++ more → take (length old) new ≡ old
kept_by old new more e = ap (λ (text : List ℕ). take (length old) text) e ∙ take-append_seam old more

begins_on : (old new : List ℕ) → take (length old) new ≡ old → new ≡ old ++ drop (length old) new
begins_on old new h = sym (take-append-drop (length old) new) ∙ ap (λ (text : List ℕ). text ++ drop (length old) new) h

pub kept_on : (old between new : List ℕ) → take (length old) between ≡ old → take (length between) new ≡ between → take (length old) new ≡ old
kept_on old between new first second =
    kept_by old new (drop (length old) between ++ drop (length between) new)
    (begins_on between new second ∙ ap (λ (text : List ℕ). text ++ drop (length between) new) (begins_on old between first)
    ∙ append_assoc old (drop (length old) between) (drop (length between) new))

-- what was appended, and then something that keeps it
pub kept_behind : (old between new more : List ℕ) → between ≡ old ++ more → take (length between) new ≡ between → take (length old) new ≡ old
kept_behind old between new more e second = kept_on old between new (kept_by old between more e) second

-- what is unchanged is kept
pub kept_if_same : (old new : List ℕ) → new ≡ old → take (length old) new ≡ old
kept_if_same old new same = kept_by old new [] (same ∙ sym (append-nil old))

pub put_kept : (old new : List ℕ) (before : List Token → List Token) → Puts old new before → take (length old) new ≡ old
put_kept old new before put = kept_by old new (spaced (before [])) (sym (append-nil new) ∙ put [])

pub err_any : {A E : Type 0} (P : Type 0) (result : Result A E) → P → OnErr result P
err_any P (Ok a) p = tt
err_any P (Err e) p = p

-- ---- lists of pairs and of events

-- the pairs that are left are one and those behind it
pub pairs_left : (pairs : List (Vec ℕ × Vec ℕ)) (i : ℕ) (p : Vec ℕ × Vec ℕ) → p ≡ get_or pairs i p → i < length pairs
    → pairs_of (drop i pairs) ≡ (p.0.items, p.1.items) ∷ pairs_of (drop (i + 1) pairs)
pairs_left pairs i p at less =
    ap pairs_of (drop-cons pairs i p less) ∙ (λ k. pair_of (sym at k) ∷ pairs_of (drop (sym (add-one i) k) pairs))

pub pair_step : (old out new : List ℕ) (pairs : List (Vec ℕ × Vec ℕ)) (i : ℕ) (p : Vec ℕ × Vec ℕ) → p ≡ get_or pairs i p → i < length pairs
    → Puts out new (with_conf ((p.0.items, p.1.items) ∷ []))
    → ((more : List Token) → out ++ spaced (with_conf (pairs_of (drop i pairs)) more) ≡ old ++ spaced (with_conf (pairs_of pairs) more))
    → (more : List Token) → new ++ spaced (with_conf (pairs_of (drop (i + 1) pairs)) more) ≡ old ++ spaced (with_conf (pairs_of pairs) more)
pair_step old out new pairs i p at less put so_far more =
    put (with_conf (pairs_of (drop (i + 1) pairs)) more)
    ∙ ap (λ (ps : List Pair). out ++ spaced (with_conf ps more)) (sym (pairs_left pairs i p at less))
    ∙ so_far more

-- the line of an event, before those that are left
pub event_step : {T : Type 0} (old out new bytes : List ℕ) (event : Event T) (rest later : List (Event T)) (sources left whole : List (List ℕ)) (all : List (Event T))
    → rest ≡ event ∷ later → bytes ≡ next_source sources → left ≡ drop (puts_in event.act) sources
    → new ≡ out ++ line_of (event_text (event_with (λ _. bytes) event))
    → out ++ event_lines (told_by sources rest) ≡ old ++ event_lines (told_by whole all)
    → new ++ event_lines (told_by left later) ≡ old ++ event_lines (told_by whole all)
event_step old out new bytes event rest later sources left whole all split source others line so_far =
    ap (λ (text : List ℕ). text ++ event_lines (told_by left later)) line
    ∙ append_assoc out (line_of (event_text (event_with (λ _. bytes) event))) (event_lines (told_by left later))
    ∙ ap (λ (b : List ℕ). out ++ (line_of (event_text (event_with (λ _. b) event)) ++ event_lines (told_by left later))) source
    ∙ ap (λ (l : List (List ℕ)). out ++ (line_of (event_text (event_with (λ _. next_source sources) event)) ++ event_lines (told_by l later))) others
    ∙ ap (λ r. out ++ event_lines (told_by sources r)) (sym split)
    ∙ so_far

-- no event is added and none is left out
told_length : {T : Type 0} (sources : List (List ℕ)) (events : List (Event T)) → length (told_by sources events) ≡ length events
told_length sources [] = refl
told_length sources (event ∷ events) = ap suc (told_length (drop (puts_in event.act) sources) events)

-- the header, the events and the end
pub journal_joined : {T A E : Type 0} (result : Result A E) (old one two new : List ℕ) (header first last : Header) (past events : List (Event T)) (sources : List (List ℕ)) (count : ℕ)
    → first ≡ header → last ≡ header → reverse events ≡ past → count ≡ length past
    → one ≡ old ++ line_of (header_text first) → two ≡ one ++ event_lines (told_by sources events)
    → OnOk result (new ≡ two ++ end_text last.version count) → OnOk result (new ≡ old ++ spelled_journal header (told_by sources (reverse past)))
journal_joined {T} (Err e) old one two new header first last past events sources count h k newest counted begun told ended = ended
journal_joined {T} (Ok a) old one two new header first last past events sources count h k newest counted begun told ended =
    let order : events ≡ reverse past = sym (reverse-reverse events) ∙ ap reverse newest in
    let many : count ≡ length (told_by sources (reverse past)) = counted ∙ sym (length-reverse past) ∙ sym (told_length sources (reverse past)) in
    let shown : List ℕ = event_lines (told_by sources (reverse past)) in
    let closing : List ℕ = end_text header.version (length (told_by sources (reverse past))) in
    let head : one ≡ old ++ line_of (header_text header) = begun ∙ ap (λ (f : Header). old ++ line_of (header_text f)) h in
    let body : two ≡ one ++ shown = told ∙ ap (λ (es : List (Event T)). one ++ event_lines (told_by sources es)) order in
    let foot : new ≡ two ++ closing = ended ∙ (λ j. two ++ end_text (k j).version (many j)) in
    foot ∙ ap (λ (text : List ℕ). text ++ closing) body ∙ append_assoc one shown closing
    ∙ ap (λ (text : List ℕ). text ++ (shown ++ closing)) head ∙ append_assoc old (line_of (header_text header)) (shown ++ closing)
