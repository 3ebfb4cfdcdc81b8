-- A command as tokens after one another, from its place to the end.
use Rattle.std.proofs.Common.{◌≡◌, ℕ, suc, ◌+◌, ◌<◌, ◌≤◌, ◌^◌, Bool, true, false, not, ◌&&◌, ◌||◌, nat_le, nat_lt, ◌==◌, if◌then◌else◌, List, [], ◌∷◌, ◌++◌, length, Option, Some, None, bytes_eq, refl, sym, ◌∙◌, ap, subst, arith}
use Rattle.std.specs.List.{AllByRecursion, list_all, list_any}
use Rattle.std.specs.Option.{is_some}
use Rattle.std.proofs.lemmas.Bool.{and_parts, and_from, le-leb, lt-ltb, leb-true, eqb-true, not-true, not_from_false, false_from_ne_true}
use Rattle.std.proofs.lemmas.List.{append-nil}
use Rattle.std.proofs.lemmas.Slice.Eq.{bytes_eq-Decides}
use Rattle.tl_types.specs.Path.{IsPath}
use Rattle.tl_text.specs.Number.{BeginsWithNoDigit}
use Rattle.tl_text.specs.PathText.{EndsToken}
use Rattle.tl_lang.specs.Conf.{Pair, is_short, keys_differ}
use Rattle.tl_lang.specs.declared.job.JobSpecCore.{JobSpecCore}
use Rattle.tl_lang.specs.declared.program.Program.{Program}
use Rattle.tl_lang.specs.Kinds.{outputs_differ, refusal_in, refusal}
use Rattle.tl_kind.specs.Written.{IsWithin, program_text}
use Rattle.tl_model.specs.declared.header.Header.{Header}
use Rattle.tl_model.specs.declared.header.Version.{Version}
use Rattle.tl_model.specs.Limits.{input_limit, output_limit}
use Rattle.tl_model.specs.declared.command.Form.TheVariants as form
use Rattle.tl_script.specs.declared.script.Op.{Op}
use Rattle.tl_script.specs.declared.script.Op.TheVariants.{Put, Job, Read, Delete, Mkdir, Rename, Pin, Unpin, List as ListNames, Stat, Free, Lose, Work}
use Rattle.tl_script.specs.declared.word.Mark.{Mark}
use Rattle.tl_script.specs.declared.word.Mark.TheVariants as mark_is
use Rattle.tl_script.specs.declared.word.Verb.TheVariants as verb_is
use Rattle.tl_script.specs.Words.{mark_text}
use Rattle.tl_script.specs.Tokens.{Token, a_verb, a_mark, a_number, a_path, a_text, a_program, token_text, spaced, Stands}
use Rattle.tl_script.specs.Places.{Place, command, path_then, number_then, text_then, settings, key, paths_then, program_then, end, inputs, outputs, after_verb, is_of, next, has_key, may_end, Follows, prio_limit, fuel_limit, count_limit, text_limit, conf_limit}
use Rattle.tl_script.specs.Commands.{verb_of, arguments_of, with_conf, with_paths, job_arguments, AreBytes, IsJob, IsOp, Says}
use Rattle.tl_script.proofs.Steps.{when_true, within}

abbrev pub tokens_of : Op → List Token
tokens_of op = a_verb (verb_of op) ∷ arguments_of op

-- the bytes are these tokens, each behind a space
abbrev pub Stand : List ℕ → List Token → Type 0
Stand bytes [] = bytes ≡ []
Stand bytes (t ∷ ts) = (rest : List ℕ) × Follows bytes t rest × Stand rest ts

-- the tokens may stand after one another from the place on, up to the end
abbrev pub Walks : Place → List Token → Type 0
Walks place [] = may_end place ≡ true
Walks place (t ∷ ts) = (after : Place) × (next place t ≡ Some after) × Walks after ts

-- ---- tokens that can be written

abbrev pub Sayable : Token → List Token → Type 0
Sayable (a_verb v) more = Unit {0}
Sayable (a_mark m) more = Unit {0}
Sayable (a_number n) more = n ≤ 18446744073709551615
Sayable (a_path p) more = IsPath p
Sayable (a_text s) more = AreBytes s
Sayable (a_program p) more = IsWithin p × (more ≡ [])

abbrev pub AllSayable : List Token → Type 0
AllSayable [] = Unit {0}
AllSayable (t ∷ ts) = Sayable t ts × AllSayable ts

ends_spaced : (ts : List Token) → EndsToken (spaced ts)
ends_spaced [] = tt
ends_spaced (t ∷ ts) = refl

no_digit : (ts : List Token) → BeginsWithNoDigit (spaced ts)
no_digit [] = tt
no_digit (t ∷ ts) = λ h. omega (arith, h.0, h.1)

stands_first : (t : Token) (ts : List Token) → Sayable t ts → Stands (token_text t ++ spaced ts) t (spaced ts)
stands_first (a_verb v) ts h = (refl, ends_spaced ts)
stands_first (a_mark m) ts h = (refl, ends_spaced ts)
stands_first (a_number n) ts h = (record { spelled = refl; small = h; whole = no_digit ts }, ends_spaced ts)
stands_first (a_path p) ts h = record { spelled_so = refl; path = h; ended = ends_spaced ts }
stands_first (a_text s) ts h = (record { spelled = refl; small = h }, ends_spaced ts)
stands_first (a_program p) ts h =
    (record { spelled = ap (λ (r : List Token). program_text p ++ spaced r) h.1 ∙ append-nil (program_text p); limits = h.0 }, ap spaced h.1)

pub stand : (ts : List Token) → AllSayable ts → Stand (spaced ts) ts
stand [] h = refl
stand (t ∷ ts) h = (spaced ts, (token_text t ++ spaced ts, refl, stands_first t ts h.0), stand ts h.1)

-- ---- a configuration

pub or_false : (a b : Bool) → (a || b) ≡ false → (a ≡ false) × (b ≡ false)
or_false true b e = absurd (cc)
or_false false b e = (refl, e)

pub or_from : (a b : Bool) → a ≡ false → b ≡ false → (a || b) ≡ false
or_from true b e f = absurd (cc)
or_from false b e f = f

pub bytes_differ : (s t : List ℕ) → bytes_eq s t ≡ false → bytes_eq t s ≡ false
bytes_differ s t e = false_from_ne_true (bytes_eq t s) (λ same. let other : bytes_eq s t ≡ true = (bytes_eq-Decides s t).1 (sym ((bytes_eq-Decides t s).0 same)) in absurd (cc))

key_behind : (keys : List (List ℕ)) (k s : List ℕ) → has_key keys s ≡ false → bytes_eq k s ≡ false → has_key (keys ++ k ∷ []) s ≡ false
key_behind [] k s h e = or_from (bytes_eq k s) false e refl
key_behind (first ∷ keys) k s h e =
    let both = or_false (bytes_eq first s) (has_key keys s) h in or_from (bytes_eq first s) (has_key (keys ++ k ∷ []) s) both.0 (key_behind keys k s both.1 e)

abbrev AreFresh : List (List ℕ) → List Pair → Type 0
AreFresh keys = AllByRecursion (λ p. has_key keys p.0 ≡ false)

still_fresh : (keys : List (List ℕ)) (k : List ℕ) (ps : List Pair) → list_any (λ q. bytes_eq q.0 k) ps ≡ false → AreFresh keys ps → AreFresh (keys ++ k ∷ []) ps
still_fresh keys k [] e h = tt
still_fresh keys k (p ∷ ps) e h =
    let both = or_false (bytes_eq p.0 k) (list_any (λ q. bytes_eq q.0 k) ps) e in
    (key_behind keys k p.0 h.0 (bytes_differ p.0 k both.0), still_fresh keys k ps both.1 h.1)

pub length_behind : (keys : List (List ℕ)) (k : List ℕ) → length (keys ++ k ∷ []) ≡ suc (length keys)
length_behind [] k = refl
length_behind (first ∷ keys) k = ap suc (length_behind keys k)

walks_conf : (version : Version) (keys : List (List ℕ)) (pairs : List Pair) (more : List Token) → length keys + length pairs ≤ conf_limit → list_all is_short pairs ≡ true → keys_differ pairs ≡ true → AreFresh keys pairs → Walks (inputs version) more
    → Walks (settings version keys) (with_conf pairs (a_mark mark_is.In ∷ more))
walks_conf version keys [] more few short differ fresh walks = (inputs version, refl, walks)
walks_conf version keys (p ∷ ps) more few short differ fresh walks =
    let s = and_parts (is_short p) (list_all is_short ps) short in
    let lengths = and_parts (nat_le (length p.0) 1048576) (nat_le (length p.1) 1048576) s.0 in
    let d = and_parts (not (list_any (λ q. bytes_eq q.0 p.0) ps)) (keys_differ ps) differ in
    let one_more = length_behind keys p.0 in (
      key version keys,
      when_true (nat_lt (length keys) conf_limit) (key version keys) (lt-ltb (length keys) conf_limit (omega arith)),
      (
        text_then (settings version (keys ++ p.0 ∷ [])),
        when_true (nat_le (length p.0) text_limit && not (has_key keys p.0)) (text_then (settings version (keys ++ p.0 ∷ []))) (and_from (nat_le (length p.0) text_limit) (not (has_key keys p.0)) lengths.0 (not_from_false (has_key keys p.0) fresh.0)),
        (
          settings version (keys ++ p.0 ∷ []),
          when_true (nat_le (length p.1) text_limit) (settings version (keys ++ p.0 ∷ [])) lengths.1,
          walks_conf version (keys ++ p.0 ∷ []) ps more (omega (arith, one_more)) s.1 d.1 (still_fresh keys p.0 ps (not-true (list_any (λ q. bytes_eq q.0 p.0) ps) d.0) fresh.1) walks,
        ),
      ),
    )

all_fresh : (pairs : List Pair) → AreFresh [] pairs
all_fresh [] = tt
all_fresh (p ∷ ps) = (refl, all_fresh ps)

-- ---- lists of paths

same_text : (m : Mark) → bytes_eq (mark_text m) (mark_text m) ≡ true
same_text m = (bytes_eq-Decides (mark_text m) (mark_text m)).1 refl

walks_paths : (limit least count n : ℕ) (word : Mark) (after : ℕ → Place) (paths : List (List (List ℕ))) (more : List Token) → count + length paths ≡ n → n ≤ limit → least ≤ n → Walks (after n) more
    → Walks (paths_then limit least count word after) (with_paths paths (a_mark word ∷ more))
walks_paths limit least count n word after [] more e few enough walks =
    let here : n ≡ count = omega arith in (
      after count,
      when_true (bytes_eq (mark_text word) (mark_text word) && nat_le least count) (after count) (and_from (bytes_eq (mark_text word) (mark_text word)) (nat_le least count) (same_text word) (le-leb least count (omega arith))),
      subst (λ (k : ℕ). Walks (after k) more) here walks,
    )
walks_paths limit least count n word after (p ∷ ps) more e few enough walks = (
  paths_then limit least (suc count) word after,
  when_true (nat_lt count limit) (paths_then limit least (suc count) word after) (lt-ltb count limit (omega arith)),
  walks_paths limit least (suc count) n word after ps more (omega arith) few enough walks,
)

-- ---- a job

not_refused : (o : Option ℕ) → o ≡ None → not (is_some o) ≡ true
not_refused o e = ap (λ (o : Option ℕ). not (is_some o)) e

kinds_for : (p : Program) (i o a b : ℕ) → refusal p i o ≡ None → i ≡ a → o ≡ b → refusal p a b ≡ None
kinds_for p i o a b h e f = ap (λ (x : ℕ). refusal p x b) (sym e) ∙ ap (refusal p i) (sym f) ∙ h

few_made : (p : Program) (i o : ℕ) (version : Version) → refusal p i o ≡ None → o ≤ output_limit version → is_of version p ≡ true
few_made p i o version kinds few =
    let made = eqb-true (length p.outputs) o (kept (length p.outputs == o) (refusal_in i p.outputs) kinds) in
    le-leb (length p.outputs) (output_limit version) (omega (arith, made, few))
  where
    kept : (b : Bool) (inner : Option ℕ) → (if b then inner else Some outputs_differ) ≡ None → b ≡ true
    kept true inner e = refl
    kept false inner e = absurd (cc)

walks_job : (header : Header) (core : JobSpecCore) (prio : ℕ) (ins outs : List (List (List ℕ))) → IsJob header.version core prio ins outs → Walks (after_verb header verb_is.Job) (job_arguments core prio ins outs)
walks_job header core prio ins outs h =
    let conf = and_parts (nat_le (length core.conf) 16 && list_all is_short core.conf) (keys_differ core.conf) h.conf in
    let short = and_parts (nat_le (length core.conf) 16) (list_all is_short core.conf) conf.0 in
    let few = leb-true (length core.conf) 16 short.0 in
    let kinds = kinds_for core.program.program core.program.inputs core.program.outputs (length ins) (length outs) h.kinds h.for_inputs h.for_outputs in (
      number_then 1 (fuel_limit + 1) (settings header.version []),
      when_true (nat_le 0 prio && nat_lt prio (prio_limit + 1)) (number_then 1 (fuel_limit + 1) (settings header.version [])) (within 0 (prio_limit + 1) prio (omega arith) (omega (arith, h.priority))),
      (
        settings header.version [],
        when_true (nat_le 1 core.fuel && nat_lt core.fuel (fuel_limit + 1)) (settings header.version []) (within 1 (fuel_limit + 1) core.fuel h.some_fuel (omega (arith, h.fuel))),
        walks_conf header.version [] core.conf (with_paths ins (a_mark mark_is.Out ∷ with_paths outs (a_mark mark_is.Run ∷ a_program core.program.program ∷ []))) (omega (arith, few)) short.1 conf.1 (all_fresh core.conf)
            (
            walks_paths (input_limit header.version) 0 0 (length ins) mark_is.Out (outputs header.version) ins (with_paths outs (a_mark mark_is.Run ∷ a_program core.program.program ∷ [])) (omega arith) h.few_inputs (omega arith)
            (
            walks_paths (output_limit header.version) 1 0 (length outs) mark_is.Run (program_then header.version (length ins)) outs (a_program core.program.program ∷ []) (omega arith) h.few_outputs h.some_output (
              end,
              when_true (is_of header.version core.program.program && not (is_some (refusal core.program.program (length ins) (length outs)))) end
                  (and_from (is_of header.version core.program.program) (not (is_some (refusal core.program.program (length ins) (length outs))))
                  (few_made core.program.program (length ins) (length outs) header.version kinds h.few_outputs) (not_refused (refusal core.program.program (length ins) (length outs)) kinds)),
              refl,
            )
            )
            ),
      ),
    )

say_conf : (pairs : List Pair) (more : List Token) → AllByRecursion (λ pair. AreBytes pair.0 × AreBytes pair.1) pairs → AllSayable more → AllSayable (with_conf pairs more)
say_conf [] more h m = m
say_conf (p ∷ ps) more h m = (tt, (h.0.0, (h.0.1, say_conf ps more h.1 m)))

say_paths : (paths : List (List (List ℕ))) (more : List Token) → AllByRecursion IsPath paths → AllSayable more → AllSayable (with_paths paths more)
say_paths [] more h m = m
say_paths (p ∷ ps) more h m = (h.0, say_paths ps more h.1 m)

say_job : (version : Version) (core : JobSpecCore) (prio : ℕ) (ins outs : List (List (List ℕ))) → IsJob version core prio ins outs → AllSayable (job_arguments core prio ins outs)
say_job version core prio ins outs h =
    let last : AllSayable (a_mark mark_is.Run ∷ a_program core.program.program ∷ []) = (tt, ((h.program, refl), tt)) in
    let makes : AllSayable (a_mark mark_is.Out ∷ with_paths outs (a_mark mark_is.Run ∷ a_program core.program.program ∷ [])) = (tt, say_paths outs (a_mark mark_is.Run ∷ a_program core.program.program ∷ []) h.output_paths last) in
    let reads : AllSayable (a_mark mark_is.In ∷ with_paths ins (a_mark mark_is.Out ∷ with_paths outs (a_mark mark_is.Run ∷ a_program core.program.program ∷ []))) = (tt, say_paths ins (a_mark mark_is.Out ∷ with_paths outs (a_mark mark_is.Run ∷ a_program core.program.program ∷ [])) h.input_paths makes) in
    (omega (arith, h.priority), (omega (arith, h.fuel), say_conf core.conf (a_mark mark_is.In ∷ with_paths ins (a_mark mark_is.Out ∷ with_paths outs (a_mark mark_is.Run ∷ a_program core.program.program ∷ []))) h.conf_bytes reads))

-- ---- each command

in_prio : (prio : ℕ) → prio ≤ prio_limit → (nat_le 0 prio && nat_lt prio (prio_limit + 1)) ≡ true
in_prio prio h = within 0 (prio_limit + 1) prio (omega arith) (omega arith)

walks_reading : (prio : ℕ) (at : List (List ℕ)) → prio ≤ prio_limit → Walks (number_then 0 (prio_limit + 1) (path_then end)) (a_number prio ∷ a_path at ∷ [])
walks_reading prio at h = (path_then end, when_true (nat_le 0 prio && nat_lt prio (prio_limit + 1)) (path_then end) (in_prio prio h), (end, refl, refl))

walks_arguments : (header : Header) (op : Op) → IsOp header op → Walks (after_verb header (verb_of op)) (arguments_of op)
walks_arguments header (Put at bytes) h = (text_then end, refl, (end, when_true (nat_le (length bytes) text_limit) end (le-leb (length bytes) text_limit h.1.short), refl))
walks_arguments header (Job core prio ins outs) h = walks_job header core prio ins outs h
walks_arguments header (Read at prio form.Cat) h = walks_reading prio at h.1
walks_arguments header (Read at prio form.Sum) h = walks_reading prio at h.1
walks_arguments header (Read at prio form.Try) h = walks_reading prio at h.1
walks_arguments header (Delete at) h = (end, refl, refl)
walks_arguments header (Mkdir at) h = (end, refl, refl)
walks_arguments header (Rename from to) h = (path_then end, refl, (end, refl, refl))
walks_arguments header (Pin at) h = (end, refl, refl)
walks_arguments header (Unpin at) h = (end, refl, refl)
walks_arguments header (ListNames at) h = (end, refl, refl)
walks_arguments header (Stat at) h = (end, refl, refl)
walks_arguments header (Free at) h = (end, refl, refl)
walks_arguments header (Lose worker) h = (end, when_true (nat_le 0 worker.0 && nat_lt worker.0 header.workers) end (within 0 header.workers worker.0 (omega arith) h), refl)
walks_arguments header (Work worker n) h = (
  number_then 1 (count_limit + 1) end,
  when_true (nat_le 0 worker.0 && nat_lt worker.0 header.workers) (number_then 1 (count_limit + 1) end) (within 0 header.workers worker.0 (omega arith) h.0),
  (end, when_true (nat_le 1 n && nat_lt n (count_limit + 1)) end (within 1 (count_limit + 1) n h.1 (omega (arith, h.2))), refl),
)

pub walks_op : (header : Header) (op : Op) → IsOp header op → Walks (command header) (tokens_of op)
walks_op header op h = (after_verb header (verb_of op), refl, walks_arguments header op h)

say_arguments : (header : Header) (op : Op) → header.workers < 2 ^ 8 → IsOp header op → AllSayable (arguments_of op)
say_arguments header (Put at bytes) w h = (h.0, (h.1.are_bytes, tt))
say_arguments header (Job core prio ins outs) w h = say_job header.version core prio ins outs h
say_arguments header (Read at prio form) w h = (omega (arith, h.1), (h.0, tt))
say_arguments header (Delete at) w h = (h, tt)
say_arguments header (Mkdir at) w h = (h, tt)
say_arguments header (Rename from to) w h = (h.0, (h.1, tt))
say_arguments header (Pin at) w h = (h, tt)
say_arguments header (Unpin at) w h = (h, tt)
say_arguments header (ListNames at) w h = (h, tt)
say_arguments header (Stat at) w h = (h, tt)
say_arguments header (Free at) w h = (h, tt)
say_arguments header (Lose worker) w h = (omega (arith, h), tt)
say_arguments header (Work worker n) w h = (omega (arith, h.0), (omega (arith, h.2), tt))

pub say_op : (header : Header) (op : Op) → header.workers < 2 ^ 8 → IsOp header op → AllSayable (tokens_of op)
say_op header op w h = (tt, say_arguments header op w h)

-- the text of a command, behind a space, is its tokens
pub said_stand : (header : Header) (bytes : List ℕ) (op : Op) → header.workers < 2 ^ 8 → Says header bytes op → Stand (0x20 ∷ bytes) (tokens_of op)
said_stand header bytes op w h = subst (λ (b : List ℕ). Stand (0x20 ∷ b) (tokens_of op)) (sym h.spelled_so) (stand (tokens_of op) (say_op header op w h.command))
