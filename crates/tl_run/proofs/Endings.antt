use Rattle.std.proofs.Common.{◌≡◌, ℕ, ◌+◌, List, [], ◌∷◌, Option, Some, None, refl, sym, ap, ◌∙◌, subst, inl, inr, arith, ◌≢◌}
use Rattle.std.specs.Prelude.{IfSome}
use Rattle.std.proofs.KnownBytes.{Appends-nil}
use Rattle.tl_model.specs.declared.header.Header.{Header}
use Rattle.tl_script.specs.declared.bad_kind.BadKind.{BadKind}
use Rattle.tl_script.specs.declared.script.Line.{Line}
use Rattle.tl_run.specs.declared.status.Status.{Status}
use Rattle.tl_run.specs.declared.status.Status.TheVariants.{Done, BadWords, BadScript, ReadFault, WriteFault, NoMemory, TooLong}
use Rattle.tl_script.specs.Script.{IsScript, IsRefused}
use Rattle.tl_run.specs.Alone.{Supply, Held, Kept, kept_with, Plays, SaysOfInput, Answers, Refuses, Wrote, WroteAnswer, Ends, EndsWith, Finishes}
use Rattle.tl_core.specs.State.{State}
use Rattle.tl_run.specs.Status.{code_of}
use Rattle.tl_script.specs.Lines.{lines_of}

-- what was written whole is what the status says
pub whole : (before after : Supply) (kept : Kept) (sink sink' : Held) (status : Status) (text : List ℕ) → Answers before after kept status text → Wrote sink sink' text →
    Ends before after kept sink sink' status
whole before after (Some kept) sink sink' Done text answer wrote = record { text = text; answer = answer; whole = wrote }
whole before after None sink sink' BadScript text answer wrote = record { text = text; answer = answer; whole = wrote }
whole before after None sink sink' ReadFault text answer wrote = record { text = text; answer = answer; whole = wrote }
whole before after None sink sink' TooLong text answer wrote = record { text = text; answer = answer; whole = wrote }
whole before after None sink sink' NoMemory text answer wrote =
    (refl, (None, record { status = NoMemory; text = text; answer = answer; front = (0, subst (Wrote sink sink') answer wrote) }))
whole before after None sink sink' Done text answer wrote = absurd answer
whole before after None sink sink' BadWords text answer wrote = absurd answer
whole before after None sink sink' WriteFault text answer wrote = absurd answer
whole before after (Some kept) sink sink' BadWords text answer wrote = absurd answer
whole before after (Some kept) sink sink' BadScript text answer wrote = absurd answer
whole before after (Some kept) sink sink' ReadFault text answer wrote = absurd answer
whole before after (Some kept) sink sink' WriteFault text answer wrote = absurd answer
whole before after (Some kept) sink sink' NoMemory text answer wrote = absurd answer
whole before after (Some kept) sink sink' TooLong text answer wrote = absurd answer

kept-unless : (status : Status) (kept : Kept) → (status ≡ NoMemory → kept ≡ None) → kept_with status kept ≡ kept
kept-unless Done kept h = refl
kept-unless BadWords kept h = refl
kept-unless BadScript kept h = refl
kept-unless ReadFault kept h = refl
kept-unless WriteFault kept h = refl
kept-unless TooLong kept h = refl
kept-unless NoMemory kept h = sym (h refl)

none-kept : (before after : Supply) (kept : Kept) (status : Status) (text : List ℕ) → Answers before after kept status text → status ≡ NoMemory → kept ≡ None
none-kept before after None status text answer is = refl
none-kept before after (Some kept) status text answer is = absurd (subst (λ s. Answers before after (Some kept) s text) is answer)

-- however the writing of an answer's text ended, the run left what its status says
pub ends_as : (before after : Supply) (kept : Kept) (sink sink' : Held) (status ended : Status) (text : List ℕ) → SaysOfInput status → Answers before after kept status text →
    Finishes sink sink' status text ended → Ends before after (kept_with ended kept) sink sink' ended
ends_as before after kept sink sink' status ended text says answer (inl done) =
    let same : kept_with ended kept ≡ kept = ap (λ s. kept_with s kept) done.0 ∙ kept-unless status kept (none-kept before after kept status text answer) in
    subst (λ k. Ends before after k sink sink' ended) (sym same)
    (subst (Ends before after kept sink sink') (sym done.0) (whole before after kept sink sink' status text answer done.1))
ends_as before after kept sink sink' status ended text says answer (inr (inl fault)) =
    subst (λ s. Ends before after (kept_with s kept) sink sink' s) (sym fault.0) (fault.1, record { status = status; text = text; says = says; answer = answer; front = fault.2 })
ends_as before after kept sink sink' status ended text says answer (inr (inr memory)) =
    subst (λ s. Ends before after (kept_with s kept) sink sink' s) (sym memory.0) (refl, (kept, record { status = status; text = text; answer = answer; front = memory.1 }))

-- where nothing is written a front of an answer is
pub nothing_written : (before after : Supply) (sink : Held) → Ends before after None sink sink NoMemory
nothing_written before after sink = (refl, (None, record { status = NoMemory; text = []; answer = refl; front = (0, Appends-nil sink.bytes) }))

if_some : {X : Type 0} (o : Option X) (P : X → Type 0) → ((x : X) → o ≡ Some x → P x) → IfSome o P
if_some None P f = tt
if_some (Some x) P f = f x refl

not_three : (status : Status) → (status ≡ BadScript → ⊥) → code_of status ≡ 3 → ⊥
not_three Done h e = absurd (omega arith)
not_three BadWords h e = absurd (omega arith)
not_three BadScript h e = h refl
not_three ReadFault h e = absurd (omega arith)
not_three WriteFault h e = absurd (omega arith)
not_three NoMemory h e = absurd (omega arith)
not_three TooLong h e = absurd (omega arith)

none-with : (status : Status) → kept_with status None ≡ None
none-with Done = refl
none-with BadWords = refl
none-with BadScript = refl
none-with ReadFault = refl
none-with WriteFault = refl
none-with TooLong = refl
none-with NoMemory = refl

-- the same of an answer with which nothing is kept
pub ends_without : (before after : Supply) (kept : Kept) (sink sink' : Held) (status ended code : Status) (text : List ℕ) → SaysOfInput status → Answers before after None status text →
    Finishes sink sink' status text ended → kept ≡ None → code ≡ ended → Ends before after kept sink sink' code
ends_without before after kept sink sink' status ended code text says answer finishes none is =
    subst (λ k. Ends before after k sink sink' code) (sym none)
    (subst (Ends before after None sink sink') (sym is)
    (subst (λ k. Ends before after k sink sink' ended) (none-with ended) (ends_as before after None sink sink' status ended text says answer finishes)))

pub nothing_without : (before after : Supply) (kept : Kept) (sink : Held) (code : Status) → kept ≡ None → code ≡ NoMemory → Ends before after kept sink sink code
nothing_without before after kept sink code none is =
    subst (λ k. Ends before after k sink sink code) (sym none) (subst (Ends before after None sink sink) (sym is) (nothing_written before after sink))

-- and of a script whose lines were done
pub ends_keeping : (before after : Supply) (state : State (List ℕ)) (kept : Kept) (sink sink' : Held) (ended : Status) (text : List ℕ) → Plays before after state text →
    Finishes sink sink' Done text ended → kept ≡ kept_with ended (Some state) → Ends before after kept sink sink' ended
ends_keeping before after state kept sink sink' ended text plays finishes is =
    subst (λ k. Ends before after k sink sink' ended) (sym is) (ends_as before after (Some state) sink sink' Done ended text tt plays finishes)

refused-text : (before after : Supply) (kept : Kept) (sink sink' : Held) → WroteAnswer before after kept sink sink' BadScript → (text : List ℕ) × Refuses before after text
refused-text before after None sink sink' left = (left.text, left.answer)
refused-text before after (Some kept) sink sink' left = absurd left.answer

-- a script that is told isn't refused, where no script is
pub accepts : (before after : Supply) (kept : Kept) (sink sink' : Held) (code : ℕ)
    → ((texts : List (List ℕ)) (header : Header) (lines : List Line) (at : ℕ) (kind : BadKind) → IsScript texts header lines → ¬ IsRefused texts at kind)
    → EndsWith before after kept sink sink' code
    → IfSome before.left (λ bytes. (header : Header) (lines : List Line) → IsScript (lines_of bytes) header lines → code ≢ 3)
accepts before after kept sink sink' code never e = if_some before.left _ (λ bytes told header lines script three.
    not_three e.status (λ bad.
    let left : WroteAnswer before after kept sink sink' BadScript = subst (Ends before after kept sink sink') bad e.ends in
    let refused = (refused-text before after kept sink sink' left).1 in
    let same : bytes ≡ refused.bytes = subst (λ o. IfSome o (λ b. b ≡ refused.bytes)) told refused.input.all.1 in
    never (lines_of refused.bytes) header lines refused.line refused.kind (subst (λ b. IsScript (lines_of b) header lines) same script) refused.refused)
    (sym e.code_is ∙ three))
