-- How a command alone is refused.
use Rattle.std.proofs.Common.{◌≡◌, ℕ, ◌≤◌, Bool, true, false, List, Option, Some, sym, subst, inl, inr, arith}
use Rattle.tl_model.specs.declared.header.Header.{Header}
use Rattle.tl_script.specs.declared.bad_kind.BadKind.{BadKind}
use Rattle.tl_script.specs.declared.bad_kind.BadKind.TheVariants as bad
use Rattle.tl_script.specs.declared.word.Verb.{Verb}
use Rattle.tl_script.specs.declared.word.Verb.TheVariants as verb_is
use Rattle.tl_script.specs.declared.word.Mark.TheVariants as mark_is
use Rattle.tl_script.specs.BadKinds.{bad_number}
use Rattle.tl_script.specs.Tokens.{Token, a_verb, a_mark, a_number, a_path, a_text, a_program}
use Rattle.tl_script.specs.Places.{Place, client, command, path_then, number_then, text_then, settings, key, paths_then, program_then, end, after_verb, when, next, RefusedAs, Refused, missing, wrong, later}

-- neither the place nor one after it is that of the client
abbrev IsInner : Place → Type 0
IsInner (client header) = ⊥
IsInner (path_then place) = IsInner place
IsInner (number_then low below place) = IsInner place
IsInner (text_then place) = IsInner place
IsInner (paths_then limit least count word place) = (n : ℕ) → IsInner (place n)
IsInner place = Unit {0}

inner_verb : (header : Header) (v : Verb) → IsInner (after_verb header v)
inner_verb header verb_is.Put = tt
inner_verb header verb_is.Job = tt
inner_verb header verb_is.Cat = tt
inner_verb header verb_is.Sum = tt
inner_verb header verb_is.Try = tt
inner_verb header verb_is.Delete = tt
inner_verb header verb_is.Mkdir = tt
inner_verb header verb_is.Rename = tt
inner_verb header verb_is.Pin = tt
inner_verb header verb_is.Unpin = tt
inner_verb header verb_is.List = tt
inner_verb header verb_is.Stat = tt
inner_verb header verb_is.Free = tt
inner_verb header verb_is.Lose = tt
inner_verb header verb_is.Work = tt

same_some : (p q : Place) → ◌≡◌ {A = Option Place} (Some p) (Some q) → p ≡ q
same_some p q e = cc

when_same : (fits : Bool) (p q : Place) → when fits p ≡ Some q → p ≡ q
when_same true p q e = same_some p q e
when_same false p q e = absurd (cc)

inner_next : (place : Place) (token : Token) (after : Place) → IsInner place → next place token ≡ Some after → IsInner after
inner_next (client header) token after h e = absurd h
inner_next (command header) (a_verb v) after h e = subst IsInner (same_some (after_verb header v) after e) (inner_verb header v)
inner_next (path_then place) (a_path p) after h e = subst IsInner (same_some place after e) h
inner_next (number_then low below place) (a_number n) after h e = subst IsInner (when_same _ place after e) h
inner_next (text_then place) (a_text s) after h e = subst IsInner (when_same _ place after e) h
inner_next (settings version keys) (a_mark mark_is.Conf) after h e = subst IsInner (when_same _ _ after e) tt
inner_next (settings version keys) (a_mark mark_is.In) after h e = subst IsInner (same_some _ after e) (λ n m. tt)
inner_next (key version keys) (a_text s) after h e = subst IsInner (when_same _ _ after e) tt
inner_next (paths_then limit least count word place) (a_path p) after h e = subst IsInner (when_same _ _ after e) h
inner_next (paths_then limit least count word place) (a_mark m) after h e = subst IsInner (when_same _ (place count) after e) (h count)
inner_next (program_then version reads makes) (a_program p) after h e = subst IsInner (when_same _ _ after e) tt
inner_next place token after h e = absurd (cc)

abbrev IsOfCommand : BadKind → Type 0
IsOfCommand kind = (3 ≤ bad_number kind) × (bad_number kind ≤ 7)

as_argument : (kind : BadKind) → kind ≡ bad.Argument → IsOfCommand kind
as_argument kind e = subst IsOfCommand (sym e) (omega arith, omega arith)

as_path : (kind : BadKind) → kind ≡ bad.Path → IsOfCommand kind
as_path kind e = subst IsOfCommand (sym e) (omega arith, omega arith)

refused_inner : (place : Place) (bytes : List ℕ) (kind : BadKind) → IsInner place → RefusedAs place bytes kind → IsOfCommand kind
refused_inner (client header) bytes kind h r = absurd h
refused_inner (command header) bytes kind h r = subst IsOfCommand (sym r) (omega arith, omega arith)
refused_inner (path_then place) bytes kind h r = as_path kind r
refused_inner (paths_then limit least count word place) bytes kind h (inl r) = as_path kind r.1
refused_inner (paths_then limit least count word place) bytes kind h (inr r) = as_argument kind r.1
refused_inner (program_then version reads makes) bytes kind h (inl r) = subst IsOfCommand (sym r.1) (omega arith, omega arith)
refused_inner (program_then version reads makes) bytes kind h (inr r) = subst IsOfCommand (sym r.1) (omega arith, omega arith)
refused_inner (number_then low below place) bytes kind h r = as_argument kind r
refused_inner (text_then place) bytes kind h r = as_argument kind r
refused_inner (settings version keys) bytes kind h r = as_argument kind r
refused_inner (key version keys) bytes kind h r = as_argument kind r
refused_inner end bytes kind h r = as_argument kind r

refused_from : {place : Place} {bytes : List ℕ} {kind : BadKind} → Refused place bytes kind → IsInner place → IsOfCommand kind
refused_from {kind = kind} (missing none unclosed is) h = as_argument kind is
refused_from {place} {bytes} {kind} (wrong front e nothing how) h = refused_inner place front kind h how
refused_from {place} (later {after = after} token rest follows may refused) h = refused_from refused (inner_next place token after h may)

pub command_kinds : (header : Header) (bytes : List ℕ) (kind : BadKind) → Refused (command header) bytes kind → IsOfCommand kind
command_kinds header bytes kind refused = refused_from refused tt
