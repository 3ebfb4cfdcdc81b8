-- Records are numbered in order.
use Rattle.std.proofs.Common.{◌≡◌, ℕ, zero, suc, ◌<◌, ◌≤◌, ◌⊎◌, true, ◌&&◌, List, [], ◌∷◌, ◌++◌, length, slice_get, Some, is_none, refl, sym, ap, ◌∙◌, subst, inl, inr, arith, length-append, append-nil}
use Rattle.std.proofs.lemmas.Bool.{and_parts}
use Rattle.tl_types.specs.declared.actor.Actor.{Actor}
use Rattle.tl_model.specs.declared.command.Command.{Command}
use Rattle.tl_model.specs.declared.command.Command.TheVariants.{Put, Job, Read, Delete, Mkdir, Rename, Pin, Unpin, List as list, Stat, Free as free}
use Rattle.tl_model.specs.declared.reply.Reply.{Reply}
use Rattle.tl_model.specs.declared.reply.Reply.TheVariants.{Made, Fine, Opened, Listed, Stated, Exists, NoSuch, NotFile, NotDir, NotEmpty, TooDeep, IntoItself, TooMany}
use Rattle.tl_model.specs.declared.record.Record.{Record}
use Rattle.tl_model.specs.declared.record.Record.TheVariants as kind
use Rattle.tl_model.specs.declared.header.Header.{Header}
use Rattle.tl_model.specs.declared.event.Act.{Act}
use Rattle.tl_model.specs.declared.event.Act.TheVariants.{Call, Served, Shut, Claim, Done, Back, Lose, Free, Drop, Load, Save, Saved, Unsave, Collect}
use Rattle.tl_model.specs.declared.event.Event.{Event}
use Rattle.tl_model.specs.Namespace.{Names}
use Rattle.tl_model.specs.Past.{Past, without_tickets}
use Rattle.tl_model.specs.Replies.{reply_to, reply_same}
use Rattle.tl_model.specs.History.{calls_of, names_of, records_of, record_made, with_call, reply_after, id_of}
use Rattle.tl_model.specs.Rules.{Judge, is_permitted, all_permitted, broken, is_client}
use Rattle.tl_model.specs.Actors.{is_idle}
use Rattle.tl_laws.proofs.Refusals.{put_made, job_made}
use Rattle.tl_laws.proofs.Permits.{permitted_of}
use Rattle.tl_laws.specs.Numbers.{Numbered}

pub below_or_not : (a b : ℕ) → (a < b) ⊎ (b ≤ a)
below_or_not zero zero = inr (omega arith)
below_or_not zero (suc b) = inl (omega arith)
below_or_not (suc a) zero = inr (omega arith)
below_or_not (suc a) (suc b) = elim (below_or_not a b) [ inl h ↦ inl (omega arith) | inr h ↦ inr (omega arith) ]

-- what is read of a longer list at a place of the shorter one
pub get-left : {X : Type 0} (xs ys : List X) (i : ℕ) → i < length xs → slice_get (xs ++ ys) i ≡ slice_get xs i
get-left [] ys i h = absurd (omega arith)
get-left (x ∷ xs) ys zero h = refl
get-left (x ∷ xs) ys (suc i) h = get-left xs ys i (omega arith)

-- what is read at the place of the last
pub get-last : {X : Type 0} (xs : List X) (x : X) (i : ℕ) → i ≡ length xs → slice_get (xs ++ x ∷ []) i ≡ Some x
get-last [] x zero e = refl
get-last [] x (suc i) e = absurd (omega arith)
get-last (y ∷ xs) x zero e = absurd (omega arith)
get-last (y ∷ xs) x (suc i) e = get-last xs x i (omega arith)

-- a place that is read is one of the list
pub get-within : {X : Type 0} (xs : List X) (i : ℕ) (x : X) → slice_get xs i ≡ Some x → i < length xs
get-within [] i x e = absurd (cc)
get-within (y ∷ xs) zero x e = omega arith
get-within (y ∷ xs) (suc i) x e = let h : i < length xs = get-within xs i x e in omega arith

one_more : (rs : List Record) (new : Record) → Numbered rs → id_of new ≡ record { 0 = length rs } → Numbered (rs ++ new ∷ [])
one_more rs new n e i r got = elim (below_or_not i (length rs)) [
  | inl h ↦ n i r (sym (get-left rs (new ∷ []) i h) ∙ got)
  | inr h ↦
      let within : i < length (rs ++ new ∷ []) = get-within (rs ++ new ∷ []) i r got in
      let last : i ≡ length rs = omega (arith, length-append rs (new ∷ [])) in
      let same : Some r ≡ Some new = sym got ∙ get-last rs new i last in
      let it : r ≡ new = cc in
      ap id_of it ∙ e ∙ ap (λ (k : ℕ). record { 0 = k }) (sym last)
]

none_more : (rs : List Record) → Numbered rs → Numbered (rs ++ [])
none_more rs n = subst Numbered (sym (append-nil rs)) n

-- a call that is answered as its history determines keeps the records numbered
call-numbers : {T : Type 0} (reply : Reply) (command : Command T) (names : Names) (rs : List Record) → Numbered rs →
    reply_same (reply_to names (length rs) command) reply ≡ true → Numbered (rs ++ record_made reply command names)
call-numbers (Made made) (Put path len digest ticket) names rs n same =
    one_more rs (kind.Put made) n (put_made names (length rs) path len digest ticket made same)
call-numbers {T} (Made made) (Job core prio inputs outputs) names rs n same =
    one_more rs _ n (job_made T names (length rs) core prio inputs outputs made same)
call-numbers (Made made) (Read path prio form) names rs n same = none_more rs n
call-numbers (Made made) (Delete path) names rs n same = none_more rs n
call-numbers (Made made) (Mkdir path) names rs n same = none_more rs n
call-numbers (Made made) (Rename from to) names rs n same = none_more rs n
call-numbers (Made made) (Pin path) names rs n same = none_more rs n
call-numbers (Made made) (Unpin path) names rs n same = none_more rs n
call-numbers (Made made) (list path) names rs n same = none_more rs n
call-numbers (Made made) (Stat path) names rs n same = none_more rs n
call-numbers (Made made) (free path) names rs n same = none_more rs n
call-numbers Fine command names rs n same = none_more rs n
call-numbers (Opened f) command names rs n same = none_more rs n
call-numbers (Listed entries) command names rs n same = none_more rs n
call-numbers (Stated status) command names rs n same = none_more rs n
call-numbers Exists command names rs n same = none_more rs n
call-numbers NoSuch command names rs n same = none_more rs n
call-numbers NotFile command names rs n same = none_more rs n
call-numbers NotDir command names rs n same = none_more rs n
call-numbers NotEmpty command names rs n same = none_more rs n
call-numbers TooDeep command names rs n same = none_more rs n
call-numbers IntoItself command names rs n same = none_more rs n
call-numbers TooMany command names rs n same = none_more rs n

pub act-numbers : {T : Type 0} (judge : Judge T) (header : Header) (events : List (Event T)) (past : Past) (actor : Actor) (act : Act T) →
    Numbered (records_of (calls_of events)) → is_permitted judge header events past actor act ≡ true →
    Numbered (records_of (with_call actor act (calls_of events)))
act-numbers judge header events past actor (Call command reply) n ok =
    call-numbers reply command (names_of (calls_of events)) (records_of (calls_of events)) n (and_parts (is_client actor && is_idle past actor && judge.put_fits command) (reply_same (reply_after (calls_of events) command) reply) ok).1
act-numbers judge header events past actor (Served file digest) n ok = n
act-numbers judge header events past actor (Shut file) n ok = n
act-numbers judge header events past actor (Claim worker made) n ok = n
act-numbers judge header events past actor (Done worker made) n ok = n
act-numbers judge header events past actor (Back made) n ok = n
act-numbers judge header events past actor (Lose worker) n ok = n
act-numbers judge header events past actor (Free file) n ok = n
act-numbers judge header events past actor (Drop worker file) n ok = n
act-numbers judge header events past actor (Load worker file) n ok = n
act-numbers judge header events past actor (Save file) n ok = n
act-numbers judge header events past actor (Saved file size digest) n ok = n
act-numbers judge header events past actor (Unsave file) n ok = n
act-numbers judge header events past actor (Collect made) n ok = n

-- the records of a journal whose events are permitted are numbered in order
pub all-numbered : {T : Type 0} (judge : Judge T) (header : Header) (events : List (Event T)) → all_permitted judge header events ≡ true →
    Numbered (records_of (calls_of events))
all-numbered judge header [] ok = λ i r got. absurd (cc)
all-numbered judge header (e ∷ events) ok =
    let parts = and_parts (is_none (broken judge header events e)) (all_permitted judge header events) ok in
    act-numbers judge header events (without_tickets events) e.actor e.act (all-numbered judge header events parts.1)
    (permitted_of judge header events e parts.0).1
