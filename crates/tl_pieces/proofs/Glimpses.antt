-- Published calls alone change names.
use Rattle.std.proofs.Common.{◌≡◌, ◌≤◌, ◌+◌, ◌-◌, ℕ, zero, suc, Bool, true, false, List, [], ◌∷◌, ◌++◌, length, drop, cond, refl, sym, ap, ◌∙◌, arith, length-append}
use Rattle.tl_model.specs.declared.command.Command.{Command}
use Rattle.tl_model.specs.declared.command.Command.TheVariants.{Put, Job, Read, Delete, Mkdir, Rename, Pin, Unpin, List as list, Stat, Free as free}
use Rattle.tl_model.specs.declared.reply.Reply.{Reply}
use Rattle.tl_model.specs.declared.reply.Reply.TheVariants.{Made, Fine, Opened, Listed, Stated, Exists, NoSuch, NotFile, NotDir, NotEmpty, TooDeep, IntoItself, TooMany}
use Rattle.tl_model.specs.History.{CallOf, HistoryOf, names_after, names_of, reply_after}
use Rattle.tl_model.specs.Namespace.{Names, PathOf}
use Rattle.tl_model.specs.Replies.{reply_to}
use Rattle.tl_pieces.specs.Published.{glimpse, is_published, is_published_as, oldest, published}
use Rattle.tl_pieces.proofs.Adding.{filter-append}

unpublished : {T : Type 0} (reply : Reply) (command : Command T) (names : Names) → is_published_as reply command ≡ false → names_after reply command names ≡ names
unpublished (Made made) (free path) names h = refl
unpublished (Made made) (Put path len digest ticket) names h = absurd (cc)
unpublished (Made made) (Job core prio inputs outputs) names h = absurd (cc)
unpublished (Made made) (Read path prio form) names h = refl
unpublished (Made made) (Delete path) names h = refl
unpublished (Made made) (Mkdir path) names h = refl
unpublished (Made made) (Rename from to) names h = refl
unpublished (Made made) (Pin path) names h = refl
unpublished (Made made) (Unpin path) names h = refl
unpublished (Made made) (list path) names h = refl
unpublished (Made made) (Stat path) names h = refl
unpublished Fine (free path) names h = refl
unpublished Fine (Put path len digest ticket) names h = refl
unpublished Fine (Job core prio inputs outputs) names h = refl
unpublished Fine (Read path prio form) names h = refl
unpublished Fine (Delete path) names h = absurd (cc)
unpublished Fine (Mkdir path) names h = absurd (cc)
unpublished Fine (Rename from to) names h = absurd (cc)
unpublished Fine (Pin path) names h = absurd (cc)
unpublished Fine (Unpin path) names h = absurd (cc)
unpublished Fine (list path) names h = refl
unpublished Fine (Stat path) names h = refl
unpublished (Opened f) command names h = refl
unpublished (Listed entries) command names h = refl
unpublished (Stated status) command names h = refl
unpublished Exists command names h = refl
unpublished NoSuch command names h = refl
unpublished NotFile command names h = refl
unpublished NotDir command names h = refl
unpublished NotEmpty command names h = refl
unpublished TooDeep command names h = refl
unpublished IntoItself command names h = refl
unpublished TooMany command names h = refl

pub names-kept : {T : Type 0} (call : CallOf T) (calls : HistoryOf T) → is_published call ≡ false → names_of (call ∷ calls) ≡ names_of calls
names-kept call calls h = unpublished call.reply call.command (names_of calls) h

names-step : {T : Type 0} (call : CallOf T) (calls : HistoryOf T) (b : Bool) → is_published call ≡ b → names_of (published calls) ≡ names_of calls →
    names_of (cond b (call ∷ published calls) (published calls)) ≡ names_of (call ∷ calls)
names-step call calls true e h = ap (names_after call.reply call.command) h
names-step call calls false e h = h ∙ sym (names-kept call calls e)

-- the published calls leave the names that all leave
pub names-published : {T : Type 0} (calls : HistoryOf T) → names_of (published calls) ≡ names_of calls
names-published [] = refl
names-published (call ∷ calls) = names-step call calls (is_published call) refl (names-published calls)

none-dropped : {A : Type 0} (xs : List A) (n : ℕ) → n ≡ 0 → drop n xs ≡ xs
none-dropped xs n e = ap (λ k. drop k xs) e

pub all-glimpsed : {T : Type 0} (calls : HistoryOf T) (path : PathOf) → glimpse calls (length (published calls)) path ≡ reply_after calls (Stat path)
all-glimpsed {T} calls path =
    let none : length (published calls) - length (published calls) ≡ 0 = omega arith in
    ap (λ (cs : HistoryOf T). reply_to {T = T} (names_of cs) 0 (Stat path)) (none-dropped (published calls) (length (published calls) - length (published calls)) none)
    ∙ ap (λ ns. reply_to {T = T} ns 0 (Stat path)) (names-published calls)

drop-past : {A : Type 0} (xs ys : List A) (m n : ℕ) → m ≡ length xs + n → drop m (xs ++ ys) ≡ drop n ys
drop-past [] ys m n e = ap (λ k. drop k ys) (let same : m ≡ n = omega arith in same)
drop-past (x ∷ xs) ys zero n e = absurd (omega arith)
drop-past (x ∷ xs) ys (suc m) n e = drop-past xs ys m n (omega arith)

oldest-past : {A : Type 0} (xs ys : List A) (u : ℕ) → u ≤ length ys → oldest u (xs ++ ys) ≡ oldest u ys
oldest-past xs ys u few =
    let count : length (xs ++ ys) - u ≡ length xs + (length ys - u) =
    ap (λ n. n - u) (length-append xs ys) ∙ (let e : length xs + length ys - u ≡ length xs + (length ys - u) = omega arith in e) in
    drop-past xs ys (length (xs ++ ys) - u) (length ys - u) count

pub glimpse-stays : {T : Type 0} (more calls : HistoryOf T) (u : ℕ) (path : PathOf) → u ≤ length (published calls) → glimpse (more ++ calls) u path ≡ glimpse calls u path
glimpse-stays {T} more calls u path few =
    ap (λ (cs : HistoryOf T). reply_to {T = T} (names_of (oldest u cs)) 0 (Stat path)) (filter-append is_published more calls)
    ∙ ap (λ (cs : HistoryOf T). reply_to {T = T} (names_of cs) 0 (Stat path)) (oldest-past (published more) (published calls) u few)
