-- Where nothing is owed, a needed job can be made again: it is kept, and what it needs is saved or can be made.
use Rattle.std.proofs.Common.{◌≡◌, ℕ, zero, suc, ◌+◌, ◌<◌, ◌≤◌, inl, inr, Bool, true, false, ◌&&◌, List, [], ◌∷◌, ◌++◌, length, reverse, slice_get, Option, Some, None, refl, sym, ap, ◌∙◌, subst, arith}
use Rattle.std.specs.List.{AllByRecursion, list_all}
use Rattle.std.proofs.lemmas.Bool.{and_parts, and_from, or_left, or_right, or_cases, both_ways, ltb-true}
use Rattle.std.proofs.lemmas.List.{reverse-append, length-reverse}
use Rattle.tl_types.specs.Same.{record_same, record_same-Decides}
use Rattle.tl_types.specs.declared.file_id.FileId.{FileId}
use Rattle.tl_types.specs.declared.record_id.RecordId.{RecordId}
use Rattle.tl_model.specs.declared.record.Record.{Record}
use Rattle.tl_model.specs.declared.record.Record.TheVariants as kind
use Rattle.tl_model.specs.declared.event.Event.{Event}
use Rattle.tl_model.specs.declared.header.Header.{Header}
use Rattle.tl_model.specs.Past.{Past, without_tickets}
use Rattle.tl_model.specs.Tables.{Table, downward}
use Rattle.tl_model.specs.Namespace.{Node, dir, file, Names}
use Rattle.tl_model.specs.History.{names, records, record_at, id_of, is_job, inputs_of, output_count, has_input, has_output, is_output, is_named}
use Rattle.tl_model.specs.Actors.{is_read}
use Rattle.tl_model.specs.Residency.{is_saved, is_kept}
use Rattle.tl_model.specs.Needs.{is_needed, is_made_by, is_reachable_by, can_make}
use Rattle.tl_model.specs.Rules.{Judge, all_permitted, is_quiet, holds}
use Rattle.tl_laws.proofs.Numbering.{get-left, get-last, get-within}
use Rattle.tl_laws.specs.Order.{EachNode, HasOlderInputs}
use Rattle.tl_laws.proofs.Order.{all-map, all-get}
use Rattle.tl_laws.specs.Made.{IsOutputOf, IsMade, HasMadeInputs}
use Rattle.tl_laws.proofs.Made.{past-made, output-stays}
use Rattle.tl_laws.proofs.Ready.{after, get-after, after-after, difference, chosen-has, each-among, all-both}
use Rattle.tl_laws_needs.proofs.Sound.{IsSound, sound-of, permitted-before}
use Rattle.tl_laws_needs.proofs.Named.{IsIn, OfFile, in-holds}
use Rattle.tl_laws_needs.proofs.Next.{IsNext, event-next}
use Rattle.tl_laws_needs.proofs.Unneeded.{input-is-needed}
use Rattle.tl_laws_needs.proofs.Later.{needed-is-kept}

-- ---- what is named or read is of a record

made-node : (rs : List Record) (node : Node) → IsMade rs node → OfFile (IsOutputOf rs) node
made-node rs dir h = tt
made-node rs (file f pinned) h = h

pub named-is-made : (rs : List Record) (names : Names) (f : FileId) → EachNode (IsMade rs) names → IsIn names f → IsOutputOf rs f
named-is-made rs names f all is =
    in-holds (IsOutputOf rs) f names
    (all-map (λ entry. IsMade rs entry.1) (λ entry. OfFile (IsOutputOf rs) entry.1) (λ entry h. made-node rs entry.1 h) names all) is

read-is-made : {T : Type 0} (judge : Judge T) (header : Header) (events : List (Event T)) → all_permitted judge header events ≡ true →
    (f : FileId) → is_read (without_tickets events) f ≡ true → IsOutputOf (records (without_tickets events)) f
read-is-made judge header [] ok f is = absurd (cc)
read-is-made judge header (e ∷ events) ok f is =
    let past : Past = without_tickets events in
    let before = permitted-before judge header e events ok in
    let next : IsNext past (without_tickets (e ∷ events)) = event-next judge header e events ok in
    let made : IsOutputOf (records past) f = elim (or_cases (is_named past f) (is_read past f) (next.read f is)) [
      | inl h ↦ named-is-made (records past) (names past) f (past-made judge header events before).named h
      | inr h ↦ read-is-made judge header events before f h
    ] in
    subst (λ (rs : List Record). IsOutputOf rs f) (sym next.added) (output-stays (records past) next.more f made)

-- what is known of the past of a journal in which nothing is owed
pub record IsWhole (past : Past) : Type 0 where
  pub sound : IsSound past
  pub kept : (made : RecordId) → is_needed past made ≡ true → is_kept past made ≡ true
  pub read : (f : FileId) → is_read past f ≡ true → IsOutputOf (records past) f

pub whole-of : {T : Type 0} (judge : Judge T) (header : Header) (events : List (Event T)) → holds judge header events ≡ true → IsWhole (without_tickets events)
whole-of judge header events h =
    let ok = (and_parts (all_permitted judge header events) (is_quiet judge events) h).0 in
    record {
      sound = sound-of judge header events h;
      kept = λ made needed. needed-is-kept judge header events ok made needed;
      read = λ f is. read-is-made judge header events ok f is;
    }

-- ---- the maker of an unsaved file

pub record IsMaker (past : Past) (f : FileId) (p : Record) : Type 0 where
  pub at : slice_get (records past) f.rec.0 ≡ Some p
  pub file : record { rec = id_of p; out = f.out } ≡ f
  pub small : f.out < output_count p
  pub job : is_job p ≡ true
  pub output : is_output past f (id_of p) ≡ true

pub maker-at : (past : Past) → IsSound past → (f : FileId) (o : Option Record) → record_at past f.rec ≡ o → has_output o f.out ≡ true → is_saved past f ≡ false →
    (p : Record) × IsMaker past f p
maker-at past sound f None e out unsaved = absurd (cc)
maker-at past sound f (Some (kind.Put id)) e out unsaved =
    let small : f.out < 1 = ltb-true f.out 1 out in
    absurd (both_ways (is_saved past f) unsaved (sound.saves f id e (let first : f.out ≡ 0 = omega arith in first)))
maker-at past sound f (Some (kind.Job id core prio inputs outputs)) e out unsaved =
    let p : Record = kind.Job id core prio inputs outputs in
    let number : id ≡ f.rec = sound.numbers f.rec.0 p e in (
      p,
      record {
        at = e;
        file = λ i. record { rec = number i; out = f.out };
        small = ltb-true f.out outputs out;
        job = refl;
        output = and_from (record_same f.rec id) (has_output (record_at past id) f.out) ((record_same-Decides f.rec id).1 (sym number))
            (ap (λ x. has_output (record_at past x) f.out) number ∙ ap (λ o. has_output o f.out) e ∙ out);
      },
    )

-- ---- places from the end

pub get-reverse : (rs : List Record) (i k : ℕ) (r : Record) → slice_get rs i ≡ Some r → k + suc i ≡ length rs → slice_get (reverse rs) k ≡ Some r
get-reverse [] i k r at e = absurd (cc)
get-reverse (x ∷ xs) zero k r at e =
    let same : x ≡ r = cc in
    let turned : reverse (x ∷ xs) ≡ reverse xs ++ x ∷ [] = reverse-append (x ∷ []) xs in
    ap (λ (ys : List Record). slice_get ys k) turned ∙ get-last (reverse xs) x k (omega (arith, length-reverse xs)) ∙ ap Some same
get-reverse (x ∷ xs) (suc i) k r at e =
    let turned : reverse (x ∷ xs) ≡ reverse xs ++ x ∷ [] = reverse-append (x ∷ []) xs in
    ap (λ (ys : List Record). slice_get ys k) turned ∙ get-left (reverse xs) (x ∷ []) k (omega (arith, length-reverse xs)) ∙ get-reverse xs i k r at (omega arith)

all-true : {A : Type 0} (p : A → Bool) (xs : List A) → AllByRecursion (λ x. p x ≡ true) xs → list_all p xs ≡ true
all-true p [] h = refl
all-true p (x ∷ xs) h = and_from (p x) (list_all p xs) h.0 (all-true p xs h.1)

pub place-from-end : (i n : ℕ) → i < n → (k : ℕ) × (k + suc i ≡ n)
place-from-end i n less = let d = difference i n less in (d.0, (let e : n ≡ suc (i + d.0) = d.1 in let h : d.0 + suc i ≡ n = omega arith in h))

-- ---- what can be made

-- the records that can be made, of those before the one that is so many from the end
abbrev pub makers_before : Past → ℕ → Table Record Bool
makers_before past k = downward (can_make past) (after (reverse (records past)) k)

-- a file whose maker can be made is made by each table that has the maker
made-before : (past : Past) (f : FileId) (p : Record) → IsMaker past f p → (k j : ℕ) → k < j → slice_get (reverse (records past)) j ≡ Some p →
    can_make past (makers_before past j) p ≡ true → is_made_by past (makers_before past k) f ≡ true
made-before past f p maker k j less at can =
    let ls = reverse (records past) in
    let answer = can_make past in
    let gap : (d : ℕ) × (j ≡ suc (k + d)) = difference k j less in
    let in_rest : slice_get (after ls k) gap.0 ≡ Some p = get-after ls k gap.0 (k + gap.0) refl ∙ ap (slice_get ls) (sym gap.1) ∙ at in
    let rest : after (after ls k) gap.0 ≡ after ls j = after-after ls k gap.0 (k + gap.0) refl ∙ ap (after ls) (sym gap.1) in
    chosen-has answer (λ r. is_output past f (id_of r)) (after ls k) gap.0 p in_rest (ap (λ (xs : List Record). answer (downward answer xs) p) rest ∙ can) maker.output

-- the maker of an unsaved input of a needed record is needed
pub maker-of-input : (past : Past) → IsWhole past → (i : ℕ) (r : Record) (f : FileId) (p : Record) → slice_get (records past) i ≡ Some r → is_needed past (id_of r) ≡ true →
    f.rec.0 < i → has_input f r ≡ true → is_saved past f ≡ false → IsMaker past f p → is_needed past (id_of p) ≡ true
maker-of-input past whole i r f p at needed less reads unsaved maker =
    input-is-needed past f.rec.0 i p r f.out whole.sound.numbers maker.at at less needed maker.small
    (ap (λ (g : FileId). has_input g r) maker.file ∙ reads) (ap (is_saved past) maker.file ∙ unsaved)

-- the older needed jobs can be made
abbrev pub OlderCanMake : Past → ℕ → Type 0
OlderCanMake past i = (j m : ℕ) (p : Record) → j < i → slice_get (records past) j ≡ Some p → is_needed past (id_of p) ≡ true → is_job p ≡ true →
    m + suc j ≡ length (records past) → can_make past (makers_before past m) p ≡ true

input-by-maker : (past : Past) → IsWhole past → (i k : ℕ) → k + suc i ≡ length (records past) → OlderCanMake past i → (f : FileId) (p : Record) → f.rec.0 < i →
    IsMaker past f p → is_needed past (id_of p) ≡ true → is_made_by past (makers_before past k) f ≡ true
input-by-maker past whole i k place older f p less maker needed =
    let within : f.rec.0 < length (records past) = get-within (records past) f.rec.0 p maker.at in
    let end : (m : ℕ) × (m + suc f.rec.0 ≡ length (records past)) = place-from-end f.rec.0 (length (records past)) within in
    let later : k < end.0 = (let e : end.0 + suc f.rec.0 ≡ length (records past) = end.1 in omega arith) in
    made-before past f p maker k end.0 later (get-reverse (records past) f.rec.0 end.0 p maker.at end.1)
    (older f.rec.0 end.0 p less maker.at needed maker.job end.1)

input-made : (past : Past) → IsWhole past → (i k : ℕ) (r : Record) → slice_get (records past) i ≡ Some r → is_needed past (id_of r) ≡ true →
    k + suc i ≡ length (records past) → OlderCanMake past i → (f : FileId) → f.rec.0 < i → IsOutputOf (records past) f → has_input f r ≡ true →
    (b : Bool) → is_saved past f ≡ b → is_reachable_by past (makers_before past k) f ≡ true
input-made past whole i k r at needed place older f less out reads true saved = or_left (is_saved past f) (is_made_by past (makers_before past k) f) saved
input-made past whole i k r at needed place older f less out reads false unsaved =
    let it : (p : Record) × IsMaker past f p = maker-at past whole.sound f (record_at past f.rec) refl out unsaved in
    or_right (is_saved past f) (is_made_by past (makers_before past k) f)
    (input-by-maker past whole i k place older f it.0 less it.1 (maker-of-input past whole i r f it.0 at needed less reads unsaved it.1))

-- what is known of each input of a record
abbrev pub IsInputAt : Past → Record → FileId → Type 0
IsInputAt past r f = (f.rec.0 < (id_of r).0) × (IsOutputOf (records past) f × (has_input f r ≡ true))

pub each-input : (past : Past) → IsSound past → (i : ℕ) (r : Record) → slice_get (records past) i ≡ Some r → AllByRecursion (IsInputAt past r) (inputs_of r)
each-input past sound i r at =
    all-both (λ f. f.rec.0 < (id_of r).0) (λ f. IsOutputOf (records past) f × (has_input f r ≡ true)) (inputs_of r)
    (all-get HasOlderInputs (records past) i r sound.older at)
    (all-both (IsOutputOf (records past)) (λ f. has_input f r ≡ true) (inputs_of r) (all-get (HasMadeInputs (records past)) (records past) i r sound.made.inputs at)
    (each-among (inputs_of r)))

can-make-from : (past : Past) → IsWhole past → (i k : ℕ) (r : Record) → slice_get (records past) i ≡ Some r → is_needed past (id_of r) ≡ true → is_job r ≡ true →
    k + suc i ≡ length (records past) → OlderCanMake past i → can_make past (makers_before past k) r ≡ true
can-make-from past whole i k r at needed job place older =
    let number : (id_of r).0 ≡ i = ap (λ (id : RecordId). id.0) (whole.sound.numbers i r at) in
    and_from (is_kept past (id_of r) && is_job r) (list_all (is_reachable_by past (makers_before past k)) (inputs_of r))
    (and_from (is_kept past (id_of r)) (is_job r) (whole.kept (id_of r) needed) job)
    (all-true (is_reachable_by past (makers_before past k)) (inputs_of r)
    (all-map (IsInputAt past r) (λ f. is_reachable_by past (makers_before past k) f ≡ true)
    (λ f h.
    let less : f.rec.0 < i = (let below : f.rec.0 < (id_of r).0 = h.0 in omega arith) in
    input-made past whole i k r at needed place older f less h.1.0 h.1.1 (is_saved past f) refl)
    (inputs_of r) (each-input past whole.sound i r at)))

pub can-make-below : (past : Past) → IsWhole past → (d i : ℕ) → i ≤ d → OlderCanMake past i
can-make-below past whole zero i few = λ j m p less at needed job place. absurd (omega arith)
can-make-below past whole (suc d) i few = λ j m p less at needed job place.
    can-make-from past whole j m p at needed job place (can-make-below past whole d j (omega arith))
