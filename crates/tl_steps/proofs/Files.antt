-- What one event makes of a file is what the past with it says.
use Rattle.std.proofs.Common.{◌≡◌, ◌∙◌, arith, ℕ, zero, suc, ◌+◌, ◌<◌, Bool, true, false, ◌&&◌, ◌||◌, if◌then◌else◌, List, [], ◌∷◌, ◌++◌, length, map, slice_get, Option, Some, None, is_some, refl, sym, ap}
use Rattle.std.proofs.lemmas.Bool.{lt-ltb}
use Rattle.std.proofs.lemmas.Option.{slice_get_past}
use Rattle.tl_types.specs.Same.{file_same, record_same, record_same-Decides}
use Rattle.tl_types.specs.declared.actor.Actor.{Actor}
use Rattle.tl_types.specs.declared.file_id.FileId.{FileId}
use Rattle.tl_types.specs.declared.record_id.RecordId.{RecordId}
use Rattle.tl_types.specs.declared.worker_id.WorkerId.{WorkerId}
use Rattle.tl_model.specs.declared.event.Act.{Act}
use Rattle.tl_model.specs.declared.event.Act.TheVariants.{Done, Saved}
use Rattle.tl_model.specs.declared.record.Record.{Record}
use Rattle.tl_model.specs.Past.{Past}
use Rattle.tl_model.specs.History.{files_from, has_output, id_of, is_output, output_count, record_at, records}
use Rattle.tl_model.specs.Residency.{SavedAs, place_after, saved_after}
use Rattle.tl_laws.specs.Numbers.{Numbered}
use Rattle.tl_laws.proofs.Numbering.{get-last}
use Rattle.tl_laws.specs.Made.{IsOutputOf}
use Rattle.tl_steps.specs.Steps.{place_after_done, place_now, saves_now}

abbrev pub after : Actor → Act (Unit {0}) → Past → Past
after actor act past = record { actor = actor; act = act } ∷ past

-- ---- where a file is, and whether it is saved

done-some : (past : Past) (worker : WorkerId) (made : RecordId) (f : FileId) (here : Option WorkerId) → record_same f.rec made ≡ is_output past f made →
    place_after_done (record_same f.rec made) worker here ≡ place_after past (Done worker made) f here
done-some past worker made f (Some w) same = refl
done-some past worker made f None same = ap (λ b. if b then Some worker else None) same

output-if : (past : Past) (f : FileId) (made : RecordId) (b : Bool) → record_same f.rec made ≡ b → IsOutputOf (records past) f → b ≡ (b && has_output (record_at past made) f.out)
output-if past f made false e is = refl
output-if past f made true e is =
    sym (ap (λ (r : RecordId). has_output (record_at past r) f.out) (sym ((record_same-Decides f.rec made).0 e)) ∙ is)

pub place-same : (past : Past) (act : Act (Unit {0})) (f : FileId) (here : Option WorkerId) → IsOutputOf (records past) f → place_now act f here ≡ place_after past act f here
place-same past (Done worker made) f here is = done-some past worker made f here (output-if past f made (record_same f.rec made) refl is)
place-same past _ f here is = refl

saved-or : (b : Bool) (x : SavedAs) (before : Option SavedAs) → (b || is_some before) ≡ is_some (if b then Some x else before)
saved-or true x before = refl
saved-or false x before = refl

pub saved-same : (act : Act (Unit {0})) (f : FileId) (before : Option SavedAs) → (saves_now act f || is_some before) ≡ is_some (saved_after act f before)
saved-same (Saved g size digest) f before = saved-or (file_same f g) (record { size = size; digest = digest }) before
saved-same _ f before = refl

-- ---- the files of a record

pub each-file : {A : Type 0} (F G : FileId → A) (id : RecordId) (k n t : ℕ) → t ≡ k + n → ((j : ℕ) → j < t → F (record { rec = id; out = j }) ≡ G (record { rec = id; out = j })) →
    map F (files_from id k n) ≡ map G (files_from id k n)
each-file F G id k zero t place h = refl
each-file F G id k (suc n) t place h =
    λ i. h k (omega arith) i ∷ each-file F G id (k + 1) n t (omega arith) h i

pub is-output : (rs : List Record) (r : Record) (at : ℕ) (j : ℕ) → Numbered rs → slice_get rs at ≡ Some r → j < output_count r → IsOutputOf rs (record { rec = id_of r; out = j })
is-output rs r at j numbered got less =
    let place : slice_get rs (id_of r).0 ≡ Some r = ap (λ (id : RecordId). slice_get rs id.0) (numbered at r got) ∙ got in
    ap (λ o. has_output o j) place ∙ lt-ltb j (output_count r) less

-- ---- a record that a call adds

pub not-true : (b : Bool) → (b ≡ true → ⊥) → b ≡ false
not-true true never = absurd (never refl)
not-true false never = refl

pub nowhere : {A : Type 0} (o : Option A) → (is_some o ≡ true → ⊥) → o ≡ None
nowhere None never = refl
nowhere (Some x) never = absurd (never refl)

-- it is not there yet
pub not-yet : (past : Past) (id : RecordId) (j : ℕ) → id.0 ≡ length (records past) → IsOutputOf (records past) (record { rec = id; out = j }) → ⊥
not-yet past id j place is =
    let none : slice_get (records past) id.0 ≡ None = slice_get_past (records past) id.0 (omega arith) in
    let never : false ≡ true = ap (λ o. has_output o j) (sym none) ∙ is in
    absurd (cc)

pub new-number : (past now : Past) (r : Record) → records now ≡ records past ++ r ∷ [] → Numbered (records now) → (id_of r).0 ≡ length (records past)
new-number past now r is numbered =
    ap (λ (id : RecordId). id.0)
    (numbered (length (records past)) r (ap (λ rs. slice_get rs (length (records past))) is ∙ get-last (records past) r (length (records past)) refl))
