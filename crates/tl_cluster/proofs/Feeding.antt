-- What stands for the inputs of the record that is next.
use Rattle.std.proofs.Common.{◌≡◌, Bor, ℕ, zero, suc, Bool, true, false, ◌||◌, if◌then◌else◌, List, [], ◌∷◌, ◌++◌, slice_get, Option, Some, None, is_some, refl, sym, ap, ◌∙◌, subst}
use Rattle.std.specs.List.{AllByRecursion, list_all}
use Rattle.std.specs.Option.{option_copied}
use Rattle.std.proofs.lemmas.Bool.{and_parts}
use Rattle.tl_types.specs.Block.{FileOutcome}
use Rattle.tl_types.specs.declared.file_id.FileId.{FileId}
use Rattle.tl_types.specs.declared.record_id.RecordId.{RecordId}
use Rattle.tl_model.specs.declared.event.Event.{Event}
use Rattle.tl_model.specs.declared.header.Header.{Header}
use Rattle.tl_model.specs.declared.record.Record.{Record}
use Rattle.tl_model.specs.declared.saved.Saved.{Saved}
use Rattle.tl_model.specs.Past.{Past, events_with, without_tickets}
use Rattle.tl_model.specs.History.{id_of, inputs_of, is_job, record_at, records}
use Rattle.tl_model.specs.Plan.{next}
use Rattle.tl_model.specs.Residency.{SavedAs, all_available, is_available, is_kept, is_resident, saved_as}
use Rattle.tl_model.specs.Rules.{all_permitted, is_lawful, lawful_judge}
use Rattle.tl_model.specs.Values.{value}
use Rattle.tl_laws.proofs.Next.{next-is}
use Rattle.tl_laws_needs.proofs.Later.{next-is-kept}
use Rattle.tl_vault.specs.Vault.{saved_of}
use Rattle.tl_cluster.specs.declared.work.Feed.{Feed}
use Rattle.tl_cluster.specs.declared.work.Feed.TheVariants.{Kept}
use Rattle.tl_cluster.specs.Jobs.{state_of}
use Rattle.tl_cluster.specs.Kept.{IsCopyOf, IsKept}
use Rattle.tl_cluster.specs.Stands.{IsSound, PartsState, Stands}
use Rattle.tl_cluster.specs.State.{State, held}
use Rattle.tl_cluster.specs.Works.{AreFed, IsFed}
use Rattle.tl_cluster.proofs.Claiming.{lawful-numbered}
use Rattle.tl_cluster.proofs.Looking.{copy-saved, kept-none, kept-some}
use Rattle.tl_cluster.proofs.Steps.{held-resident, lawful-permitted}

-- what is known of the record that is next, and that the ledger finds it
pub record IsNextRecord {T : Type 0} (header : Header) (events : List (Event T)) (made : RecordId) : Type 0 where
  pub it : Record
  pub at : record_at (without_tickets events) made ≡ Some it
  pub id : id_of it ≡ made
  pub job : is_job it ≡ true
  pub fed : all_available (without_tickets events) (inputs_of it) ≡ true
  pub found : (answer : Option (Bor Record)) → (all_permitted lawful_judge header events ≡ true →
      option_copied answer ≡ (if is_kept (without_tickets events) made then record_at (without_tickets events) made else None)) → option_copied answer ≡ Some it

kept-found : (b : Bool) (o : Option Record) (it : Record) → b ≡ true → o ≡ Some it → (if b then o else None) ≡ Some it
kept-found true o it b is = is
kept-found false o it b is = absurd (cc)

pub next-record : {T : Type 0} (header : Header) (events : List (Event T)) (made : RecordId) → is_lawful header events ≡ true →
    next header.order (without_tickets events) ≡ Some made → IsNextRecord header events made
next-record header events made lawful is =
    let past : Past = without_tickets events in
    let it = next-is header.order past made is (lawful-numbered header events lawful) in
    let kept = next-is-kept lawful_judge header events (lawful-permitted header events lawful) made is in
    record {
      it = it.it;
      at = it.at;
      id = it.id;
      job = it.job;
      fed = it.fed;
      found = λ answer said. said (lawful-permitted header events lawful) ∙ kept-found (is_kept past made) (record_at past made) it.it kept it.at;
    }

-- ---- feeds

pub fed-more : {T : Type 0} (tells : Bool) (content : T → List ℕ) (state : State T) (fs : List FileId) (feeds : List (Feed T)) (f : FileId) (feed : Feed T) →
    AreFed tells content state fs feeds → IsFed tells content state f feed → AreFed tells content state (fs ++ f ∷ []) (feeds ++ feed ∷ [])
fed-more tells content state [] [] f feed all one = (one, tt)
fed-more tells content state (g ∷ fs) (x ∷ feeds) f feed all one = (all.0, fed-more tells content state fs feeds f feed all.1 one)
fed-more tells content state [] (x ∷ feeds) f feed all one = absurd all
fed-more tells content state (g ∷ fs) [] f feed all one = absurd all

-- each of them is in memory or saved
pub each-available : (past : Past) (files : List FileId) → all_available past files ≡ true → AllByRecursion (λ f. is_available past f ≡ true) files
each-available past [] all = tt
each-available past (f ∷ files) all =
    let parts = and_parts (is_available past f) (list_all (is_available past) files) all in
    (parts.0, each-available past files parts.1)

nowhere : {T : Type 0} (tells : Bool) (content : T → List ℕ) (parts : PartsState T) (f : FileId) → Stands tells content parts → held f parts.workers ≡ None →
    is_resident (without_tickets parts.events) f ≡ false
nowhere tells content parts f s none = sym (held-resident tells content parts s.agrees f) ∙ ap (λ (o : Option FileOutcome). is_some o) none

-- a copy of what is kept of a file that is in no memory stands for it
pub fed-kept : {T : Type 0} (tells : Bool) (content : T → List ℕ) (parts : PartsState T) (f : FileId) (saved copy : Saved T) → Stands tells content parts →
    held f parts.workers ≡ None → saved_of f parts.vault ≡ Some saved → IsCopyOf content saved copy → IsFed tells content (state_of parts) f (Kept f copy)
fed-kept tells content parts f saved copy s none kept is =
    let outcome = value (events_with content parts.events) f in
    let known = kept-some tells content outcome (saved_as (without_tickets parts.events) f) saved
    (subst (λ (o : Option (Saved _)). IsKept tells content outcome (saved_as (without_tickets parts.events) f) o) kept (s.agrees.kept f)) in (
      refl,
      nowhere tells content parts f s none,
      (known.0, known.1, copy-saved tells content known.0 outcome saved copy known.2 is),
    )

neither : (a b : Bool) → a ≡ false → b ≡ false → (a || b) ≡ true → ⊥
neither true b h k is = cc
neither false b h k is = cc

-- and what is available is in memory or kept
pub kept-there : {T : Type 0} (tells : Bool) (content : T → List ℕ) (parts : PartsState T) (f : FileId) → Stands tells content parts →
    held f parts.workers ≡ None → saved_of f parts.vault ≡ None → is_available (without_tickets parts.events) f ≡ true → ⊥
kept-there tells content parts f s none kept available =
    let past : Past = without_tickets parts.events in
    let outcome = value (events_with content parts.events) f in
    let unsaved : saved_as past f ≡ None =
    kept-none tells content outcome (saved_as past f)
    (subst (λ (o : Option (Saved _)). IsKept tells content outcome (saved_as past f) o) kept (s.agrees.kept f)) in
    neither (is_resident past f) (is_some (saved_as past f)) (nowhere tells content parts f s none) (ap (λ (o : Option SavedAs). is_some o) unsaved) available

-- ---- the record

all-get : {A : Type 0} (P : A → Type 0) (xs : List A) (i : ℕ) (x : A) → AllByRecursion P xs → slice_get xs i ≡ Some x → P x
all-get P [] i x all is = absurd (cc)
all-get P (y ∷ ys) zero x all is = let same : y ≡ x = cc in subst P same all.0
all-get P (y ∷ ys) (suc i) x all is = all-get P ys i x all.1 is

-- each accepted job is sound
pub sound-of : {T : Type 0} (tells : Bool) (content : T → List ℕ) (parts : PartsState T) (made : RecordId) (r : Record) → Stands tells content parts →
    record_at (without_tickets parts.events) made ≡ Some r → IsSound r
sound-of tells content parts made r s at = all-get IsSound (records (without_tickets parts.events)) made.0 r s.agrees.sound at
