-- What a look finds.
use Rattle.std.proofs.Common.{◌≡◌, ◌≤◌, ℕ, Bool, true, false, ◌||◌, List, ◌∷◌, length, Option, Some, None, is_some, option_map, refl, sym, ap, ◌∙◌, subst}
use Rattle.sha2.specs.Sha256.{sha256}
use Rattle.tl_types.specs.Block.{FileOutcome}
use Rattle.tl_types.specs.Outcome.{digest_of}
use Rattle.tl_types.specs.declared.actor.Actor.{Actor}
use Rattle.tl_types.specs.declared.digest.Digest.{Digest}
use Rattle.tl_types.specs.declared.file_id.FileId.{FileId}
use Rattle.tl_types.specs.declared.outcome.Outcome.TheVariants.{Value}
use Rattle.tl_model.specs.declared.event.Act.TheVariants.{Served}
use Rattle.tl_model.specs.declared.event.Event.{Event}
use Rattle.tl_model.specs.declared.header.Header.{Header}
use Rattle.tl_model.specs.declared.saved.Saved.{Saved}
use Rattle.tl_model.specs.declared.saved.Saved.TheVariants as save
use Rattle.tl_model.specs.Past.{without_tickets}
use Rattle.tl_model.specs.Actors.{OpenRead}
use Rattle.tl_model.specs.Residency.{SavedAs, is_resident, saved_as}
use Rattle.tl_core.specs.declared.look.Look.{Look}
use Rattle.tl_core.specs.declared.look.Look.TheVariants as looked
use Rattle.tl_core.specs.declared.resident.Resident.{Resident}
use Rattle.tl_core.specs.Residents.{Residents, found, worker_of, block_of}
use Rattle.tl_core.specs.Puts.{KeptPut, kept_put, as_saved, IsCopy}
use Rattle.tl_core.specs.State.{State, Stands, IsHeld}
use Rattle.tl_core.specs.Answers.{Looked, FoundInStore, IsSavedOf}
use Rattle.tl_core.proofs.Held.{found-is}

some-map : (it : Option Resident) → is_some (option_map worker_of it) ≡ is_some it
some-map None = refl
some-map (Some r) = refl

-- a file is resident where it is found
pub resident-found : {T : Type 0} (tells : Bool) (content : T → List ℕ) (header : Header) (events : List (Event T)) (residents : Residents) (spare : ℕ)
    (f : FileId) (it : Option Resident) → Stands tells content header events residents spare → found f residents ≡ it →
    is_resident (without_tickets events) f ≡ is_some it
resident-found tells content header events residents spare f it s here =
    ap is_some (sym (s.places f) ∙ ap (option_map worker_of) here) ∙ some-map it

-- the block that is held of the file of the read is served
pub looked_have : {T : Type 0} (tells : Bool) (content : T → List ℕ) (header : Header) (events : List (Event T)) (residents : Residents) (spare : ℕ)
    (old new : State T) (actor : Actor) (file : FileId) (it : Resident) (block : FileOutcome) (digest : Digest) (read : OpenRead) →
    record { header = header; events = events; residents = residents } ≡ old →
    new ≡ record { header = header; events = record { actor = actor; act = Served file digest } ∷ events; residents = residents } →
    Stands tells content header events residents spare → file ≡ read.file → found file residents ≡ Some it → block ≡ it.block →
    digest.0 ≡ digest_of block.outcome → Looked tells content old new actor read.file (looked.Have block)
looked_have {T} tells content header events residents spare old new actor file it block digest read old_is new_is s file_is here block_is digest_is =
    let P : State T → Type 0 = λ o. Looked tells content o new actor read.file (looked.Have block) in
    let known_of = found-is (IsHeld tells content events) file residents it s.blocks here in
    let of_it : block.file ≡ file = ap (λ (b : FileOutcome). b.file) block_is ∙ known_of.1 in
    subst P old_is (
      subst (λ (f : FileId). is_resident (without_tickets events) f ≡ true) file_is (resident-found tells content header events residents spare file (Some it) s here),
      ap (λ (f : FileId). option_map block_of (found f residents)) (sym file_is) ∙ ap (option_map block_of) here ∙ ap Some (sym block_is),
      of_it ∙ file_is,
      (digest, digest_is, new_is ∙ ap (λ (f : FileId). record { header = header; events = record { actor = actor; act = Served f digest } ∷ events; residents = residents }) (sym of_it)),
    )

pub saved_by : {T : Type 0} (tells : Bool) (content : T → List ℕ) (header : Header) (events : List (Event T)) (residents : Residents) (spare : ℕ)
    (f : FileId) (put : KeptPut T) (saved : Saved T) → Stands tells content header events residents spare → kept_put events f ≡ Some put → IsCopy content put saved →
    IsSavedOf tells content (record { header = header; events = events; residents = residents }) f saved
saved_by tells content header events residents spare f put (save.Held ticket len digest) s here copy =
    let known : SavedAs = as_saved put in
    let whole = s.whole f put here in (
      known,
      s.saved f ∙ ap (option_map as_saved) here,
      (
        (λ i. record { size = sym copy.1 i; digest = sym copy.2 i }),
        subst (λ (n : ℕ). n ≤ 1048576) (sym copy.1) whole.0,
        λ tell. (
          (s.puts f put here).1 ∙ ap (λ (bytes : List ℕ). Value bytes) (sym copy.0),
          ap length copy.0 ∙ (whole.1 tell).0 ∙ sym copy.1,
          ap sha256 copy.0 ∙ (whole.1 tell).1 ∙ ap (λ (d : Digest). d.0) (sym copy.2),
        ),
      ),
    )
saved_by tells content header events residents spare f put (save.Failed code) s here copy = absurd copy

stored_by : {T : Type 0} (tells : Bool) (content : T → List ℕ) (header : Header) (events : List (Event T)) (residents : Residents) (spare : ℕ)
    (actor : Actor) (f : FileId) (kept : Option (KeptPut T)) (look : Look T) → Stands tells content header events residents spare →
    kept_put events f ≡ kept → found f residents ≡ None → FoundInStore content kept look →
    Looked tells content (record { header = header; events = events; residents = residents }) (record { header = header; events = events; residents = residents }) actor f look
stored_by tells content header events residents spare actor f (Some put) (looked.Saved saved) s here gone look =
    (resident-found tells content header events residents spare f None s gone, saved_by tells content header events residents spare f put saved s here look, refl)
stored_by tells content header events residents spare actor f None looked.NotYet s here gone look =
    let away : is_resident (without_tickets events) f ≡ false = resident-found tells content header events residents spare f None s gone in
    let unsaved : is_some (saved_as (without_tickets events) f) ≡ false = ap is_some (s.saved f ∙ ap (option_map as_saved) here) in
    (ap (λ b. b || is_some (saved_as (without_tickets events) f)) away ∙ unsaved, refl)
stored_by tells content header events residents spare actor f (Some put) (looked.Have block) s here gone look = absurd look
stored_by tells content header events residents spare actor f (Some put) looked.NotYet s here gone look = absurd look
stored_by tells content header events residents spare actor f None (looked.Have block) s here gone look = absurd look
stored_by tells content header events residents spare actor f None (looked.Saved saved) s here gone look = absurd look

-- else what the store has of it
pub looked_store : {T : Type 0} (tells : Bool) (content : T → List ℕ) (header : Header) (events : List (Event T)) (residents : Residents) (spare : ℕ)
    (old new : State T) (actor : Actor) (file : FileId) (look : Look T) (read : OpenRead) →
    record { header = header; events = events; residents = residents } ≡ old → record { header = header; events = events; residents = residents } ≡ new →
    Stands tells content header events residents spare → file ≡ read.file → found file residents ≡ None → FoundInStore content (kept_put events file) look →
    Looked tells content old new actor read.file look
looked_store {T} tells content header events residents spare old new actor file look read old_is new_is s file_is gone in_store =
    let first : State T = record { header = header; events = events; residents = residents } in
    let P : State T → Type 0 = λ o. Looked tells content o first actor read.file look in
    let R : State T → Type 0 = λ n. Looked tells content old n actor read.file look in
    let Q : FileId → Type 0 = λ f. Looked tells content (record { header = header; events = events; residents = residents }) (record { header = header; events = events; residents = residents }) actor f look in
    subst R new_is (subst P old_is (subst Q file_is (stored_by tells content header events residents spare actor file (kept_put events file) look s refl gone in_store)))
