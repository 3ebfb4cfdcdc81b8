-- What a call needs of the checkpoint store: a place for what is put, and that nothing is kept there.
use Rattle.std.proofs.Common.{◌≡◌, ℕ, ◌+◌, ◌<◌, ◌≤◌, Bool, true, false, List, length, Option, Some, None, is_some, Result, Ok, Err, OnOk, refl, sym, ap, ◌∙◌, subst, arith}
use Rattle.std.specs.Option.{option_map}
use Rattle.tl_types.specs.Same.{file_same, file_same-Decides}
use Rattle.tl_types.specs.declared.actor.Actor.{Actor}
use Rattle.tl_types.specs.declared.file_id.FileId.{FileId}
use Rattle.tl_types.specs.declared.outcome.Outcome.{Outcome}
use Rattle.tl_model.specs.declared.command.Command.{Command}
use Rattle.tl_model.specs.declared.command.Command.TheVariants.{Put}
use Rattle.tl_model.specs.declared.reply.Reply.{Reply}
use Rattle.tl_model.specs.declared.reply.Reply.TheVariants.{Made}
use Rattle.tl_model.specs.declared.saved.Saved.{Saved as Keeping}
use Rattle.tl_model.specs.Past.{Past, events_with, without_tickets}
use Rattle.tl_model.specs.History.{records}
use Rattle.tl_model.specs.Residency.{SavedAs, saved_as}
use Rattle.tl_model.specs.Values.{value}
use Rattle.tl_fleet.specs.Workers.{held_count}
use Rattle.tl_vault.specs.Vault.{Places, has_place, saved_of}
use Rattle.tl_cluster.specs.declared.parts.calling.PutCopy.{PutCopy}
use Rattle.tl_cluster.specs.Called.{bytes_put, made_of, put_made}
use Rattle.tl_cluster.specs.Calls.{CanKeep, HasMoreRoom, HasPlace, IsCopyOfPut, bytes_of}
use Rattle.tl_cluster.specs.Kept.{IsKept}
use Rattle.tl_cluster.specs.Room.{under_way}
use Rattle.tl_cluster.specs.Stands.{Agrees, IsRoomier, PartsState, Stands}
use Rattle.tl_cluster.proofs.Calls.{IsCall, put-at, saved-within}

-- ---- what is kept of what was put

copied-bytes : {T : Type 0} (content : T → List ℕ) (command : Command T) (put : Option (PutCopy T)) → IsCopyOfPut content command put →
    option_map bytes_of put ≡ bytes_put command
copied-bytes content (Put path len digest ticket) (Some put) copy = λ i. Some (record { len = copy.1 i; digest = copy.2 i })
copied-bytes content (Put path len digest ticket) None copy = absurd copy
copied-bytes content _ None copy = refl
copied-bytes content _ (Some put) copy = absurd copy

-- a copy says what is saved as the command does
pub copied-made : {T : Type 0} (content : T → List ℕ) (command : Command T) (reply : Reply) (put : Option (PutCopy T)) → IsCopyOfPut content command put →
    made_of reply (option_map bytes_of put) ≡ put_made reply command
copied-made content command reply put copy = ap (made_of reply) (copied-bytes content command put copy)

unsaved : (o : Option SavedAs) → (is_some o ≡ true → ⊥) → o ≡ None
unsaved None not = refl
unsaved (Some known) not = absurd (not refl)

kept-none : {T : Type 0} (tells : Bool) (content : T → List ℕ) (outcome : Outcome) (known : Option SavedAs) (kept : Option (Keeping T)) → known ≡ None →
    IsKept tells content outcome known kept → kept ≡ None
kept-none tells content outcome None None none h = refl
kept-none tells content outcome None (Some saved) none h = absurd h
kept-none tells content outcome (Some known) kept none h = absurd (cc)

past-end : (n count : ℕ) → n ≡ count → n < count → ⊥
past-end n count at within = omega arith

-- nothing is kept of a file whose record is still to come
nothing-kept : {T : Type 0} (tells : Bool) (content : T → List ℕ) (parts : PartsState T) (f : FileId) → Agrees tells content parts →
    f.rec.0 ≡ length (records (without_tickets parts.events)) → saved_of f parts.vault ≡ None
nothing-kept tells content parts f a at =
    let past : Past = without_tickets parts.events in
    kept-none tells content (value (events_with content parts.events) f) (saved_as past f) (saved_of f parts.vault)
    (unsaved (saved_as past f) (λ saved. past-end f.rec.0 (length (records past)) at (saved-within tells content parts f a saved))) (a.kept f)

-- an accepted put can be kept
pub can-keep : {T : Type 0} (tells : Bool) (content : T → List ℕ) (parts : PartsState T) (actor : Actor) (command : Command T) (reply : Reply)
    (put : Option (PutCopy T)) → IsCall tells content parts actor command reply → IsCopyOfPut content command put → HasPlace parts put →
    CanKeep reply put parts.vault
can-keep tells content parts actor (Put path len digest ticket) (Made made) (Some put) c copy place =
    let at : made.0 ≡ length (records (without_tickets parts.events)) = put-at parts.events path len digest ticket made c.is in (
      subst (λ (n : ℕ). has_place (record { rec = record { 0 = n }; out = 0 }) parts.vault ≡ true) (sym at) (place refl),
      nothing-kept tells content parts (record { rec = made; out = 0 }) c.stands.agrees at,
    )
can-keep tells content parts actor _ (Made made) None c copy place = tt
can-keep tells content parts actor _ (Made made) (Some put) c copy place = absurd copy
can-keep tells content parts actor _ _ put c copy place = tt

-- ---- room

more-there : (b : Bool) (old new : Bool) → (b ≡ true → new ≡ true) → (b ≡ false → new ≡ old) → old ≡ true → new ≡ true
more-there true old new here there h = here refl
more-there false old new here there h = there refl ∙ h

-- a file that had a place has it once another one has its own
pub still-placed : {T : Type 0} (f : FileId) (old new : Places T) → has_place f new ≡ true →
    ((g : FileId) → file_same f g ≡ false → has_place g new ≡ has_place g old) →
    (g : FileId) → has_place g old ≡ true → has_place g new ≡ true
still-placed f old new made others g there =
    more-there (file_same f g) (has_place g old) (has_place g new)
    (λ same. ap (λ (h : FileId). has_place h new) (sym ((file_same-Decides f g).0 same)) ∙ made) (others g) there

-- the parts stand with more room, for events and in the checkpoint store
pub stands-roomier : {T : Type 0} (tells : Bool) (content : T → List ℕ) (parts : PartsState T) (room : ℕ) (vault : Places T) →
    Stands tells content parts → parts.spare ≤ room →
    ((f : FileId) → saved_of f vault ≡ saved_of f parts.vault) → ((f : FileId) → has_place f parts.vault ≡ true → has_place f vault ≡ true) →
    Stands tells content (record parts { spare = room; vault = vault })
stands-roomier tells content parts room vault s more kept places =
    let a = s.agrees in
    let before : under_way (without_tickets parts.events) + held_count parts.workers ≤ parts.spare = a.room in
    record {
      agrees = record {
        lawful = a.lawful;
        permitted = a.permitted;
        sized = a.sized;
        told_sized = a.told_sized;
        blocks = a.blocks;
        losses = a.losses;
        sound = a.sound;
        kept = λ f. subst (λ (o : Option (Keeping _)). IsKept tells content (value (events_with content parts.events) f)
            (saved_as (without_tickets parts.events) f) o) (sym (kept f)) (a.kept f);
        saved = a.saved;
        puts = a.puts;
        jobs = a.jobs;
        places = λ b f e. places f (a.places b f e);
        room = omega arith;
      };
      settled = s.settled;
    }

pub on_ok : {A E : Type 0} (r : Result A E) (P Q : Type 0) → (P → Q) → OnOk r P → OnOk r Q
on_ok (Ok a) P Q f h = f h
on_ok (Err e) P Q f h = h

-- room for a turn, and then a place in the checkpoint store
pub more-room : {T : Type 0} (tells : Bool) (content : T → List ℕ) (old mid new : PartsState T) → Stands tells content old →
    IsRoomier 0 old mid → new ≡ record mid { vault = new.vault } →
    ((f : FileId) → saved_of f new.vault ≡ saved_of f mid.vault) → ((f : FileId) → has_place f mid.vault ≡ true → has_place f new.vault ≡ true) →
    HasMoreRoom tells content old new
more-room tells content old mid new s roomier same kept places =
    let is : new ≡ record old { spare = mid.spare; vault = new.vault } =
    same ∙ ap (λ (p : PartsState _). record p { vault = new.vault }) roomier.is in
    let vaults : mid.vault ≡ old.vault = ap (λ (p : PartsState _). p.vault) roomier.is in
    record {
      header = ap (λ (p : PartsState _). p.header) is;
      events = ap (λ (p : PartsState _). p.events) is;
      workers = ap (λ (p : PartsState _). p.workers) is;
      stands = subst (λ (p : PartsState _). Stands tells content p) (sym is)
          (stands-roomier tells content old mid.spare new.vault s roomier.never_less
          (λ f. kept f ∙ ap (saved_of f) vaults)
          (λ f there. places f (ap (has_place f) vaults ∙ there)));
    }
