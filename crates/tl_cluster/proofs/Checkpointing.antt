-- A file is saved.
use Rattle.std.proofs.Common.{◌≡◌, ℕ, ◌+◌, ◌<◌, ◌≤◌, inl, inr, Bool, true, false, ◌||◌, if◌then◌else◌, List, ◌∷◌, Option, Some, None, is_some, refl, sym, ap, ◌∙◌, subst, arith}
use Rattle.std.proofs.lemmas.Bool.{and_from, ltb-true}
use Rattle.std.proofs.lemmas.Bool.Decides.{Decides-eqb}
use Rattle.std.proofs.lemmas.Slice.Eq.{bytes_eq-Decides}
use Rattle.tl_types.specs.Block.{FileOutcome}
use Rattle.tl_types.specs.Outcome.{digest_of, outcome_size}
use Rattle.tl_types.specs.Same.{actor_same, actor_same-Decides, file_same, file_same-Decides}
use Rattle.tl_types.specs.declared.actor.Actor.{Actor}
use Rattle.tl_types.specs.declared.digest.Digest.{Digest}
use Rattle.tl_types.specs.declared.file_id.FileId.{FileId}
use Rattle.tl_types.specs.declared.outcome.Outcome.{Outcome}
use Rattle.tl_model.specs.declared.event.Act.{Act}
use Rattle.tl_model.specs.declared.event.Act.TheVariants.{Save, Saved, Unsave}
use Rattle.tl_model.specs.declared.record.Record.{Record}
use Rattle.tl_model.specs.declared.record.Record.TheVariants as kind
use Rattle.tl_model.specs.declared.saved.Saved.{Saved as SavedOf}
use Rattle.tl_model.specs.declared.saved.Saved.TheVariants.{Held, Failed}
use Rattle.tl_model.specs.Past.{Past, events_with, without_tickets}
use Rattle.tl_model.specs.Actors.{is_idle, open_claim, open_read, open_save, saves_file}
use Rattle.tl_model.specs.Checkpoints.{next_save}
use Rattle.tl_model.specs.History.{has_output, record_at}
use Rattle.tl_model.specs.Residency.{SavedAs, is_saved, saved_as}
use Rattle.tl_model.specs.Rules.{has_size_and_digest, is_file, lawful_judge, put_of, size_of}
use Rattle.tl_model.specs.Values.{value}
use Rattle.tl_laws.proofs.Saves.{all-saves, owes_save}
use Rattle.tl_steps.proofs.Saving.{all-once}
use Rattle.tl_steps.proofs.Within.{all-within}
use Rattle.tl_fleet.specs.Workers.{held_count}
use Rattle.tl_vault.specs.Vault.{Places, has_place, saved_of}
use Rattle.tl_cluster.specs.Kept.{IsKept, IsSavedFor}
use Rattle.tl_cluster.specs.Main.{with_begun, with_saved, with_unsaved}
use Rattle.tl_cluster.specs.Room.{one_if_some, under_way_of, under_way}
use Rattle.tl_cluster.specs.Saves.{saved_block}
use Rattle.tl_cluster.specs.Stands.{Agrees, PartsState, Stands}
use Rattle.tl_cluster.proofs.Carry.{if-none, same_either}
use Rattle.tl_cluster.proofs.Count.{marks, save_ended, under_way-few, under_way-less}
use Rattle.tl_cluster.proofs.Steps.{goes-on, lawful-permitted, lawful-quiet, told-goes-on}

-- one thing less is under way after a save of the actor has ended
pub save-ended : (past : Past) (actor : Actor) (act : Act (Unit {0})) (f : FileId) → open_save past actor ≡ Some f → actor.0 < 16 →
    ((a : Actor) → under_way_of (record { actor = actor; act = act } ∷ past) a
    ≡ one_if_some (if actor_same a actor then open_read past a else open_read past a) + one_if_some (if actor_same a actor then open_claim past a else open_claim past a)
    + one_if_some (if actor_same a actor then None else open_save past a)) →
    under_way (record { actor = actor; act = act } ∷ past) + 1 ≤ under_way past
save-ended past actor act f is known counts = under_way-less past (record { actor = actor; act = act } ∷ past) actor known (λ a.
    let one : (actor_same a actor ≡ true) → one_if_some (open_save past a) ≡ 1 =
    λ e. ap (λ x. one_if_some (open_save past x)) ((actor_same-Decides a actor).0 e) ∙ ap one_if_some is in
    let less = save_ended (actor_same a actor) (open_read past a) (open_claim past a) (open_save past a) one in
    let P : ℕ → Type 0 = λ n. n + marks actor a ≤ under_way_of past a in
    subst P (sym (counts a)) less)

-- there is room for the event that ends a save
pub room_to_end : (past : Past) (actor : Actor) (f : FileId) (held spare : ℕ) → open_save past actor ≡ Some f → actor.0 < 16 →
    under_way past + held ≤ spare → 0 < spare
room_to_end past actor f held spare is known room =
    let less : under_way (record { actor = actor; act = Unsave f } ∷ past) + 1 ≤ under_way past = save-ended past actor (Unsave f) f is known (λ b. refl) in
    omega arith

saves-it : (past : Past) (actor : Actor) (f : FileId) → open_save past actor ≡ Some f → saves_file f (open_save past actor) ≡ true
saves-it past actor f is = ap (saves_file f) is ∙ (file_same-Decides f f).1 refl

-- ---- a save is given up

pub unsaved : {T : Type 0} (tells : Bool) (content : T → List ℕ) (parts : PartsState T) (actor : Actor) (f : FileId) →
    Stands tells content parts → open_save (without_tickets parts.events) actor ≡ Some f → actor.0 < 16 →
    Agrees tells content (with_unsaved actor f parts)
unsaved tells content parts actor f s is known =
    let past : Past = without_tickets parts.events in
    let a : Agrees tells content parts = s.agrees in
    let saves : saves_file f (open_save past actor) ≡ true = saves-it past actor f is in
    let one_less : under_way (record { actor = actor; act = Unsave f } ∷ past) + 1 ≤ under_way past = save-ended past actor (Unsave f) f is known (λ b. refl) in
    let room : under_way past + held_count parts.workers ≤ parts.spare = a.room in
    record {
      lawful = goes-on tells content parts actor (Unsave f) s known saves refl;
      permitted = λ tell. told-goes-on tells content parts actor (Unsave f) s known tell saves;
      sized = a.sized;
      told_sized = a.told_sized;
      blocks = a.blocks;
      losses = a.losses;
      sound = a.sound;
      kept = a.kept;
      saved = a.saved;
      puts = a.puts;
      jobs = λ b claim e. a.jobs b claim (sym (same_either (actor_same b actor) (open_claim past b)) ∙ e);
      places = λ b g e. a.places b g (if-none (actor_same b actor) (open_save past b) g e);
      room = omega arith;
    }

-- ---- a save begins

begun-place : {T : Type 0} (vault : Places T) (b : Bool) (f g : FileId) (o : Option FileId) → has_place f vault ≡ true →
    (o ≡ Some g → has_place g vault ≡ true) → (if b then Some f else o) ≡ Some g → has_place g vault ≡ true
begun-place vault true f g o here before is =
    let same : f ≡ g = cc in
    subst (λ (h : FileId). has_place h vault ≡ true) same here
begun-place vault false f g o here before is = before is

pub begun : {T : Type 0} (tells : Bool) (content : T → List ℕ) (parts : PartsState T) (actor : Actor) (f : FileId) →
    Stands tells content parts → actor.0 < 16 → is_idle (without_tickets parts.events) actor ≡ true →
    next_save parts.header (without_tickets parts.events) ≡ Some f → has_place f parts.vault ≡ true → 51 + held_count parts.workers ≤ parts.spare →
    Agrees tells content (with_begun actor f parts)
begun tells content parts actor f s known idle next here room =
    let past : Past = without_tickets parts.events in
    let a : Agrees tells content parts = s.agrees in
    let first : is_file (next_save parts.header past) f ≡ true = ap (λ o. is_file o f) next ∙ (file_same-Decides f f).1 refl in
    let few : under_way (record { actor = actor; act = Save f } ∷ past) ≤ 48 = under_way-few (record { actor = actor; act = Save f } ∷ past) in
    record {
      lawful = goes-on tells content parts actor (Save f) s known (and_from _ _ idle first) refl;
      permitted = λ tell. told-goes-on tells content parts actor (Save f) s known tell (and_from _ _ idle first);
      sized = a.sized;
      told_sized = a.told_sized;
      blocks = a.blocks;
      losses = a.losses;
      sound = a.sound;
      kept = a.kept;
      saved = a.saved;
      puts = a.puts;
      jobs = λ b claim e. a.jobs b claim (sym (same_either (actor_same b actor) (open_claim past b)) ∙ e);
      places = λ b g e. begun-place parts.vault (actor_same b actor) f g (open_save past b) here (a.places b g) e;
      room = omega arith;
    }

-- ---- a file was saved

below-one : (n : ℕ) → n < 1 → n ≡ 0
below-one n l = omega arith

-- what is being saved was not put
unput : {T : Type 0} (tells : Bool) (content : T → List ℕ) (parts : PartsState T) (actor : Actor) (f : FileId) (o : Option (ℕ × Digest)) → Agrees tells content parts →
    open_save (without_tickets parts.events) actor ≡ Some f → put_of parts.events f ≡ o → o ≡ None
unput tells content parts actor f None a is e = refl
unput tells content parts actor f (Some put) a is e =
    let past : Past = without_tickets parts.events in
    let ok = lawful-permitted parts.header parts.events a.lawful in
    let made : record_at past f.rec ≡ Some (kind.Put f.rec) = a.puts f put e in
    let output : has_output (record_at past f.rec) f.out ≡ true = (all-within lawful_judge parts.header parts.events ok).saves actor f is in
    let first : f.out ≡ 0 = below-one f.out (ltb-true f.out 1 (ap (λ (r : Option Record). has_output r f.out) (sym made) ∙ output)) in
    let unsaved_yet : is_saved past f ≡ false = (all-once lawful_judge parts.header parts.events ok).unsaved actor f is in
    elim (all-saves lawful_judge parts.header parts.events ok f f.rec made first) [
      | inl here ↦ absurd (let no : true ≡ false = sym here ∙ unsaved_yet in cc)
      | inr owes ↦
          let none = lawful-quiet parts.header parts.events a.lawful in
          absurd (let no : false ≡ true = sym (ap (λ o. owes_save o f) none) ∙ owes in cc)
    ]

kept-once : {T : Type 0} (tells : Bool) (content : T → List ℕ) (outcome : Outcome) (b : Bool) (known : SavedAs) (saved : SavedOf T) (o : Option SavedAs) (kept : Option (SavedOf T)) →
    (b ≡ true → IsSavedFor tells content known outcome saved) → IsKept tells content outcome o kept →
    IsKept tells content outcome (if b then Some known else o) (if b then Some saved else kept)
kept-once tells content outcome true known saved o kept now before = now refl
kept-once tells content outcome false known saved o kept now before = before

or-first : (a b : Bool) → a ≡ true → (a || b) ≡ true
or-first true b h = refl
or-first false b h = absurd (cc)

-- the saved value is for what the file holds, where the bytes are told
held-as : {T : Type 0} (tells : Bool) (content : T → List ℕ) (parts : PartsState T) (block : FileOutcome) (it : SavedOf T) (g : FileId) →
    IsSavedFor tells content (saved_block block) block.outcome it →
    (tells ≡ true → block.outcome ≡ value (events_with content parts.events) block.file) → g ≡ block.file →
    IsSavedFor tells content (saved_block block) (value (events_with content parts.events) g) it
held-as tells content parts block (Held ticket len digest) g for values same = (
  for.0,
  for.1,
  λ tell. (ap (value (events_with content parts.events)) same ∙ sym (values tell) ∙ (for.2 tell).0, (for.2 tell).1, (for.2 tell).2),
)
held-as tells content parts block (Failed code) g for values same = (
  for.0,
  λ tell. ap (value (events_with content parts.events)) same ∙ sym (values tell) ∙ for.1 tell,
)

saved-once : (b : Bool) (f g : FileId) (known it : SavedAs) (o : Option SavedAs) (put : Option (ℕ × Digest)) → (b ≡ true → put ≡ None) →
    (o ≡ Some it → has_size_and_digest put it.size it.digest ≡ true) → (if b then Some known else o) ≡ Some it → has_size_and_digest put it.size it.digest ≡ true
saved-once true f g known it o put none before is = ap (λ p. has_size_and_digest p it.size it.digest) (none refl)
saved-once false f g known it o put none before is = before is

pub saved : {T : Type 0} (tells : Bool) (content : T → List ℕ) (parts : PartsState T) (actor : Actor) (block : FileOutcome) (it : SavedOf T) (vault : Places T) →
    Stands tells content parts → open_save (without_tickets parts.events) actor ≡ Some block.file → actor.0 < 16 →
    IsSavedFor tells content (saved_block block) block.outcome it →
    (tells ≡ true → block.outcome ≡ value (events_with content parts.events) block.file) →
    ((g : FileId) → saved_of g vault ≡ (if file_same g block.file then Some it else saved_of g parts.vault)) →
    ((g : FileId) → has_place g vault ≡ has_place g parts.vault) →
    Agrees tells content (with_saved actor block vault parts)
saved {T} tells content parts actor block it vault s is known for values kept places =
    let past : Past = without_tickets parts.events in
    let told = events_with content parts.events in
    let f : FileId = block.file in
    let size = outcome_size block.outcome in
    let digest : Digest = record { 0 = digest_of block.outcome } in
    let a : Agrees tells content parts = s.agrees in
    let saves : saves_file f (open_save past actor) ≡ true = saves-it past actor f is in
    let none : put_of parts.events f ≡ None = unput tells content parts actor f (put_of parts.events f) a is refl in
    let one_less : under_way (record { actor = actor; act = Saved f size digest } ∷ past) + 1 ≤ under_way past =
    save-ended past actor (Saved f size digest) f is known (λ b. refl) in
    let room : under_way past + held_count parts.workers ≤ parts.spare = a.room in
    record {
      lawful = goes-on tells content parts actor (Saved f size digest) s known
          (and_from _ _ (or-first _ _ saves) (ap (λ p. has_size_and_digest p size digest) none)) refl;
      permitted = λ tell. told-goes-on tells content parts actor (Saved f size digest) s known tell
          (and_from _ _ (or-first _ _ saves)
          (and_from _ _ ((Decides-eqb (size_of told f) size).1 (ap outcome_size (sym (values tell))))
          ((bytes_eq-Decides (digest_of (value told f)) digest.0).1 (ap digest_of (sym (values tell))))));
      sized = a.sized;
      told_sized = a.told_sized;
      blocks = a.blocks;
      losses = a.losses;
      sound = a.sound;
      kept = λ g.
          subst (IsKept tells content (value told g) (if file_same g f then Some (saved_block block) else saved_as past g)) (sym (kept g))
          (kept-once tells content (value told g) (file_same g f) (saved_block block) it (saved_as past g) (saved_of g parts.vault)
          (λ same. held-as tells content parts block it g for values ((file_same-Decides g f).0 same)) (a.kept g));
      saved = λ g there e. saved-once (file_same g f) f g (saved_block block) there (saved_as past g) (put_of parts.events g)
          (λ same. ap (put_of parts.events) ((file_same-Decides g f).0 same) ∙ none) (a.saved g there) e;
      puts = a.puts;
      jobs = λ b claim e. a.jobs b claim (sym (same_either (actor_same b actor) (open_claim past b)) ∙ e);
      places = λ b g e. places g ∙ a.places b g (if-none (actor_same b actor) (open_save past b) g e);
      room = omega arith;
    }

nothing-kept : {T : Type 0} (tells : Bool) (content : T → List ℕ) (outcome : Outcome) (o : Option SavedAs) (kept : Option (SavedOf T)) → is_some o ≡ false →
    IsKept tells content outcome o kept → kept ≡ None
nothing-kept tells content outcome None None none is = refl
nothing-kept tells content outcome None (Some saved) none is = absurd is
nothing-kept tells content outcome (Some known) kept none is = absurd (cc)

-- of what is being saved nothing is kept
pub unkept : {T : Type 0} (tells : Bool) (content : T → List ℕ) (parts : PartsState T) (actor : Actor) (f : FileId) → Agrees tells content parts →
    open_save (without_tickets parts.events) actor ≡ Some f → saved_of f parts.vault ≡ None
unkept tells content parts actor f a is =
    let ok = lawful-permitted parts.header parts.events a.lawful in
    nothing-kept tells content (value (events_with content parts.events) f) (saved_as (without_tickets parts.events) f) (saved_of f parts.vault)
    ((all-once lawful_judge parts.header parts.events ok).unsaved actor f is) (a.kept f)
