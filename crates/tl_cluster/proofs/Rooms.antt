-- Room for a turn.
use Rattle.std.proofs.Common.{◌≡◌, ℕ, ◌+◌, ◌≤◌, Bool, true, false, List, refl, sym, ap, ◌∙◌, subst, arith}
use Rattle.tl_types.specs.Same.{file_same, file_same-Decides}
use Rattle.tl_types.specs.declared.file_id.FileId.{FileId}
use Rattle.tl_model.specs.Past.{events_with, without_tickets}
use Rattle.tl_model.specs.Residency.{is_resident, saved_as}
use Rattle.tl_model.specs.Values.{value}
use Rattle.tl_vault.specs.Vault.{Places, has_place, saved_of}
use Rattle.tl_cluster.specs.Kept.{IsKept}
use Rattle.tl_fleet.specs.Workers.{held_count}
use Rattle.tl_fleet.specs.Workers as fleet
use Rattle.tl_fleet.proofs.Places.{resident_same}
use Rattle.tl_cluster.specs.Room.{under_way}
use Rattle.tl_cluster.specs.Stands.{Agrees, IsRoomier, IsRoomierOnly, PartsState, Stands}

-- more room may be there
roomier-agrees : {T : Type 0} (tells : Bool) (content : T → List ℕ) (parts : PartsState T) (spare : ℕ) → parts.spare ≤ spare →
    Agrees tells content parts → Agrees tells content (record parts { spare = spare })
roomier-agrees tells content parts spare longer a = record {
  lawful = a.lawful;
  permitted = a.permitted;
  sized = a.sized;
  told_sized = a.told_sized;
  blocks = a.blocks;
  losses = a.losses;
  sound = a.sound;
  kept = a.kept;
  saved = a.saved;
  puts = a.puts;
  jobs = a.jobs;
  places = a.places;
  room =
      let few : under_way (without_tickets parts.events) + held_count parts.workers ≤ parts.spare = a.room in
      omega arith;
}

pub with-room : {T : Type 0} (tells : Bool) (content : T → List ℕ) (more : ℕ) (old new : PartsState T) → IsRoomier more old new →
    Stands tells content old → Stands tells content (record old { spare = new.spare })
with-room tells content more old new r s = record {
  agrees = roomier-agrees tells content old new.spare r.never_less s.agrees;
  settled = s.settled;
}

pub roomier-stands : {T : Type 0} (tells : Bool) (content : T → List ℕ) (more : ℕ) (old new : PartsState T) → IsRoomier more old new →
    Stands tells content old → Stands tells content new
roomier-stands tells content more old new r s =
    subst (Stands tells content) (sym r.is) (with-room tells content more old new r s)

pub only-roomier : {T : Type 0} (tells : Bool) (content : T → List ℕ) (more : ℕ) (old new : PartsState T) → IsRoomier more old new →
    Stands tells content old → IsRoomierOnly tells content old new
only-roomier tells content more old new r s = record { is = r.is; stands = roomier-stands tells content more old new r s }

-- a file that is in no memory is on no worker
pub absent-workers : {T : Type 0} (tells : Bool) (content : T → List ℕ) (parts : PartsState T) (f : FileId) → Agrees tells content parts →
    is_resident (without_tickets parts.events) f ≡ false → fleet.is_resident f parts.workers ≡ false
absent-workers tells content parts f a nowhere =
    resident_same a.sized.0 parts.header (without_tickets parts.events) parts.workers f a.sized.1 ∙ nowhere

-- more places may be there
pub with-places : {T : Type 0} (tells : Bool) (content : T → List ℕ) (parts : PartsState T) (vault : Places T) → Stands tells content parts →
    ((g : FileId) → saved_of g vault ≡ saved_of g parts.vault) → ((g : FileId) → has_place g parts.vault ≡ true → has_place g vault ≡ true) →
    Stands tells content (record parts { vault = vault })
with-places tells content parts vault s kept places =
    let a : Agrees tells content parts = s.agrees in record {
      agrees = record {
        lawful = a.lawful;
        permitted = a.permitted;
        sized = a.sized;
        told_sized = a.told_sized;
        blocks = a.blocks;
        losses = a.losses;
        sound = a.sound;
        kept = λ g.
            subst (IsKept tells content (value (events_with content parts.events) g) (saved_as (without_tickets parts.events) g)) (sym (kept g)) (a.kept g);
        saved = a.saved;
        puts = a.puts;
        jobs = a.jobs;
        places = λ actor f is. places f (a.places actor f is);
        room = a.room;
      };
      settled = s.settled;
    }

place-stays : {T : Type 0} (old new : Places T) (f g : FileId) (same : Bool) → file_same f g ≡ same → (has_place f old ≡ true → new ≡ old) →
    (file_same f g ≡ false → has_place g new ≡ has_place g old) → has_place g old ≡ true → has_place g new ≡ true
place-stays old new f g true e again others here =
    let it : f ≡ g = (file_same-Decides f g).0 e in
    ap (has_place g) (again (ap (λ (h : FileId). has_place h old) it ∙ here)) ∙ here
place-stays old new f g false e again others here = others e ∙ here

-- a place that is made takes none away
pub places-stay : {T : Type 0} (old new : Places T) (f : FileId) → (has_place f old ≡ true → new ≡ old) →
    ((g : FileId) → file_same f g ≡ false → has_place g new ≡ has_place g old) → (g : FileId) → has_place g old ≡ true → has_place g new ≡ true
places-stay old new f again others g here = place-stays old new f g (file_same f g) refl again (others g) here
