-- What an act does to a file, by the file.
use Rattle.std.proofs.Common.{◌≡◌, ◌∙◌, ℕ, Bool, true, false, ◌&&◌, ◌||◌, not, if◌then◌else◌, List, slice_get, Option, Some, None, refl, ap}
use Rattle.tl_types.specs.Same.{file_same, record_same}
use Rattle.tl_types.specs.declared.file_id.FileId.{FileId}
use Rattle.tl_types.specs.declared.worker_id.WorkerId.{WorkerId}
use Rattle.tl_model.specs.declared.event.Act.{Act}
use Rattle.tl_model.specs.declared.event.Act.TheVariants.{Served, Claim, Done, Lose, Free, Drop, Load, Saved}
use Rattle.tl_model.specs.declared.record.Record.{Record}
use Rattle.tl_model.specs.Residency.{does, is_at}
use Rattle.tl_steps.specs.Steps.{accepts, is_gone, next_of, place_after_done, place_now, saves_now}
use Rattle.tl_edge.specs.declared.change.Change.TheVariants.{Bring, Make, Take, TakeFrom, Secure, CountRead, Unname, TakeUp}
use Rattle.tl_edge.specs.declared.kept.Kept.{Kept}
use Rattle.tl_edge.specs.declared.output.Output.{Output}
use Rattle.tl_edge.specs.Data.{acted, files_after, is_in, next_number, read_at, taken_up, unnamed}
use Rattle.tl_edge.proofs.Rows.{StartsAt, all-in-rows, changed_if, each-in-rows, file-in-rows, row-in-rows, rows}

abbrev pub has_input_at : Option (List FileId) → FileId → Bool
has_input_at None f = false
has_input_at (Some inputs) f = is_in f inputs

-- the act reads the file, where these are the inputs of the accepted records
abbrev pub is_use_now : List (List FileId) → Act (Unit {0}) → FileId → Bool
is_use_now inputs (Served g digest) f = file_same f g
is_use_now inputs (Claim worker made) f = has_input_at (slice_get inputs made.0) f
is_use_now inputs _ f = false

-- the next record is accepted, and has the file as input
abbrev pub taken_with : Bool → Option Kept → FileId → Bool
taken_with is_accepted None f = false
taken_with is_accepted (Some kept) f = is_accepted && is_in f kept.inputs

abbrev pub is_taken_up : Option Kept → Act (Unit {0}) → FileId → Bool
is_taken_up next act f = taken_with (accepts act) next f

-- a file after the act, but for its name and for who has it as input
abbrev pub acted_on : List (List FileId) → ℕ → Act (Unit {0}) → FileId → Output → Output
acted_on inputs at act f o = record {
  file = o.file;
  place = place_now act f o.place;
  is_named = o.is_named;
  is_saved = saves_now act f || o.is_saved;
  is_leaf = o.is_leaf;
  reads = if is_use_now inputs act f then next_number o.reads else o.reads;
  last_done = if does f.rec act then at else o.last_done;
}

-- a file after the act
abbrev pub output_after : List (List FileId) → Option Kept → ℕ → Option FileId → Act (Unit {0}) → FileId → Output → Output
output_after inputs next at lost act f o = record {
  file = o.file;
  place = place_now act f o.place;
  is_named = o.is_named && not (is_gone lost f);
  is_saved = saves_now act f || o.is_saved;
  is_leaf = o.is_leaf && not (is_taken_up next act f);
  reads = if is_use_now inputs act f then next_number o.reads else o.reads;
  last_done = if does f.rec act then at else o.last_done;
}

-- ---- one change

counted : (b : Bool) (o : Output) → changed_if CountRead b o ≡ record {
  file = o.file;
  place = o.place;
  is_named = o.is_named;
  is_saved = o.is_saved;
  is_leaf = o.is_leaf;
  reads = if b then next_number o.reads else o.reads;
  last_done = o.last_done;
}
counted true o = refl
counted false o = refl

place-made : (b : Bool) (worker : WorkerId) (here : Option WorkerId) → (if b then place_after_done true worker here else here) ≡ place_after_done b worker here
place-made true worker None = refl
place-made true worker (Some w) = refl
place-made false worker None = refl
place-made false worker (Some w) = refl

made-if : (b : Bool) (worker : WorkerId) (at : ℕ) (o : Output) → changed_if (Make worker at) b o ≡ record {
  file = o.file;
  place = if b then place_after_done true worker o.place else o.place;
  is_named = o.is_named;
  is_saved = o.is_saved;
  is_leaf = o.is_leaf;
  reads = o.reads;
  last_done = if b then at else o.last_done;
}
made-if true worker at o = refl
made-if false worker at o = refl

abbrev placed : Output → Option WorkerId → Output
placed o here = record { file = o.file; place = here; is_named = o.is_named; is_saved = o.is_saved; is_leaf = o.is_leaf; reads = o.reads; last_done = o.last_done }

brought : (b : Bool) (worker : WorkerId) (o : Output) → changed_if (Bring worker) b o ≡ placed o (if b then Some worker else o.place)
brought true worker o = refl
brought false worker o = refl

taken : (b : Bool) (o : Output) → changed_if Take b o ≡ placed o (if b then None else o.place)
taken true o = refl
taken false o = refl

taken-from : (b : Bool) (worker : WorkerId) (o : Output) → changed_if (TakeFrom worker) b o ≡ placed o (if b && is_at worker o.place then None else o.place)
taken-from true worker o = refl
taken-from false worker o = refl

secured : (b : Bool) (o : Output) → changed_if Secure b o ≡ record {
  file = o.file;
  place = o.place;
  is_named = o.is_named;
  is_saved = b || o.is_saved;
  is_leaf = o.is_leaf;
  reads = o.reads;
  last_done = o.last_done;
}
secured true o = refl
secured false o = refl

-- ---- one act

claimed : (found : Option (List FileId)) (h : FileId → Output) (rs : List Record) → StartsAt 0 rs →
    read_at found (rows h rs) ≡ rows (λ g. changed_if CountRead (has_input_at found g) (h g)) rs
claimed None h rs from = refl
claimed (Some inputs) h rs from = each-in-rows CountRead inputs h rs from

abbrev Acted : List (List FileId) → ℕ → Act (Unit {0}) → (FileId → Output) → List Record → Type 0
Acted inputs at act h rs = acted inputs at act (rows h rs) ≡ rows (λ g. acted_on inputs at act g (h g)) rs

act-in-rows : (inputs : List (List FileId)) (at : ℕ) (act : Act (Unit {0})) (h : FileId → Output) (rs : List Record) → StartsAt 0 rs → Acted inputs at act h rs
act-in-rows inputs at (Served f digest) h rs from =
    file-in-rows CountRead f h rs from ∙ ap (λ (k : FileId → Output). rows k rs) (λ i g. counted (file_same g f) (h g) i)
act-in-rows inputs at (Claim worker made) h rs from =
    claimed (slice_get inputs made.0) h rs from
    ∙ ap (λ (k : FileId → Output). rows k rs) (λ i g. counted (has_input_at (slice_get inputs made.0) g) (h g) i)
act-in-rows inputs at (Done worker made) h rs from =
    row-in-rows (Make worker at) made h rs from
    ∙ ap (λ (k : FileId → Output). rows k rs) (λ i g. made-if (record_same g.rec made) worker at (h g) i)
    ∙ ap (λ (k : FileId → Output). rows k rs) (λ i g. record {
      file = (h g).file;
      place = place-made (record_same g.rec made) worker (h g).place i;
      is_named = (h g).is_named;
      is_saved = (h g).is_saved;
      is_leaf = (h g).is_leaf;
      reads = (h g).reads;
      last_done = if record_same g.rec made then at else (h g).last_done;
    })
act-in-rows inputs at (Lose worker) h rs from = all-in-rows (TakeFrom worker) h rs
act-in-rows inputs at (Free f) h rs from =
    file-in-rows Take f h rs from ∙ ap (λ (k : FileId → Output). rows k rs) (λ i g. taken (file_same g f) (h g) i)
act-in-rows inputs at (Drop worker f) h rs from =
    file-in-rows (TakeFrom worker) f h rs from ∙ ap (λ (k : FileId → Output). rows k rs) (λ i g. taken-from (file_same g f) worker (h g) i)
act-in-rows inputs at (Load worker f) h rs from =
    file-in-rows (Bring worker) f h rs from ∙ ap (λ (k : FileId → Output). rows k rs) (λ i g. brought (file_same g f) worker (h g) i)
act-in-rows inputs at (Saved f size digest) h rs from =
    file-in-rows Secure f h rs from ∙ ap (λ (k : FileId → Output). rows k rs) (λ i g. secured (file_same g f) (h g) i)
act-in-rows inputs at _ h rs from = refl

unname-in-rows : (lost : Option FileId) (h : FileId → Output) (rs : List Record) → StartsAt 0 rs →
    unnamed lost (rows h rs) ≡ rows (λ g. changed_if Unname (is_gone lost g) (h g)) rs
unname-in-rows None h rs from = refl
unname-in-rows (Some f) h rs from = file-in-rows Unname f h rs from

take-in-rows : (b : Bool) (next : Option Kept) (h : FileId → Output) (rs : List Record) → StartsAt 0 rs →
    taken_up (if b then next else None) (rows h rs) ≡ rows (λ g. changed_if TakeUp (taken_with b next g) (h g)) rs
take-in-rows true None h rs from = refl
take-in-rows true (Some kept) h rs from = each-in-rows TakeUp kept.inputs h rs from
take-in-rows false None h rs from = refl
take-in-rows false (Some kept) h rs from = refl

unless : (b n : Bool) → (if b then false else n) ≡ (n && not b)
unless true true = refl
unless true false = refl
unless false true = refl
unless false false = refl

whole : (inputs : List (List FileId)) (at : ℕ) (act : Act (Unit {0})) (f : FileId) (t g : Bool) (o : Output) →
    changed_if TakeUp t (acted_on inputs at act f (changed_if Unname g o)) ≡ record {
      file = o.file;
      place = place_now act f o.place;
      is_named = if g then false else o.is_named;
      is_saved = saves_now act f || o.is_saved;
      is_leaf = if t then false else o.is_leaf;
      reads = if is_use_now inputs act f then next_number o.reads else o.reads;
      last_done = if does f.rec act then at else o.last_done;
    }
whole inputs at act f true true o = refl
whole inputs at act f true false o = refl
whole inputs at act f false true o = refl
whole inputs at act f false false o = refl

-- the files of all records after an act
pub after-in-rows : (inputs : List (List FileId)) (next : Option Kept) (at : ℕ) (lost : Option FileId) (act : Act (Unit {0})) (h : FileId → Output) (rs : List Record) → StartsAt 0 rs →
    taken_up (next_of act next) (files_after inputs at lost act (rows h rs)) ≡ rows (λ g. output_after inputs next at lost act g (h g)) rs
after-in-rows inputs next at lost act h rs from =
    ap (λ files. taken_up (next_of act next) (acted inputs at act files)) (unname-in-rows lost h rs from)
    ∙ ap (taken_up (next_of act next)) (act-in-rows inputs at act (λ g. changed_if Unname (is_gone lost g) (h g)) rs from)
    ∙ take-in-rows (accepts act) next (λ g. acted_on inputs at act g (changed_if Unname (is_gone lost g) (h g))) rs from
    ∙ ap (λ (k : FileId → Output). rows k rs) (λ i g. whole inputs at act g (is_taken_up next act g) (is_gone lost g) (h g) i)
    ∙ ap (λ (k : FileId → Output). rows k rs) (λ i g. record {
      file = (h g).file;
      place = place_now act g (h g).place;
      is_named = unless (is_gone lost g) (h g).is_named i;
      is_saved = saves_now act g || (h g).is_saved;
      is_leaf = unless (is_taken_up next act g) (h g).is_leaf i;
      reads = if is_use_now inputs act g then next_number (h g).reads else (h g).reads;
      last_done = if does g.rec act then at else (h g).last_done;
    })
