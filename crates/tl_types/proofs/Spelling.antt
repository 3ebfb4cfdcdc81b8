-- The length of a path's spelling, a component at a time.
use Rattle.std.proofs.Common.{◌≡◌, ℕ, ◌+◌, ◌<◌, ◌≤◌, true, List, [], length, get_or, take, leb, false, ◌&&◌, refl, arith, length-append}
use Rattle.std.proofs.lemmas.Bool.Decides.{nat_tests}
use Rattle.std.proofs.lemmas.Grind.{flat_map-append}
use Rattle.std.proofs.lemmas.List.{map_more}
use Rattle.std.proofs.lemmas.List.Sums.{AllPass-from_list_all}
use Rattle.std.specs.Global.{Vec}
use Rattle.std.specs.List.{list_all, flat_map}
use Rattle.tl_types.specs.Parts.{lists_of}
use Rattle.tl_types.specs.Path.{is_component, is_path, slash_before, spelled}

-- the length of what is spelled of these parts
abbrev pub spelled_len : List (Vec ℕ) → ℕ
spelled_len parts = length (flat_map slash_before (lists_of parts))

pub component-short : (part : List ℕ) → is_component part ≡ true → length part ≤ 255
component-short part h = grind (arith, nat_tests)

pub part-short : (parts : List (Vec ℕ)) (i : ℕ) (d : Vec ℕ) → list_all (λ (p : Vec ℕ). is_component p.items) parts ≡ true → i < length parts → length (get_or parts i d).items ≤ 255
part-short parts i d h l =
    component-short _ (AllPass-from_list_all (λ (p : Vec ℕ). is_component p.items) parts h i d l)

pub spelled_len-more : (parts : List (Vec ℕ)) (i : ℕ) (d : Vec ℕ) → i < length parts → spelled_len (take (i + 1) parts) ≡ spelled_len (take i parts) + (1 + length (get_or parts i d).items)
spelled_len-more parts i d l =
    rw (map_more (λ (p : Vec ℕ). p.items) parts i d l, flat_map-append, length-append) (omega (arith, length-append (get_or parts i d).items []))

-- the last test decides, where the first two pass
pub is_path-last : (parts : List (List ℕ)) (n : ℕ) → length parts ≤ 16 → list_all is_component parts ≡ true → n ≡ length (spelled parts) → leb n 1024 ≡ is_path parts
is_path-last parts n few all e =
    let within : leb (length parts) 16 ≡ true = grind (arith, nat_tests) in
    rw (within, all, e) refl

-- parts that are no components make no path
pub is_path-no_components : (parts : List (List ℕ)) → list_all is_component parts ≡ false → false ≡ is_path parts
is_path-no_components parts none =
    rw none (elim (leb (length parts) 16) as (λ b. false ≡ (b && false && leb (length (spelled parts)) 1024)) [ true ↦ refl | false ↦ refl ])
