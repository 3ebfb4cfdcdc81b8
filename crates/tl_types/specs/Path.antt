-- The grammar of a path, as the list of its components.
use Rattle.std.specs.Prelude.{ℕ, Bool, ◌&&◌, not, nat_le, ◌==◌, IsTrue, List, [], ◌∷◌, length, codes}
use Rattle.std.specs.List.{list_all, flat_map}
use Rattle.std.specs.Str.{bytes_eq}

-- a byte from 0x21 to 0x7E other than `/` and `"`
abbrev pub is_component_byte : ℕ → Bool
is_component_byte b = nat_le 0x21 b && nat_le b 0x7E && not (b == 0x2F) && not (b == 0x22)

-- 1 to 255 such bytes, and neither `.` nor `..`
abbrev pub is_component : List ℕ → Bool
is_component part =
    nat_le 1 (length part) && nat_le (length part) 255 && list_all is_component_byte part
    && not (bytes_eq part (codes ".")) && not (bytes_eq part (codes ".."))

-- `/` and a component
abbrev pub slash_before : List ℕ → List ℕ
slash_before part = 0x2F ∷ part

-- the spelling: `/` and a component for each, or `/` alone where there is none
abbrev pub spelled : List (List ℕ) → List ℕ
spelled [] = 0x2F ∷ []
spelled (part ∷ parts) = flat_map slash_before (part ∷ parts)

-- at most 16 components, spelled in at most 1,024 bytes
abbrev pub is_path : List (List ℕ) → Bool
is_path parts =
    nat_le (length parts) 16 && list_all is_component parts && nat_le (length (spelled parts)) 1024

abbrev pub IsComponent : List ℕ → Type 0
IsComponent part = IsTrue (is_component part)

abbrev pub IsPath : List (List ℕ) → Type 0
IsPath parts = IsTrue (is_path parts)
