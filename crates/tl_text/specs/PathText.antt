-- Paths as text.
use Rattle.std.specs.Prelude.{◌≡◌, ◌⊎◌, ℕ, ◌+◌, ◌<◌, ◌≤◌, IsTrue, List, [], ◌∷◌, ◌++◌, length}
use Rattle.tl_types.specs.Path.{spelled, is_component_byte, IsComponent, IsPath}

-- the text ends, or a space stands first
abbrev pub EndsToken : List ℕ → Type 0
EndsToken [] = Unit {0}
EndsToken (byte ∷ bytes) = byte ≡ 0x20

-- the text is a path, and then the rest, which is empty or begins with a space
pub record IsPathText (text : List ℕ) (parts : List (List ℕ)) (rest : List ℕ) : Type 0 where
  pub spelled_so : text ≡ spelled parts ++ rest
  pub path : IsPath parts
  pub ended : EndsToken rest

-- at this place of a path `/` may stand after this many whole components and then this one: at most 14
-- stand before it, and a byte has room after the `/`
abbrev pub SlashMayFollow : ℕ → List ℕ → ℕ → Type 0
SlashMayFollow count component place = IsComponent component × (count + 1 < 16) × (place + 1 < 1024)

-- at this place of a path the byte may stand as the last of these of a component: it is one of a
-- component, they are not too many, and they make one or a byte has room after them
abbrev pub ByteMayFollow : List ℕ → ℕ → ℕ → Type 0
ByteMayFollow bytes place byte = IsTrue (is_component_byte byte) × (length bytes ≤ 255) × (place < 1024) × (IsComponent bytes ⊎ (place + 1 < 1024))

-- at this place of a path the byte may stand after this many whole components and these bytes of the next
abbrev pub MayFollow : ℕ → List ℕ → ℕ → ℕ → Type 0
MayFollow count bytes place byte = ((byte ≡ 0x2F) × SlashMayFollow count bytes place) ⊎ ByteMayFollow (bytes ++ byte ∷ []) place byte
