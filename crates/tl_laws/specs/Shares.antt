-- The shares of the claims that priorities get.
use Rattle.std.specs.Prelude.{ℕ, ◌+◌, ◌*◌, ◌≤◌}
use Rattle.tl_model.specs.Past.{Past}
use Rattle.tl_model.specs.Plan.{claims}

-- one priority got no more of its share than another: `(claims + 1) / (priority + 1)` is no greater
abbrev pub GotNoMore : Past → ℕ → ℕ → Type 0
GotNoMore past p q = (claims past p + 1) * (q + 1) ≤ (claims past q + 1) * (p + 1)
