-- Moments: what was so at an earlier end of a journal.
use Rattle.std.specs.Prelude.{◌≡◌, Bool, true, ◌++◌, if◌then◌else◌}
use Rattle.tl_model.specs.Past.{Past, events_with, without_tickets}
use Rattle.tl_model.specs.Rules.{is_quiet, lawful_judge, legal_judge}
use Rattle.tl_pieces.specs.Setting.{Setting, Events}
use Rattle.tl_pieces.specs.Own.{own}

-- nothing is owed after the events; a drop counts where the bytes are told
abbrev pub is_quiet_end : {T : Type 0} → Setting T → Events T → Bool
is_quiet_end s events =
    if s.tells then is_quiet (legal_judge s.header) (events_with s.content events)
    else is_quiet lawful_judge events

-- At some quiet end of the journal `after` the actor had done just what it had before, and this
-- was so.
pub record Moment {T : Type 0} (s : Setting T) (is_so : Past → Bool) (before after : Events T) :
    Type 0 where
  pub at : Events T
  pub later : Events T
  pub within : after ≡ later ++ at
  pub own : own s.actor at ≡ own s.actor before
  pub quiet : is_quiet_end s at ≡ true
  pub so : is_so (without_tickets at) ≡ true
