-- A moment of a journal is one of a longer one.
use Rattle.std.proofs.Common.{◌≡◌, Bool, true, [], ◌++◌, refl, sym, ap, ◌∙◌, append_assoc}
use Rattle.tl_model.specs.Past.{Past, without_tickets}
use Rattle.tl_pieces.specs.Setting.{Setting, Events}
use Rattle.tl_pieces.specs.Moments.{Moment, is_quiet_end}
use Rattle.tl_pieces.specs.Own.{Adds}
use Rattle.tl_pieces.proofs.Adding.{added-own}

pub moment-now : {T : Type 0} (s : Setting T) (is_so : Past → Bool) (events : Events T) →
    is_quiet_end s events ≡ true → is_so (without_tickets events) ≡ true → Moment s is_so events events
moment-now s is_so events quiet so = record { at = events; later = []; within = refl; own = refl; quiet = quiet; so = so }

pub moment-later : {T : Type 0} (s : Setting T) (is_so : Past → Bool) (before after more : Events T) → Moment s is_so before after → Moment s is_so before (more ++ after)
moment-later s is_so before after more m = record {
  at = m.at;
  later = more ++ m.later;
  within = ap (λ es. more ++ es) m.within ∙ sym (append_assoc more m.later m.at);
  own = m.own;
  quiet = m.quiet;
  so = m.so;
}

pub moment-since : {T : Type 0} (s : Setting T) (is_so : Past → Bool) (earlier before after : Events T) → Adds s [] earlier before → Moment s is_so earlier after →
    Moment s is_so before after
moment-since s is_so earlier before after a m = record {
  at = m.at;
  later = m.later;
  within = m.within;
  own = m.own ∙ sym (added-own s [] earlier before a);
  quiet = m.quiet;
  so = m.so;
}

-- a moment of a journal is one where more came
pub moment-on : {T : Type 0} (s : Setting T) (is_so : Past → Bool) (mine before between after : Events T) → Moment s is_so before between → Adds s mine between after →
    Moment s is_so before after
moment-on s is_so mine before between after m a = record {
  at = m.at;
  later = a.more ++ m.later;
  within = a.came ∙ ap (λ es. a.more ++ es) m.within ∙ sym (append_assoc a.more m.later m.at);
  own = m.own;
  quiet = m.quiet;
  so = m.so;
}
