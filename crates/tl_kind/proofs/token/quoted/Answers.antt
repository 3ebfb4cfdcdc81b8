use Rattle.std.proofs.Common.{sym, refl, inr, ℕ}
use Rattle.std.proofs.lemmas.Result.{IfErr-weaker}
use Rattle.tl_kind.specs.Refusals.{quoted_text, part, Refused}
use Rattle.tl_kind.specs.Reading.{StopsAs, InQuoted}
use Rattle.tl_kind.proofs.Tokens.{refused_no_quote, stops_in_quoted}
use Rattle.tl_kind.proofs.token.quoted.Goals as goal

pub returns-then-not-begins_quoted-clause-bad : goal.returns-then-not-begins_quoted-clause-bad
returns-then-not-begins_quoted-clause-bad c = refused_no_quote c.args.cursor.now.rest.now c.refused_first.result (sym c.if-not-begins_quoted.ensures) c.refused_first.ensures

pub returns-clause-bad : goal.returns-clause-bad
returns-clause-bad c =
    IfErr-weaker c.begun_quote.result (StopsAs (InQuoted c.args.cursor.now.rest.now) c.begun_quote.new.cursor.rest.now)
    (λ s. (room : ℕ) → StopsAs (Refused (part quoted_text room) c.args.cursor.now.rest.now) c.begun_quote.new.cursor.rest.now s)
    (λ s h room. stops_in_quoted c.args.cursor.now.rest.now c.begun_quote.new.cursor.rest.now s quoted_text room (inr refl) h) c.begun_quote.ensures.bad
