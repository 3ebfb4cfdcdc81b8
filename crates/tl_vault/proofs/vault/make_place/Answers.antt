use Rattle.std.proofs.Common.{◌∙◌, sym}
use Rattle.tl_vault.proofs.Tables.{beside-either, kept-either, made-either}
use Rattle.tl_vault.proofs.vault.make_place.Goals as goal

pub returns-clause-room : goal.returns-clause-room
returns-clause-room g c =
    made-either c.args.f c.args.places.now.entries c.add_place.new.places.entries c.add_place.result c.add_place.ensures.ok

pub returns-clause-others : goal.returns-clause-others
returns-clause-others g c = λ other apart.
    beside-either c.args.f other c.args.places.now.entries c.add_place.new.places.entries c.add_place.result c.add_place.ensures.ok c.add_place.ensures.err apart

pub returns-clause-kept : goal.returns-clause-kept
returns-clause-kept g c = λ other.
    kept-either c.args.f other c.args.places.now.entries c.add_place.new.places.entries c.add_place.result c.add_place.ensures.ok c.add_place.ensures.err
    (sym c.has_place.ensures ∙ c.if-has_place.false)
