use Rattle.std.proofs.Common.{◌∙◌, ap, Some}
use Rattle.tl_vault.specs.Vault.{has_place}
use Rattle.tl_vault.proofs.Tables.{ok-where-placed, on-ok, places-same}
use Rattle.tl_vault.proofs.vault.put_at.Goals as goal

pub returns-clause-places : goal.returns-clause-places
returns-clause-places g c =
    λ file. ap (has_place file)
    (on-ok c.insert.result _ (ok-where-placed c.args.f c.args.places.now.entries c.insert.result c.insert.ensures.absent c.requires) c.insert.ensures.entries)
    ∙ places-same c.args.f file (Some c.args.saved) c.args.places.now.entries c.requires
