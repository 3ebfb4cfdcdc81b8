use Rattle.std.proofs.Common.{◌≡◌, ℕ, true, is_some, subst}
use Rattle.tl_vault.specs.Vault.{has_place}
use Rattle.tl_cluster.specs.Calls.{next_file}
use Rattle.tl_cluster.proofs.Keeping.{on_ok}
use Rattle.tl_cluster.proofs.parts.Parts.make_place.Goals as goal

pub returns-clause-place : goal.returns-clause-place
returns-clause-place g c =
    let places : has_place (record { rec = c.accepted.result; out = 0 }) c.add_place.new.vault ≡ true →
    is_some c.args.put.now ≡ true → has_place (next_file c.self.inside.ledger.events) c.add_place.new.vault ≡ true =
    λ made some. subst (λ (n : ℕ). has_place (record { rec = record { 0 = n }; out = 0 }) c.add_place.new.vault ≡ true) c.accepted.ensures made in
    on_ok _ _ _ places c.add_place.ensures.place
