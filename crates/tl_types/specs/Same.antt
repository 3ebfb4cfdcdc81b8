-- The tests of equality and the orders by which definitions ask. A test is true exactly where its
-- two values are equal.
use Rattle.std.specs.Prelude.{◌≡◌, ℕ, Bool, false, ◌&&◌, ◌==◌, List}
use Rattle.std.specs.Bool.{Decides}
use Rattle.std.specs.Cmp.{IsEquivalence, IsTotalOrder, decided}
use Rattle.std.specs.Cmp.Lexicographic.{pointwise, pointwise_decides, slice_cmp, lists_ties, lists_total, nat_list_cmp_total, texts_ties}
use Rattle.std.specs.Ordering.{ordering_then, nat_cmp, eq_by_cmp}
use Rattle.std.specs.declared.cmp.Ordering.{Ordering}
use Rattle.std.specs.Str.{bytes_eq}
use Rattle.std.proofs.Common.{ap}
use Rattle.std.proofs.lemmas.Bool.Decides.{Decides-and, Decides-eqb, Decides-like}
use Rattle.std.proofs.lemmas.Slice.Eq.{bytes_eq-Decides}
use Rattle.tl_types.specs.declared.actor.Actor.{Actor}
use Rattle.tl_types.specs.declared.digest.Digest.{Digest}
use Rattle.tl_types.specs.declared.file_id.FileId.{FileId}
use Rattle.tl_types.specs.declared.outcome.Outcome.{Outcome}
use Rattle.tl_types.specs.declared.outcome.Outcome.TheVariants.{Value, Fault}
use Rattle.tl_types.specs.declared.record_id.RecordId.{RecordId}
use Rattle.tl_types.specs.declared.worker_id.WorkerId.{WorkerId}

abbrev pub record_same : RecordId → RecordId → Bool
record_same a b = a.0 == b.0

abbrev pub file_same : FileId → FileId → Bool
file_same a b = record_same a.rec b.rec && a.out == b.out

abbrev pub worker_same : WorkerId → WorkerId → Bool
worker_same a b = a.0 == b.0

abbrev pub actor_same : Actor → Actor → Bool
actor_same a b = a.0 == b.0

abbrev pub digest_same : Digest → Digest → Bool
digest_same a b = bytes_eq a.0 b.0

-- the same components in the same order
abbrev pub path_same : List (List ℕ) → List (List ℕ) → Bool
path_same = pointwise bytes_eq

-- component by component, each byte by byte; of two paths where one begins with the other, the shorter is first
abbrev pub path_cmp : List (List ℕ) → List (List ℕ) → Ordering
path_cmp = slice_cmp (slice_cmp nat_cmp)

-- by record, then by output
abbrev pub file_cmp : FileId → FileId → Ordering
file_cmp a b = ordering_then (nat_cmp a.rec.0 b.rec.0) (nat_cmp a.out b.out)

-- two values of the same bytes, or two faults of one code
abbrev pub outcome_same : Outcome → Outcome → Bool
outcome_same (Value a) (Value b) = bytes_eq a b
outcome_same (Value a) (Fault d) = false
outcome_same (Fault c) (Value b) = false
outcome_same (Fault c) (Fault d) = c == d

pub record_same-Decides : (a b : RecordId) → Decides (record_same a b) (a ≡ b)
record_same-Decides a b = Decides-like _ (λ e. λ i. record { 0 = e i }) (ap (λ r. r.0)) (Decides-eqb a.0 b.0)

pub file_same-Decides : (a b : FileId) → Decides (file_same a b) (a ≡ b)
file_same-Decides a b =
    Decides-like _ (λ e. λ i. record { rec = e.0 i; out = e.1 i }) (λ e. (ap (λ f. f.rec) e, ap (λ f. f.out) e))
    (Decides-and _ _ (record_same-Decides a.rec b.rec) (Decides-eqb a.out b.out))

pub worker_same-Decides : (a b : WorkerId) → Decides (worker_same a b) (a ≡ b)
worker_same-Decides a b = Decides-like _ (λ e. λ i. record { 0 = e i }) (ap (λ r. r.0)) (Decides-eqb a.0 b.0)

pub actor_same-Decides : (a b : Actor) → Decides (actor_same a b) (a ≡ b)
actor_same-Decides a b = Decides-like _ (λ e. λ i. record { 0 = e i }) (ap (λ r. r.0)) (Decides-eqb a.0 b.0)

pub digest_same-Decides : (a b : Digest) → Decides (digest_same a b) (a ≡ b)
digest_same-Decides a b = Decides-like _ (λ e. λ i. record { 0 = e i }) (ap (λ r. r.0)) (bytes_eq-Decides a.0 b.0)

pub path_same-Decides : (a b : List (List ℕ)) → Decides (path_same a b) (a ≡ b)
path_same-Decides = pointwise_decides bytes_eq-Decides

pub outcome_same-Decides : (a b : Outcome) → Decides (outcome_same a b) (a ≡ b)
outcome_same-Decides (Value a) (Value b) = Decides-like _ (ap Value) (λ e. cc) (bytes_eq-Decides a b)
outcome_same-Decides (Value a) (Fault d) = (λ e. cc, λ e. cc)
outcome_same-Decides (Fault c) (Value b) = (λ e. cc, λ e. cc)
outcome_same-Decides (Fault c) (Fault d) = Decides-like _ (ap Fault) (λ e. cc) (Decides-eqb c d)

pub path_same-equiv : IsEquivalence path_same
path_same-equiv = decided path_same path_same-Decides

-- two paths are the same exactly where the order puts neither first
pub path_ties : (a b : List (List ℕ)) → path_same a b ≡ eq_by_cmp path_cmp a b
path_ties = lists_ties (slice_cmp nat_cmp) texts_ties

pub path_cmp-total : IsTotalOrder path_cmp
path_cmp-total = lists_total nat_list_cmp_total

pub outcome_same-equiv : IsEquivalence outcome_same
outcome_same-equiv = decided outcome_same outcome_same-Decides
