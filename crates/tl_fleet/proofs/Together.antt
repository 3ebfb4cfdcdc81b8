-- Several blocks come to one worker: what stays absent, and what takes them out again.
use Rattle.std.proofs.Common.{◌≡◌, ◌∙◌, ℕ, zero, suc, ◌+◌, ◌<◌, true, false, not, ◌||◌, cond, [], ◌∷◌, take, get_or, length, is_some, Some, refl, ap, arith}
use Rattle.std.specs.List.{AllByRecursion, list_any}
use Rattle.std.specs.declared.cmp.Ordering.TheVariants.{Less}
use Rattle.std.proofs.lemmas.Bool.{or_parts}
use Rattle.tl_types.specs.Block.{FileOutcome}
use Rattle.tl_types.specs.Same.{file_cmp, file_same}
use Rattle.tl_types.specs.declared.file_id.FileId.{FileId}
use Rattle.tl_types.specs.declared.worker_id.WorkerId.{WorkerId}
use Rattle.tl_store.specs.Contents.{Blocks, block_of, contents, has, without}
use Rattle.tl_fleet.specs.declared.worker.Worker.{Worker}
use Rattle.tl_fleet.specs.Workers.{Workers, IsOnce, has_file, is_resident, installed, changed_at, with_blocks, put_front}
use Rattle.tl_fleet.specs.Order.{Ascends}
use Rattle.tl_fleet.specs.Events.{files_of, installed_each}
use Rattle.tl_fleet.specs.Installs.{AreAbsent, removed_each}
use Rattle.tl_fleet.proofs.Files.{same_self}
use Rattle.tl_fleet.proofs.Once.{once_installed}
use Rattle.tl_fleet.proofs.Several.{not_same}

-- ---- a file that is on no worker stays so where a block of another comes

absent_at : (f : FileId) (b : FileOutcome) (n : ℕ) (ws : Workers) → file_same f b.file ≡ false → is_resident f ws ≡ false → is_resident f (changed_at n (with_blocks (put_front b)) ws) ≡ false
absent_at f b zero [] off h = refl
absent_at f b (suc n) [] off h = refl
absent_at f b zero (w ∷ ws) off h = ap (λ t. is_some (cond t (Some b) (block_of f w.store.blocks)) || list_any (has_file f) ws) off ∙ h
absent_at f b (suc n) (w ∷ ws) off h =
    let parts = or_parts (has_file f w) (is_resident f ws) h in
    ap (λ t. t || is_resident f (changed_at n (with_blocks (put_front b)) ws)) parts.0 ∙ absent_at f b n ws off parts.1

pub absent_after : (w : WorkerId) (b : FileOutcome) (bs : Blocks) (ws : Workers) → AllByRecursion (λ g. file_cmp b.file g ≡ Less) (files_of bs) → AreAbsent bs ws → AreAbsent bs (installed w b ws)
absent_after w b [] ws later absent = tt
absent_after w b (c ∷ bs) ws later absent = (absent_at c.file b w.0 ws (not_same b.file c.file later.0) absent.0, absent_after w b bs ws later.1 absent.1)

-- the block at a place is still absent where those before it came
pub still_absent : (w : WorkerId) (bs : Blocks) (i : ℕ) (d : FileOutcome) (ws : Workers) → i < length bs → AreAbsent bs ws → Ascends (files_of bs) →
    is_resident (get_or bs i d).file (installed_each w (take i bs) ws) ≡ false
still_absent w [] i d ws l absent ascends = absurd (omega arith)
still_absent w (b ∷ bs) zero d ws l absent ascends = absent.0
still_absent w (b ∷ bs) (suc i) d ws l absent ascends = still_absent w bs i d (installed w b ws) (omega arith) (absent_after w b bs ws ascends.0 absent.1) ascends.1

next : (n : ℕ) → suc n ≡ n + 1
next n = omega arith

one_more_at : (w : WorkerId) (bs : Blocks) (i : ℕ) (d : FileOutcome) (ws : Workers) → i < length bs →
    installed w (get_or bs i d) (installed_each w (take i bs) ws) ≡ installed_each w (take (suc i) bs) ws
one_more_at w [] i d ws l = absurd (omega arith)
one_more_at w (b ∷ bs) zero d ws l = refl
one_more_at w (b ∷ bs) (suc i) d ws l = one_more_at w bs i d (installed w b ws) (omega arith)

-- the block at a place comes after those before it
pub one_more : (w : WorkerId) (bs : Blocks) (i : ℕ) (d : FileOutcome) (ws : Workers) → i < length bs →
    installed w (get_or bs i d) (installed_each w (take i bs) ws) ≡ installed_each w (take (i + 1) bs) ws
one_more w bs i d ws l = one_more_at w bs i d ws l ∙ ap (λ k. installed_each w (take k bs) ws) (next i)

-- ---- a block that came and leaves

without_absent : (f : FileId) (bs : Blocks) → has f bs ≡ false → without f bs ≡ bs
without_absent f [] = λ h. refl
without_absent f (b ∷ bs) = elim (file_same f b.file) as (λ t. is_some (cond t (Some b) (block_of f bs)) ≡ false → cond (not t) (b ∷ without f bs) (without f bs) ≡ b ∷ bs) [
  | true ↦ λ h. absurd (cc)
  | false ↦ λ h. ap (λ cs. b ∷ cs) (without_absent f bs h)
]

front_left : (b : FileOutcome) (w : Worker) → has_file b.file w ≡ false → with_blocks (without b.file) (with_blocks (put_front b) w) ≡ w
front_left b w h =
    ap (λ bs. record { store = contents w.store.capacity bs; incarnation = w.incarnation })
    (ap (λ t. cond (not t) (b ∷ without b.file w.store.blocks) (without b.file w.store.blocks)) (same_self b.file) ∙ without_absent b.file w.store.blocks h)

left_at : (b : FileOutcome) (n : ℕ) (ws : Workers) → is_resident b.file ws ≡ false → changed_at n (with_blocks (without b.file)) (changed_at n (with_blocks (put_front b)) ws) ≡ ws
left_at b zero [] h = refl
left_at b (suc n) [] h = refl
left_at b zero (w ∷ ws) h = ap (λ v. v ∷ ws) (front_left b w (or_parts (has_file b.file w) (is_resident b.file ws) h).0)
left_at b (suc n) (w ∷ ws) h = ap (λ vs. w ∷ vs) (left_at b n ws (or_parts (has_file b.file w) (is_resident b.file ws) h).1)

-- those that came first, taken out again, leave all as it was
pub undone : (w : WorkerId) (bs : Blocks) (i : ℕ) (ws : Workers) → AreAbsent bs ws → Ascends (files_of bs) → removed_each w (take i bs) (installed_each w (take i bs) ws) ≡ ws
undone w [] zero ws absent ascends = refl
undone w [] (suc i) ws absent ascends = refl
undone w (b ∷ bs) zero ws absent ascends = refl
undone w (b ∷ bs) (suc i) ws absent ascends =
    ap (changed_at w.0 (with_blocks (without b.file))) (undone w bs i (installed w b ws) (absent_after w b bs ws ascends.0 absent.1) ascends.1)
    ∙ left_at b w.0 ws absent.0

-- ---- each file is on one worker at most

pub once_each : (w : WorkerId) (bs : Blocks) (ws : Workers) → AreAbsent bs ws → Ascends (files_of bs) → IsOnce ws → IsOnce (installed_each w bs ws)
once_each w [] ws absent ascends once = once
once_each w (b ∷ bs) ws absent ascends once =
    once_each w bs (installed w b ws) (absent_after w b bs ws ascends.0 absent.1) ascends.1 (once_installed w.0 b ws absent.0 once)
