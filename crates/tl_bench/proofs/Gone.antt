-- What is known of a block that was taken out.
use Rattle.std.proofs.Common.{◌≡◌, ◌∙◌, Bool, true, false, not, [], ◌∷◌, Option, Some, None, is_some, IfSome, refl, sym, ap}
use Rattle.std.proofs.Math.Bool.{cond}
use Rattle.std.specs.List.{find}
use Rattle.tl_types.specs.Same.{file_same, file_same-Decides}
use Rattle.tl_types.specs.declared.file_id.FileId.{FileId}
use Rattle.tl_store.specs.Contents.{Blocks, block_of, has, is_of, without}

-- its file is there no more
pub gone : (f : FileId) (blocks : Blocks) → has f (without f blocks) ≡ false
gone f [] = refl
gone f (block ∷ blocks) = (elim (is_of f block) as (λ t. is_of f block ≡ t → has f (cond (not t) (block ∷ without f blocks) (without f blocks)) ≡ false) [
  | true ↦ λ h. gone f blocks
  | false ↦ λ h. ap (λ t. is_some (cond t (Some block) (find (is_of f) (without f blocks)))) h ∙ gone f blocks
]) refl

-- it is the block of the file that was asked for
pub of_file : (f : FileId) (blocks : Blocks) → IfSome (block_of f blocks) (λ block. block.file ≡ f)
of_file f [] = tt
of_file f (block ∷ blocks) = (elim (is_of f block) as (λ t. is_of f block ≡ t → IfSome (cond t (Some block) (block_of f blocks)) (λ b. b.file ≡ f)) [
  | true ↦ λ h. sym ((file_same-Decides f block.file).0 h)
  | false ↦ λ h. of_file f blocks
]) refl
