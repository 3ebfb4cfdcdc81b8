-- A path names a file where its walk ends at one.
use Rattle.std.proofs.Common.{◌≡◌, Result, Ok, Err, refl}
use Rattle.tl_model.specs.declared.reply.Reply.{Reply}
use Rattle.tl_model.specs.declared.reply.Reply.TheVariants.{Made, Fine, Opened, Listed, Stated, Exists, NoSuch, NotFile, NotDir, NotEmpty, TooDeep, IntoItself, TooMany}
use Rattle.tl_model.specs.Namespace.{PathOf, Names, Node, dir, file}
use Rattle.tl_model.specs.Replies.{walk, want_file, and_then}
use Rattle.tl_model.specs.Rules.{ok_file}
use Rattle.tl_names.specs.Found.{found}
use Rattle.tl_ledger.specs.Naming.{file_found, file_named}

-- what is found says which file it is
by-walk : (w : Result Node Reply) → file_found (found w) ≡ ok_file (and_then w want_file)
by-walk (Ok dir) = refl
by-walk (Ok (file f pinned)) = refl
by-walk (Err (Made made)) = refl
by-walk (Err Fine) = refl
by-walk (Err (Opened g)) = refl
by-walk (Err (Listed entries)) = refl
by-walk (Err (Stated status)) = refl
by-walk (Err Exists) = refl
by-walk (Err NoSuch) = refl
by-walk (Err NotFile) = refl
by-walk (Err NotDir) = refl
by-walk (Err NotEmpty) = refl
by-walk (Err TooDeep) = refl
by-walk (Err IntoItself) = refl
by-walk (Err TooMany) = refl

pub file-by-walk : (names : Names) (path : PathOf) → file_found (found (walk names path)) ≡ file_named names path
file-by-walk names path = by-walk (walk names path)
