-- What stands under each name while nothing is put into a folder.
use Rattle.std.specs.Prelude.{◌≡◌, ◌≢◌, ℕ, Option, None, Some}
use Rattle.std.proofs.Common.{refl, subst}
use Rattle.sector_device.specs.Image.{Image}
use Rattle.device_folder.specs.Folder.{Name, Left, FolderState, IsSound, IsFresh}
use Rattle.device_folder.specs.Crash.{LeavesOnly, nothing_happened}
use Rattle.device_folder.specs.Put.{content_of, left_in, MayRead, IsBefore}

-- what may be left of a name, and of the file that it stands for then
may_read : (state : FolderState) (name : Name) (to : Option ℕ) (files : ℕ → Image)
    → state.may_name name to
    → ((file : ℕ) → to ≡ Some file → state.may_hold file (files file))
    → MayRead state name (content_of to files)
may_read state name None files may holds = may
may_read state name (Some file) files may holds = (file, may, holds file refl)

-- a name that may stand for no more than at first, and whose file may hold no more
pub as_before : (old : FolderState) (left : Left) (name : Name)
    → old.may_name name (left.names name)
    → ((file : ℕ) → (IsFresh old file → ⊥) → old.may_hold file (left.files file))
    → MayRead old name (left_in left name)
as_before old left name may files = may_read old name (left.names name) left.files may
    (λ file is. files file (λ fresh. fresh.nameless name
    (subst (λ (to : Option ℕ). old.may_name name to) is may)))

-- before the first call
pub nothing_put : (unfinished : Name) (old : FolderState) → IsSound old
    → LeavesOnly old old (IsBefore unfinished old)
nothing_put unfinished old sound = nothing_happened old (IsBefore unfinished old) sound
    (λ left is name other. as_before old left name (is.names name)
    (λ file known. is.files file))
