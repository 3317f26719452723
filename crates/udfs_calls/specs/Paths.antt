-- The parts of a path.
--     folder_of path          all up to its last slash
--     parent path             the path of its folder: `.` where it has no slash, `/` where the only one is its first byte
--     last path               the name in the folder
--     joined folder name      the path of a name in a folder
--     IsPart name             it is not empty, `.` or `..`
--     IsDevice path           it is a device or an opened file by its name alone
use Rattle.std.specs.Prelude.{◌≢◌, ◌⊎◌, ℕ, ◌-◌, List, [], ◌∷◌, ◌++◌, Bool, bytes_eq, codes, nat_eq, nat_le, true, false, if◌then◌else◌, length, take}
use Rattle.std.specs.Io.{StartsWith}

-- whether a path has a separator
abbrev pub has_slash : List ℕ → Bool
has_slash [] = false
has_slash (x ∷ xs) = if nat_eq x 47 then true else has_slash xs

-- the folder of a path: all up to its last slash
abbrev pub folder_of : List ℕ → List ℕ
folder_of [] = []
folder_of (x ∷ xs) = if has_slash (x ∷ xs) then x ∷ folder_of xs else []

-- the path of a folder, without the slash at its end
abbrev pub folder_path : List ℕ → List ℕ
folder_path [] = codes "."
folder_path (x ∷ []) = x ∷ []
folder_path (x ∷ y ∷ rest) = take (length (y ∷ rest)) (x ∷ y ∷ rest)

-- the path of the folder that a path is in
abbrev pub parent : List ℕ → List ℕ
parent path = folder_path (folder_of path)

-- the name that a path has in its folder
abbrev pub last : List ℕ → List ℕ
last [] = []
last (x ∷ xs) = if has_slash (x ∷ xs) then last xs else x ∷ xs

-- the path of a name in a folder; a name that begins with a slash is that path itself
abbrev pub joined : List ℕ → List ℕ → List ℕ
joined folder [] = if bytes_eq folder (codes "/") then codes "/" else folder ++ codes "/"
joined folder (x ∷ xs) = if nat_eq x 47 then x ∷ xs else if bytes_eq folder (codes "/") then codes "/" ++ x ∷ xs else folder ++ codes "/" ++ x ∷ xs

-- a name that leads on from its folder to what is in it
abbrev pub IsPart : List ℕ → Type 0
IsPart name = (name ≢ []) × (name ≢ codes ".") × (name ≢ codes "..")

-- a device, or a file that is opened already, by its name alone, as `/dev/stdout` is
abbrev pub IsDevice : List ℕ → Type 0
IsDevice path = StartsWith path (codes "/proc/") ⊎ (StartsWith path (codes "/dev/") × (¬ StartsWith path (codes "/dev/shm/")))
