-- What the calls on files in memory tell.
--     log_of stored calls             the log of the calls
--     IsInPlace log path              it is a device by its path, or leads to a new folder, or to what was there and is no regular file
--     IsOther stored found            what was found is no regular file, as far as is known
--     IsShut stored log path          it is not spelled in full, or leads to no file that was there when the run began
use Rattle.std.specs.Prelude.{◌≡◌, ◌≢◌, ◌⊎◌, ℕ, List, [], ◌∷◌, Option, Some, None, false, true, ⊤, nat_eq, take}
use Rattle.std.proofs.Common.{◌∙◌, ap, inl, inr, refl, subst, sym}
use Rattle.std.proofs.lemmas.Bool.{eq-eqb}
use Rattle.udfs_calls.specs.Log.{Call, Log, Names, is_folder, names_folder, node_at}
use Rattle.udfs_calls.specs.Log.Node.{there}
use Rattle.udfs_calls.specs.Paths.{IsDevice}
use Rattle.udfs_memory.specs.Keeping.{bytes_in, node_of, start_of}
use Rattle.udfs_memory.specs.Spelling.{is_plain, spelled}
use Rattle.udfs_memory.specs.declared.kept.Found.{Found}
use Rattle.udfs_memory.specs.declared.kept.Found.TheVariants.{Nothing, There, Made, Folder}
use Rattle.udfs_memory.specs.declared.kept.StoredFile.{StoredFile}

-- the log of the calls
abbrev pub log_of : List StoredFile → List Call → Option Log
log_of stored calls = Some (record { start = start_of stored; calls = calls })

-- what this path names was there when the run began, and its bytes are not known: it is no regular file
abbrev pub IsNoFile : Option Log → List ℕ → Type 0
IsNoFile None path = ⊥
IsNoFile (Some log) path = (number : ℕ) × (node_at log.start log.calls path ≡ Some (there number)) × (log.start.content number ≡ None)

-- it is a device by its path, or leads to a new folder, or to what was there and is no regular file
abbrev pub IsInPlace : Option Log → List ℕ → Type 0
IsInPlace log path = IsDevice path ⊎ (names_folder log (spelled path) ≡ true) ⊎ IsNoFile log (spelled path)

-- what was found is no regular file, as far as is known
abbrev pub IsOther : List StoredFile → Found → Type 0
IsOther stored Nothing = ⊤
IsOther stored (There number) = bytes_in stored number ≡ None
IsOther stored (Made number) = ⊥
IsOther stored (Folder number) = ⊤

-- then it may be in place, where something was found
pub other_in_place : (stored : List StoredFile) (calls : List Call) (path : List ℕ) (found : Found) → node_of found ≡ node_at (start_of stored) calls (spelled path) → node_of found ≢ None → IsOther stored found → IsInPlace (log_of stored calls) path
other_in_place stored calls path Nothing is some other = absurd (some refl)
other_in_place stored calls path (There number) is some other = inr (inr (number, sym is, other))
other_in_place stored calls path (Made number) is some other = absurd other
other_in_place stored calls path (Folder number) is some other = inr (inl (sym (ap is_folder is)))

-- it is not spelled in full, or leads to no file that was there when the run began
abbrev pub IsShut : List StoredFile → Option Log → List ℕ → Type 0
IsShut stored log path = (is_plain path ≢ true) ⊎ ((number : ℕ) (bytes : List ℕ) → Names log (spelled path) (Some (there number)) → bytes_in stored number ≡ Some bytes → ⊥)

-- there are no links
pub no_link : {A : Type 0} (text : A) → None ≡ Some text → ⊥
no_link {A} text bad = cc

-- what was found where a path leads, and is no regular file as far as is known, may fail
pub other_is_shut : (stored : List StoredFile) (calls : List Call) (path : List ℕ) (found : Found) → node_of found ≡ node_at (start_of stored) calls (spelled path) → IsOther stored found → IsShut stored (log_of stored calls) path
other_is_shut stored calls path Nothing is other = inr (λ number bytes there_is known. no_link (there number) (is ∙ there_is))
other_is_shut stored calls path (There number) is other = inr (λ n bytes there_is known.
    let same : number ≡ n = let e = is ∙ there_is in cc in
    no_link bytes (sym other ∙ ap (bytes_in stored) same ∙ known))
other_is_shut stored calls path (Made number) is other = absurd other
other_is_shut stored calls path (Folder number) is other = inr (λ n bytes there_is known. let e = is ∙ there_is in cc)

-- what begins with another byte is another list
other_first : (x y : ℕ) (xs ys : List ℕ) → nat_eq x y ≡ false → x ∷ xs ≡ y ∷ ys → ⊥
other_first x y xs ys other is =
    let first : x ≡ y = cc in
    let bad : true ≡ false = sym (eq-eqb x y first) ∙ other in
    cc

-- a relative path is no device by its name
no_device : (x : ℕ) (xs : List ℕ) → nat_eq x 47 ≡ false → IsDevice (x ∷ xs) → ⊥
no_device x xs other (inl is) = other_first x 47 (take 5 xs) (112 ∷ 114 ∷ 111 ∷ 99 ∷ 47 ∷ []) other is
no_device x xs other (inr is) = other_first x 47 (take 4 xs) (100 ∷ 101 ∷ 118 ∷ 47 ∷ []) other is.0

-- on an empty disk, before any call, a relative path is not in place
pub no_place : (log : Option Log) (x : ℕ) (xs : List ℕ) → log ≡ log_of [] [] → nat_eq x 47 ≡ false → IsInPlace log (x ∷ xs) → ⊥
no_place log x xs empty other is = never (subst (λ l. IsInPlace l (x ∷ xs)) empty is)
  where
    never : IsInPlace (log_of [] []) (x ∷ xs) → ⊥
    never (inl device) = no_device x xs other device
    never (inr (inl folder)) = let bad : false ≡ true = folder in cc
    never (inr (inr (number, is, none))) = no_link (there number) is
