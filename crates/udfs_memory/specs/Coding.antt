-- How proofs store calls: as lists of numbers.
--     coded_call                      the code of a call
use Rattle.std.specs.Coded.{Coded, code_by, coded_list, coded_ℕ}
use Rattle.std.specs.Prelude.{◌≡◌, ℕ, List, [], ◌∷◌, nat_eq, if◌then◌else◌}
use Rattle.std.proofs.Common.{refl, ap}
use Rattle.udfs_calls.specs.Log.{Call}
use Rattle.udfs_calls.specs.Log.Call.{created, opened, synced, renamed, removed, folder_made, folder_synced, failed}

-- a call as lists of numbers: which one it is, and then its paths or bytes
abbrev pub listed : Call → List (List ℕ)
listed (created p) = (0 ∷ []) ∷ p ∷ []
listed (opened p) = (1 ∷ []) ∷ p ∷ []
listed (synced number bytes) = (2 ∷ number ∷ []) ∷ bytes ∷ []
listed (renamed from to) = (3 ∷ []) ∷ from ∷ to ∷ []
listed (removed p) = (4 ∷ []) ∷ p ∷ []
listed (folder_made p) = (5 ∷ []) ∷ p ∷ []
listed (folder_synced p) = (6 ∷ []) ∷ p ∷ []
listed (failed call) = [] ∷ listed call

-- of one path
abbrev pub one_of : ℕ → List ℕ → Call
one_of k p = if nat_eq k 0 then created p else if nat_eq k 1 then opened p else if nat_eq k 4 then removed p else if nat_eq k 5 then folder_made p else folder_synced p

-- the call that was listed so
abbrev pub unlisted : List (List ℕ) → Call
unlisted [] = removed []
unlisted ([] ∷ rest) = failed (unlisted rest)
unlisted ((k ∷ ns) ∷ []) = removed []
unlisted ((k ∷ []) ∷ p ∷ []) = one_of k p
unlisted ((k ∷ n ∷ ns) ∷ p ∷ []) = synced n p
unlisted ((k ∷ ns) ∷ p ∷ q ∷ rest) = renamed p q

-- what was listed is the call again
pub unlisted_listed : (call : Call) → unlisted (listed call) ≡ call
unlisted_listed (created p) = refl
unlisted_listed (opened p) = refl
unlisted_listed (synced number bytes) = refl
unlisted_listed (renamed from to) = refl
unlisted_listed (removed p) = refl
unlisted_listed (folder_made p) = refl
unlisted_listed (folder_synced p) = refl
unlisted_listed (failed call) = ap failed (unlisted_listed call)

-- the code of a call
abbrev pub coded_call : Coded Call
coded_call = code_by (List (List ℕ)) (coded_list (coded_list coded_ℕ)) listed unlisted unlisted_listed
