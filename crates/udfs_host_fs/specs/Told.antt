-- What the log of the machine's calls tells of its files. Where the log is not known, nothing is told.
--     kept_by log path c              what a crash may leave of what is at a path, were its name on the disk
--     left_by log disk                what a crash may leave at all paths
--     left_since_by log moment disk   what a crash might have left since then
--     LogGoes old new step            from an old log to a new one a crash leaves what it might have left before, after this step
--     Settles old new folder          whatever a crash leaves now, each path of this folder has what was held there before
--     IsLedInPlace .. path            some path that leads to the same says that it is no regular file
--     identity_by log numbers path    the numbers of the file that a path names
--     NameOneFile log p q             two paths name one file
--     path_of last                    the path of the folder that was made last, where its name may not be on the disk
use Rattle.std.proofs.Common.{inl, ⊎_elim, subst, arith}
use Rattle.std.specs.Coded.{Coded-set, coded_bool, Π_prop, Unit-prop}
use Rattle.std.specs.Prelude.{◌≡◌, ℕ, List, [], ◌∷◌, length, Option, Some, None, option_map, string_bytes, true, if◌then◌else◌, ⊤}
use Rattle.udfs_calls.proofs.PublicLaws.{a_crash_leaves_something}
use Rattle.udfs_calls.specs.Lawful.{IsLawfulLog}
use Rattle.udfs_calls.specs.Log.{AreNamed, Call, Names, Node, Start, Log, holds, is_named, kept_of, moment_of, node_at, outcome, outcome_since}
use Rattle.udfs_calls.specs.Paths.{parent}
use Rattle.udfs_host_fs.specs.Disk.{Disk, Goes}
use Rattle.udfs_host_fs.specs.declared.files.Identity.{Identity}
use Rattle.udfs_host_fs.specs.declared.folders.LastFolder.{LastFolder}

-- what a crash may leave of what is at a path, were its name on the disk: what it holds, and anything where that is not known
abbrev pub kept_by : Option Log → List ℕ → Option (List ℕ) → Type 0
kept_by log p c = kept_of (holds log p) c

-- what a crash may leave at all paths
abbrev pub left_by : Option Log → Disk → Type 0
left_by None c = ⊤
left_by (Some log) c = outcome log.start log.calls c

-- what a crash might have left since then
abbrev pub left_since_by : Option Log → ℕ → Disk → Type 0
left_since_by None t c = ⊤
left_since_by (Some log) t c = outcome_since log.start log.calls t c

-- From an old log to a new one, a crash at any moment leaves what one might have left before, after this step.
abbrev pub LogGoes : Option Log → Option Log → (Disk → Disk → Type 0) → Type 0
LogGoes old new step = Goes moment_of left_by left_since_by old new step

-- Whatever a crash leaves now, each path of this folder has what was held there before.
abbrev pub Settles : Option Log → Option Log → List ℕ → Type 0
Settles old new folder = (c : Disk) (q : List ℕ) → left_by new c → parent q ≡ folder → kept_by old q (c q)

-- some path that leads to the same may be that of no regular file
abbrev pub IsLedInPlace : (List ℕ → List ℕ) → (List ℕ → Type 0) → List ℕ → Type 0
IsLedInPlace real in_place path = (q : List ℕ) × (real q ≡ real path) × in_place q

-- the numbers of a file's device and of the file on it, as an identity
abbrev pub identity_of : ℕ × ℕ → Identity
identity_of numbers = record { device = numbers.0; inode = numbers.1 }

-- the numbers of the file that a path names, where the log is known
abbrev pub identity_by : Option Log → (Node → ℕ × ℕ) → List ℕ → Option Identity
identity_by None numbers p = None
identity_by (Some log) numbers p = option_map (λ node. identity_of (numbers node)) (node_at log.start log.calls p)

-- two paths name one file
abbrev pub NameOneFile : Option Log → List ℕ → List ℕ → Type 0
NameOneFile log p q = (node : Node) × Names log p (Some node) × Names log q (Some node)

-- the path of the folder that was made last, where its name may not be on the disk
abbrev pub path_of : LastFolder → Option (List ℕ)
path_of last = if last.waits then Some (string_bytes last.path) else None

-- the names of all folders but one are on the disk in one way
pub AreNamed-prop : (log : Option Log) (but : Option (List ℕ)) → IsProp (AreNamed log but)
AreNamed-prop None but = Unit-prop
AreNamed-prop (Some log) but = Π_prop (λ f. Π_prop (λ _. Coded-set coded_bool (is_named log.calls f) true))

-- where no file is, a crash leaves none once the names of the folder are on the disk
pub kept_none : (log : Option Log) (p : List ℕ) (c : Option (List ℕ)) → holds log p ≡ Some None → kept_by log p c → c ≡ None
kept_none log p c e is = subst (λ h. kept_of h c) e is

-- what a file holds is what a crash leaves of it once the names of the folder are on the disk
pub kept_held : (log : Option Log) (p bytes : List ℕ) (c : Option (List ℕ)) → holds log p ≡ Some (Some bytes) → kept_by log p c → c ≡ Some bytes
kept_held log p bytes c e is = subst (λ h. kept_of h c) e is

-- a crash leaves something
pub some_left : (log : Option Log) → IsLawfulLog log → (c : Disk) × left_by log c
some_left None lawful = ((λ q. None), tt)
some_left (Some log) lawful = a_crash_leaves_something log.start log.calls lawful

-- this moment is one of those since an earlier one
now_counts : (start : Start) (calls : List Call) (t : ℕ) (c : Disk) → outcome start calls c → outcome_since start calls t c
now_counts start [] t c now = now
now_counts start (call ∷ calls) t c now = inl now

-- what a crash may leave now is among what one might have left since an earlier moment
pub log_counts_now : (log : Option Log) (t : ℕ) (c : Disk) → left_by log c → left_since_by log t c
log_counts_now None t c now = tt
log_counts_now (Some log) t c now = now_counts log.start log.calls t c now

-- since this moment there is no other
now_only : (start : Start) (calls : List Call) (c : Disk) → outcome_since start calls (length calls) c → outcome start calls c
now_only start [] c left = left
now_only start (call ∷ calls) c left = ⊎_elim (λ now. now) (λ before. absurd (let le = before.0 in omega (arith, le))) left

-- what a crash might have left since the present moment is what it may leave now
pub log_only_now : (log : Option Log) (c : Disk) → left_since_by log (moment_of log) c → left_by log c
log_only_now None c left = tt
log_only_now (Some log) c left = now_only log.start log.calls c left
