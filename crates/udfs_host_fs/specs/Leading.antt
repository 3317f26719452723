-- Where a path leads, and what is there.
use Rattle.std.specs.Prelude.{◌≡◌, ◌≢◌, ℕ, List, Option, None, string_bytes}
use Rattle.udfs_calls.specs.Log.{Log, Names, NamesSome, Node}
use Rattle.udfs_host_fs.specs.Told.{identity_by}
use Rattle.udfs_host_fs.specs.declared.files.Kind.TheVariants.{Absent, Regular, Other}
use Rattle.udfs_host_fs.specs.declared.files.Target.{Target}

-- The target is where the path leads, every link followed; nothing is there where it says so, and something else where it says that. Of what is no
-- regular file some path that leads there says so, and which file it is is told of a regular one.
pub record LeadsTo (log : Option Log) (real : List ℕ → List ℕ) (identity : Node → ℕ × ℕ) (in_place : List ℕ → Type 0) (path : List ℕ) (target : Target) : Type 0 where
  pub path_is : string_bytes target.path ≡ real path
  pub absent : target.kind ≡ Absent → Names log (real path) None
  pub regular : target.kind ≡ Regular → NamesSome log (real path)
  pub other : target.kind ≡ Other → (q : List ℕ) × (real q ≡ real path) × in_place q
  pub file : target.kind ≢ Other → target.identity ≡ identity_by log identity (real path)
  pub no_file : target.kind ≡ Other → target.identity ≡ None
