-- What an entry is by the rules by which its volume is read.
--     kind_by profile kind     the kind that is told of a node, or of an entry without a name, by the kind of its entry
--     KindsByRules             which file types are files by which rules, and that all else is told as it is recorded
use Rattle.std.specs.Prelude.{◌≡◌, ℕ, false, cond}
use Rattle.udfs_volume.specs.declared.profiles.Profile.{Profile}
use Rattle.udfs_volume.specs.declared.profiles.Profile.TheVariants.{Strict, Wide}
use Rattle.udfs_volume.specs.Profiles.{is_file_type}
use Rattle.udfs_file.specs.Entries.{kind_of}
use Rattle.udfs_file.specs.declared.faults.Kind.{Kind}
use Rattle.udfs_file.specs.declared.faults.Kind.TheVariants.{File, Other}

-- an entry of another type than a directory, a file of bytes or a link is a file where the rules take its type for one (ECMA-167 4/14.6.6)
abbrev pub kind_by : Profile → Kind → Kind
kind_by profile (Other type) = cond (is_file_type profile type) File (Other type)
kind_by profile kind = kind

-- By the strict rules each entry is what it is recorded as. By the wide ones the types 0 and 249 are files too, and nothing else changes.
pub record KindsByRules : Type 0 where
  pub strict : (type : ℕ) → kind_by Strict (kind_of type) ≡ kind_of type
  pub unspecified : kind_by Wide (kind_of 0) ≡ File
  pub real_time : kind_by Wide (kind_of 249) ≡ File
  pub wide : (type : ℕ) → is_file_type Wide type ≡ false → kind_by Wide (kind_of type) ≡ kind_of type
