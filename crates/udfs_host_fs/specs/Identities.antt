-- Which file is at a path, by the numbers of its device and of the file on it.
--     HaveOne a b                     both are known, and they are the same
--     IsFileOf there in_place said    what is said of the file that is there
use Rattle.std.specs.Prelude.{◌≡◌, Option, Some}
use Rattle.udfs_host_fs.specs.declared.files.Identity.{Identity}

-- both are known, and they are the same
abbrev pub HaveOne : Option Identity → Option Identity → Type 0
HaveOne a b = (i : Identity) × (a ≡ Some i) × (b ≡ Some i)

-- An identity that is said is that of the file that is there. Where none is said, none is there, unless what is there may be no regular file.
pub record IsFileOf (there : Option Identity) (in_place : Type 0) (said : Option Identity) : Type 0 where
  pub known : (i : Identity) → said ≡ Some i → there ≡ Some i
  pub exact : (in_place → ⊥) → said ≡ there
