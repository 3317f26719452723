-- The file identifier descriptors of a directory (ECMA-167 4/14.4), as they are read.
--     Identifier      how many bytes one takes, and its entry if it is neither deleted nor the parent
--     Rest            what ends them: the directory's end, a block that is not known, or a fault
--     Step            one of them, or what ends them
use Rattle.std.specs.Prelude.{ℕ, Option}
use Rattle.udfs_file.specs.declared.directories.DirEntry.{DirEntry}
use Rattle.udfs_file.specs.declared.faults.NodeFault.{NodeFault}

-- a file identifier descriptor: its size, and the entry if it is listed (ECMA-167 4/14.4)
pub record Identifier : Type 0 where
  pub size : ℕ
  pub listed : Option DirEntry

-- what ends the descriptors of a directory: its end, a missing block, or a fault
pub data Rest : Type 0 where
  Nothing : Rest
  Stopped : ℕ → Rest
  Wrong : NodeFault → Rest

-- one descriptor, or what ends them
pub data Step : Type 0 where
  AtRest : Rest → Step
  One : Identifier → Step
