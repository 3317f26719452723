-- What is written of an entry that no name leads to.
--     is_lost_file entry                                   it is a file with data, and whole
--     HasUnnamedCellsBy profile blocks last entry cells    the cells of its body, of which none is missing
use Rattle.std.specs.Prelude.{◌≡◌, ℕ, Bool, true, false, List, [], nat_lt, ◌&&◌}
use Rattle.udfs_lattice.specs.Volumes.{Blocks}
use Rattle.udfs_volume.specs.Answers.{found}
use Rattle.udfs_volume.specs.declared.profiles.Profile.{Profile}
use Rattle.udfs_space.specs.Places.{view}
use Rattle.udfs_file.specs.declared.cells.Cell.{Cell}
use Rattle.udfs_file.specs.declared.faults.Kind.{Kind}
use Rattle.udfs_file.specs.declared.faults.Kind.TheVariants as kind
use Rattle.udfs_walk.specs.NodeBodies.{HasCells}
use Rattle.udfs_walk.specs.Standings.{missing_blocks}
use Rattle.udfs_walk.specs.Targets.{icb_at}
use Rattle.udfs_walk.specs.UnnamedEntries.{address_of}
use Rattle.udfs_walk.specs.declared.answers.Unnamed.{Unnamed}
use Rattle.udfs_salvage.specs.Found.{Found, volume_by}
use Rattle.udfs_walk.specs.Unsettled.{is_whole}

-- whether an entry of this kind is a file
abbrev pub is_file : Kind → Bool
is_file kind.Directory = false
is_file kind.File = true
is_file kind.Link = false
is_file (kind.Other t) = false
is_file kind.Unread = false

-- a file with data, whole
abbrev pub is_lost_file : Unnamed → Bool
is_lost_file u = is_file u.kind && (nat_lt 0 u.size && is_whole u.standing)

-- the cells of the body of the entry at the partition reference and block of this one, and none is missing
pub record HasUnnamedCellsBy (profile : Profile) (blocks : Blocks) (last : ℕ) (u : Unnamed) (cs : List Cell) : Type 0 where
  pub opened : Found
  pub opens : volume_by profile blocks last ≡ found opened
  pub has_cells : HasCells (view blocks opened.space) (address_of (icb_at u.reference u.block)) cs
  pub none_missing : missing_blocks cs ≡ []
