-- What is written of a node.
--     is_offered standing size fill     it is whole; or torn and of known size, with leave to fill it
--     filled byte cells                 the bytes of the cells, and this byte for each that is missing
--     HasCellsInBy profile blocks last i cells    the cells of the body at the end of route i
--     Extracts                          what writing these bytes did
use Rattle.std.specs.Prelude.{◌≡◌, ℕ, Bool, true, false, List, map, Option, Some, None, Result, Ok, Err}
use Rattle.udfs_volume.specs.declared.profiles.Profile.{Profile}
use Rattle.udfs_volume.specs.declared.profiles.Profile.TheVariants.{Strict}
use Rattle.udfs_lattice.specs.Volumes.{Blocks}
use Rattle.udfs_volume.specs.Answers.{found}
use Rattle.udfs_space.specs.Places.{view}
use Rattle.udfs_file.specs.declared.cells.Cell.{Cell}
use Rattle.udfs_file.specs.declared.cells.Cell.TheVariants as cell
use Rattle.udfs_walk.specs.declared.standings.Standing.{Standing}
use Rattle.udfs_walk.specs.declared.standings.Standing.TheVariants.{Whole, Torn, Loop, Fault}
use Rattle.udfs_reading.specs.Writing.{Wrote, Failed}
use Rattle.udfs_walk.specs.Cells.{HasCellsAt}
use Rattle.udfs_salvage.specs.Found.{Found, volume_by}
use Rattle.udfs_salvage.specs.declared.extraction.Fill.{Fill}
use Rattle.udfs_salvage.specs.declared.extraction.Fill.TheVariants.{Refuse, Byte}
use Rattle.udfs_salvage.specs.declared.extraction.ExtractError.{ExtractError}
use Rattle.udfs_salvage.specs.declared.extraction.ExtractError.TheVariants.{NotWhole, Write, OutOfMemory}
use Rattle.udfs_reading.specs.Device.{Stream}

-- a torn node may be filled where its size is known and a byte is given
abbrev pub may_fill : Option ℕ → Fill → Bool
may_fill None fill = false
may_fill (Some size) Refuse = false
may_fill (Some size) (Byte x) = true

-- whether a node's bytes are written: a whole one's, and a torn one's of known size where a fill is asked for
abbrev pub is_offered : Standing → Option ℕ → Fill → Bool
is_offered Whole size fill = true
is_offered (Torn torn) size fill = may_fill size fill
is_offered Loop size fill = false
is_offered (Fault f) size fill = false

-- only what is whole is written without a byte, and then none is missing
abbrev pub fill_byte : Fill → ℕ
fill_byte Refuse = 0
fill_byte (Byte x) = x

-- a cell's byte, or the fill where it is missing
abbrev pub cell_byte : ℕ → Cell → ℕ
cell_byte fill (cell.Byte x holder) = x
cell_byte fill (cell.Gap n) = fill

-- the bytes of cells, with the fill for those that are missing
unfoldable pub filled : ℕ → List Cell → List ℕ
filled fill cs = map (cell_byte fill) cs

-- the cells of the body at the end of the route with this index, the routes in lexicographic order
pub record HasCellsInBy (profile : Profile) (blocks : Blocks) (last index : ℕ) (cs : List Cell) : Type 0 where
  pub opened : Found
  pub opens : volume_by profile blocks last ≡ found opened
  pub has_cells : HasCellsAt (view blocks opened.space) opened.root index cs

-- the same by the strict rules
abbrev pub HasCellsIn : Blocks → ℕ → ℕ → List Cell → Type 0
HasCellsIn = HasCellsInBy Strict

-- all of the bytes were written; or a beginning of them, and then the sink failed; or nothing, because memory ran out
abbrev pub Extracts : {X : Type 0} → Stream → Stream → List ℕ → Result X ExtractError → Type 0
Extracts old new bytes (Ok x) = Wrote old new bytes
Extracts old new bytes (Err NotWhole) = ⊥
Extracts old new bytes (Err Write) = Failed old new bytes
Extracts old new bytes (Err OutOfMemory) = new ≡ old
