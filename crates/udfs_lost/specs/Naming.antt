-- What directories name, wherever on the volume they are.
--     names_at view icb       the information control blocks that the directory at this one names
--     LeadsBy view f way g    one directory names the next on the way, from f to g
--     LeadsTo view f g        names lead from f to g
--     IsLedTo view folders f  names lead there from one of the folders
use Rattle.std.specs.Prelude.{◌≡◌, List, [], ◌∷◌, cond, Option, Some, None, is_none, filter_map, Contains}
use Rattle.udfs_space.specs.Places.{View}
use Rattle.udfs_file.specs.Addresses.{address_fault}
use Rattle.udfs_file.specs.declared.directories.DirEntry.{DirEntry}
use Rattle.udfs_walk.specs.Targets.{Icb, icb_of}
use Rattle.udfs_lost.specs.Entries.{entries_at}

-- the information control block that an entry of a directory names, if its address is good
abbrev pub named_by : View → DirEntry → Option Icb
named_by view e = cond (is_none (address_fault view e.icb)) (Some (icb_of e.icb)) None

-- those that the directory at this one names
abbrev pub names_at : View → Icb → List Icb
names_at view icb = filter_map (named_by view) (entries_at view icb)

-- each directory on the way names the next
abbrev pub LeadsBy : View → Icb → List Icb → Icb → Type 0
LeadsBy view f [] g = f ≡ g
LeadsBy view f (h ∷ way) g = Contains (names_at view f) h × LeadsBy view h way g

-- names lead from one information control block to another, or it is the same
abbrev pub LeadsTo : View → Icb → Icb → Type 0
LeadsTo view f g = (way : List Icb) × LeadsBy view f way g

-- names lead there from one of these
abbrev pub IsLedTo : View → List Icb → Icb → Type 0
IsLedTo view folders f = (s : Icb) × Contains folders s × LeadsTo view s f
