-- What the code keeps of torn files.
--     torn_now file      the same, with its path as names
--     disputed_in, damaged_in, bytes_in, lost_in files      what is counted of them
use Rattle.std.specs.Prelude.{ℕ, List, cond, count_by, not, sum_by}
use Rattle.udfs_overview.specs.TornLists.{row_of}
use Rattle.udfs_overview.specs.TornRows.{Row, TornPart}
use Rattle.udfs_overview.specs.declared.tallies.TornFile.{TornFile}

-- with its path as names
abbrev pub torn_now : TornFile → TornPart
torn_now f = record { path = f.path.now; size = f.size; lost = f.lost; disputed = f.disputed }

-- its row
abbrev pub row_now : TornFile → Row
row_now f = row_of (torn_now f)

-- how many are disputed
abbrev pub disputed_in : List TornFile → ℕ
disputed_in files = count_by (λ (f : TornFile). f.disputed) files

-- how many are not
abbrev pub damaged_in : List TornFile → ℕ
damaged_in files = count_by (λ (f : TornFile). not f.disputed) files

-- how many bytes those have that are not
abbrev pub bytes_in : List TornFile → ℕ
bytes_in files = sum_by (λ (f : TornFile). cond f.disputed 0 f.size) files

-- how many of these bytes are lost
abbrev pub lost_in : List TornFile → ℕ
lost_in files = sum_by (λ (f : TornFile). cond f.disputed 0 f.lost) files
