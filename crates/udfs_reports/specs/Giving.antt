-- What was given to a command, as the commands that it names repeat it.
--     given_by volume size     the arguments by which the disc of a volume is read, where its size was given so
use Rattle.std.specs.Prelude.{ℕ, List, Option, option_map}
use Rattle.std.specs.Borrow.{Bor}
use Rattle.udfs_overview.specs.Repeating.{GivenWords}
use Rattle.udfs_words.specs.Requests.{texts}
use Rattle.udfs_words.specs.declared.request.VolumeSource.{VolumeSource}

-- the paths of the inputs, the size, and whether what is of another disc is to be joined
abbrev pub given_by : VolumeSource → Option (Bor (List ℕ)) → GivenWords
given_by volume size = record { files = texts volume.inputs.files.items; parts = texts volume.inputs.parts.items; size = option_map (λ text. text.now) size; force = volume.force }
