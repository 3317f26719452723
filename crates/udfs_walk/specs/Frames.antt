-- The directories on the way that code keeps.
--     frame_at view w            the directory at the end of a route, none of whose entries was gone into yet
--     IsFrameOf frame f          the directory, which need not be kept where no entry is left
--     frames_with frames frame          these directories and one more, if there is one
--     IsEntryTaken view old taken new     the next entry was gone into
--     IsStepRefused view most old error   why it was not
--     count_left frame           how many entries are left in it
--     IsOneFewer before taken after       one of so many entries was taken, whatever they are
use Rattle.std.specs.Prelude.{◌≡◌, ◌+◌, ◌<◌, ℕ, ⊤, List, [], ◌∷◌, ◌++◌, length, Option, Some, None}
use Rattle.udfs_space.specs.Places.{View}
use Rattle.udfs_file.specs.declared.directories.DirEntry.{DirEntry}
use Rattle.udfs_walk.specs.NodeFields.{NodeFields}
use Rattle.udfs_walk.specs.Targets.{Icb, icb_of}
use Rattle.udfs_walk.specs.Routes.{Walked, inside, entries_below}
use Rattle.udfs_walk.specs.Unsettled.{unsettled}
use Rattle.udfs_walk.specs.declared.answers.NodesError.{NodesError}
use Rattle.udfs_walk.specs.declared.answers.NodesError.TheVariants.{TooManyPaths, OutOfMemory}

-- a directory: its path, the ICBs down to its own, and the entries that are left
pub record FrameFields : Type 0 where
  pub path : List (List ℕ)
  pub above : List Icb
  pub left : List DirEntry

-- the directory at the end of a route, with all its entries left
abbrev pub frame_at : View → Walked → FrameFields
frame_at view w = record { path = w.path; above = w.above ++ icb_of w.address ∷ []; left = entries_below view w }

-- the directory is kept as it is; one in which no entry is left need not be kept
abbrev pub IsFrameOf : Option FrameFields → FrameFields → Type 0
IsFrameOf None f = f.left ≡ []
IsFrameOf (Some frames_with) f = frames_with ≡ f

-- the frames, with one more if a directory is entered
abbrev pub frames_with : List FrameFields → Option FrameFields → List FrameFields
frames_with frames None = frames
frames_with frames (Some frame) = frames ++ frame ∷ []

-- the first entry that was left is taken: its node, not yet settled, and its directory, which need not be kept where it has no entry
pub record IsNextTaken (view : View) (old new : FrameFields) (n : NodeFields) (below : Option FrameFields) : Type 0 where
  pub entry : DirEntry
  pub first : old.left ≡ entry ∷ new.left
  pub path : new.path ≡ old.path
  pub above : new.above ≡ old.above
  pub node : n ≡ unsettled view (inside old.path old.above entry)
  pub frame : IsFrameOf below (frame_at view (inside old.path old.above entry))

-- the next entry of a frame was taken, its node not yet settled, or none was left
abbrev pub IsEntryTaken : View → FrameFields → Option (NodeFields × Option FrameFields) → FrameFields → Type 0
IsEntryTaken view old None new = old.left ≡ []
IsEntryTaken view old (Some taken) new = IsNextTaken view old new taken.0 taken.1

-- an entry is left, and more than `most` entries are below the first
pub record HasManyBelow (view : View) (most : ℕ) (f : FrameFields) : Type 0 where
  pub entry : DirEntry
  pub rest : List DirEntry
  pub first : f.left ≡ entry ∷ rest
  pub many : most < length (entries_below view (inside f.path f.above entry))

-- TooManyPaths comes only where more than `most` entries are below the next one; OutOfMemory may always come
abbrev pub IsStepRefused : View → ℕ → FrameFields → NodesError → Type 0
IsStepRefused view most old TooManyPaths = HasManyBelow view most old
IsStepRefused view most old OutOfMemory = ⊤

-- how many entries are left in a directory, if there is one
abbrev pub count_left : Option FrameFields → ℕ
count_left None = 0
count_left (Some f) = length f.left

-- of so many entries one was taken, and so many are left; or none was left
abbrev pub IsOneFewer : {A : Type 0} → ℕ → Option A → ℕ → Type 0
IsOneFewer before None after = (before ≡ 0) × (after ≡ 0)
IsOneFewer before (Some taken) after = before ≡ after + 1
