-- What was read of the disc of a volume.
--     IsOneDiscOf reach at volume            no image among the inputs is of another disc, but by force
--     IsDisc reach at volume disc            the volume's last block, and the join of its inputs
--     OfVolume reach at volume Holds         this holds of the last block and of the join
--     IsNoVolume reach at volume refusal     no last block is known, or the inputs were not joined, and why
--     OfToldVolume reach at volume Holds     the same as OfVolume, of the join where it is known what each file holds that is read at positions
--     IsStoredDisc reach at volume content reason stored last     inputs that are read at positions, and the volume's last block
--     IsVolumeUnread reach at volume refusal     inputs that are read at positions were not taken, or not read again, and why
use Rattle.std.specs.Prelude.{◌≡◌, ◌⊎◌, ◌<◌, ℕ, List, Option, true, false, length}
use Rattle.udfs_lattice.specs.Tables.{Table}
use Rattle.udfs_words.specs.declared.request.VolumeSource.{VolumeSource}
use Rattle.udfs_rescue.specs.declared.opening.PairFault.{PairFault}
use Rattle.udfs_common.specs.Blaming.{AreJudgedFor, InputsRefused}
use Rattle.udfs_common.specs.Ends.{HasNoLast, IsEnd}
use Rattle.udfs_common.specs.Keeping.{OfPaths, Opens}
use Rattle.udfs_common.specs.OtherDiscs.{AreOneDisc}
use Rattle.udfs_common.specs.Reach.{Reach, found_at}
use Rattle.udfs_common.specs.Refused.{IndexRefused}
use Rattle.udfs_common.specs.Refusing.{NamesNoOther}
use Rattle.udfs_common.specs.declared.refusal.Refusal.{Refusal}
use Rattle.udfs_common.specs.declared.volumes.Disc.{Disc}

-- no image among the inputs is of another disc than the inputs before it, unless what is is to be joined
abbrev pub IsOneDiscOf : {F I M S W : Type 0} → Reach F I M S W → F → VolumeSource → Type 0
IsOneDiscOf reach at volume = volume.force ≡ false → AreOneDisc (found_at reach at) reach.remaining volume.inputs.paths.items

-- its last block is where the volume's disc ends, and its table the join of what the inputs hold, none of another disc, but by force
pub record IsDisc {F I M S W : Type 0} (reach : Reach F I M S W) (at : F) (volume : VolumeSource) (disc : Disc) : Type 0 where
  pub ends : IsEnd (found_at reach at) volume.last volume.inputs.paths.items disc.last
  pub one_disc : IsOneDiscOf reach at volume
  pub join : OfPaths (found_at reach at) reach.remaining volume.inputs.paths.items (λ table. disc.table ≡ table)

-- this holds of where the disc ends and of the join of what the inputs hold, and no image is of another disc, but by force
pub record OfVolume {F I M S W : Type 0} (reach : Reach F I M S W) (at : F) (volume : VolumeSource) (Holds : ℕ → Table → Type 0) : Type 0 where
  pub last : ℕ
  pub ends : IsEnd (found_at reach at) volume.last volume.inputs.paths.items last
  pub one_disc : IsOneDiscOf reach at volume
  pub join : OfPaths (found_at reach at) reach.remaining volume.inputs.paths.items (Holds last)

-- it is not known where the disc ends, or the inputs were not joined; none of them is named as one of another disc where what is is to be joined
abbrev pub IsNoVolume : {F I M S W : Type 0} → Reach F I M S W → F → VolumeSource → Refusal → Type 0
IsNoVolume reach at volume refusal = (HasNoLast reach at volume.last volume.inputs.paths.items refusal ⊎ InputsRefused (found_at reach at) (reach.files.shut at) reach.remaining reach.faults volume.inputs.paths.items refusal) × (volume.force ≡ true → NamesNoOther refusal)

-- this holds of where the disc ends; and where it is known what each file holds that is read at positions, of the join of what the inputs hold, and no image is of another disc, but by force
pub record OfToldVolume {F I M S W : Type 0} (reach : Reach F I M S W) (at : F) (volume : VolumeSource) (Holds : ℕ → Table → Type 0) : Type 0 where
  pub last : ℕ
  pub ends : IsEnd (found_at reach at) volume.last volume.inputs.paths.items last
  pub told : reach.stored_told → IsOneDiscOf reach at volume × OfPaths (found_at reach at) reach.remaining volume.inputs.paths.items (Holds last)

-- there are inputs, each of which has what its path leads to, and the last block is where the volume's disc ends; where one has no reading, the reason follows from what its path leads to
pub record IsStoredDisc {F I M S W R : Type 0} (reach : Reach F I M S W) (at : F) (volume : VolumeSource) (content : R → Option (List ℕ)) (reason : R → Option PairFault) (stored : List R) (last : ℕ) : Type 0 where
  pub ends : IsEnd (found_at reach at) volume.last volume.inputs.paths.items last
  pub some : 0 < length volume.inputs.paths.items
  pub each : length stored ≡ length volume.inputs.paths.items
  pub opened : Opens (found_at reach at) content volume.inputs.paths.items stored
  pub judged : AreJudgedFor (found_at reach at) reason volume.inputs.paths.items stored

-- none of them is named as one of another disc where what is is to be joined
abbrev pub IsVolumeUnread : {F I M S W : Type 0} → Reach F I M S W → F → VolumeSource → Refusal → Type 0
IsVolumeUnread reach at volume refusal = IndexRefused reach.stored_told (found_at reach at) (reach.files.shut at) reach.remaining volume.inputs.paths.items refusal × (volume.force ≡ true → NamesNoOther refusal)
