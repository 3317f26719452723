-- What is known where the structures of a volume are not contradicted. No public contract cites these definitions.
--     AreLeft profile blocks last listed      these blocks decide the structures and are not known
--     GivesListed listed answer               an answer by the list of all blocks that decide it
use Rattle.std.specs.Prelude.{◌≡◌, ◌≢◌, ℕ, List, []}
use Rattle.udfs_lattice.specs.Volumes.{Blocks, ascending, not_known}
use Rattle.udfs_volume.specs.declared.profiles.Profile.{Profile}
use Rattle.udfs_lawfulness.specs.Structures.{AreAllLawful, IsReason, asked}
use Rattle.udfs_lawfulness.specs.declared.answers.Reason.{Reason}
use Rattle.udfs_lawfulness.specs.declared.answers.Lawfulness.{Lawfulness}
use Rattle.udfs_lawfulness.specs.declared.answers.Lawfulness.TheVariants.{Lawful, Unlawful, Open}

-- they are all that are not known; where none is, the structures are lawful; and nothing that is known contradicts them
pub record AreLeft (profile : Profile) (blocks : Blocks) (last : ℕ) (listed : List ℕ) : Type 0 where
  pub listed_are : listed ≡ ascending (not_known blocks (asked profile blocks last))
  pub sound : listed ≡ [] → AreAllLawful profile blocks last
  pub no_reason : (why : Reason) → ¬ IsReason profile blocks last why

-- lawful where the list is empty, and else open with the list
abbrev pub GivesListed : List ℕ → Lawfulness → Type 0
GivesListed listed Lawful = listed ≡ []
GivesListed listed (Unlawful why) = ⊥
GivesListed listed (Open blocks) = (blocks.items ≡ listed) × (listed ≢ [])
