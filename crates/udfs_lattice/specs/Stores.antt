-- What a store of blocks tells.
--     known_as state      the state without its bytes
use Rattle.udfs_lattice.specs.declared.facts.Fact.{Fact}
use Rattle.udfs_lattice.specs.declared.facts.Fact.TheVariants.{Unknown, Known, Conflict}
use Rattle.udfs_lattice.specs.States.{State}

-- what is known, without the bytes
abbrev pub known_as : State → Fact (Unit {0})
known_as Unknown = Unknown
known_as (Known bytes) = Known tt
known_as Conflict = Conflict
