-- The laws of this crate that proofs above it use. Each has the statement that the function of its name in src/ ensures.
use Rattle.std.proofs.Common.{◌≡◌, ℕ, List}
use Rattle.std.specs.Prelude.{Ok}
use Rattle.udfs_osta.specs.Escapes.{escaped}
use Rattle.udfs_osta.specs.Names.{units_of}
use Rattle.udfs_osta.specs.Parts.{IsPathPart}
use Rattle.udfs_osta.proofs.NameUnits.{some_units}
use Rattle.udfs_osta.proofs.PathParts.{IsPathPart-escaped}

pub escaped_name_is_path_part : (bytes units : List ℕ) → units_of bytes ≡ Ok units → IsPathPart (escaped units)
escaped_name_is_path_part bytes units e = IsPathPart-escaped units (some_units bytes units e)
