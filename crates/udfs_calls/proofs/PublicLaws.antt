-- The laws of this crate that proofs above it use. Each has the statement that the function of its name in src/laws.rt ensures.
use Rattle.udfs_calls.specs.Lawful.{SomeCrash}
use Rattle.udfs_calls.proofs.SomeCrash.{some_crash}

pub a_crash_leaves_something : SomeCrash
a_crash_leaves_something = some_crash
