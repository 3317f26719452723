use Rattle.std.proofs.Common.{◌*◌}
use Rattle.udfs_reading.specs.PacketFile.{states_from}
use Rattle.udfs_index.proofs.PackLemmas.{said_known, said_conflict}
use Rattle.udfs_index.proofs.packing.says.Goals as goal

pub returns-then-known-ne0 : goal.returns-then-known-ne0
returns-then-known-ne0 c wholes t shown =
    said_known (states_from t (32 * c.args.index) 32) c.masks_of-known.result.0 (c.masks_of-known.ensures.known wholes t shown) c.if-known-ne0.true

pub returns-else-known-ne0 : goal.returns-else-known-ne0
returns-else-known-ne0 c wholes t shown =
    said_conflict (states_from t (32 * c.args.index) 32) c.masks_of-known.result.0 c.masks_of-known.result.1 (c.masks_of-known.ensures.known wholes t shown) (c.masks_of-known.ensures.conflict wholes t shown) c.if-known-ne0.false
