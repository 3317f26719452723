-- What crates above need to know of printing, and of what is to be read again for some paths.
use Rattle.udfs_salvage.specs.InLine.{EachRereadForSuffices}
use Rattle.udfs_salvage.proofs.RereadingFor as paths
pub use Rattle.udfs_salvage.proofs.Printed.{passed_item, prints_then, stopped_item}

pub each_reread_for_suffices : EachRereadForSuffices
each_reread_for_suffices = paths.each_reread_for_suffices
