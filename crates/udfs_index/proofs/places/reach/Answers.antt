use Rattle.std.proofs.Common.{refl}
use Rattle.udfs_index.proofs.places.reach.Goals as goal

pub loop-packets-init : goal.loop-packets-init
loop-packets-init c = record { same = λ q. refl }
