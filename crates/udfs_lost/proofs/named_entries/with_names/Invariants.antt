use Rattle.std.proofs.Common.{◌≡◌, ◌||◌, take}
use Rattle.std.specs.List.{list_any}
use Rattle.udfs_walk.specs.Targets.{Icb, is_icb}
use Rattle.udfs_lost.specs.FoundNames.{is_of}
use Rattle.udfs_lost.proofs.named_entries.with_names.Given as goal

abbrev pub invariant-loop-found : goal.invariant-loop-found
invariant-loop-found l = (icb : Icb) → list_any (is_icb icb) l.met ≡ (list_any (is_icb icb) l.fn.met || list_any (is_of icb) (take l.found-index l.names))
