use Rattle.std.proofs.Common.{[], ◌∷◌, refl}
use Rattle.udfs_memory.specs.Telling.{log_of, no_place}
use Rattle.udfs_memory.proofs.laws.a_path_is_no_device.Goals as goal

-- src/laws.rt:26:1
pub returns : goal.returns
returns c = no_place (log_of c.new.result.stored.now c.new.result.history.calls) 100 (105 ∷ 115 ∷ 99 ∷ 46 ∷ 116 ∷ 97 ∷ 98 ∷ []) c.new.ensures refl
