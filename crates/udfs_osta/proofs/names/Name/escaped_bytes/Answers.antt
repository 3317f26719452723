use Rattle.std.proofs.Common.{refl}
use Rattle.udfs_osta.specs.Escapes.{escaped}
use Rattle.udfs_osta.proofs.names.Name.escaped_bytes.Goals as goal

pub returns : goal.returns
unfolding escaped
returns c = rw (c.new.ensures, c.is_dots.ensures, c.units-units.ensures.value) refl
