use Rattle.std.proofs.Common.{inl, inr, ⊎_elim}
use Rattle.udfs_tables.proofs.joining.unwritten_of.Goals as goal

pub returns : goal.returns
returns g c = ⊎_elim (λ out. inl out) (λ inputs. inr (inputs, c.unwritten.ensures.told.0, c.unwritten.ensures.forced)) (rw c.as_slice-paths.ensures.value at c.unwritten.ensures.blamed)
