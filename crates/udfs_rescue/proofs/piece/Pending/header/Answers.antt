use Rattle.std.proofs.Common.{◌++◌, refl, ap, arith, ◌∙◌}
use Rattle.udfs_reading.specs.Format.{number}
use Rattle.udfs_reading.specs.Reading.{magic}
use Rattle.udfs_rescue.proofs.Giving.{held_view}
use Rattle.udfs_rescue.proofs.piece.Pending.header.Goals as goal

pub returns : goal.returns
unfolding number magic
returns c =
    held_view 12 4 4 16 c.copy_from_slice.new.self _ c.copy_from_slice-2.new.self (omega (arith, c.copy_from_slice.ensures.len)) (omega (arith, c.copy_from_slice-2.ensures.len)) refl
    ∙ (ap (λ l. l ++ c.copy_from_slice-2.new.self) c.copy_from_slice.ensures.after ∙ ap (λ l. (magic ++ number 2048) ++ l) (c.copy_from_slice-2.ensures.after ∙ c.write_u32.ensures))
