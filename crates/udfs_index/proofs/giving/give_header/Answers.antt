use Rattle.std.proofs.Common.{[], ◌∷◌, ◌++◌, ap, take, drop, ◌∙◌}
use borrow.Rule.Slice.PartMut.{put_mid}
use Rattle.udfs_reading.specs.Format.{number}
use Rattle.udfs_reading.specs.Reading.{magic}
use Rattle.udfs_index.proofs.giving.give_header.Goals as goal

pub returns-clause-value : goal.returns-clause-value
unfolding number magic
returns-clause-value c =
    c.give.ensures.value ∙ ap (λ x. take c.give.result (drop c.args.skip (put_mid 12 4 (x ++ 0 ∷ 0 ∷ 0 ∷ 0 ∷ []) c.copy_from_slice-2.new.self))) c.copy_from_slice.ensures.after
    ∙ ap (λ y. take c.give.result (drop c.args.skip (put_mid 12 4 ((magic ++ number 2048) ++ 0 ∷ 0 ∷ 0 ∷ 0 ∷ []) y))) (c.copy_from_slice-2.ensures.after ∙ c.write_u32.ensures)
