use Rattle.std.proofs.Common.{◌≡◌, ◌+◌, ◌-◌, take, drop, ap, ◌∙◌, arith}
use Rattle.udfs_reading.specs.Format.{number}
use Rattle.udfs_index.proofs.SpreadLemmas.{put_both}
use Rattle.udfs_index.proofs.spreading.put_record.Goals as goal

pub returns : goal.returns
unfolding number
returns c =
    let wide : c.args.from + 2048 - c.args.from ≡ 2048 = omega arith in
    put_both c.args.buf.now c.copy_from_slice-2.new.self c.copy_from_slice-3.new.self c.args.to c.args.from _ _ c.args.block (omega arith) (omega arith) (omega (arith, c.copy_from_slice-2.ensures.len)) (omega (arith, c.copy_from_slice-3.ensures.len))
    (c.copy_from_slice-2.ensures.after ∙ c.write_u32.ensures) (c.copy_from_slice-3.ensures.after ∙ c.copy_from_slice.ensures.after ∙ ap (λ n. take n (drop c.args.from c.args.buf.now)) wide) c.requires.room
