use Rattle.std.proofs.Common.{◌≡◌, ◌∙◌, length, ap}
use Rattle.udfs_reading.proofs.Numbers.{number-value}
use Rattle.udfs_index.proofs.HeadLemmas.{length-four}
use Rattle.udfs_index.proofs.heads.number_at.Goals as goal

pub returns : goal.returns
returns c =
    let chunk = c.chunk_at.result.now in
    let long : length chunk ≡ 4 = ap length c.chunk_at.ensures.value ∙ length-four c.args.i c.args.bytes.now c.requires in
    number-value chunk c.read_u32.result long c.chunk_at.ensures.range c.read_u32.ensures ∙ c.chunk_at.ensures.value
