use Rattle.std.proofs.Common.{◌∙◌}
use Rattle.udfs_file.proofs.PieceCells.{zeros_are}
use Rattle.udfs_file.proofs.pieces.zeros.Goals as goal

pub returns : goal.returns
returns c = c.split_at.ensures.front ∙ zeros_are c.args.count 2048 c.requires
