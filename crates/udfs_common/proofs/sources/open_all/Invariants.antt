-- Each path so far has its source.
use Rattle.std.proofs.Common.{◌≡◌, vec_len}
use Rattle.udfs_rescue.specs.Blocks.{left_bytes}
use Rattle.udfs_common.specs.Blaming.{AreJudged}
use Rattle.udfs_common.specs.Keeping.{Opens}
use Rattle.udfs_common.specs.Sources.{left_in}
use Rattle.udfs_common.proofs.sources.open_all.Given as goal

abbrev pub invariant-loop-index : goal.invariant-loop-index
invariant-loop-index g l =
    let F = g.F.Files in
    record {
      each : vec_len l.sources ≡ l.index;
      opened : Opens (λ path. F.holds l.files (F.real l.files path)) (left_in g.F.Input.Source.remaining (λ p. left_bytes (g.F.Image.Image.bytes p.image) p.pending p.piece p.left)) l.paths l.sources.items;
      judged : AreJudged (λ path. F.holds l.files (F.real l.files path)) l.paths l.sources.items;
    }
