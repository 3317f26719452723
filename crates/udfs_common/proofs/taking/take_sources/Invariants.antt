-- The sources so far were taken and did not fail, and the others are as they were.
use Rattle.std.proofs.Common.{◌≡◌, drop, length, take}
use Rattle.udfs_rescue.specs.Blocks.{left_bytes}
use Rattle.udfs_common.specs.Sources.{faults_in, left_in}
use Rattle.udfs_common.specs.Taking.{NoneFails, Taken}
use Rattle.udfs_common.proofs.taking.take_sources.Given as goal

abbrev pub invariant-loop-place : goal.invariant-loop-place
invariant-loop-place g l =
    record {
      many : length l.sources ≡ length l.fn.sources;
      rest : drop l.place l.sources ≡ drop l.place l.fn.sources;
      counts : NoneFails (faults_in g.R.Source.faults (λ p. p.faults)) l.fn.sources l.sources;
      taken : Taken (left_in g.R.Source.remaining (λ p. left_bytes (g.I.Image.bytes p.image) p.pending p.piece p.left)) l.paths (take l.place l.fn.sources) l.force (g.T.Taker.took l.initial.taker) (g.T.Taker.took l.taker);
    }
