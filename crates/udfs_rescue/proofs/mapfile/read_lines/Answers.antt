use Rattle.std.proofs.Common.{◌+◌, ◌%◌, ◌^◌, take, ap, subst, ◌∙◌, arith}
use Rattle.std.specs.Io.KnownBytes.{Consumes}
use Rattle.udfs_rescue.proofs.PieceLemmas.{came_more, came_fails, came_io, came_end}
use Rattle.udfs_rescue.proofs.mapfile.read_lines.Goals as goal

pub returns-in-Err-clause-reads : goal.returns-in-Err-clause-reads
returns-in-Err-clause-reads g c = (
  c.in-Err.ensures.count ∙ ap (λ n. (n + 1) % 2 ^ 64) c.loop.invariant.count,
  came_io (g.R.Source.remaining c.args.source.now) (g.R.Source.remaining c.loop.source) (g.R.Source.remaining c.read.new.self) c.loop.reader c.loop.invariant.came c.in-Err.ensures.bytes,
)

pub returns-then-n-eq0-clause-reads : goal.returns-then-n-eq0-clause-reads
returns-then-n-eq0-clause-reads g c =
    came_end (g.R.Source.remaining c.args.source.now) (g.R.Source.remaining c.loop.source) (g.R.Source.remaining c.read.new.self) (g.R.Source.faults c.args.source.now) (g.R.Source.faults c.read.new.self) c.loop.reader c.finish.result
    c.loop.invariant.came (subst (λ n. Consumes (g.R.Source.remaining c.loop.source) (g.R.Source.remaining c.read.new.self) (take n c.read.new.buf)) c.if-n-eq0.true c.in-Ok.ensures.bytes.0)
    (c.in-Ok.ensures.bytes.1 c.if-n-eq0.true (omega (arith, c.read.auto.buf))) (c.in-Ok.ensures.count ∙ c.loop.invariant.count) c.finish.ensures.says

pub returns-in-Err-feed-clause-reads : goal.returns-in-Err-feed-clause-reads
returns-in-Err-feed-clause-reads g c =
    came_fails (g.R.Source.remaining c.args.source.now) (g.R.Source.remaining c.loop.source) (g.R.Source.remaining c.read.new.self) (g.R.Source.faults c.args.source.now) (g.R.Source.faults c.read.new.self) c.loop.reader (take c.in-Ok.n c.read.new.buf) c.in-Err-feed.e
    c.loop.invariant.came c.in-Ok.ensures.bytes.0 (c.in-Ok.ensures.count ∙ c.loop.invariant.count) c.in-Err-feed.ensures.err

pub loop-preserved : goal.loop-preserved
loop-preserved g c =
    record {
      came = came_more (g.R.Source.remaining c.args.source.now) (g.R.Source.remaining c.loop.source) (g.R.Source.remaining c.read.new.self) c.loop.reader c.feed.new.self (take c.in-Ok.n c.read.new.buf)
          c.loop.invariant.came c.in-Ok.ensures.bytes.0 c.in-Ok-feed.ensures.ok;
      count = c.in-Ok.ensures.count ∙ c.loop.invariant.count;
    }
