use Rattle.std.proofs.Common.{◌≡◌, ◌+◌, List, ℕ, take, drop, arith, ◌∙◌, rules}
use Rattle.std.proofs.KnownBytes.{Keeps-trans}
use Rattle.udfs_rescue.proofs.Giving.{filled_more, kept_value}
use Rattle.udfs_rescue.proofs.image.fill.Goals as goal

pub loop-filled-preserved : goal.loop-filled-preserved
loop-filled-preserved g c =
    let got = kept_value (g.I.Image.bytes c.args.image.now) (g.I.Image.bytes c.loop-filled.image) (λ (all : List ℕ). take c.in_ok-count.count c.read_at.new.buf ≡ take c.in_ok-count.count (drop (c.args.at + c.loop-filled.filled) all)) c.loop-filled.invariant.same c.in_ok-count.ensures.value in
    record {
      within = search rules;
      same = Keeps-trans (g.I.Image.bytes c.args.image.now) (g.I.Image.bytes c.loop-filled.image) (g.I.Image.bytes c.read_at.new.self) c.loop-filled.invariant.same c.in_ok-count.ensures.same;
      count = c.in_ok-count.ensures.count ∙ c.loop-filled.invariant.count;
      value = filled_more (g.I.Image.bytes c.args.image.now) c.args.at c.loop-filled.filled _ c.in_ok-count.count c.loop-filled.buf c.read_at.new.buf c.loop-filled.invariant.value got (omega arith) c.in_ok-count.ensures.bound;
    }
