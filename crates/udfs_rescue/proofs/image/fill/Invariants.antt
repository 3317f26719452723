use Rattle.std.proofs.Common.{◌≡◌, ◌≤◌, ◌-◌, length, take, drop, IfSome}
use Rattle.std.specs.Io.KnownBytes.{Keeps}
use Rattle.udfs_rescue.proofs.image.fill.Given as goal

abbrev pub invariant-loop-filled : goal.invariant-loop-filled
invariant-loop-filled g l =
    record {
      within : l.filled ≤ length l.buf;
      same : Keeps (g.I.Image.bytes l.fn.image) (g.I.Image.bytes l.image);
      count : g.I.Image.faults l.image ≡ g.I.Image.faults l.fn.image;
      value : IfSome (g.I.Image.bytes l.fn.image) (λ all. take l.filled l.buf ≡ take l.filled (drop l.at all));
    }

abbrev pub decreases-loop-filled : goal.decreases-loop-filled
decreases-loop-filled g l = length l.buf - l.filled
