use Rattle.std.proofs.Common.{◌-◌, take, rules, subst, ap, ◌∙◌, [], List, ℕ}
use Rattle.std.specs.Io.KnownBytes.{Consumes}
use Rattle.udfs_reading.specs.Device.{left}
use Rattle.udfs_reading.specs.Places.{Ahead}
use Rattle.udfs_reading.proofs.WindowLemmas.{grown_view, left_more}
use Rattle.udfs_reading.proofs.window.Window.more.Goals as goal

pub returns-clause-left : goal.returns-clause-left
returns-clause-left g c =
    let k = c.self.inside.end - c.self.inside.start in
    let n = c.in_ok-count.count in
    let got = take n c.read.new.buf in
    let had = c.args.self.now.bytes in
    subst (λ (l : List ℕ). Consumes (left had (g.R.Source.remaining c.args.source.now)) (left l (g.R.Source.remaining c.read.new.self)) [])
    (grown_view k _ n c.move_to_front.new.bytes c.read.new.buf had (c.move_to_front.ensures.moved ∙ ap (λ (a : Ahead). a.bytes) c.self.view_is) (search rules) c.in_ok-count.ensures.bound)
    (left_more had got (g.R.Source.remaining c.args.source.now) (g.R.Source.remaining c.read.new.self) c.in_ok-count.ensures.bytes.0)
