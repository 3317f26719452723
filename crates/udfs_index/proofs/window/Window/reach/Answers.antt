use Rattle.std.proofs.Common.{◌≤◌, length, rules}
use Rattle.udfs_index.specs.Index.{contents_of}
use Rattle.udfs_index.proofs.WindowLemmas.{served, served_first}
use Rattle.udfs_index.proofs.window.Window.reach.Goals as goal

pub returns-in-Some-clause-there : goal.returns-in-Some-clause-there
returns-in-Some-clause-there g c =
    served (contents_of g.S.Stored.content c.args.inputs.now) c.args.self.now.place c.args.self.now.len c.args.place c.in-Some.at c.args.self.now.bytes (search rules) c.requires.read.front c.in-Some.ensures.input c.in-Some.ensures.at c.in-Some.ensures.whole

pub returns-clause-there : goal.returns-clause-there
returns-clause-there g c =
    let some : 2048 ≤ length c.read_from.new.buf = search rules in
    served_first (contents_of g.S.Stored.content c.args.inputs.now) c.args.place c.read_from.new.buf _ some c.in_ok-read_from.ensures.read
