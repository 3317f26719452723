use Rattle.std.proofs.Common.{length, rules}
use Rattle.udfs_index.proofs.CursorLemmas.{behind_read, behind_end}
use Rattle.udfs_index.proofs.cursor.CursorSource.read.Goals as goal

pub returns-clause-bytes : goal.returns-clause-bytes
returns-clause-bytes g c =
    let content = g.S.Stored.content c.args.self.now.stored.now in
    let at = c.args.self.now.at in
    let n = c.in-Ok.n in
    (behind_read content at n c.in-Some.at c.read_at.new.buf (search rules) c.in-Ok.ensures.value, behind_end content at n c.in-Some.at (length c.read_at.new.buf) (search rules) c.in-Ok.ensures.end)
