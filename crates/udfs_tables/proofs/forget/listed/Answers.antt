use Rattle.udfs_words.specs.Requests.{texts}
use Rattle.udfs_tables.proofs.ForgettingLemmas.{lists_alone}
use Rattle.udfs_tables.proofs.forget.listed.Goals as goal

pub returns-in-Ok-clause-listed : goal.returns-in-Ok-clause-listed
returns-in-Ok-clause-listed g c =
    let F = g.F.Files in
    let all = c.in-Ok.ensures.listed in
    lists_alone (λ path. F.holds c.args.files.now (F.real c.args.files.now path)) (texts c.args.paths.now) _ c.read_lists.new.blocks.items all.0 all.1 c.new-blocks.ensures.items all.2
