use Rattle.std.proofs.Common.{◌≡◌, ◌++◌, rules}
use Rattle.udfs_tables.proofs.ForgettingLemmas.{first_refused, lists_more, memory_refused, rest_refused}
use Rattle.udfs_tables.proofs.forget.+read_lists.Goals as goal

pub returns-in-Ok-read_lists-clause-listed : goal.returns-in-Ok-read_lists-clause-listed
returns-in-Ok-read_lists-clause-listed g t c =
    let F = g.F.Files in
    let rest = c.in-Ok-read_lists.ensures.listed in
    let grown : c.extend_from_slice.new.self.items ≡ c.args.blocks.now.items ++ c.in-Ok.list = search rules in
    lists_more (λ path. F.holds c.args.files.now (F.real c.args.files.now path)) c.args.paths.now _ c.args.blocks.now.items c.extend_from_slice.new.self.items c.read_lists.new.blocks.items c.in-Ok.list rest.0
    (search rules) c.in-Ok.ensures.listed rest.1 grown rest.2

pub returns-in-Err-clause-why : goal.returns-in-Err-clause-why
returns-in-Err-clause-why g t c = first_refused _ _ c.args.paths.now _ c.in-Err.refusal (search rules) c.in-Err.ensures.why

pub returns-in-Err-extend_from_slice-clause-why : goal.returns-in-Err-extend_from_slice-clause-why
returns-in-Err-extend_from_slice-clause-why g t c = memory_refused _ _ c.args.paths.now (search rules)

pub returns-clause-why : goal.returns-clause-why
returns-clause-why g t c = rest_refused _ _ c.args.paths.now _ c.in-Ok.list c.in-Err-read_lists.refusal (search rules) c.in-Ok.ensures.listed c.in-Err-read_lists.ensures.why
