use Rattle.std.proofs.Common.{rules}
use Rattle.std.proofs.lemmas.List.Sorted.{answers_always}
use Rattle.udfs_space.proofs.Searching.{search-found, search-absent}
use Rattle.udfs_space.proofs.spans.entry_at.Goals as goal

pub returns-in-Ok-clause-value : goal.returns-in-Ok-clause-value
returns-in-Ok-clause-value c = search-found c.args.spared.now c.args.first c.in-Ok.i (record { original = 0; mapped = 0 }) c.requires c.in-Ok.ensures.bound
    (c.in-Ok.ensures.position (λ e. e.original) (answers_always _ _ _ (λ f a r g called. search rules)))

pub returns-in-Err-clause-value : goal.returns-in-Err-clause-value
returns-in-Err-clause-value c = search-absent c.args.spared.now c.args.first c.in-Err.field-0 c.requires
    (c.in-Err.ensures.position (λ e. e.original) (answers_always _ _ _ (λ f a r g called. search rules)))
