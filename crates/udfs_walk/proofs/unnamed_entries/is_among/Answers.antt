use Rattle.std.proofs.Common.{ℕ, Err}
use Rattle.std.proofs.lemmas.List.Sorted.{searched, IsNonDecreasingBy-from_sort}
use Rattle.udfs_walk.proofs.NamedLemmas.{apart, none_among}
use Rattle.udfs_walk.proofs.unnamed_entries.is_among.Goals as goal

pub returns-in-Err : goal.returns-in-Err
returns-in-Err c =
    let up = IsNonDecreasingBy-from_sort (λ (x : ℕ). x) c.args.keys.now c.requires in
    let s = searched c.args.keys.now c.args.key (Err c.in-Err.field-0) c.in-Err.ensures.position (λ i j h k. up i j 0 h k) in
    none_among c.args.keys.now c.args.key (apart c.args.keys.now c.args.key c.in-Err.field-0 s.1 s.2)
