use Rattle.std.proofs.Common.{◌≡◌, ◌∙◌, ◌++◌, List, ap, codes, rules, sym, ℕ}
use Rattle.udfs_common.proofs.PlacingLemmas.{found_behind, rest_taken}
use Rattle.udfs_common.proofs.placing.is_own.Goals as goal

pub returns-then-begin_so-clause-no : goal.returns-then-begin_so-clause-no
returns-then-begin_so-clause-no c is own =
    c.begin_so-then-begin_so.ensures.no is own.0 (rest_taken c.as_bytes-name.result.now c.as_bytes-path.result.now (codes ".unfinished") own.0 (search rules))

pub returns-then-begin_so-clause-yes : goal.returns-then-begin_so-clause-yes
returns-then-begin_so-clause-yes c is =
    let found = c.begin_so-then-begin_so.ensures.so is in
    let front = c.begin_so.ensures.so (search rules) in
    let name : c.as_bytes-name.result.now ≡ c.args.name.now = search rules in
    let path : c.as_bytes-path.result.now ≡ c.args.path.now = search rules in
    (found.0, sym name ∙ found_behind c.as_bytes-name.result.now c.as_bytes-path.result.now (codes ".unfinished") found.0 (search rules) front.0 front.1 ∙ ap (λ (l : List ℕ). l ++ codes ".unfinished" ++ found.0) path)
