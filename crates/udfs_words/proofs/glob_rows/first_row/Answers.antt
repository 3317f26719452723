use Rattle.std.proofs.Common.{◌≡◌, ◌∙◌, ◌++◌, ◌+◌, suc, [], ◌∷◌, ap, arith, true, false}
use Rattle.udfs_words.specs.GlobRows.{unreached}
use Rattle.udfs_words.proofs.GlobReaching.{one_more_place}
use Rattle.udfs_words.proofs.glob_rows.first_row.Goals as goal

pub loop-place-preserved : goal.loop-place-preserved
loop-place-preserved c =
    let next : suc c.loop-place._place ≡ c.loop-place._place + 1 = omega arith in
    c.in_ok-push-2.ensures.items
    ∙ ap (λ row. row ++ false ∷ []) c.loop-place.invariant
    ∙ ap (λ row. true ∷ row) (one_more_place c.loop-place._place)
    ∙ ap (λ count. true ∷ unreached count) next
