use Rattle.std.proofs.Common.{◌||◌, ◌∙◌, ap}
use Rattle.std.specs.List.{list_any}
use Rattle.udfs_walk.specs.Targets.{is_icb}
use Rattle.udfs_lost.specs.FoundNames.{Found, is_of}
use Rattle.udfs_lost.proofs.FileLemmas.{any_with}
use Rattle.udfs_lost.proofs.ToldLemmas.{any_next}
use Rattle.udfs_lost.proofs.named_entries.with_names.Goals as goal

pub loop-found-preserved : goal.loop-found-preserved
loop-found-preserved c icb =
    let met = c.loop-found.met in
    any_next (is_of icb) c.args.names.now c.loop-found.found-index c.found-item.result (list_any (is_icb icb) c.args.met) (list_any (is_icb icb) met) (list_any (is_icb icb) c.in_ok-met.met) c.loop-found-test.true c.found-item.is (c.loop-found.invariant icb)
    (ap (list_any (is_icb icb)) c.in_ok-met.ensures ∙ any_with met c.address.result icb ∙ ap (λ a. list_any (is_icb icb) met || is_icb icb a) c.address.ensures
    ∙ ap (λ (f : Found). list_any (is_icb icb) met || is_of icb f) c.found.view_is)
