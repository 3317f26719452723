use Rattle.std.proofs.Common.{◌≡◌, ◌∙◌, ap, false, inl, refl, rules, subst, sym}
use Rattle.udfs_lattice.specs.Volumes.{Blocks}
use Rattle.udfs_lawfulness.specs.Lawfulness.{IsDecided}
use Rattle.udfs_overview.specs.Disagreements.{has_room}
use Rattle.udfs_overview.specs.LostTallies.{IsTallyBy}
use Rattle.udfs_overview.specs.Searched.{looked_in, searched}
use Rattle.udfs_salvage.specs.Surveys.{survey_by}
use Rattle.udfs_salvage.specs.declared.errors.SalvageError.TheVariants.{LastRange}
use Rattle.udfs_reports.proofs.InRange.{out_of_range}
use Rattle.udfs_reports.proofs.StoreListings.{refused_table}
use Rattle.udfs_salvage.proofs.StoreAnswers.{states_same}
use Rattle.udfs_reports.proofs.judging.judged_in.Goals as goal

pub returns-then-not-has_room-clause-refused : goal.returns-then-not-has_room-clause-refused
returns-then-not-has_room-clause-refused g c told t holds =
    let none : has_room c.args.last ≡ false = search rules in
    refused_table c.args.profile t c.args.last LastRange (out_of_range c.args.last none)

pub returns-in-Ok-verdict_of-clause-decided : goal.returns-in-Ok-verdict_of-clause-decided
returns-in-Ok-verdict_of-clause-decided g c told t holds =
    let s = c.in-Ok.survey in
    let of = c.in-Ok.ensures.of in
    let answer = c.in-Ok-verdict_of.answer in
    let same = ap g.B.BlockStore.states of.0 ∙ states_same (g.B.BlockStore.states c.args.blocks.now) t (g.met.B.ReportStore.held c.args.blocks.now t holds) in
    record {
      decided = subst (λ (bs : Blocks). IsDecided c.args.profile bs c.args.last answer.lawfulness) same (c.in-Ok-verdict_of.ensures.decided told);
      place = ap (λ bs. looked_in bs (survey_by g.B.BlockStore.states s) answer.found) (sym same) ∙ c.in-Ok-verdict_of.ensures.place told ∙ (λ i. searched (of.2 i) (same i) (of.1 i) (survey_by g.B.BlockStore.states s));
      tallied = subst (λ o. IsTallyBy o answer.found.trees.items answer.lost) (λ i. searched (of.2 i) (same i) (of.1 i) (survey_by g.B.BlockStore.states s)) (c.in-Ok-verdict_of.ensures.tallied told);
    }

pub returns-in-Err-OutOfMemory-clause-refused : goal.returns-in-Err-OutOfMemory-clause-refused
returns-in-Err-OutOfMemory-clause-refused g c told t holds = inl refl
