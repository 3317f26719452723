use Rattle.std.proofs.Common.{◌≡◌, ◌∙◌, ap, inl, inr, map, rules, subst, true, List, ℕ, ⊎_elim}
use Rattle.std.specs.String.{string_bytes}
use Rattle.udfs_lattice.specs.Tables.{state_of}
use Rattle.udfs_words.specs.Requests.{texts}
use Rattle.udfs_remarks.specs.NoReports.{salvage_refusal_of}
use Rattle.udfs_remarks.specs.Wanted.{all_wanted}
use Rattle.udfs_salvage.specs.InLine.{nodes_for, reread_for}
use Rattle.udfs_salvage.specs.Listings.{listing_by}
use Rattle.udfs_salvage.proofs.PublicLaws.{each_reread_for_suffices}
use Rattle.udfs_reports.proofs.paths.listed_at.Goals as goal

pub returns-in-Err-Salvage-clause-refused : goal.returns-in-Err-Salvage-clause-refused
returns-in-Err-Salvage-clause-refused g c told t holds =
    let same : c.refused_report.result ≡ salvage_refusal_of c.in-Err-Salvage.error = search rules in
    let refused = rw c.in-Err-Salvage.field-0-is at (c.in-Err-Salvage.ensures.refused told t holds) in
    inl (rw same refused)

pub returns-in-Err-clause-refused : goal.returns-in-Err-clause-refused
returns-in-Err-clause-refused g c told t holds =
    ⊎_elim (λ memory. inl (inl memory)) (λ names. inr (record { report = listing_by g.B.BlockStore.states c.in-Ok.whole; is_report = (c.in-Ok.ensures.headline told t holds).report_is; names = names })) c.in-Err.ensures.refused

pub returns-in-Ok-kept_at-clause-listing : goal.returns-in-Ok-kept_at-clause-listing
returns-in-Ok-kept_at-clause-listing g c told t holds =
    let report = listing_by g.B.BlockStore.states c.in-Ok.whole in
    let headline = c.in-Ok.ensures.headline told t holds in
    let stand : map string_bytes c.deref.result.now ≡ all_wanted true report.nodes (texts c.args.only.now) =
    ap (map string_bytes) c.deref.ensures.value ∙ c.in-Ok-judge_paths.ensures.paths in
    record {
      report = report;
      is_report = record {
        headline = headline;
        may_be = c.in-Ok-judge_paths.ensures.may_be;
        suffices = each_reread_for_suffices (all_wanted true report.nodes (texts c.args.only.now)) c.args.profile (state_of t) c.args.last report headline.report_is;
      };
      volume = c.in-Ok-kept_at.ensures.volume;
      nodes = c.in-Ok-kept_at.ensures.nodes ∙ ap (λ (words : List (List ℕ)). nodes_for words report) stand;
      blocks = c.in-Ok-kept_at.ensures.blocks ∙ ap (λ (words : List (List ℕ)). reread_for words report) stand;
    }

pub returns-in-Ok-kept_at-clause-rising : goal.returns-in-Ok-kept_at-clause-rising
returns-in-Ok-kept_at-clause-rising g c told = c.in-Ok-kept_at.ensures.rising (c.in-Ok.ensures.rising told)
