use Rattle.std.proofs.Common.{◌∙◌, ◌++◌, ap, subst, ℕ, List}
use Rattle.udfs_lattice.specs.Volumes.{Blocks, ascending}
use Rattle.udfs_salvage.specs.Found.{volume_now}
use Rattle.udfs_salvage.specs.Listings.{listing_by}
use Rattle.udfs_salvage.proofs.StoreAnswers.{states_same}
use Rattle.udfs_witnesses.specs.Witnesses.{witnesses}
use Rattle.udfs_reports.specs.Comparing.{beside, structures_of}
use Rattle.udfs_reports.specs.Rereading.{AreAsked}
use Rattle.udfs_reports.proofs.comparing.asked_in.Goals as goal

pub returns-clause-known : goal.returns-clause-known
returns-clause-known g c told t holds =
    let S = g.B.BlockStore.states in
    let l = c.args.listing.now in
    let same = states_same (S l.table.now) t (g.met.B.ReportStore.held l.table.now t holds) in
    let wants = c.deref.ensures.value ∙ c.in_ok-wanted.ensures.value told in
    c.in_ok-known.ensures.value told ∙ (λ i. beside c.args.request.now.witnesses (wants i) (witnesses (same i) c.args.last (structures_of (volume_now l.volume))))

pub returns-clause-blocks : goal.returns-clause-blocks
returns-clause-blocks g c told t holds =
    let S = g.B.BlockStore.states in
    let l = c.args.listing.now in
    let r = c.args.request.now in
    let same = states_same (S l.table.now) t (g.met.B.ReportStore.held l.table.now t holds) in
    let wants = c.deref.ensures.value ∙ c.in_ok-wanted.ensures.value told in
    let also = c.deref-2.ensures.value ∙ c.in_ok-wanted.ensures.value told in
    let knows = c.deref-3.ensures.value ∙ c.in_ok-known.ensures.value told ∙ (λ i. beside r.witnesses (wants i) (witnesses (same i) c.args.last (structures_of (volume_now l.volume)))) in
    let all = c.in_ok-blocks.ensures.all told in
    (all.0, subst (λ (bs : Blocks). AreAsked r.group bs c.args.last (listing_by S l).reread all.0) same (subst (λ (ns : List ℕ). AreAsked r.group (S l.table.now) c.args.last ns all.0) also all.1), all.2 ∙ ap (λ (ks : List ℕ). ascending (ks ++ all.0)) knows)
