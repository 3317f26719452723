use Rattle.std.proofs.Common.{rules, ◌≡◌, ◌⊎◌, ◌++◌, ◌∷◌, List, [], Some, refl, sym, ◌∙◌, ap, subst, arith, length, length-append, slice_get, false, if◌then◌else◌}
use Rattle.std.proofs.lemmas.List.{length-map}
use Rattle.udfs_host_fs.specs.Disk.{Fails, SinkFails}
use Rattle.udfs_walk.specs.declared.answers.Unnamed.{Unnamed}
use Rattle.udfs_salvage.specs.Found.{volume_now}
use Rattle.udfs_salvage.specs.Listings.{full_entry_in, listing_by}
use Rattle.udfs_extraction.specs.Extracting.{TellsLines, TellsOn, is_good}
use Rattle.udfs_extraction.specs.LostFiles.{IsLostPut, lost_line, lost_lines}
use Rattle.udfs_extraction.specs.declared.nodes.Fate.{Fate}
use Rattle.udfs_extraction.proofs.ListedLemmas.{full_at, same_line}
use Rattle.udfs_extraction.proofs.LostLemmas.{each_lost_map, each_lost_more, lost_lines_more, lost_on, lost_still, nothing_lost}
use Rattle.udfs_extraction.proofs.PutNodes.{good_more, tells_on}
use Rattle.udfs_extraction.proofs.unnamed.put_entries.Goals as goal

pub loop-index-init : goal.loop-index-init
loop-index-init g c = record {
  put = λ known. ([], tt, record { given = search rules; kept = refl }, refl, refl);
  spares = nothing_lost _ c.args.folder.now c.args.files.now;
}

pub returns-in_err-fate-clause-spares : goal.returns-in_err-fate-clause-spares
returns-in_err-fate-clause-spares g c = lost_on _ c.args.folder.now _ _ _ c.loop-index.invariant.spares c.put_entry.ensures.spares

pub returns-in_err-heard-clause-spares : goal.returns-in_err-heard-clause-spares
returns-in_err-heard-clause-spares g c = lost_on _ c.args.folder.now _ _ _ c.loop-index.invariant.spares c.put_entry.ensures.spares

pub returns-in_err-fate-clause-put : goal.returns-in_err-fate-clause-put
returns-in_err-fate-clause-put g c known =
    let F = g.F.Files in
    let put = c.loop-index.invariant.put known in (
      c.loop-index.heard,
      put.0,
      each_lost_map _ _ (λ w f. lost_still F (Fails F.faults ⊎ SinkFails g.F.Output.Sink.stream) (g.B.BlockStore.states c.args.listing.now.table.now) (listing_by g.B.BlockStore.states c.args.listing.now) c.args.folder.now c.args.two c.loop-index.files c.put_entry.new.files (g.met.F.Files.counts_now c.loop-index.files) c.put_entry.ensures.spares w f) _ put.0 put.1,
      put.2,
      search rules,
    )

pub returns-in_err-heard-clause-put : goal.returns-in_err-heard-clause-put
returns-in_err-heard-clause-put g c known =
    let F = g.F.Files in
    let S = g.O.Sink in
    let put = c.loop-index.invariant.put known in (
      c.loop-index.heard,
      put.0,
      each_lost_map _ _ (λ w f. lost_still F (Fails F.faults ⊎ SinkFails g.F.Output.Sink.stream) (g.B.BlockStore.states c.args.listing.now.table.now) (listing_by g.B.BlockStore.states c.args.listing.now) c.args.folder.now c.args.two c.loop-index.files c.put_entry.new.files (g.met.F.Files.counts_now c.loop-index.files) c.put_entry.ensures.spares w f) _ put.0 put.1,
      subst (λ o. TellsLines c.loop-index.heard (S.stream c.args.out.now) (S.stream o) (lost_lines c.args.two (listing_by g.B.BlockStore.states c.args.listing.now).unnamed put.0)) (sym c.in_err-heard.ensures.memory) put.2,
      search rules,
    )

pub loop-index-preserved : goal.loop-index-preserved
loop-index-preserved g c =
    let F = g.F.Files in
    let S = g.O.Sink in
    let inv = c.loop-index.invariant in
    let fate = c.in_ok-fate.fate in
    let l = c.args.listing.now in
    let states = g.B.BlockStore.states in
    let M = states l.table.now in
    let a = volume_now l.volume in
    let w = c.entry_at-entry.result.now in
    let u = full_entry_in M a w in
    let us = (listing_by states l).unnamed in
    let two = c.args.two in
    let P : Unnamed → Fate → Type 0 = IsLostPut F.tells (Fails F.faults ⊎ SinkFails g.F.Output.Sink.stream) M (listing_by states l) c.args.folder.now two (F.holds c.put_entry.new.files) (F.moment c.put_entry.new.files) (F.left_since c.put_entry.new.files) in
    record {
      put = λ known.
          let was = inv.put known in
          let fates = was.0 in
          let count : length fates ≡ c.loop-index.index = was.3 in
          let there : slice_get us c.loop-index.index ≡ Some u = subst (λ (xs : List Unnamed). slice_get xs c.loop-index.index ≡ Some u) (c.requires known) (full_at (full_entry_in M a) c.args.entries.now c.loop-index.index w c.entry_at-entry.ensures) in
          let at : slice_get us (length fates) ≡ Some u = subst (λ k. slice_get us k ≡ Some u) (sym count) there in (
            fates ++ fate ∷ [],
            each_lost_more P us fates u fate at
                (each_lost_map _ P (λ w f. lost_still F (Fails F.faults ⊎ SinkFails g.F.Output.Sink.stream) M (listing_by states l) c.args.folder.now two c.loop-index.files c.put_entry.new.files (g.met.F.Files.counts_now c.loop-index.files) c.put_entry.ensures.spares w f) us fates was.1)
                (c.in_ok-fate.ensures.put known u there),
            subst (λ t. TellsLines c.in_ok-heard.heard (S.stream c.args.out.now) (S.stream c.tell_lost.new.out) t) (sym (lost_lines_more two us fates u fate at))
                (tells_on c.loop-index.heard c.in_ok-heard.heard (S.stream c.args.out.now) (S.stream c.loop-index.out) (S.stream c.tell_lost.new.out) (lost_lines two us fates) (lost_line two fate u) was.2
                (subst (λ t. TellsOn c.loop-index.heard c.in_ok-heard.heard (S.stream c.loop-index.out) (S.stream c.tell_lost.new.out) t) (sym (same_line two fate M a w)) c.in_ok-heard.ensures.lines)),
            (let more = length-append fates (fate ∷ []) in omega (arith, count, more)),
            c.still_good-good.ensures ∙ ap (λ b. if is_good fate then b else false) was.4 ∙ sym (good_more fates fate),
          );
      spares = lost_on _ c.args.folder.now _ _ _ inv.spares c.put_entry.ensures.spares;
    }

pub returns-clause-put : goal.returns-clause-put
returns-clause-put g c known =
    let l = c.args.listing.now in
    let put = c.loop-index.invariant.put known in
    let all : length put.0 ≡ length c.args.entries.now = search rules in
    let same : length c.args.entries.now ≡ length (listing_by g.B.BlockStore.states l).unnamed = sym (length-map c.args.entries.now (full_entry_in (g.B.BlockStore.states l.table.now) (volume_now l.volume))) ∙ ap (λ (us : List Unnamed). length us) (c.requires known) in
    (c.loop-index.heard, put.0, put.1, put.2, (all ∙ same, refl, put.4))
