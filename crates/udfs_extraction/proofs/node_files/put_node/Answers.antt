use Rattle.std.proofs.Common.{◌≡◌, inl, refl, sym, ◌∙◌, ap, subst, true, false, Some}
use Rattle.udfs_walk.specs.NodeFields.{NodeFields}
use Rattle.udfs_salvage.specs.Found.{volume_now}
use Rattle.udfs_salvage.specs.Listings.{full_in}
use Rattle.udfs_salvage.specs.Extraction.{is_offered, filled, fill_byte}
use Rattle.udfs_extraction.specs.Extracting.{IsFateOf, deed, is_good}
use Rattle.udfs_extraction.specs.declared.nodes.Deed.TheVariants.{File, Folder, Skip}
use Rattle.udfs_extraction.specs.declared.nodes.Fate.TheVariants.{Written, Skipped}
use Rattle.udfs_extraction.proofs.ListedLemmas.{same_deed}
use Rattle.udfs_extraction.proofs.PutNodes.{offered, spares_at, stay_by}
use Rattle.udfs_extraction.proofs.node_files.put_node.Goals as goal

pub returns-in_err-done-in-File-clause-stays : goal.returns-in_err-done-in-File-clause-stays
returns-in_err-done-in-File-clause-stays g c told = stay_by c.args.path.now _ _ c.write_file.ensures.others (c.write_file.ensures.there told)

pub returns-in_err-done-in-File-clause-crash : goal.returns-in_err-done-in-File-clause-crash
returns-in_err-done-in-File-clause-crash g c told folder is_in =
    let F = g.F.Files in
    spares_at F.moment F.may_leave F.left_since _ _ folder c.args.path.now _ is_in c.write_file.ensures.crash (c.write_file.ensures.stays told)

pub returns-in-Folder-clause-put : goal.returns-in-Folder-clause-put
returns-in-Folder-clause-put g c known n short folder at path =
    let l = c.args.listing.now in
    let m = c.node_at.result.now in
    let same : full_in (g.B.BlockStore.states l.table.now) (volume_now l.volume) m ≡ n = let e = sym c.node_at.ensures ∙ at in cc in
    let made : deed n.kind n.standing n.size c.args.fill ≡ Folder = subst (λ (m : NodeFields). deed m.kind m.standing m.size c.args.fill ≡ Folder) same (same_deed (g.B.BlockStore.states l.table.now) (volume_now l.volume) m.icb m.kind m.standing m.size c.args.fill ∙ sym c.deed_for.ensures ∙ c.in-Folder.is) in
    record {
      done = subst (λ d. IsFateOf d c.put_folder-fate.result) (sym made) c.put_folder-fate.ensures.fate;
      written = λ written told profile last reported. absurd (c.put_folder-fate.ensures.fate.0 written);
      failed = λ bad profile last reported. inl (c.put_folder-fate.ensures.cause (λ is_made. let no_fate : true ≡ false = sym (ap is_good is_made) ∙ bad in cc));
    }

pub returns-in_ok-done-in-File-clause-put : goal.returns-in_ok-done-in-File-clause-put
returns-in_ok-done-in-File-clause-put g c known n short folder at path =
    let F = g.F.Files in
    let l = c.args.listing.now in
    let m = c.node_at.result.now in
    let same : full_in (g.B.BlockStore.states l.table.now) (volume_now l.volume) m ≡ n = let e = sym c.node_at.ensures ∙ at in cc in
    let made : deed n.kind n.standing n.size c.args.fill ≡ File = subst (λ (m : NodeFields). deed m.kind m.standing m.size c.args.fill ≡ File) same (same_deed (g.B.BlockStore.states l.table.now) (volume_now l.volume) m.icb m.kind m.standing m.size c.args.fill ∙ sym c.deed_for.ensures ∙ c.in-File.is) in
    let is : is_offered n.standing n.size c.args.fill ≡ true = offered n.kind n.standing n.size c.args.fill made in
    record {
      done = subst (λ d. IsFateOf d c.in_ok-done-in-File.done.fate) (sym made) c.in_ok-done-in-File.ensures.fate;
      written = λ written told profile last reported.
          let w = c.in_ok-done-in-File.ensures.written known written told profile last n reported at is in
          (w.0, w.1, subst (λ p. F.holds c.write_file.new.files p ≡ Some (Some (filled (fill_byte c.args.fill) w.0))) path w.2);
      failed = λ bad profile last reported. c.in_ok-done-in-File.ensures.cause known (λ written. let no_fate : true ≡ false = sym (ap is_good written) ∙ bad in cc) profile last n reported at is;
    }

pub returns-in_ok-done-in-File-clause-stays : goal.returns-in_ok-done-in-File-clause-stays
returns-in_ok-done-in-File-clause-stays g c told = stay_by c.args.path.now _ _ c.write_file.ensures.others (c.write_file.ensures.there told)

pub returns-in_ok-done-in-File-clause-crash : goal.returns-in_ok-done-in-File-clause-crash
returns-in_ok-done-in-File-clause-crash g c told folder is_in =
    let F = g.F.Files in
    spares_at F.moment F.may_leave F.left_since _ _ folder c.args.path.now _ is_in c.write_file.ensures.crash (c.write_file.ensures.stays told)

pub returns-in-Skip-clause-put : goal.returns-in-Skip-clause-put
returns-in-Skip-clause-put g c known n short folder at path =
    let l = c.args.listing.now in
    let m = c.node_at.result.now in
    let same : full_in (g.B.BlockStore.states l.table.now) (volume_now l.volume) m ≡ n = let e = sym c.node_at.ensures ∙ at in cc in
    let made : deed n.kind n.standing n.size c.args.fill ≡ Skip = subst (λ (m : NodeFields). deed m.kind m.standing m.size c.args.fill ≡ Skip) same (same_deed (g.B.BlockStore.states l.table.now) (volume_now l.volume) m.icb m.kind m.standing m.size c.args.fill ∙ sym c.deed_for.ensures ∙ c.in-Skip.is) in
    record {
      done = subst (λ d. IsFateOf d Skipped) (sym made) refl;
      written = λ written told profile last reported. let bad : Skipped ≡ Written = written in cc;
      failed = λ bad profile last reported. let no_fate : true ≡ false = bad in cc;
    }

pub returns-in_err-done-in-File-clause-elsewhere : goal.returns-in_err-done-in-File-clause-elsewhere
returns-in_err-done-in-File-clause-elsewhere g c q other =
    let l = c.args.listing.now in
    let m = c.node_at.result.now in
    let n = full_in (g.B.BlockStore.states l.table.now) (volume_now l.volume) m in
    let made : deed n.kind n.standing n.size c.args.fill ≡ File = same_deed (g.B.BlockStore.states l.table.now) (volume_now l.volume) m.icb m.kind m.standing m.size c.args.fill ∙ sym c.deed_for.ensures ∙ c.in-File.is in
    c.write_file.ensures.others q (other n c.node_at.ensures made)

pub returns-in_ok-done-in-File-clause-elsewhere : goal.returns-in_ok-done-in-File-clause-elsewhere
returns-in_ok-done-in-File-clause-elsewhere g c q other =
    let l = c.args.listing.now in
    let m = c.node_at.result.now in
    let n = full_in (g.B.BlockStore.states l.table.now) (volume_now l.volume) m in
    let made : deed n.kind n.standing n.size c.args.fill ≡ File = same_deed (g.B.BlockStore.states l.table.now) (volume_now l.volume) m.icb m.kind m.standing m.size c.args.fill ∙ sym c.deed_for.ensures ∙ c.in-File.is in
    c.write_file.ensures.others q (other n c.node_at.ensures made)

pub returns-in-Folder-clause-file : goal.returns-in-Folder-clause-file
returns-in-Folder-clause-file g c written n at = absurd (c.put_folder-fate.ensures.fate.0 written)

pub returns-in_ok-done-in-File-clause-file : goal.returns-in_ok-done-in-File-clause-file
returns-in_ok-done-in-File-clause-file g c written n at =
    let l = c.args.listing.now in
    let b = g.B.BlockStore.states l.table.now in
    let m = c.node_at.result.now in
    let same : full_in b (volume_now l.volume) m ≡ n = let e = sym c.node_at.ensures ∙ at in cc in
    subst (λ (x : NodeFields). deed x.kind x.standing x.size c.args.fill ≡ File) same (same_deed b (volume_now l.volume) m.icb m.kind m.standing m.size c.args.fill ∙ sym c.deed_for.ensures ∙ c.in-File.is)

pub returns-in-Skip-clause-file : goal.returns-in-Skip-clause-file
returns-in-Skip-clause-file g c written n at = let bad : Skipped ≡ Written = written in absurd (let no : ⊥ = cc in no)
