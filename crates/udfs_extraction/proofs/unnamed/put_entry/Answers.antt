use Rattle.std.proofs.Common.{◌≡◌, ◌∙◌, List, Some, refl, rules, slice_get, sym, ap, subst, true, false, cond}
use Rattle.udfs_walk.specs.declared.answers.Unnamed.{Unnamed}
use Rattle.udfs_salvage.specs.Extraction.{filled}
use Rattle.udfs_salvage.specs.Found.{volume_now}
use Rattle.udfs_salvage.specs.Listings.{full_entry_in, listing_by}
use Rattle.udfs_salvage.specs.UnnamedExtraction.{is_lost_file}
use Rattle.udfs_extraction.specs.Extracting.{IsFateOf, IsSafe, is_good}
use Rattle.udfs_extraction.specs.LostFiles.{lost_name, lost_path}
use Rattle.udfs_extraction.specs.declared.nodes.Deed.TheVariants.{File, Skip}
use Rattle.udfs_extraction.specs.declared.nodes.Fate.TheVariants.{Written, Skipped}
use Rattle.udfs_extraction.proofs.ListedLemmas.{full_at, same_lost}
use Rattle.udfs_extraction.proofs.LostLemmas.{lost_at, nothing_lost}
use Rattle.udfs_extraction.proofs.PutNodes.{safe}
use Rattle.udfs_extraction.proofs.unnamed.put_entry.Goals as goal

pub returns-then-not-is_lost_file-clause-put : goal.returns-then-not-is_lost_file-clause-put
returns-then-not-is_lost_file-clause-put g c known u at =
    let l = c.args.listing.now in
    let M = g.B.BlockStore.states l.table.now in
    let a = volume_now l.volume in
    let w = c.entry_at-entry.result.now in
    let there : slice_get (listing_by g.B.BlockStore.states l).unnamed c.args.index ≡ Some (full_entry_in M a w) = subst (λ (us : List Unnamed). slice_get us c.args.index ≡ Some (full_entry_in M a w)) (c.requires.entries known) (full_at (full_entry_in M a) c.args.entries.now c.args.index w c.entry_at-entry.ensures) in
    let same : full_entry_in M a w ≡ u = let e = sym there ∙ at in cc in
    let not_lost : is_lost_file u ≡ false = subst (λ (w : Unnamed). is_lost_file w ≡ false) same (same_lost M a w ∙ sym c.is_lost_file.ensures ∙ c.if-not-is_lost_file.true) in
    record {
      done = subst (λ b. IsFateOf (cond b File Skip) Skipped) (sym not_lost) refl;
      written = λ written told profile last reported. let bad : Skipped ≡ Written = written in cc;
      failed = λ bad profile last reported. let no_fate : true ≡ false = bad in cc;
    }

pub returns-then-not-is_lost_file-clause-spares : goal.returns-then-not-is_lost_file-clause-spares
returns-then-not-is_lost_file-clause-spares g c = nothing_lost _ _ _

pub returns-in_err-path-clause-spares : goal.returns-in_err-path-clause-spares
returns-in_err-path-clause-spares g c = nothing_lost _ _ _

pub returns-in_err-fate-clause-spares : goal.returns-in_err-fate-clause-spares
returns-in_err-fate-clause-spares g c =
    let w = c.write_lost_file.ensures in
    lost_at _ c.args.folder.now c.as_str.result.now _ _ (lost_name c.args.two c.entry_at-entry.result.now, search rules) w.others w.there w.crash w.stays

pub returns-clause-put : goal.returns-clause-put
returns-clause-put g c known u at =
    let F = g.F.Files in
    let done = c.in_ok-fate.ensures in
    let l = c.args.listing.now in
    let M = g.B.BlockStore.states l.table.now in
    let a = volume_now l.volume in
    let w = c.entry_at-entry.result.now in
    let there : slice_get (listing_by g.B.BlockStore.states l).unnamed c.args.index ≡ Some (full_entry_in M a w) = subst (λ (us : List Unnamed). slice_get us c.args.index ≡ Some (full_entry_in M a w)) (c.requires.entries known) (full_at (full_entry_in M a) c.args.entries.now c.args.index w c.entry_at-entry.ensures) in
    let same : full_entry_in M a w ≡ u = let e = sym there ∙ at in cc in
    let lost : is_lost_file u ≡ true = subst (λ (w : Unnamed). is_lost_file w ≡ true) same (same_lost M a w ∙ sym c.is_lost_file.ensures ∙ c.if-not-is_lost_file.false) in
    let path : c.as_str.result.now ≡ lost_path c.args.folder.now c.args.two u = subst (λ (w : Unnamed). c.as_str.result.now ≡ lost_path c.args.folder.now c.args.two w) same (search rules) in
    record {
      done = subst (λ b. IsFateOf (cond b File Skip) c.in_ok-fate.fate) (sym lost) done.fate;
      written = λ written told profile last reported.
          let x = done.written known written told profile last u reported at lost in (
            x.0,
            x.1,
            subst (λ p. IsSafe (F.holds c.write_lost_file.new.files) (F.moment c.write_lost_file.new.files) (F.left_since c.write_lost_file.new.files) p (filled 0 x.0)) path
                (safe F.moment F.may_leave F.left_since c.write_lost_file.new.files (F.holds c.write_lost_file.new.files) c.as_str.result.now _ (g.met.F.Files.only_now c.write_lost_file.new.files) x.2),
          );
      failed = λ bad profile last reported. done.cause known (λ written. let no_fate : true ≡ false = sym (ap is_good written) ∙ bad in cc) profile last u reported at lost;
    }

pub returns-clause-spares : goal.returns-clause-spares
returns-clause-spares g c =
    let w = c.write_lost_file.ensures in
    lost_at _ c.args.folder.now c.as_str.result.now _ _ (lost_name c.args.two c.entry_at-entry.result.now, search rules) w.others w.there w.crash w.stays
