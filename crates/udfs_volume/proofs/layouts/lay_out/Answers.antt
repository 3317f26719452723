use Rattle.std.proofs.Common.{◌≡◌, sym, ◌∙◌, ap, map, Some}
use Rattle.std.specs.Prelude.{option_map}
use Rattle.std.specs.List.{list_all}
use Rattle.udfs_tag.specs.Fields.{long_ad_of}
use Rattle.udfs_volume.specs.Answers.{found}
use Rattle.udfs_volume.specs.Layout.{described, has_contents, is_in_range, partition_of, laid_out}
use Rattle.udfs_volume.specs.LayoutParts.{described_now}
use Rattle.udfs_volume.specs.Parts.{numbered_now}
use Rattle.udfs_volume.specs.Sequences.{descriptor_now, sequence_now}
use Rattle.udfs_volume.proofs.LayoutSteps.{laid_out-range, laid_out-found}
use Rattle.udfs_volume.proofs.layouts.lay_out.Goals as goal

pub returns-then-not-are_in_range : goal.returns-then-not-are_in_range
returns-then-not-are_in_range c =
    let lv = descriptor_now c.args.volume.now in
    let ps = map described_now c.in-Some.all.items in
    let is : described (sequence_now c.args.sequence.now) (map numbered_now c.args.maps.items) ≡ Some ps = sym c.in_ok-all.ensures ∙ ap (option_map (λ all. map described_now all.items)) c.in-Some.is in
    let contents = ap (λ xs. list_all has_contents (map described_now xs)) (sym c.deref.ensures.value) ∙ sym c.have_contents.ensures ∙ c.if-not-have_contents.false in
    let range = ap (λ xs. list_all (λ p. is_in_range c.args.profile c.args.last (partition_of p)) (map described_now xs)) (sym c.deref-2.ensures.value) ∙ sym c.are_in_range.ensures ∙ c.if-not-are_in_range.true in
    ap (laid_out c.args.profile c.args.last lv) is ∙ laid_out-range c.args.profile c.args.last lv ps contents range

pub returns : goal.returns
returns c =
    let lv = descriptor_now c.args.volume.now in
    let ps = map described_now c.in-Some.all.items in
    let is : described (sequence_now c.args.sequence.now) (map numbered_now c.args.maps.items) ≡ Some ps = sym c.in_ok-all.ensures ∙ ap (option_map (λ all. map described_now all.items)) c.in-Some.is in
    let contents = ap (λ xs. list_all has_contents (map described_now xs)) (sym c.deref.ensures.value) ∙ sym c.have_contents.ensures ∙ c.if-not-have_contents.false in
    let range = ap (λ xs. list_all (λ p. is_in_range c.args.profile c.args.last (partition_of p)) (map described_now xs)) (sym c.deref-2.ensures.value) ∙ sym c.are_in_range.ensures ∙ c.if-not-are_in_range.false in
    let file_set = c.read-file_set.ensures.value ∙ ap long_ad_of c.from.ensures.value in
    ap (laid_out c.args.profile c.args.last lv) is ∙ laid_out-found c.args.profile c.args.last lv ps contents range
    ∙ (λ i. found (record {
      last = c.args.last;
      revision = sym c.uint16-revision.ensures i;
      label = sym c.in_ok-label.ensures i;
      partitions = sym c.in_ok-partitions.ensures i;
      file_set = sym file_set i;
      profile = c.args.profile;
    }))
