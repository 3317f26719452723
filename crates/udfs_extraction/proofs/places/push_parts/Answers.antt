use Rattle.std.proofs.Common.{◌≡◌, ◌∙◌, ◌++◌, ◌∷◌, [], ap, append_assoc, arith, sym, take}
use Rattle.std.specs.String.{string_bytes}
use Rattle.std.specs.Prelude.{unwrap_or}
use Rattle.udfs_salvage.specs.NodeTexts.{name_text, names_text}
use Rattle.udfs_salvage.specs.Listings.{listing_by}
use Rattle.udfs_extraction.specs.ShortNames.{icb_above, parts, shortened}
use Rattle.udfs_extraction.proofs.PlaceLemmas.{names_more, parts_next, some_name}
use Rattle.udfs_extraction.proofs.places.push_parts.Goals as goal
use Rattle.udfs_extraction.proofs.places.push_parts.Goals.{in-Some+in_ok-push_part, in_default}

pub loop-depth-preserved : goal.loop-depth-preserved
loop-depth-preserved g c =
    let inv = c.loop-depth.invariant in
    let two = c.has_two_partitions-two.result in
    let path = c.behind-listing.inside.path in
    let i = c.loop-depth.depth in
    let nodes = (listing_by g.B.BlockStore.states c.args.listing.now).nodes in
    let old = string_bytes c.args.text.now in
    elim c.match-get.branch [
      | in-Some+in_ok-push_part w ↦
          let name = w.in-Some.name.now in
          let part = unwrap_or (shortened two w.icb_at-icb.result name) name in
          let step : string_bytes c.match-get.text ≡ string_bytes c.loop-depth.text ++ name_text part = ap string_bytes w.text-is ∙ w.in_ok-push_part.ensures in
          record {
            text = λ n at way.
                let so_far = parts two (icb_above nodes c.args.index n) 1 (take i path) in
                step ∙ ap (λ t. t ++ name_text part) (inv.text n at way) ∙ append_assoc old (names_text so_far) (name_text part)
                ∙ ap (λ t. old ++ t) (ap (λ x. names_text so_far ++ name_text (unwrap_or (shortened two x name) name)) (w.icb_at-icb.ensures n at way) ∙ sym (parts_next two (icb_above nodes c.args.index n) i path name w.in-Some.ensures));
            names = (inv.names.0 ++ part ∷ [], step ∙ ap (λ t. t ++ name_text part) inv.names.1 ∙ append_assoc old (names_text inv.names.0) (name_text part) ∙ ap (λ t. old ++ t) (sym (names_more inv.names.0 part)));
          }
      | in_default w ↦ absurd (some_name path i (let h = c.loop-depth-test.true in let e = c.len-depth-end.ensures in omega (arith, h, e)) w.in_default.ensures)
    ]
