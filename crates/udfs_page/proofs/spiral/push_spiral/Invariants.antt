use Rattle.std.proofs.Common.{◌≡◌, ◌++◌, get_or, length}
use Rattle.std.specs.Prelude.{flat_map}
use Rattle.std.specs.List.{range_with_len}
use Rattle.std.specs.String.{string_bytes}
use Rattle.udfs_page.specs.Spirals.{arc_text}
use Rattle.udfs_page.specs.declared.disc_arcs.Mark.TheVariants.{Known}
use Rattle.udfs_page.proofs.spiral.push_spiral.Given as goal

-- the arcs so far
abbrev pub invariant-loop-index : goal.invariant-loop-index
invariant-loop-index l = record {
  count : l.count ≡ length l.marks;
  text : string_bytes l.text ≡ string_bytes l.fn.text ++ flat_map (λ i. arc_text (length l.marks) l.blocks i (get_or l.marks i Known)) (range_with_len 0 l.index);
}
