use Rattle.std.proofs.Common.{◌≡◌, ◌-◌, ◌∙◌, sym, ap, drop, map, Some, true, false}
use Rattle.std.specs.Prelude.{option_map}
use Rattle.udfs_volume.specs.Layout.{map_count, map_size, read_map}
use Rattle.udfs_volume.specs.Parts.{map_now, numbered_now}
use Rattle.udfs_volume.specs.Sequences.{descriptor_now}
use Rattle.udfs_volume.proofs.MapLemmas.{first_of, second_of, maps-none, maps-one, maps-half, maps-two, two_if}
use Rattle.udfs_volume.proofs.maps.read_maps.Goals as goal

pub returns-in_default : goal.returns-in_default
returns-in_default c =
    let lv = descriptor_now c.args.volume.now in
    let last = c.args.last in
    let profile = c.args.profile in
    let table = c.from-table.ensures.value in
    let first : option_map numbered_now c.in_ok-first.field-0 ≡ first_of profile last lv = c.in_ok-first.ensures ∙ (λ i. read_map profile last (c.uint32-left.ensures i) (table i)) in
    maps-none profile last lv c.requires (sym first ∙ ap (option_map numbered_now) c.in_default.is)

pub returns-then-uint32-eq1 : goal.returns-then-uint32-eq1
returns-then-uint32-eq1 c =
    let lv = descriptor_now c.args.volume.now in
    let last = c.args.last in
    let profile = c.args.profile in
    let table = c.from-table.ensures.value in
    let first : option_map numbered_now c.in_ok-first.field-0 ≡ first_of profile last lv = c.in_ok-first.ensures ∙ (λ i. read_map profile last (c.uint32-left.ensures i) (table i)) in
    let some : Some (numbered_now c.in-Some.first) ≡ first_of profile last lv = ap (option_map numbered_now) (sym c.in-Some.is) ∙ first in
    ap (λ ms. Some (map numbered_now ms)) c.in_ok-vec.ensures.items
    ∙ sym (maps-one profile last lv (numbered_now c.in-Some.first) (sym c.uint32.ensures ∙ c.if-uint32-eq1.true) (sym some))

pub returns-in_default-2 : goal.returns-in_default-2
returns-in_default-2 c =
    let lv = descriptor_now c.args.volume.now in
    let last = c.args.last in
    let profile = c.args.profile in
    let table = c.from-table.ensures.value in
    let first : option_map numbered_now c.in_ok-first.field-0 ≡ first_of profile last lv = c.in_ok-first.ensures ∙ (λ i. read_map profile last (c.uint32-left.ensures i) (table i)) in
    let some : Some (numbered_now c.in-Some.first) ≡ first_of profile last lv = ap (option_map numbered_now) (sym c.in-Some.is) ∙ first in
    let count = two_if (map_count lv) c.requires (λ e. c.if-uint32-eq1.false (c.uint32.ensures ∙ e)) in
    let second : option_map numbered_now c.in_ok-second.field-0 ≡ second_of profile last lv (map_size (map_now c.in-Some.first.kind)) =
    c.in_ok-second.ensures ∙ (λ i. read_map profile last ((c.saturating_sub.ensures ∙ (λ j. c.uint32-left.ensures j - c.size_of-size.ensures.value j)) i) ((c.behind.ensures.value ∙ (λ j. drop (c.size_of-size.ensures.value j) (table j))) i)) in
    sym (maps-half profile last lv (numbered_now c.in-Some.first) count (sym some) (sym second ∙ ap (option_map numbered_now) c.in_default-2.is))

pub returns-then-is_kind_of : goal.returns-then-is_kind_of
returns-then-is_kind_of c =
    let lv = descriptor_now c.args.volume.now in
    let last = c.args.last in
    let profile = c.args.profile in
    let table = c.from-table.ensures.value in
    let first : option_map numbered_now c.in_ok-first.field-0 ≡ first_of profile last lv = c.in_ok-first.ensures ∙ (λ i. read_map profile last (c.uint32-left.ensures i) (table i)) in
    let some : Some (numbered_now c.in-Some.first) ≡ first_of profile last lv = ap (option_map numbered_now) (sym c.in-Some.is) ∙ first in
    let count = two_if (map_count lv) c.requires (λ e. c.if-uint32-eq1.false (c.uint32.ensures ∙ e)) in
    let second : option_map numbered_now c.in_ok-second.field-0 ≡ second_of profile last lv (map_size (map_now c.in-Some.first.kind)) =
    c.in_ok-second.ensures ∙ (λ i. read_map profile last ((c.saturating_sub.ensures ∙ (λ j. c.uint32-left.ensures j - c.size_of-size.ensures.value j)) i) ((c.behind.ensures.value ∙ (λ j. drop (c.size_of-size.ensures.value j) (table j))) i)) in
    let also : Some (numbered_now c.in-Some-2.second) ≡ second_of profile last lv (map_size (map_now c.in-Some.first.kind)) = ap (option_map numbered_now) (sym c.in-Some-2.is) ∙ second in
    sym (maps-two profile last lv (numbered_now c.in-Some.first) (numbered_now c.in-Some-2.second) true count (sym some) (sym also) (sym c.is_kind_of.ensures ∙ c.if-is_kind_of.true))

pub returns : goal.returns
returns c =
    let lv = descriptor_now c.args.volume.now in
    let last = c.args.last in
    let profile = c.args.profile in
    let table = c.from-table.ensures.value in
    let first : option_map numbered_now c.in_ok-first.field-0 ≡ first_of profile last lv = c.in_ok-first.ensures ∙ (λ i. read_map profile last (c.uint32-left.ensures i) (table i)) in
    let some : Some (numbered_now c.in-Some.first) ≡ first_of profile last lv = ap (option_map numbered_now) (sym c.in-Some.is) ∙ first in
    let count = two_if (map_count lv) c.requires (λ e. c.if-uint32-eq1.false (c.uint32.ensures ∙ e)) in
    let second : option_map numbered_now c.in_ok-second.field-0 ≡ second_of profile last lv (map_size (map_now c.in-Some.first.kind)) =
    c.in_ok-second.ensures ∙ (λ i. read_map profile last ((c.saturating_sub.ensures ∙ (λ j. c.uint32-left.ensures j - c.size_of-size.ensures.value j)) i) ((c.behind.ensures.value ∙ (λ j. drop (c.size_of-size.ensures.value j) (table j))) i)) in
    let also : Some (numbered_now c.in-Some-2.second) ≡ second_of profile last lv (map_size (map_now c.in-Some.first.kind)) = ap (option_map numbered_now) (sym c.in-Some-2.is) ∙ second in
    ap (λ ms. Some (map numbered_now ms)) c.in_ok-vec-2.ensures.items
    ∙ sym (maps-two profile last lv (numbered_now c.in-Some.first) (numbered_now c.in-Some-2.second) false count (sym some) (sym also) (sym c.is_kind_of.ensures ∙ c.if-is_kind_of.false))
