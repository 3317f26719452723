use Rattle.std.proofs.Common.{◌∙◌, sym, ap, Some}
use Rattle.std.specs.Prelude.{option_map}
use Rattle.byteorder.specs.Endian.{little_number}
use Rattle.udfs_volume.specs.Parts.{sparable_now}
use Rattle.udfs_volume.proofs.MapLemmas.{read_map-sparable}
use Rattle.udfs_volume.proofs.maps.read_map.Goals as goal

pub returns : goal.returns
returns c =
    ap (λ k. Some (sparable_now c.in-Some.map, k)) (c.read_u16-2.ensures ∙ ap (little_number 2) c.behind-2.ensures.value)
    ∙ read_map-sparable c.args.profile c.args.last c.args.left c.args.bytes.now (Some (sparable_now c.in-Some.map)) (sym c.is_whole_type1.ensures ∙ c.if-is_whole_type1.false) (sym c.is_whole_sparable.ensures ∙ c.if-not-is_whole_sparable.false)
    (ap (option_map sparable_now) (sym c.in-Some.is) ∙ c.in_ok-map.ensures)
