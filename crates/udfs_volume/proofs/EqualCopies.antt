-- Copies that are equal in every descriptor say the same of the layout.
use Rattle.udfs_volume.specs.declared.profiles.Profile.{Profile}
use Rattle.udfs_volume.specs.Laws.{EqualCopiesAreLawfulBy}

pub equal_copies : (profile : Profile) → EqualCopiesAreLawfulBy profile
equal_copies profile V N h = record {
  anchored = h.anchored;
  anchors = h.anchors;
  copies = λ e i q t. let c = h.copies e i q t in record { soundness = c.soundness; identifiers = c.identifiers; contents = λ s read. c.contents s };
  laid_out = h.laid_out;
}
