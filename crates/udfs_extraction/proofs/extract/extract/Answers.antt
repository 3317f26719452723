use Rattle.std.proofs.Common.{inl, inr, option_map, refl, string_bytes, ⊎_elim}
use Rattle.udfs_extraction.proofs.extract.extract.Goals as goal

pub returns-in-Err-clause-why : goal.returns-in-Err-clause-why
returns-in-Err-clause-why g c = inl (refl, refl, inl refl)

pub returns-in-Err-clause-left : goal.returns-in-Err-clause-left
returns-in-Err-clause-left g c = inl refl

pub returns-in-Err-find_places-clause-why : goal.returns-in-Err-find_places-clause-why
returns-in-Err-find_places-clause-why g c = inl (refl, refl, c.in-Err-find_places.ensures.why)

pub returns-in-Err-find_places-clause-left : goal.returns-in-Err-find_places-clause-left
returns-in-Err-find_places-clause-left g c = inl refl

pub returns-in-Ok-extract_volume-clause-done : goal.returns-in-Ok-extract_volume-clause-done
returns-in-Ok-extract_volume-clause-done g c = record {
  free = c.in-Ok-find_places.ensures.free;
  place = option_map string_bytes c.in-Ok-find_places.place;
  is_place = c.in-Ok-find_places.ensures.leads;
  good = c.in-Ok-extract_volume.good;
  of = c.in-Ok-extract_volume.ensures.made;
  says = c.told_good.ensures;
}

pub returns-in-Ok-extract_volume-clause-left : goal.returns-in-Ok-extract_volume-clause-left
returns-in-Ok-extract_volume-clause-left g c = ⊎_elim (λ same. inl same) (λ spares. inr (c.in-Ok-find_places.ensures.free, (option_map string_bytes c.in-Ok-find_places.place, c.in-Ok-find_places.ensures.leads, spares))) c.extract_volume.ensures.spares

pub returns-clause-left : goal.returns-clause-left
returns-clause-left g c = ⊎_elim (λ same. inl same) (λ spares. inr (c.in-Ok-find_places.ensures.free, (option_map string_bytes c.in-Ok-find_places.place, c.in-Ok-find_places.ensures.leads, spares))) c.extract_volume.ensures.spares

pub returns-clause-why : goal.returns-clause-why
returns-clause-why g c = ⊎_elim (λ none. inl (none.0, none.1, inr (inr (inr (inr none.2))))) (λ disc. inr (option_map string_bytes c.in-Ok-find_places.place, c.in-Ok-find_places.ensures.leads, disc)) c.in-Err-extract_volume.ensures.why
