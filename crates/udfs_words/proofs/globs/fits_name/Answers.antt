use Rattle.std.proofs.Common.{◌∙◌, ap, sym, false, length, map}
use Rattle.udfs_words.specs.Globs.{char_step}
use Rattle.udfs_words.specs.GlobRows.{last_from, next_row, some_fits}
use Rattle.udfs_words.proofs.GlobReaching.{at_first, at_last, first_places, no_things, one_step, same_places}
use Rattle.udfs_words.proofs.globs.fits_name.Goals as goal

pub loop-first-init : goal.loop-first-init
loop-first-init c = record {
  places = ap length c.in_ok-row.ensures ∙ first_places (length c.args.name.now);
  fits = sym (ap (λ row. some_fits row (map char_step c.args.pattern.now) c.args.name.now) c.in_ok-row.ensures ∙ at_first (length c.args.name.now) (map char_step c.args.pattern.now) c.args.name.now);
}

pub loop-first-preserved : goal.loop-first-preserved
loop-first-preserved c =
    let step = char_step c.in-Some.first.now in
    let row = c.in_ok-row-2.ensures ∙ ap (λ before. next_row step before c.args.name.now) c.deref.ensures.value in
    record {
      places = ap length row ∙ same_places step c.loop-first.row.items c.args.name.now c.loop-first.invariant.places;
      fits = c.loop-first.invariant.fits
          ∙ ap (λ rest. some_fits c.loop-first.row.items (map char_step rest) c.args.name.now) c.in-Some.ensures.cases.0
          ∙ sym (ap (λ now. some_fits now (map char_step c.in-Some.others.now) c.args.name.now) row
          ∙ one_step step c.loop-first.row.items (map char_step c.in-Some.others.now) c.args.name.now c.loop-first.invariant.places);
    }

pub returns : goal.returns
returns c =
    c.is_at_end.ensures
    ∙ ap (λ row. last_from false row) c.deref-2.ensures.value
    ∙ sym (at_last c.loop-first.row.items c.args.name.now c.loop-first.invariant.places)
    ∙ ap (λ rest. some_fits c.loop-first.row.items (map char_step rest) c.args.name.now) (sym (no_things c.loop-first.rest.now c.in_default.ensures.cases))
    ∙ sym c.loop-first.invariant.fits
