use Rattle.std.proofs.Common.{◌∙◌, ◌∷◌, ap, sym, length, map, suc, take, true}
use Rattle.udfs_words.specs.Globs.{name_step}
use Rattle.udfs_words.specs.GlobRows.{next_row, some_fits, unreached}
use Rattle.udfs_words.proofs.GlobFronts.{front_first, front_next, front_places, whole_front}
use Rattle.udfs_words.proofs.GlobReaching.{at_first, at_last, first_places, no_things, one_step, same_count, same_places}
use Rattle.udfs_words.proofs.globs.name_places.Goals as goal

pub loop-first-init : goal.loop-first-init
loop-first-init c =
    let steps = map name_step (map (λ name. name.items) c.args.pattern.now) in
    let names = map (λ name. name.items) c.args.names.now in
    let begun = c.in_ok-row.ensures ∙ ap (λ count. true ∷ unreached count) (sym (same_count (λ name. name.items) c.args.names.now)) in
    record {
      places = ap length begun ∙ first_places (length names);
      fits = λ k. sym (ap (λ row. some_fits (take (suc k) row) steps (take k names)) begun
          ∙ ap (λ row. some_fits (true ∷ row) steps (take k names)) (front_first names k)
          ∙ at_first (length (take k names)) steps (take k names));
    }

pub loop-first-preserved : goal.loop-first-preserved
loop-first-preserved c =
    let steps = map name_step (map (λ name. name.items) c.in-Some.others.now) in
    let names = map (λ name. name.items) c.args.names.now in
    let step = name_step c.in-Some.first.now.items in
    let before = c.loop-first.row.items in
    let row = c.in_ok-row-2.ensures
    ∙ ap (λ pattern. next_row (name_step pattern) c.deref-in-Some.result.now names) c.deref.ensures.value
    ∙ ap (λ earlier. next_row step earlier names) c.deref-in-Some.ensures.value in
    record {
      places = ap length row ∙ same_places step before names c.loop-first.invariant.places;
      fits = λ k. c.loop-first.invariant.fits k
          ∙ ap (λ rest. some_fits (take (suc k) before) (map name_step (map (λ name. name.items) rest)) (take k names)) c.in-Some.ensures.cases.0
          ∙ sym (ap (λ now. some_fits (take (suc k) now) steps (take k names)) row
          ∙ ap (λ now. some_fits now steps (take k names)) (front_next step before names k)
          ∙ one_step step (take (suc k) before) steps (take k names) (front_places before names k c.loop-first.invariant.places));
    }

pub returns-clause-fronts : goal.returns-clause-fronts
returns-clause-fronts c = λ k.
    let names = map (λ name. name.items) c.args.names.now in
    c.loop-first.invariant.fits k
    ∙ ap (λ rest. some_fits (take (suc k) c.loop-first.row.items) (map name_step (map (λ name. name.items) rest)) (take k names)) (no_things c.loop-first.rest.now c.in_default.ensures.cases)
    ∙ at_last (take (suc k) c.loop-first.row.items) (take k names) (front_places c.loop-first.row.items names k c.loop-first.invariant.places)

pub returns-clause-all : goal.returns-clause-all
returns-clause-all c = whole_front (map name_step (map (λ name. name.items) c.args.pattern.now)) (map (λ name. name.items) c.args.names.now) c.loop-first.row.items
    c.loop-first.invariant.places (λ k. returns-clause-fronts c k)
