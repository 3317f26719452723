use Rattle.std.proofs.Common.{rules, ◌≡◌, ◌<◌, ◌++◌, ◌∷◌, ◌-◌, ◌∙◌, Ok, ap, ap₂, arith, length, length-append, subst, sym, take}
use Rattle.udfs_osta.specs.Names.{units_of}
use Rattle.udfs_extraction.specs.ShortNames.{IsShortOf, front_count, short_end, short_name, unit_bytes}
use Rattle.udfs_extraction.proofs.ShortNameLemmas.{is_read, unit_bytes-append}
use Rattle.udfs_extraction.proofs.ShortNameSizes.{is_short_of}
use Rattle.udfs_extraction.proofs.short_names.short_name.Goals as goal

pub returns-in-Ok-clause-name : goal.returns-in-Ok-clause-name
returns-in-Ok-clause-name c =
    let name = c.args.name.now in
    let front = c.split_at.result.0.now in
    let end = c.as_bytes.result.now in
    let is_end : end ≡ short_end c.args.two c.args.icb = search rules in
    let room : c.saturating_sub.result ≡ 255 - length (short_end c.args.two c.args.icb) = search rules in
    let units : c.units-units.result.now ≡ name = search rules in
    let count : c.front_count-count.result ≡ front_count (255 - length (short_end c.args.two c.args.icb)) name = c.front_count-count.ensures.value ∙ ap₂ front_count room units in
    let is_front : front ≡ take (front_count (255 - length (short_end c.args.two c.args.icb)) name) name = c.split_at.ensures.front ∙ ap₂ take count units in
    let bytes : c.as_slice.result.now ≡ 16 ∷ (unit_bytes front ++ unit_bytes end) = search rules in
    let read : units_of c.as_slice.result.now ≡ Ok c.in-Ok.short = search rules in
    let given : units_of (16 ∷ unit_bytes (front ++ end)) ≡ Ok c.in-Ok.short = ap (λ l. units_of (16 ∷ l)) (unit_bytes-append front end) ∙ ap units_of (sym bytes) ∙ read in
    let some : 0 < length (front ++ end) = omega (arith, length-append front end, ap length is_end) in
    is_read c.in-Ok.short (front ++ end) some given ∙ ap₂ (λ x y. x ++ y) is_front is_end

pub returns-in-Ok-clause-longest : goal.returns-in-Ok-clause-longest
returns-in-Ok-clause-longest c =
    let is : c.in-Ok.short ≡ short_name c.args.two c.args.icb c.args.name.now = returns-in-Ok-clause-name c in
    subst (IsShortOf c.args.name.now (short_end c.args.two c.args.icb)) (sym is) (is_short_of c.args.two c.args.icb c.args.name.now (search rules) (search rules))
