use Rattle.std.proofs.Common.{◌≡◌, ◌<◌, ◌^◌, rules, sym, subst}
use Rattle.std.specs.Prelude.{Ok}
use Rattle.std.specs.List.{All}
use Rattle.std.proofs.lemmas.Grind.{get_or_default_zero}
use Rattle.udfs_osta.specs.Names.{units_of}
use Rattle.udfs_osta.proofs.NameUnits.{IsName-units_of}
use Rattle.udfs_osta.proofs.names.Name.read.Goals as goal

pub invariant_of-result : goal.invariant_of-result
invariant_of-result c =
    let bytes = c.args.bytes.now in
    let e : units_of bytes ≡ Ok c.in-Ok.units.items = search rules in
    let range : All (λ b. b < 2 ^ 8) bytes =
    λ k d h. subst (λ b. b < 2 ^ 8) (sym (get_or_default_zero bytes k d h)) (c.type_inv.bytes k).fits in
    IsName-units_of bytes c.in-Ok.units.items range e

pub returns-in-Ok-clause-name : goal.returns-in-Ok-clause-name
returns-in-Ok-clause-name c =
    let bytes = c.args.bytes.now in
    let e : units_of bytes ≡ Ok c.in-Ok.units.items = search rules in
    let range : All (λ b. b < 2 ^ 8) bytes =
    λ k d h. subst (λ b. b < 2 ^ 8) (sym (get_or_default_zero bytes k d h)) (c.type_inv.bytes k).fits in
    IsName-units_of bytes c.in-Ok.units.items range e
