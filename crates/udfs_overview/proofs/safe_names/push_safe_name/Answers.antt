use Rattle.std.proofs.Common.{◌≡◌, ◌++◌, OnOk, subst}
use Rattle.std.specs.String.{string_bytes}
use Rattle.udfs_overview.proofs.SafeParts.{characters_safe}
use Rattle.udfs_overview.proofs.SafeShowing.{by_dots, by_others}
use Rattle.udfs_overview.proofs.SafeTelling.{units_from_safe_name}
use Rattle.udfs_overview.proofs.safe_names.push_safe_name.Goals as goal

pub returns-then-is_dots-clause-text : goal.returns-then-is_dots-clause-text
returns-then-is_dots-clause-text c =
    subst (λ x. OnOk c.write_escapes.result (string_bytes c.write_escapes.new.text ≡ string_bytes c.args.text.now ++ x))
    (by_dots _ c.args.name.now c.is_dots.result c.units-units.ensures.value c.is_dots.ensures c.if-is_dots.true) c.write_escapes.ensures.ok

pub returns-then-is_dots-clause-safe : goal.returns-then-is_dots-clause-safe
returns-then-is_dots-clause-safe c = characters_safe c.args.name.now c.units-units.ensures.name.range

pub returns-then-is_dots-clause-alone : goal.returns-then-is_dots-clause-alone
returns-then-is_dots-clause-alone c =
    λ other range same. units_from_safe_name other c.args.name.now range c.units-units.ensures.name.range same

pub returns-else-is_dots-clause-text : goal.returns-else-is_dots-clause-text
returns-else-is_dots-clause-text c =
    subst (λ x. OnOk c.push_units.result (string_bytes c.push_units.new.text ≡ string_bytes c.args.text.now ++ x))
    (by_others _ c.args.name.now c.is_dots.result c.units-units.ensures.value c.is_dots.ensures c.if-is_dots.false) c.push_units.ensures

pub returns-else-is_dots-clause-safe : goal.returns-else-is_dots-clause-safe
returns-else-is_dots-clause-safe c = characters_safe c.args.name.now c.units-units.ensures.name.range

pub returns-else-is_dots-clause-alone : goal.returns-else-is_dots-clause-alone
returns-else-is_dots-clause-alone c =
    λ other range same. units_from_safe_name other c.args.name.now range c.units-units.ensures.name.range same
