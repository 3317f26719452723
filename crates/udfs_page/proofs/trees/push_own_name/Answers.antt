use Rattle.std.proofs.Common.{◌≡◌, ◌++◌, subst, sym}
use Rattle.std.specs.Prelude.{OnOk}
use Rattle.std.specs.String.{string_bytes}
use Rattle.udfs_page.proofs.TreeNodes.{own_last}
use Rattle.udfs_page.proofs.trees.push_own_name.Goals as goal

pub returns-in-Some : goal.returns-in-Some
returns-in-Some c =
    subst (λ t. OnOk c.push_safe_name.result (string_bytes c.push_safe_name.new.text ≡ string_bytes c.args.text.now ++ t))
    (sym (own_last c.args.path.now c.in-Some.name.now c.in-Some.ensures)) c.push_safe_name.ensures.text
