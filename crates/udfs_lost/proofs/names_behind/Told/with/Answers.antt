use Rattle.std.proofs.Common.{◌∙◌, ap, false, sym, true}
use Rattle.udfs_lost.specs.FoundNames.{with_name}
use Rattle.udfs_lost.proofs.ToldLemmas.{not_false, not_true, told_again, told_before, told_new}
use Rattle.udfs_lost.proofs.names_behind.Told.with.Goals as goal

pub returns-then-not-branch : goal.returns-then-not-branch
returns-then-not-branch c =
    let fs = c.self.inside.names.items in
    let f = c.args.found in
    told_again fs f (told_before c.self.inside.keys fs c.in_ok-key.key f true c.self.invariant c.in_ok-key.ensures.0 c.in_ok-key.ensures.1 (not_false _ (sym c.if-not-branch.true ∙ c.in_ok-insert.ensures.added)))
    ∙ ap (λ l. with_name l f) c.self.view_is

pub returns : goal.returns
returns c =
    let fs = c.self.inside.names.items in
    let f = c.args.found in
    told_new fs c.push.new.self.items f (told_before c.self.inside.keys fs c.in_ok-key.key f false c.self.invariant c.in_ok-key.ensures.0 c.in_ok-key.ensures.1 (not_true _ (sym c.if-not-branch.false ∙ c.in_ok-insert.ensures.added))) c.in_ok-push.ensures.items
    ∙ ap (λ l. with_name l f) c.self.view_is
