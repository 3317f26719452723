use Rattle.std.proofs.Common.{◌≡◌, ◌≢◌, ◌∙◌, refl, rules, sym, true, false}
use Rattle.udfs_extraction.specs.declared.nodes.Fate.TheVariants.{Written}
use Rattle.udfs_extraction.proofs.naming.end_of.Goals as goal

pub returns-then-named-clause-end : goal.returns-then-named-clause-end
returns-then-named-clause-end g c =
    let is : c.args.named ≡ true = search rules in
    record { same = λ named. refl; unwritten = λ never. refl; given_up = λ not written. let bad : true ≡ false = sym is ∙ not in absurd (let no : ⊥ = cc in no) }

pub returns-then-ne-clause-end : goal.returns-then-ne-clause-end
returns-then-ne-clause-end g c =
    let never : c.args.put.now.done.fate ≢ Written = search rules in
    record { same = λ named. refl; unwritten = λ other. refl; given_up = λ not written. absurd (never written) }

pub returns-clause-end : goal.returns-clause-end
returns-clause-end g c =
    let not_named : c.args.named ≡ false = search rules in
    let was : c.args.put.now.done.fate ≡ Written = search rules in
    record { same = λ is. let bad : true ≡ false = sym is ∙ not_named in absurd (let no : ⊥ = cc in no); unwritten = λ never. absurd (never was); given_up = λ not written. c.give_up.ensures.fate }
