use Rattle.std.proofs.Common.{◌∙◌, ◌++◌, [], ◌∷◌, ap, sym, map}
use Rattle.udfs_words.specs.Globs.{names_in}
use Rattle.udfs_words.proofs.GlobNaming.{joined, joined_none, name_ends}
use Rattle.udfs_words.proofs.glob_names.split_names.Goals as goal

pub loop-first-init : goal.loop-first-init
loop-first-init c =
    ap (λ names. map (λ name. name.items) names ++ joined c.new-name.result.items (names_in c.args.text.now)) c.new-names.ensures.items
    ∙ ap (λ begun. joined begun (names_in c.args.text.now)) c.new-name.ensures.items
    ∙ joined_none c.args.text.now

pub loop-first-preserved-in_ok-push : goal.loop-first-preserved-in_ok-push
loop-first-preserved-in_ok-push c =
    ap (λ names. map (λ name. name.items) names ++ joined c.new-name-then-first-eq47.result.items (names_in c.in-Some.others.now)) c.in_ok-push.ensures.items
    ∙ ap (λ begun. map (λ name. name.items) (c.loop-first.names.items ++ c.loop-first.name ∷ []) ++ joined begun (names_in c.in-Some.others.now)) c.new-name-then-first-eq47.ensures.items
    ∙ name_ends (λ name. name.items) c.loop-first.names.items c.loop-first.name c.in-Some.others.now
    ∙ ap (λ c_first. map (λ name. name.items) c.loop-first.names.items ++ joined c.loop-first.name.items (names_in (c_first ∷ c.in-Some.others.now))) (sym c.if-first-eq47.true)
    ∙ ap (λ rest. map (λ name. name.items) c.loop-first.names.items ++ joined c.loop-first.name.items (names_in rest)) (sym c.in-Some.ensures.cases.0)
    ∙ c.loop-first.invariant
