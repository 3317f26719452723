use Rattle.std.proofs.Common.{List, inl, inr, rules, string_bytes, subst, ℕ, ⊎_elim}
use Rattle.udfs_common.specs.Guarding.{AreInTheWay}
use Rattle.udfs_common.proofs.placing.find_places.Goals as goal

pub returns-then-not-is_apart-clause-spared : goal.returns-then-not-is_apart-clause-spared
returns-then-not-is_apart-clause-spared g c refused tells =
    let real = g.F.Files.real c.args.files.now in
    ⊎_elim
    (λ way. inr (inr (inr (inl (subst (λ (p : List ℕ). AreInTheWay p (real c.args.mapfile.now)) (c.in-Ok.ensures.leads tells)
    (subst (λ (q : List ℕ). AreInTheWay (string_bytes c.in-Ok.target.path) q) (c.in-Ok-place.ensures.leads tells) way))))))
    (λ one. inr (inr (inr (inr (inr (one.0, (c.in-Ok.ensures.same tells).known one.0 one.1, (c.in-Ok-place.ensures.same tells).known one.0 one.2))))))
    (c.is_apart.ensures.no (search rules))
