use Rattle.std.proofs.Common.{◌≡◌, ◌∙◌, ◌+◌, ap, subst, sym, drop, ◌++◌, ◌∷◌, []}
use Rattle.udfs_space.specs.Views.{view_by}
use Rattle.udfs_walk.specs.Frames.{IsFrameOf, frame_at}
use Rattle.udfs_walk.specs.Routes.{inside}
use Rattle.udfs_walk.specs.Unsettled.{unsettled}
use Rattle.udfs_walk.specs.Visits.{end_at}
use Rattle.udfs_walk.proofs.Owed.{drop_next, some_left, step_refused}
use Rattle.udfs_walk.proofs.walks.Frame.step.Goals as goal

pub returns-clause-taken : goal.returns-clause-taken
returns-clause-taken g c told =
    let v = view_by g.B.BlockStore.states c.args.view in
    let f = c.args.self.now in
    let e = c.in-Some.entry.now in
    let slice = c.deref-2.ensures.value ∙ ap (λ v. v.items) c.deref.ensures in
    let name = c.in_ok-clone.ensures.cases ∙ ap (λ x. x.name) c.entry.view_is in
    let path = c.in_ok-path.ensures ∙ (λ i. (c.self.view_is i).path ++ name i ∷ []) in
    let above = c.deref-3.ensures.value ∙ ap (λ f. f.above) c.self.view_is in
    let hidden = c.contains-hidden.ensures tt ∙ ap (λ x. (inside f.path f.above x).hidden) c.entry.view_is in
    let walk : end_at c.entry.inside.icb c.in_ok-path.path c.deref-3.result.now c.contains-hidden.result ≡ inside f.path f.above e = (λ i. end_at (c.entry.view_is i).icb (path i) (above i) (hidden i)) in
    record {
      entry = e;
      first = sym (ap (λ f. f.left) c.self.view_is) ∙ (λ i. drop c.self.inside.passed (sym slice i))
          ∙ drop_next c.deref-2.result.now c.self.inside.passed e c.in-Some.ensures.lookup.3.0 c.in-Some.ensures.lookup.1 ∙ (λ i. e ∷ drop (c.self.inside.passed + 1) (slice i));
      path = ap (λ f. f.path) c.self.view_is;
      above = ap (λ f. f.above) c.self.view_is;
      node = c.in_ok-entered.ensures.node told ∙ ap (unsettled v) walk;
      frame = subst (λ w. IsFrameOf c.in_ok-entered.entered.1 (frame_at v w)) walk (c.in_ok-entered.ensures.frame told);
    }

pub returns-in_err-entered-clause-refused : goal.returns-in_err-entered-clause-refused
returns-in_err-entered-clause-refused g c =
    let v = view_by g.B.BlockStore.states c.args.view in
    let f = c.args.self.now in
    let e = c.in-Some.entry.now in
    let slice = c.deref-2.ensures.value ∙ ap (λ v. v.items) c.deref.ensures in
    let name = c.in_ok-clone.ensures.cases ∙ ap (λ x. x.name) c.entry.view_is in
    let path = c.in_ok-path.ensures ∙ (λ i. (c.self.view_is i).path ++ name i ∷ []) in
    let above = c.deref-3.ensures.value ∙ ap (λ f. f.above) c.self.view_is in
    let hidden = c.contains-hidden.ensures tt ∙ ap (λ x. (inside f.path f.above x).hidden) c.entry.view_is in
    let walk : end_at c.entry.inside.icb c.in_ok-path.path c.deref-3.result.now c.contains-hidden.result ≡ inside f.path f.above e = (λ i. end_at (c.entry.view_is i).icb (path i) (above i) (hidden i)) in
    step_refused g.B.BlockStore.tells v c.args.most f e (drop (c.self.inside.passed + 1) c.deref-2.result.now) _ c.from_residual-in_err-entered.result c.in_err-entered.field-0.0 c.from_residual-in_err-entered.ensures.1
    (sym (ap (λ f. f.left) c.self.view_is) ∙ (λ i. drop c.self.inside.passed (sym slice i))
    ∙ drop_next c.deref-2.result.now c.self.inside.passed e c.in-Some.ensures.lookup.3.0 c.in-Some.ensures.lookup.1)
    walk c.in_err-entered.ensures.refused

pub returns-clause-idle : goal.returns-clause-idle
returns-clause-idle g c none =
    let slice = c.deref-2.ensures.value ∙ ap (λ v. v.items) c.deref.ensures in
    absurd (some_left c.deref-2.result.now c.self.inside.passed c.in-Some.ensures.lookup.3.0 ((λ i. drop c.self.inside.passed (slice i)) ∙ ap (λ f. f.left) c.self.view_is ∙ none))

pub returns-in_err-entered-clause-idle : goal.returns-in_err-entered-clause-idle
returns-in_err-entered-clause-idle g c none =
    let slice = c.deref-2.ensures.value ∙ ap (λ v. v.items) c.deref.ensures in
    absurd (some_left c.deref-2.result.now c.self.inside.passed c.in-Some.ensures.lookup.3.0 ((λ i. drop c.self.inside.passed (slice i)) ∙ ap (λ f. f.left) c.self.view_is ∙ none))
