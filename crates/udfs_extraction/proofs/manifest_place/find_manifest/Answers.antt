use Rattle.std.proofs.Common.{◌≡◌, ◌∙◌, Err, List, None, Some, ap, rules, string_bytes, subst, sym, ℕ, ◌++◌, codes, inl, inr, ⊎_elim}
use Rattle.udfs_host_fs.specs.Identities.{IsFileOf}
use Rattle.udfs_common.specs.declared.refusal.Refusal.TheVariants.{Spared}
use Rattle.udfs_extraction.specs.BarePaths.{bare}
use Rattle.udfs_extraction.specs.Manifests.{IsBeside, IsNear}
use Rattle.udfs_extraction.proofs.manifest_place.find_manifest.Goals as goal

pub returns-in-Absent-clause-free : goal.returns-in-Absent-clause-free
returns-in-Absent-clause-free g c tells =
    let F = g.F.Files in
    let at : c.as_str.result.now ≡ F.real c.args.files.now c.args.out.now = search rules in
    let same : IsFileOf (F.identity c.args.files.now (F.real c.args.files.now c.args.out.now)) (F.in_place c.args.files.now c.args.out.now) c.in-Ok-Ok.target.identity = search rules in
    let led : string_bytes c.in-Ok-Ok.target.path ≡ F.real c.args.files.now c.args.out.now = search rules in
    let none : F.holds c.args.files.now (F.real c.args.files.now c.args.out.now) ≡ Some None = search rules in
    record {
      no_input = c.in-Ok.ensures.inputs tells c.args.out.now led same;
      apart = c.in-Ok.ensures.parts tells c.args.out.now led same;
      beside = subst (IsBeside c.args.folder.now) at c.in-Ok-is_out_of_the_way.ensures.beside;
      away = subst (IsBeside (F.real c.args.files.now (bare c.args.folder.now))) at (c.in-Ok-is_out_of_the_way.ensures.away tells);
      of_kind = λ bytes is. let bad : Some None ≡ Some (Some bytes) = sym none ∙ is in absurd (let no : ⊥ = cc in no);
    }

pub returns-in-Ok-true-clause-free : goal.returns-in-Ok-true-clause-free
returns-in-Ok-true-clause-free g c tells =
    let F = g.F.Files in
    let at : c.as_str.result.now ≡ F.real c.args.files.now c.args.out.now = search rules in
    let same : IsFileOf (F.identity c.args.files.now (F.real c.args.files.now c.args.out.now)) (F.in_place c.args.files.now c.args.out.now) c.in-Ok-Ok.target.identity = search rules in
    let led : string_bytes c.in-Ok-Ok.target.path ≡ F.real c.args.files.now c.args.out.now = search rules in
    record {
      no_input = c.in-Ok.ensures.inputs tells c.args.out.now led same;
      apart = c.in-Ok.ensures.parts tells c.args.out.now led same;
      beside = subst (IsBeside c.args.folder.now) at c.in-Ok-is_out_of_the_way.ensures.beside;
      away = subst (IsBeside (F.real c.args.files.now (bare c.args.folder.now))) at (c.in-Ok-is_out_of_the_way.ensures.away tells);
      of_kind = c.in-Ok-true.ensures.yes c.in-Ok-true.field-0-test;
    }

pub returns-in-Err-is_out_of_the_way-clause-spared : goal.returns-in-Err-is_out_of_the_way-clause-spared
returns-in-Err-is_out_of_the_way-clause-spared g c refused tells =
    let F = g.F.Files in
    let at : c.as_str.result.now ≡ F.real c.args.files.now c.args.out.now = search rules in
    let is : c.in-Err-is_out_of_the_way.refusal ≡ Spared = cc in
    let near = c.in-Err-is_out_of_the_way.ensures.near (ap Err is) tells in
    ⊎_elim
    (λ typed. inr (inr (inl (subst (λ (p : List ℕ). IsNear c.args.folder.now p (p ++ codes ".unfinished")) at typed))))
    (λ real. inr (inr (inr (inl (subst (λ (p : List ℕ). IsNear (F.real c.args.files.now (bare c.args.folder.now)) p (p ++ codes ".unfinished")) at real)))))
    near
