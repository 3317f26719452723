use Rattle.std.proofs.Common.{◌≡◌, ◌++◌, subst, sym, Bool, List, ℕ, []}
use Rattle.std.proofs.lemmas.Bool.{ne_eqb}
use Rattle.std.specs.Prelude.{OnOk, codes, if◌then◌else◌}
use Rattle.std.specs.String.{string_bytes}
use Rattle.udfs_overview.specs.LeftOut.{wide_text, which_of}
use Rattle.udfs_overview.proofs.Chains.{last_appended}
use Rattle.udfs_overview.proofs.left_out.push_wide.Goals as goal

pub returns : goal.returns
unfolding wide_text
returns c =
    let old : List ℕ = string_bytes c.args.text.now in
    let new : List ℕ = string_bytes c.push_which.new.text in
    let first : List ℕ = codes ": --profile wide writes " in
    let rest : List ℕ = which_of c.args.all c.args.some in
    subst (λ (b : Bool). OnOk c.push_which.result (new ≡ old ++ (if b then [] else first ++ rest))) (sym (ne_eqb c.args.some 0 c.if-some-eq0.false))
    (last_appended c.push_which.result old (string_bytes c.push_str.new.self) new first rest c.in_ok-push_str.ensures.bytes c.push_which.ensures)
