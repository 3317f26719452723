use Rattle.std.proofs.Common.{◌≡◌, ◌<◌, ◌≤◌, ◌∙◌, length, Some, ap, arith, refl, rules, slice_get, string_bytes, subst, sym, ⊎_elim}
use Rattle.std.proofs.lemmas.Bool.{cases_lt}
use Rattle.udfs_host_fs.specs.Disk.{folder_of}
use Rattle.udfs_extraction.specs.declared.naming.Put.{Put}
use Rattle.udfs_extraction.specs.declared.nodes.Fate.TheVariants.{Written}
use Rattle.udfs_extraction.proofs.PutNodes.{goes_on}
use Rattle.udfs_extraction.proofs.RunLemmas.{get_below, quiet_nothing}
use Rattle.udfs_extraction.proofs.naming.name_files.Goals as goal

pub loop-k-init : goal.loop-k-init
loop-k-init g c =
    let F = g.F.Files in
    record {
      named = λ tells. tt;
      kept = λ tells j put bytes d less. absurd (omega (arith, less));
      others = λ q. refl;
      crash = quiet_nothing F.moment F.may_leave F.left_since c.args.files.now;
    }

pub loop-k-preserved : goal.loop-k-preserved
loop-k-preserved g c =
    let F = g.F.Files in
    let inv = c.loop-k.invariant in
    let step = c.name_put.ensures in
    let ok = c.in-Ok.ensures in
    record {
      named = λ tells. ok.last tells (inv.named tells);
      kept = λ tells j put bytes d less at written is left. ⊎_elim
          (λ before.
          let after = step.crash.now d left in
          after.2 (string_bytes put.path) ∙ inv.kept tells j put bytes after.0 before at written (sym (step.others (string_bytes put.path)) ∙ is) after.1)
          (λ past.
          let last : j ≡ c.loop-k.k = omega (arith, less, past) in
          let same : c.put_at-put.result.now ≡ put = let e = sym c.put_at-put.ensures ∙ subst (λ i. slice_get c.args.puts.now i ≡ Some put) last at in cc in
          let named = ok.put tells (inv.named tells) (subst (λ (p : Put). p.done.fate ≡ Written) (sym same) written) in
          named (string_bytes put.path) bytes d (ap (λ (p : Put). folder_of (string_bytes p.path)) (sym same)) is left)
          (cases_lt j c.loop-k.k);
      others = λ q. step.others q ∙ inv.others q;
      crash = goes_on F.moment F.may_leave F.left_since c.args.files.now c.loop-k.files c.name_put.new.files _ _ _ inv.crash step.crash (λ d e same. same) (λ d e f one two q. two q ∙ one q);
    }

pub returns-in-Err-clause-others : goal.returns-in-Err-clause-others
returns-in-Err-clause-others g c q = c.name_put.ensures.others q ∙ c.loop-k.invariant.others q

pub returns-in-Err-clause-crash : goal.returns-in-Err-clause-crash
returns-in-Err-clause-crash g c =
    let F = g.F.Files in
    goes_on F.moment F.may_leave F.left_since c.args.files.now c.loop-k.files c.name_put.new.files _ _ _ c.loop-k.invariant.crash c.name_put.ensures.crash (λ d e same. same) (λ d e f one two q. two q ∙ one q)

pub returns-clause-kept : goal.returns-clause-kept
returns-clause-kept g c is tells k put bytes at written holds =
    let inv = c.loop-k.invariant in
    let below = get_below c.args.puts.now k put at in
    let end : length c.args.puts.now ≤ c.loop-k.k = search rules in
    let less : k < c.loop-k.k = omega (arith, below, end) in
    record { held = holds; durable = λ d left. inv.kept tells k put bytes d less at written holds left }
