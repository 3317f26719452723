use Rattle.std.proofs.Common.{◌≡◌, ◌⊎◌, ℕ, List, [], Some, inl, inr, rules, subst}
use Rattle.udfs_host_fs.specs.Disk.{After, Fails, IsOwn, Replaced, SinkFails}
use Rattle.udfs_host_fs.specs.Jobs.{JobBlames}
use Rattle.udfs_host_fs.specs.declared.replacing.JobError.{JobError}
use Rattle.udfs_common.specs.Keeping.{IsKept}
use Rattle.udfs_common.proofs.JobLemmas.{else_at, held_only, inside_as, kept_only, outside_as, put_each}
use Rattle.udfs_common.proofs.job_putting.put_job.Goals as goal

pub returns-in-Ok : goal.returns-in-Ok
returns-in-Ok g c =
    let F = g.F.Files in
    let Is : List ℕ → Type 0 = λ b. g.J.Job.wrote c.args.job.now (Some []) (Some b) in
    let path = c.as_str-in-Absent.result.now in
    let leads : F.tells → path ≡ F.real c.args.files.now c.args.out.now = search rules in
    record {
      written = λ bytes only. inl (λ tells. subst (λ (p : List ℕ). IsKept (F.holds c.replace_by_job.new.files) (F.may_leave c.replace_by_job.new.files) p bytes) (leads tells) (kept_only _ _ path bytes Is (only tells) (c.in-Ok.ensures.holds tells) (c.in-Ok.ensures.durable tells)));
      any_moment = λ bytes only tells place disk since. subst (λ (p : List ℕ). After (F.may_leave c.args.files.now) (Replaced p bytes) disk) (leads tells) (put_each F.moment F.may_leave F.left_since path bytes Is g.met.F.Files.only_now _ c.replace_by_job.new.files (only tells) (c.in-Ok.ensures.any_moment tells) disk (since));
      untouched = search rules;
      refused = search rules;
      given_up = search rules;
      unkept = search rules;
      elsewhere = λ tells place. else_at (λ (q : List ℕ). F.holds c.replace_by_job.new.files q ≡ F.holds c.args.files.now q) (leads tells) c.in-Ok.ensures.elsewhere;
      cause = search rules;
      left = search rules;
      told = search rules;
      why = search rules;
    }

pub returns-in-Err-Files-NotKept : goal.returns-in-Err-Files-NotKept
returns-in-Err-Files-NotKept g c =
    let F = g.F.Files in
    let Is : List ℕ → Type 0 = λ b. g.J.Job.wrote c.args.job.now (Some []) (Some b) in
    let path = c.as_str-in-Absent.result.now in
    let leads : F.tells → path ≡ F.real c.args.files.now c.args.out.now = search rules in
    let not_kept = c.in-Err-Files-NotKept.ensures.not_kept (search rules) in
    let held : F.tells → (bytes : List ℕ) → ((b : List ℕ) → Is b → b ≡ bytes) → F.holds c.replace_by_job.new.files (F.real c.args.files.now c.args.out.now) ≡ Some (Some bytes) =
    λ tells bytes only. subst (λ (p : List ℕ). F.holds c.replace_by_job.new.files p ≡ Some (Some bytes)) (leads tells) (held_only _ bytes Is only (not_kept tells)) in
    record {
      written = search rules;
      any_moment = λ bytes only tells place disk since. subst (λ (p : List ℕ). After (F.may_leave c.args.files.now) (Replaced p bytes) disk) (leads tells) (put_each F.moment F.may_leave F.left_since path bytes Is g.met.F.Files.only_now _ c.replace_by_job.new.files (only tells) (c.in-Err-Files-NotKept.ensures.any_moment tells) disk (since));
      untouched = search rules;
      refused = search rules;
      given_up = search rules;
      unkept = λ is tells bytes only. held tells bytes only;
      elsewhere = λ tells place. else_at (λ (q : List ℕ). F.holds c.replace_by_job.new.files q ≡ F.holds c.args.files.now q) (leads tells) c.in-Err-Files-NotKept.ensures.elsewhere;
      cause = search rules;
      left = λ bytes only. inr (record { failed = search rules; stands = λ tells place. inr (held tells bytes (only tells)); elsewhere = λ tells place. else_at (λ (q : List ℕ). F.holds c.replace_by_job.new.files q ≡ F.holds c.args.files.now q) (leads tells) c.in-Err-Files-NotKept.ensures.elsewhere });
      told = search rules;
      why = inr (inr (search rules), search rules);
    }

pub returns-in-Err-Files : goal.returns-in-Err-Files
returns-in-Err-Files g c =
    let F = g.F.Files in
    let Is : List ℕ → Type 0 = λ b. g.J.Job.wrote c.args.job.now (Some []) (Some b) in
    let path = c.as_str-in-Absent.result.now in
    let leads : F.tells → path ≡ F.real c.args.files.now c.args.out.now = search rules in
    let kept : F.tells → F.holds c.replace_by_job.new.files (F.real c.args.files.now c.args.out.now) ≡ F.holds c.args.files.now (F.real c.args.files.now c.args.out.now) =
    λ tells. subst (λ (q : List ℕ). F.holds c.replace_by_job.new.files q ≡ F.holds c.args.files.now q) (leads tells) (c.in-Err-Files.ensures.refused (search rules)) in
    let blamed = subst (λ (e : JobError _). JobBlames (g.J.Job.blames_sink c.args.job.now) (Fails F.faults ⊎ SinkFails g.F.Output.Sink.stream) e) c.in-Err-Files.field-0-is c.in-Err-Files.ensures.cause in
    let failed : F.shut c.args.files.now c.args.out.now ⊎ Fails F.faults ⊎ SinkFails g.F.Output.Sink.stream = inr (blamed (search rules)) in
    record {
      written = search rules;
      any_moment = λ bytes only tells place disk since. subst (λ (p : List ℕ). After (F.may_leave c.args.files.now) (Replaced p bytes) disk) (leads tells) (put_each F.moment F.may_leave F.left_since path bytes Is g.met.F.Files.only_now _ c.replace_by_job.new.files (only tells) (c.in-Err-Files.ensures.any_moment tells) disk (since));
      untouched = search rules;
      refused = λ is tells place. kept tells;
      given_up = search rules;
      unkept = search rules;
      elsewhere = λ tells place. else_at (λ (q : List ℕ). F.holds c.replace_by_job.new.files q ≡ F.holds c.args.files.now q) (leads tells) c.in-Err-Files.ensures.elsewhere;
      cause = λ is. failed;
      left = λ bytes only. inr (record { failed = failed; stands = λ tells place. inl (kept tells); elsewhere = λ tells place. else_at (λ (q : List ℕ). F.holds c.replace_by_job.new.files q ≡ F.holds c.args.files.now q) (leads tells) c.in-Err-Files.ensures.elsewhere });
      told = search rules;
      why = inr (inl (search rules), failed);
    }

pub returns-in-Err-Refused : goal.returns-in-Err-Refused
returns-in-Err-Refused g c =
    let F = g.F.Files in
    let Is : List ℕ → Type 0 = λ b. g.J.Job.wrote c.args.job.now (Some []) (Some b) in
    let path = c.as_str-in-Absent.result.now in
    let leads : F.tells → path ≡ F.real c.args.files.now c.args.out.now = search rules in
    let after = c.count_fault.new.self in
    let kept : F.tells → F.holds after (F.real c.args.files.now c.args.out.now) ≡ F.holds c.args.files.now (F.real c.args.files.now c.args.out.now) =
    λ tells. rw c.count_fault.ensures.holds (subst (λ (q : List ℕ). F.holds c.replace_by_job.new.files q ≡ F.holds c.args.files.now q) (leads tells) (c.in-Err-Refused.ensures.refused (search rules))) in
    let others : F.tells → (q : List ℕ) → (q ≡ F.real c.args.files.now c.args.out.now → ⊥) → (¬ IsOwn (F.real c.args.files.now c.args.out.now) q) → F.holds after q ≡ F.holds c.args.files.now q =
    λ tells q apart other. rw c.count_fault.ensures.holds (else_at (λ (q : List ℕ). F.holds c.replace_by_job.new.files q ≡ F.holds c.args.files.now q) (leads tells) c.in-Err-Refused.ensures.elsewhere q apart other) in
    record {
      written = search rules;
      any_moment = λ bytes only tells place disk since. subst (λ (p : List ℕ). After (F.may_leave c.args.files.now) (Replaced p bytes) disk) (leads tells) (put_each F.moment F.may_leave F.left_since path bytes Is g.met.F.Files.only_now _ c.replace_by_job.new.files (only tells) (c.in-Err-Refused.ensures.any_moment tells) disk (c.count_fault.ensures.left_since (F.moment c.args.files.now) disk since));
      untouched = search rules;
      refused = search rules;
      given_up = record { failed = inl (c.replace_by_job.new.files, after, c.count_fault.ensures.count); stands = λ tells place. inl (kept tells); elsewhere = λ tells place. others tells };
      unkept = search rules;
      elsewhere = λ tells place. others tells;
      cause = search rules;
      left = search rules;
      told = search rules;
      why = search rules;
    }

pub returns : goal.returns
returns g c =
    let F = g.F.Files in
    let Is : List ℕ → Type 0 = λ b. g.J.Job.wrote c.args.job.now (Some []) (Some b) in
    let path = c.as_str-in-Absent.result.now in
    let leads : F.tells → path ≡ F.real c.args.files.now c.args.out.now = search rules in
    let kept : F.tells → F.holds c.replace_by_job.new.files (F.real c.args.files.now c.args.out.now) ≡ F.holds c.args.files.now (F.real c.args.files.now c.args.out.now) =
    λ tells. subst (λ (q : List ℕ). F.holds c.replace_by_job.new.files q ≡ F.holds c.args.files.now q) (leads tells) (c.in-Err-RefusedLeft.ensures.refused (search rules)) in
    record {
      written = search rules;
      any_moment = λ bytes only tells place disk since. subst (λ (p : List ℕ). After (F.may_leave c.args.files.now) (Replaced p bytes) disk) (leads tells) (put_each F.moment F.may_leave F.left_since path bytes Is g.met.F.Files.only_now _ c.replace_by_job.new.files (only tells) (c.in-Err-RefusedLeft.ensures.any_moment tells) disk (since));
      untouched = search rules;
      refused = search rules;
      given_up = record { failed = subst (λ (e : JobError _). JobBlames (g.J.Job.blames_sink c.args.job.now) (Fails F.faults ⊎ SinkFails g.F.Output.Sink.stream) e) c.in-Err-RefusedLeft.field-0-is c.in-Err-RefusedLeft.ensures.cause; stands = λ tells place. inl (kept tells); elsewhere = λ tells place. else_at (λ (q : List ℕ). F.holds c.replace_by_job.new.files q ≡ F.holds c.args.files.now q) (leads tells) c.in-Err-RefusedLeft.ensures.elsewhere };
      unkept = search rules;
      elsewhere = λ tells place. else_at (λ (q : List ℕ). F.holds c.replace_by_job.new.files q ≡ F.holds c.args.files.now q) (leads tells) c.in-Err-RefusedLeft.ensures.elsewhere;
      cause = search rules;
      left = search rules;
      told = search rules;
      why = search rules;
    }

pub returns-in-Other-clause-given_up : goal.returns-in-Other-clause-given_up
returns-in-Other-clause-given_up g c =
    let there : g.F.Files.in_place c.args.files.now c.args.out.now = search rules in
    inside_as c.do_in_place.result (λ fails. record { failed = inl fails; stands = λ tells place. absurd (place there); elsewhere = λ tells place. absurd (place there) }) c.do_in_place.ensures.given_up

pub returns-in-Other-clause-left : goal.returns-in-Other-clause-left
returns-in-Other-clause-left g c =
    let there : g.F.Files.in_place c.args.files.now c.args.out.now = search rules in
    outside_as c.do_in_place.result (λ fails bytes only. inr (record { failed = inr fails; stands = λ tells place. absurd (place there); elsewhere = λ tells place. absurd (place there) })) c.do_in_place.ensures.cause
