use Rattle.std.proofs.Common.{◌≡◌, ◌⊎◌, ℕ, List, [], Some, inl, inr, rules, subst, ⊎_elim}
use Rattle.std.specs.Io.KnownBytes.{Appends}
use Rattle.udfs_host_fs.specs.Disk.{Fails, SinkFails}
use Rattle.udfs_host_fs.specs.Jobs.{JobBlames}
use Rattle.udfs_host_fs.specs.declared.replacing.JobError.{JobError}
use Rattle.udfs_lattice.specs.Tables.{Table}
use Rattle.udfs_rescue.specs.Images.{image_bytes}
use Rattle.udfs_common.proofs.JobLemmas.{held_only, kept_only, replaced_only}
use Rattle.udfs_tables.proofs.ImagingLemmas.{goes_wider}
use Rattle.udfs_tables.proofs.pairing.put_blocks.Goals as goal

pub returns-in-Ok : goal.returns-in-Ok
returns-in-Ok g c =
    let image = c.args.image.now in
    let Is : List ℕ → Type 0 = λ b. (t : Table) → g.T.Imaged.shows image.of.now t → Appends (Some []) (Some b) (image_bytes t image.last) in
    record {
      kept = λ t shows tells. kept_only _ _ c.args.path.now (image_bytes t image.last) Is (λ b wrote. wrote t (shows tells)) (c.in-Ok.ensures.holds tells) (c.in-Ok.ensures.durable tells);
      either = λ t shows tells. inr (held_only _ (image_bytes t image.last) Is (λ b wrote. wrote t (shows tells)) (c.in-Ok.ensures.holds tells));
      elsewhere = search rules;
      why = search rules;
      crash = λ t shows tells. goes_wider _ _ _ _ _ _ _ (c.in-Ok.ensures.any_moment tells) (λ d e by. replaced_only c.args.path.now (image_bytes t image.last) Is d e (λ b wrote. wrote t (shows tells)) by);
    }

pub returns-in-Err-Files-OutOfMemory : goal.returns-in-Err-Files-OutOfMemory
returns-in-Err-Files-OutOfMemory g c =
    let image = c.args.image.now in
    let Is : List ℕ → Type 0 = λ b. (t : Table) → g.T.Imaged.shows image.of.now t → Appends (Some []) (Some b) (image_bytes t image.last) in
    record {
      kept = search rules;
      either = λ t shows tells. inl (c.in-Err-Files-OutOfMemory.ensures.refused (search rules));
      elsewhere = search rules;
      why = inl (inl (search rules));
      crash = λ t shows tells. goes_wider _ _ _ _ _ _ _ (c.in-Err-Files-OutOfMemory.ensures.any_moment tells) (λ d e by. replaced_only c.args.path.now (image_bytes t image.last) Is d e (λ b wrote. wrote t (shows tells)) by);
    }

pub returns-in-Err-Files-NotKept : goal.returns-in-Err-Files-NotKept
returns-in-Err-Files-NotKept g c =
    let image = c.args.image.now in
    let Is : List ℕ → Type 0 = λ b. (t : Table) → g.T.Imaged.shows image.of.now t → Appends (Some []) (Some b) (image_bytes t image.last) in
    let not_kept = c.in-Err-Files-NotKept.ensures.not_kept (search rules) in
    record {
      kept = search rules;
      either = λ t shows tells. inr (held_only _ (image_bytes t image.last) Is (λ b wrote. wrote t (shows tells)) (not_kept tells));
      elsewhere = search rules;
      why = inl (inr (inr (search rules), search rules));
      crash = λ t shows tells. goes_wider _ _ _ _ _ _ _ (c.in-Err-Files-NotKept.ensures.any_moment tells) (λ d e by. replaced_only c.args.path.now (image_bytes t image.last) Is d e (λ b wrote. wrote t (shows tells)) by);
    }

pub returns-in-Err-Files : goal.returns-in-Err-Files
returns-in-Err-Files g c =
    let image = c.args.image.now in
    let Is : List ℕ → Type 0 = λ b. (t : Table) → g.T.Imaged.shows image.of.now t → Appends (Some []) (Some b) (image_bytes t image.last) in
    let blamed = subst (λ (e : JobError _). JobBlames (g.T.Imaged.blames image.of.now) (Fails g.F.Files.faults ⊎ SinkFails g.F.Output.Sink.stream) e) c.in-Err-Files.field-0-is c.in-Err-Files.ensures.cause in
    record {
      kept = search rules;
      either = λ t shows tells. inl (c.in-Err-Files.ensures.refused (search rules));
      elsewhere = search rules;
      why = inl (inr (inl (search rules), blamed (search rules)));
      crash = λ t shows tells. goes_wider _ _ _ _ _ _ _ (c.in-Err-Files.ensures.any_moment tells) (λ d e by. replaced_only c.args.path.now (image_bytes t image.last) Is d e (λ b wrote. wrote t (shows tells)) by);
    }

pub returns-in-Err-Refused : goal.returns-in-Err-Refused
returns-in-Err-Refused g c =
    let image = c.args.image.now in
    let Is : List ℕ → Type 0 = λ b. (t : Table) → g.T.Imaged.shows image.of.now t → Appends (Some []) (Some b) (image_bytes t image.last) in
    let blamed = subst (λ (e : JobError _). JobBlames (g.T.Imaged.blames image.of.now) (Fails g.F.Files.faults ⊎ SinkFails g.F.Output.Sink.stream) e) c.in-Err-Refused.field-0-is c.in-Err-Refused.ensures.cause in
    record {
      kept = search rules;
      either = λ t shows tells. inl (c.in-Err-Refused.ensures.refused (search rules));
      elsewhere = search rules;
      why = ⊎_elim (λ out. inl (inr (inl out.0, blamed out.1))) (λ reread. inr reread) c.refusal.ensures;
      crash = λ t shows tells. goes_wider _ _ _ _ _ _ _ (c.in-Err-Refused.ensures.any_moment tells) (λ d e by. replaced_only c.args.path.now (image_bytes t image.last) Is d e (λ b wrote. wrote t (shows tells)) by);
    }

pub returns-in-Err-RefusedLeft : goal.returns-in-Err-RefusedLeft
returns-in-Err-RefusedLeft g c =
    let image = c.args.image.now in
    let Is : List ℕ → Type 0 = λ b. (t : Table) → g.T.Imaged.shows image.of.now t → Appends (Some []) (Some b) (image_bytes t image.last) in
    let blamed = subst (λ (e : JobError _). JobBlames (g.T.Imaged.blames image.of.now) (Fails g.F.Files.faults ⊎ SinkFails g.F.Output.Sink.stream) e) c.in-Err-RefusedLeft.field-0-is c.in-Err-RefusedLeft.ensures.cause in
    record {
      kept = search rules;
      either = λ t shows tells. inl (c.in-Err-RefusedLeft.ensures.refused (search rules));
      elsewhere = search rules;
      why = ⊎_elim (λ out. inl (inr (inl out.0, blamed))) (λ reread. inr reread) c.refusal-in-Err-RefusedLeft.ensures;
      crash = λ t shows tells. goes_wider _ _ _ _ _ _ _ (c.in-Err-RefusedLeft.ensures.any_moment tells) (λ d e by. replaced_only c.args.path.now (image_bytes t image.last) Is d e (λ b wrote. wrote t (shows tells)) by);
    }
