use Rattle.std.proofs.Common.{◌∙◌, ap, ◌+◌, ◌-◌, length, take, drop}
use Rattle.std.specs.Prelude.{is_some}
use Rattle.udfs_osta.specs.Names.{fault_of, units_of}
use Rattle.udfs_file.specs.Steps.{bytes_of}
use Rattle.udfs_file.proofs.StepLemmas.{part_two}
use Rattle.udfs_file.proofs.cursors.has_bad_name.Goals as goal

pub returns : goal.returns
returns c = c.is_some.ensures ∙ ap is_some (c.fault.ensures ∙ ap (λ b. fault_of (units_of b))
    (part_two c.args.view.now.first.now c.args.view.now.second.now c.slice_of-first.result.now c.slice_of-second.result.now (38 + c.uint16.result) c.uint8-count.result c.slice_of-first.ensures
    (c.slice_of-second.ensures ∙ ap (λ n. take (c.uint8-count.result - length c.slice_of-first.result.now) (drop n c.args.view.now.second.now)) c.saturating_sub.ensures)))
    ∙ (λ i. is_some (fault_of (units_of (take (c.uint8-count.ensures i) (drop (38 + c.uint16.ensures i) (bytes_of c.args.view.now))))))
