use Rattle.std.proofs.Common.{[], ◌++◌, rules, refl, sym, ◌∙◌, append-nil, inl, inr}
use Rattle.std.proofs.lemmas.Result.{err_from_is_err_and}
use Rattle.std.proofs.KnownBytes.{Consumes-nil, Consumes-trans}
use Rattle.udfs_reading.specs.declared.error.ReadingFault.TheVariants.{State}
use Rattle.udfs_reading.specs.Format.{number, In}
use Rattle.udfs_reading.specs.PacketReading.{packet_format, packets_front, AtMasks}
use Rattle.udfs_reading.proofs.Ends.{fault_at, ends_cut}
use Rattle.udfs_reading.proofs.PacketSteps.{first_cut, second_cut, clash_here}
use Rattle.udfs_reading.proofs.packet_file.read_masks.Goals as goal

pub returns-in_err-known-clause-err : goal.returns-in_err-known-clause-err
returns-in_err-known-clause-err g c =
    let p = err_from_is_err_and c.from_residual.result c.from_residual.ensures.1 in
    rw (p.1, p.2) (λ count done next at. ends_cut packet_format (In (AtMasks count done c.args.packet)) (packets_front count done ++ number c.args.packet) [] next (sym (append-nil _)) (sym at) (Consumes-nil _) refl (first_cut c.in_err-known.ensures.err))

pub returns-in_err-conflict-clause-err : goal.returns-in_err-conflict-clause-err
returns-in_err-conflict-clause-err g c =
    let p = err_from_is_err_and c.from_residual-in_err-conflict.result c.from_residual-in_err-conflict.ensures.1 in
    rw (p.1, p.2) (λ count done next at. ends_cut packet_format (In (AtMasks count done c.args.packet)) (packets_front count done ++ number c.args.packet) [] next (sym (append-nil _)) (sym at) (Consumes-nil _) refl
    (second_cut c.in_ok-known.known c.in_ok-known.ensures.bytes c.in_ok-known.ensures.count c.in_err-conflict.ensures.err))

pub returns-then-known-conflict-ne0-clause-err : goal.returns-then-known-conflict-ne0-clause-err
returns-then-known-conflict-ne0-clause-err g c count done next at =
    let k = c.in_ok-known.known in
    let d = c.in_ok-conflict.conflict in
    record {
      got = number k ++ number d;
      given = Consumes-trans _ _ _ (number k) (number d) c.in_ok-known.ensures.bytes c.in_ok-conflict.ensures.bytes;
      why = (
        c.in_ok-conflict.ensures.count ∙ c.in_ok-known.ensures.count,
        fault_at packet_format (In (AtMasks count done c.args.packet)) (packets_front count done ++ number c.args.packet) [] (number k ++ number d) State c.args.entry next (sym (append-nil _)) (sym at)
            (clash_here k d (search rules) (search rules) (inl c.if-known-conflict-ne0.true)),
      );
    }

pub returns-then-conflict-eq0-clause-err : goal.returns-then-conflict-eq0-clause-err
returns-then-conflict-eq0-clause-err g c count done next at =
    let k = c.in_ok-known.known in
    let d = c.in_ok-conflict.conflict in
    record {
      got = number k ++ number d;
      given = Consumes-trans _ _ _ (number k) (number d) c.in_ok-known.ensures.bytes c.in_ok-conflict.ensures.bytes;
      why = (
        c.in_ok-conflict.ensures.count ∙ c.in_ok-known.ensures.count,
        fault_at packet_format (In (AtMasks count done c.args.packet)) (packets_front count done ++ number c.args.packet) [] (number k ++ number d) State c.args.entry next (sym (append-nil _)) (sym at)
            (clash_here k d (search rules) (search rules) (inr (c.if-known-eq0.true, c.if-conflict-eq0.true))),
      );
    }

pub returns-clause-at : goal.returns-clause-at
returns-clause-at g c input stands = c.in_ok-conflict.ensures.at input (c.in_ok-known.ensures.at input stands)
