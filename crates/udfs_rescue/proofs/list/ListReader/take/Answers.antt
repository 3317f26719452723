use Rattle.std.proofs.Common.{Result, Ok, Err, OnOk, IfErr}
use Rattle.udfs_rescue.proofs.ListLines.{stands_end, fails_end}
use Rattle.udfs_rescue.proofs.list.ListReader.take.Goals as goal

ok_so : {X E : Type 0} (r : Result X E) (A B : Type 0) → (A → B) → OnOk r A → OnOk r B
ok_so (Ok x) A B f h = f h
ok_so (Err e) A B f h = tt

err_so : {X E : Type 0} (r : Result X E) (P Q : E → Type 0) → ((e : E) → P e → Q e) → IfErr r P → IfErr r Q
err_so (Ok x) P Q f h = tt
err_so (Err e) P Q f h = f e h

pub returns-then-byte-eq10-clause-ok : goal.returns-then-byte-eq10-clause-ok
returns-then-byte-eq10-clause-ok c =
    ok_so c.end_line.result _ _ (λ h says s. stands_end c.args.self.now c.end_line.new.self says c.args.byte c.if-byte-eq10.true h s) c.end_line.ensures.ok

pub returns-then-byte-eq10-clause-err : goal.returns-then-byte-eq10-clause-err
returns-then-byte-eq10-clause-err c =
    err_so c.end_line.result _ _ (λ e h says s rest. fails_end c.args.self.now says c.args.byte e c.if-byte-eq10.true h s rest) c.end_line.ensures.err
