use Rattle.std.proofs.Common.{inl, inr, refl, rules}
use Rattle.std.proofs.lemmas.Result.{on_err_weaker}
use Rattle.udfs_host_fs.specs.Disk.{After, Replaced}
use Rattle.udfs_common.proofs.putting.put_file.Goals as goal

pub returns-in-Err-NotKept-clause-left : goal.returns-in-Err-NotKept-clause-left
returns-in-Err-NotKept-clause-left g c = inr (record { failed = search rules; stands = λ tells file. inr (search rules); elsewhere = search rules })

pub returns-in-Other-clause-left : goal.returns-in-Other-clause-left
returns-in-Other-clause-left g c =
    let here : g.F.Files.in_place c.args.files.now c.args.out.now = search rules in
    on_err_weaker c.write_in_place.result
    (λ failed. inr (record { failed = inr failed; stands = λ tells file. absurd (file here); elsewhere = λ tells file. absurd (file here) }))
    c.write_in_place.ensures.cause

pub returns-clause-left : goal.returns-clause-left
returns-clause-left g c = inr (record { failed = inr (c.in-Err-replace.ensures.cause (search rules)); stands = λ tells file. inl (search rules); elsewhere = search rules })

pub returns-in-Err-NotKept-clause-puts : goal.returns-in-Err-NotKept-clause-puts
returns-in-Err-NotKept-clause-puts g c =
    let F = g.F.Files in
    let bytes = g.C.Content.bytes c.args.content.now in
    record {
      put = tt;
      left = inr (inr (refl, search rules, λ tells. (bytes, refl, search rules)));
      any_moment = λ tells place d since.
          let a : After (F.may_leave c.args.files.now) (Replaced (F.real c.args.files.now c.args.out.now) bytes) d = search rules in
          (a.0, a.1, inr (bytes, refl, a.2));
      elsewhere = search rules;
    }

pub returns-clause-puts : goal.returns-clause-puts
returns-clause-puts g c =
    let F = g.F.Files in
    let bytes = g.C.Content.bytes c.args.content.now in
    record {
      put = tt;
      left = inr (inl (inl refl, inr (c.in-Err-replace.ensures.cause (search rules)), search rules));
      any_moment = λ tells place d since.
          let a : After (F.may_leave c.args.files.now) (Replaced (F.real c.args.files.now c.args.out.now) bytes) d = search rules in
          (a.0, a.1, inr (bytes, refl, a.2));
      elsewhere = search rules;
    }
