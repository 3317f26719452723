use Rattle.std.proofs.Common.{All, string_bytes, sym, subst, arith}
use Rattle.std.proofs.lemmas.List.Elements.{All-push}
use Rattle.udfs_host_fs.specs.Disk.{IsOwn}
use Rattle.udfs_host_fs.proofs.replacing.own_names.Goals as goal

pub loop-more-preserved : goal.loop-more-preserved
loop-more-preserved c = record {
  count = omega (arith, c.in_ok-push.ensures.len, c.loop-more.invariant.count);
  own = subst (All (λ name. IsOwn c.args.path.now (string_bytes name))) (sym c.in_ok-push.ensures.items)
      (All-push (λ name. IsOwn c.args.path.now (string_bytes name)) c.loop-more.names.items c.in_ok-own_name.field-0 c.loop-more.invariant.own (_, c.in_ok-own_name.ensures));
}
