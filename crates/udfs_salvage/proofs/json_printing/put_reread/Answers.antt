use Rattle.udfs_salvage.proofs.json_printing.put_reread.Goals as goal

pub put_value-requires : goal.put_value-requires
put_value-requires g c = c.in_ok-value.ensures.plain
