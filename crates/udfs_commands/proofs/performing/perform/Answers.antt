use Rattle.std.proofs.Common.{refl}
use Rattle.udfs_common.proofs.PutsLemmas.{spares}
use Rattle.udfs_commands.proofs.PerformingLemmas.{all_done, all_failed, any_failed, both, map_left, unchanged, where_some}
use Rattle.udfs_commands.proofs.performing.perform.Goals as goal

pub returns-in-Merge-clause-done : goal.returns-in-Merge-clause-done
returns-in-Merge-clause-done g c = rw c.in-Merge.is (rw c.all_or_none.ensures (all_done _ _ _ c.merge.ensures.puts.put c.merge.ensures.free))

pub returns-in-Merge-clause-left : goal.returns-in-Merge-clause-left
returns-in-Merge-clause-left g c = rw c.in-Merge.is (spares _ c.merge.ensures.puts)

pub returns-in-Merge-clause-failed : goal.returns-in-Merge-clause-failed
returns-in-Merge-clause-failed g c = rw c.in-Merge.is (rw c.all_or_none.ensures (all_failed _ _ c.merge.ensures.puts))

pub returns-in-Forget-clause-done : goal.returns-in-Forget-clause-done
returns-in-Forget-clause-done g c = rw c.in-Forget.is (rw c.all_or_none-in-Forget.ensures (all_done _ _ _ c.forget.ensures.puts.put c.forget.ensures.free))

pub returns-in-Forget-clause-left : goal.returns-in-Forget-clause-left
returns-in-Forget-clause-left g c = rw c.in-Forget.is (spares _ c.forget.ensures.puts)

pub returns-in-Forget-clause-failed : goal.returns-in-Forget-clause-failed
returns-in-Forget-clause-failed g c = rw c.in-Forget.is (rw c.all_or_none-in-Forget.ensures (all_failed _ _ c.forget.ensures.puts))

pub returns-in-Image-clause-done : goal.returns-in-Image-clause-done
returns-in-Image-clause-done g c = rw c.in-Image.is (rw c.all_or_none-in-Image.ensures (all_done _ _ _ c.image.ensures.puts.put c.image.ensures.free))

pub returns-in-Image-clause-left : goal.returns-in-Image-clause-left
returns-in-Image-clause-left g c = rw c.in-Image.is (c.image.ensures.puts.spares)

pub returns-in-Image-clause-failed : goal.returns-in-Image-clause-failed
returns-in-Image-clause-failed g c = rw c.in-Image.is (any_failed _ _)

pub returns-in-Report-clause-done : goal.returns-in-Report-clause-done
returns-in-Report-clause-done g c = rw c.in-Report.is c.tell.ensures.printed

pub returns-in-Report-clause-left : goal.returns-in-Report-clause-left
returns-in-Report-clause-left g c = rw c.in-Report.is refl

pub returns-in-Report-clause-failed : goal.returns-in-Report-clause-failed
returns-in-Report-clause-failed g c = rw c.in-Report.is (unchanged _ _ _ refl)

pub returns-in-List-clause-done : goal.returns-in-List-clause-done
returns-in-List-clause-done g c = rw c.in-List.is (rw c.node_lines.ensures at c.list.ensures.printed)

pub returns-in-List-clause-left : goal.returns-in-List-clause-left
returns-in-List-clause-left g c = rw c.in-List.is refl

pub returns-in-List-clause-failed : goal.returns-in-List-clause-failed
returns-in-List-clause-failed g c = rw c.in-List.is (unchanged _ _ _ refl)

pub returns-in-Summary-clause-done : goal.returns-in-Summary-clause-done
returns-in-Summary-clause-done g c = rw c.in-Summary.is c.summary.ensures.printed

pub returns-in-Summary-clause-left : goal.returns-in-Summary-clause-left
returns-in-Summary-clause-left g c = rw c.in-Summary.is refl

pub returns-in-Summary-clause-failed : goal.returns-in-Summary-clause-failed
returns-in-Summary-clause-failed g c = rw c.in-Summary.is (unchanged _ _ _ refl)

pub returns-in-Some-clause-left : goal.returns-in-Some-clause-left
returns-in-Some-clause-left g c = rw c.in-Reread.is (where_some _ _ _ _ c.in-Some.is (map_left _ _ _ _ _ _ _ _ c.in-Reread.is c.reread_map.ensures.puts.spares))

pub returns-in-Page-clause-done : goal.returns-in-Page-clause-done
returns-in-Page-clause-done g c = rw c.in-Page.is (both _ _ _ c.page.ensures.puts.put c.page.ensures.free)

pub returns-in-Page-clause-left : goal.returns-in-Page-clause-left
returns-in-Page-clause-left g c = rw c.in-Page.is c.page.ensures.puts.spares

pub returns-in-Page-clause-failed : goal.returns-in-Page-clause-failed
returns-in-Page-clause-failed g c = rw c.in-Page.is c.page.ensures.puts.failed

pub returns-in-Extract-clause-done : goal.returns-in-Extract-clause-done
returns-in-Extract-clause-done g c = rw c.in-Extract.is c.extract.ensures.done

pub returns-in-Extract-clause-left : goal.returns-in-Extract-clause-left
returns-in-Extract-clause-left g c = rw c.in-Extract.is c.extract.ensures.left
