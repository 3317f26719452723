-- What holds where not all was made.
--     IfStopped P C stop     the first of the reason that is told; the second where the bytes of a known block could not be read
use Rattle.udfs_common.specs.declared.refusal.Refusal.{Refusal}
use Rattle.udfs_extraction.specs.declared.stopping.Stop.{Stop}
use Rattle.udfs_extraction.specs.declared.stopping.Stop.TheVariants.{Refused, Unread}

-- of the reason why not all was made
abbrev pub IfStopped : (Refusal → Type 0) → Type 0 → Stop → Type 0
IfStopped P C (Refused refusal) = P refusal
IfStopped P C Unread = C
