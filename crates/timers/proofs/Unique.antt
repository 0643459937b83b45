-- UNIQUENESS: any two results, with all that was lent, that satisfy an exported function's promise for the same arguments are equal. `Post` is
-- the promise itself, as the checker reads the function's `ensures`.
-- Assumes nothing.
use Rattle.promise.specs.Unique.{Unique}
use Rattle.timers.proofs.Decision.decided.Kinds as Decision-decided-kinds
use Rattle.timers.proofs.Decision.decided.Reads as Decision-decided
use Rattle.timers.proofs.Decision.silent_for.Kinds as Decision-silent-for-kinds
use Rattle.timers.proofs.Decision.silent_for.Reads as Decision-silent-for
use Rattle.timers.proofs.Rules.dead_time.Kinds as Rules-dead-time-kinds
use Rattle.timers.proofs.Rules.dead_time.Reads as Rules-dead-time
use Rattle.timers.proofs.Rules.report_time.Kinds as Rules-report-time-kinds
use Rattle.timers.proofs.Rules.report_time.Reads as Rules-report-time
use Rattle.timers.proofs.Rules.started_report.Kinds as Rules-started-report-kinds
use Rattle.timers.proofs.Rules.started_report.Reads as Rules-started-report
use Rattle.timers.proofs.Timers.after.Kinds as Timers-after-kinds
use Rattle.timers.proofs.Timers.after.Reads as Timers-after
use Rattle.timers.proofs.Timers.fallen.Kinds as Timers-fallen-kinds
use Rattle.timers.proofs.Timers.fallen.Reads as Timers-fallen
use Rattle.timers.proofs.Timers.rested.Kinds as Timers-rested-kinds
use Rattle.timers.proofs.Timers.rested.Reads as Timers-rested
use Rattle.timers.proofs.Timers.started.Kinds as Timers-started-kinds
use Rattle.timers.proofs.Timers.started.Reads as Timers-started
use mathlib.Core.Path.{sym, ◌∙◌}

pub Rules-dead_time_unique : Unique 0 Rules-dead-time-kinds.ps Rules-dead-time-kinds.r Rules-dead-time.Post
Rules-dead_time_unique κs a x y s t p q = p ∙ sym q

pub Rules-report_time_unique : Unique 0 Rules-report-time-kinds.ps Rules-report-time-kinds.r Rules-report-time.Post
Rules-report_time_unique κs a x y s t p q = p ∙ sym q

pub Rules-started_report_unique : Unique 0 Rules-started-report-kinds.ps Rules-started-report-kinds.r Rules-started-report.Post
Rules-started_report_unique κs a x y s t p q = p ∙ sym q

pub Timers-fallen_unique : Unique 0 Timers-fallen-kinds.ps Timers-fallen-kinds.r Timers-fallen.Post
Timers-fallen_unique κs a x y s t p q = p ∙ sym q

pub Timers-started_unique : Unique 0 Timers-started-kinds.ps Timers-started-kinds.r Timers-started.Post
Timers-started_unique κs a x y s t p q = p ∙ sym q

pub Timers-after_unique : Unique 0 Timers-after-kinds.ps Timers-after-kinds.r Timers-after.Post
Timers-after_unique κs a x y s t p q = p ∙ sym q

pub Timers-rested_unique : Unique 0 Timers-rested-kinds.ps Timers-rested-kinds.r Timers-rested.Post
Timers-rested_unique κs a x y s t p q = p ∙ sym q

pub Decision-decided_unique : Unique 0 Decision-decided-kinds.ps Decision-decided-kinds.r Decision-decided.Post
Decision-decided_unique κs a x y s t p q = p ∙ sym q

pub Decision-silent_for_unique : Unique 0 Decision-silent-for-kinds.ps Decision-silent-for-kinds.r Decision-silent-for.Post
Decision-silent_for_unique κs a x y s t p q = p ∙ sym q
