use Rattle.std.proofs.Common.{sym}
use lib.Seq.{length-take-le}
use Rattle.log_text.proofs.Stages.{log-within}
use Rattle.sync_log.proofs.main.Goals as goal

pub slice_bounds-text-end : goal.slice_bounds-text-end
slice_bounds-text-end c = rw c.in-Ok.is at c.read_input.ensures

pub slice_bounds-log_of-end : goal.slice_bounds-log_of-end
slice_bounds-log_of-end c = sym (length-take-le _ _ (rw c.in-Ok.is at c.read_input.ensures))

pub slice_bounds-out-end : goal.slice_bounds-out-end
slice_bounds-out-end c = log-within c.log_of-logged.ensures

pub slice_bounds-write_all-end : goal.slice_bounds-write_all-end
slice_bounds-write_all-end c = sym (length-take-le _ _ (log-within c.log_of-logged.ensures))
