use Rattle.std.proofs.Common.{◌-◌}
use Rattle.corr_core.specs.IdSlotWord.{parts}
use Rattle.call_errors.proofs.handling.+handle.Given as goal

-- each advance leaves fewer attempts
abbrev pub decreases-handle : goal.decreases-handle
decreases-handle l = 8 - (parts l.lock.word.0).attempt
