-- What accepted numbers keep. Assumes nothing.
use Rattle.definitions.specs.declared.AxisNumbers.{AxisNumbers}
use Rattle.definitions.proofs.Accepted.{AcceptedNumbers}
use Rattle.geometry.specs.Checked.{NoneNegative}

-- the sizes of an axis that is accepted
pub none-negative : {n : AxisNumbers} → AcceptedNumbers n → NoneNegative n
none-negative a = record { base = rw a.base-is tt; scaled = rw a.scaled-is tt; full = rw a.full_is tt }
