use Rattle.log_lines.proofs.Log.+number.Given as goal

-- The proof of the cycle of calls {number}: a number falls by its last digit. Assumes nothing.
abbrev pub decreases-number : goal.decreases-number
decreases-number l = l.n
