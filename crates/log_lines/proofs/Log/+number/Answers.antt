use native.Mathlib.Omega.{arith}
use Rattle.std.proofs.Common.{[], ◌∷◌, ◌/◌}
use Rattle.definitions.specs.Log.{decimal}
use Rattle.log_lines.proofs.Putting.{digit-fits, digits-fit, fits-first, fits-then, put-digit, put-digits}
use Rattle.log_lines.proofs.Log.+number.Goals as goal

pub byte-requires : goal.byte-requires
byte-requires t c = digit-fits c.args.self.now.out.now c.args.self.now.at c.args.n c.digit.result (omega arith) c.requires

pub returns-then-n-lt10-clause-bytes : goal.returns-then-n-lt10-clause-bytes
returns-then-n-lt10-clause-bytes t c = put-digit {n = c.args.n} (omega arith) c.digit.ensures c.byte.ensures.bytes

pub number-requires : goal.number-requires
number-requires t c = (omega arith, fits-first c.args.self.now.out.now c.args.self.now.at (decimal (c.args.n / 10)) (0 ∷ []) (digits-fit c.args.self.now.out.now c.args.self.now.at c.args.n 0 (omega arith) c.requires))

pub byte-requires-2 : goal.byte-requires-2
byte-requires-2 t c = fits-then (c.digit-2.result ∷ []) (digits-fit c.args.self.now.out.now c.args.self.now.at c.args.n c.digit-2.result (omega arith) c.requires) c.number.ensures.bytes

pub returns-clause-bytes : goal.returns-clause-bytes
returns-clause-bytes t c = put-digits {n = c.args.n} (omega arith) c.digit-2.ensures c.number.ensures.bytes c.byte-2.ensures.bytes
