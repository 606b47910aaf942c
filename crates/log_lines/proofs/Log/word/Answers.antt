use borrow.Author.Rules.{rules}
use Rattle.std.proofs.Common.{sym, subst, ℕ, List, [], ◌∷◌}
use Rattle.log_lines.proofs.Putting.{each_fits, each-put, each_all, bytes-each}
use Rattle.log_lines.specs.Put.{Fits, Put}
use Rattle.log_lines.proofs.Log.word.Goals as goal

pub byte-requires : goal.byte-requires
byte-requires c =
    let room = subst (λ (w : List ℕ). Fits c.args.self.now.out.now c.args.self.now.at w) (sym (bytes-each c.args.word.now)) c.requires in
    each_fits (λ b. b ∷ []) c.args.word.now c.loop-b.b-index c.loop-b.invariant.0 c.loop-b-test.true room

pub loop-b-preserved : goal.loop-b-preserved
loop-b-preserved c = (each-put (λ b. b ∷ []) c.args.word.now c.loop-b.b-index c.loop-b.invariant.0 c.loop-b-test.true c.byte.ensures.bytes, search rules)

pub returns-clause-bytes : goal.returns-clause-bytes
returns-clause-bytes c = subst (λ (w : List ℕ). Put c.args.self.now.out.now c.args.self.now.at w c.loop-b.self.out.now c.loop-b.self.at) (bytes-each c.args.word.now) (each_all (λ b. b ∷ []) c.args.word.now c.loop-b.b-index c.loop-b.invariant.0 c.loop-b-test.false)
