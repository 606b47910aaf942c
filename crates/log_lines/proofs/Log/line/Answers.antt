use Rattle.log_lines.proofs.Putting.{bracket-fits, word_fits, items-fit, close-fits, feed-fits, line-put}
use Rattle.log_lines.proofs.Log.line.Goals as goal

pub byte-requires : goal.byte-requires
byte-requires c = bracket-fits c.args.word.now c.args.numbers.now c.args.self.now.out.now c.args.self.now.at c.requires

pub word-requires : goal.word-requires
word-requires c = word_fits c.args.word.now c.args.numbers.now c.args.self.now.out.now c.args.self.now.at c.requires c.byte.ensures.bytes

pub items-requires : goal.items-requires
items-requires c = items-fit c.args.word.now c.args.numbers.now c.args.self.now.out.now c.args.self.now.at c.requires c.byte.ensures.bytes c.word.ensures.bytes

pub byte-requires-2 : goal.byte-requires-2
byte-requires-2 c = close-fits c.args.word.now c.args.numbers.now c.args.self.now.out.now c.args.self.now.at c.requires c.byte.ensures.bytes c.word.ensures.bytes c.items.ensures.bytes

pub byte-requires-3 : goal.byte-requires-3
byte-requires-3 c = feed-fits c.args.word.now c.args.numbers.now c.args.self.now.out.now c.args.self.now.at c.requires c.byte.ensures.bytes c.word.ensures.bytes c.items.ensures.bytes c.byte-2.ensures.bytes

pub returns-clause-bytes : goal.returns-clause-bytes
returns-clause-bytes c = line-put c.args.word.now c.args.numbers.now c.args.self.now.out.now c.args.self.now.at c.requires c.byte.ensures.bytes c.word.ensures.bytes c.items.ensures.bytes c.byte-2.ensures.bytes c.byte-3.ensures.bytes
