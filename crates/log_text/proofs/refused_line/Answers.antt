use Rattle.definitions.specs.Log.{refused_line}
use Rattle.log_lines.specs.Put.{Put}
use Rattle.log_text.proofs.Stages.{refused-room}
use borrow.Author.Rules.{rules}
use Rattle.log_text.proofs.refused_line.Goals as goal

pub line-requires : goal.line-requires
line-requires c = rw (c.new-log.ensures.none.0, c.new-log.ensures.none.1) (refused-room c.args.out.now _ _ c.requires.2 (search rules) (search rules))

pub returns : goal.returns
unfolding refused_line
returns c =
    let p : Put c.args.out.now 0 (refused_line c.args.r) c.line.new.self.out.now c.line.new.self.at = rw (c.new-log.ensures.none.0, c.new-log.ensures.none.1) at c.line.ensures.bytes in
    search rules
