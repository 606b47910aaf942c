use Rattle.definitions.specs.Log.{no_picture_line}
use Rattle.log_lines.specs.Put.{Put}
use Rattle.log_text.proofs.Stages.{no-picture-room}
use borrow.Author.Rules.{rules}
use Rattle.log_text.proofs.no_picture_line.Goals as goal

pub line-requires : goal.line-requires
line-requires c = rw (c.new-log.ensures.none.0, c.new-log.ensures.none.1) (no-picture-room c.args.out.now c.requires)

pub returns : goal.returns
unfolding no_picture_line
returns c =
    let p : Put c.args.out.now 0 no_picture_line c.line.new.self.out.now c.line.new.self.at = rw (c.new-log.ensures.none.0, c.new-log.ensures.none.1) at c.line.ensures.bytes in
    search rules
