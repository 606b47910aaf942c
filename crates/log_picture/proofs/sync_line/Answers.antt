use Rattle.log_picture.proofs.Growing.{sync-room}
use borrow.Author.Rules.{rules}
use Rattle.log_picture.proofs.sync_line.Goals as goal

pub line-requires : goal.line-requires
line-requires c = sync-room c.args.log.now.out.now c.args.log.now.at _ _ _ _ c.requires.4 (search rules) (search rules) (search rules) (search rules)
