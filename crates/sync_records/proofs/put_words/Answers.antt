use mathlib.Core.Path.{refl}
use Rattle.sync_records.proofs.Words.{copied}
use Rattle.sync_records.proofs.put_words.Goals as goal

pub returns : goal.returns
returns c = copied c.args.out.now c.args.from c.args.words.now _ _ refl c.requires c.copy_from_slice.ensures.after
