use mathlib.Core.List.{map-id}
use mathlib.Core.Path.{ap, sym, ◌∙◌}
use lib.IntN.{ℤ}
use Rattle.definitions.specs.Record.{all_one, laid_out}
use Rattle.motion.specs.ByValue.{motion_in}
use Rattle.sync_records.proofs.Words.{record-put}
use mir.Facts.{to_z-of_z}
use Rattle.sync_records.proofs.put_record.Goals as goal

pub returns : goal.returns
returns c =
    let m = motion_in c.args.m in
    record-put c.args.out.now c.args.from c.requires.0 c.args.kind m c.args.detail _ (sym (map-id c.write_one.new.out) ∙ c.write_one.ensures ∙ ap (λ (z : ℤ). laid_out (all_one c.args.kind m z)) (to_z-of_z c.ranges.detail))
