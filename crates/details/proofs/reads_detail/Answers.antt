use Rattle.std.proofs.lemmas.List.{length-map}
use Rattle.definitions.proofs.Formed.{rules-of}
use Rattle.details.proofs.reads_detail.Goals as goal

pub detail_at-requires : goal.detail_at-requires
detail_at-requires g c =
    rw (c.address_of.ensures, ← length-map c.args.base.now g.W.Word.value)
    (c.requires.0.fits, c.requires.0.low, (rules-of g.W.Word.LIMIT _ c.requires.0.formed).detail)
