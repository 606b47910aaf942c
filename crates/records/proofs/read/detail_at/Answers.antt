use Rattle.std.proofs.Common.{◌≡◌, ◌<◌, ◌∙◌, List, ℤ, arith, ap, map, nat_abs, of_z, pos, rules, sym, to_z, true, w32}
use Rattle.std.proofs.lemmas.Int.{to_z-of_z}
use Rattle.std.proofs.lemmas.List.{get_or-map}
use lib.Dec.{T}
use lib.Signed.{non_neg}
use Rattle.definitions.specs.Record.{detail_of, record_at, rule7}
use Rattle.records.proofs.Words.{four-bits}
use Rattle.records.proofs.read.detail_at.Goals as goal

small : (r : List ℤ) → rule7 r ≡ true → T (non_neg (detail_of r)) × (nat_abs (detail_of r) < 16)
unfolding rule7
small r e = four-bits (detail_of r) e

-- what is cast is the detail
cast : (g : _) (c : goal.After-get g) → to_z w32 (of_z w32 c.get.result) ≡ detail_of (record_at (map g.W.Word.value c.args.base.now) c.args.a)
cast g c =
    to_z-of_z w32 c.get.result (search rules)
    ∙ (c.get.ensures.is
    ∙ (sym (get_or-map g.W.Word.value c.record_at.result.now 77 c.index-record_at-77.result (pos 0) (search rules)) ∙ ap detail_of c.record_at.ensures))

pub overflow_cast-result : goal.overflow_cast-result
overflow_cast-result g c = let s = small _ c.requires.2 in rw (cast g c) (s.0, record { fits = omega (arith, s.1) })

pub returns : goal.returns
returns g c = let s = small _ c.requires.2 in (ap nat_abs (cast g c), rw (cast g c) s.1)
