use mathlib.Core.Path.{◌≡◌}
use mir.Facts.{sfits_widen, to_z-of_z}
use mir.Syntax.{w16, w32}
use mir.Val.{of_z, to_z}
use Rattle.word.proofs.Rounded.{Fitting, fitting}
use Rattle.word.proofs.scaled_narrow.Goals as goal

pub overflow_add-result : goal.overflow_add-result
overflow_add-result c =
    let f : Fitting c.args.s c.args.v = fitting c.args.s c.args.v c.requires.0 c.requires.1 in
    let word32 : to_z w32 (of_z w32 c.args.v) ≡ c.args.v = to_z-of_z {w = w32} (sfits_widen tt f.word) in
    let word16 : to_z w16 (of_z w16 c.args.v) ≡ c.args.v = to_z-of_z f.word in
    let part16 : to_z w16 (of_z w16 c.args.s.part) ≡ c.args.s.part = to_z-of_z f.part in
    let part32 : to_z w32 (of_z w32 c.args.s.part) ≡ c.args.s.part = to_z-of_z {w = w32} (sfits_widen tt f.part) in
    rw (word32, word16, word32, part16, part32, to_z-of_z f.product) f.sum

pub overflow_cast-result-3 : goal.overflow_cast-result-3
overflow_cast-result-3 c =
    let f : Fitting c.args.s c.args.v = fitting c.args.s c.args.v c.requires.0 c.requires.1 in
    let word32 : to_z w32 (of_z w32 c.args.v) ≡ c.args.v = to_z-of_z {w = w32} (sfits_widen tt f.word) in
    let word16 : to_z w16 (of_z w16 c.args.v) ≡ c.args.v = to_z-of_z f.word in
    let part16 : to_z w16 (of_z w16 c.args.s.part) ≡ c.args.s.part = to_z-of_z f.part in
    let part32 : to_z w32 (of_z w32 c.args.s.part) ≡ c.args.s.part = to_z-of_z {w = w32} (sfits_widen tt f.part) in
    rw (word32, word16, word32, part16, part32, to_z-of_z f.product, to_z-of_z f.sum, to_z-of_z (sfits_widen {w' = w32} tt f.lower)) f.lower

pub overflow_add-result-2 : goal.overflow_add-result-2
overflow_add-result-2 c =
    let f : Fitting c.args.s c.args.v = fitting c.args.s c.args.v c.requires.0 c.requires.1 in
    let word32 : to_z w32 (of_z w32 c.args.v) ≡ c.args.v = to_z-of_z {w = w32} (sfits_widen tt f.word) in
    let word16 : to_z w16 (of_z w16 c.args.v) ≡ c.args.v = to_z-of_z f.word in
    let whole16 : to_z w16 (of_z w16 c.args.s.whole) ≡ c.args.s.whole = to_z-of_z f.whole in
    let part16 : to_z w16 (of_z w16 c.args.s.part) ≡ c.args.s.part = to_z-of_z f.part in
    let part32 : to_z w32 (of_z w32 c.args.s.part) ≡ c.args.s.part = to_z-of_z {w = w32} (sfits_widen tt f.part) in
    rw (whole16, word32, word16, word32, part16, part32, to_z-of_z f.upper, to_z-of_z f.product, to_z-of_z f.sum, to_z-of_z (sfits_widen {w' = w32} tt f.lower), to_z-of_z f.lower) f.fits

pub returns : goal.returns
returns c =
    let f : Fitting c.args.s c.args.v = fitting c.args.s c.args.v c.requires.0 c.requires.1 in
    let word32 : to_z w32 (of_z w32 c.args.v) ≡ c.args.v = to_z-of_z {w = w32} (sfits_widen tt f.word) in
    let word16 : to_z w16 (of_z w16 c.args.v) ≡ c.args.v = to_z-of_z f.word in
    let whole16 : to_z w16 (of_z w16 c.args.s.whole) ≡ c.args.s.whole = to_z-of_z f.whole in
    let part16 : to_z w16 (of_z w16 c.args.s.part) ≡ c.args.s.part = to_z-of_z f.part in
    let part32 : to_z w32 (of_z w32 c.args.s.part) ≡ c.args.s.part = to_z-of_z {w = w32} (sfits_widen tt f.part) in
    rw (whole16, word32, word16, word32, part16, part32, to_z-of_z f.upper, to_z-of_z f.product, to_z-of_z f.sum, to_z-of_z (sfits_widen {w' = w32} tt f.lower), to_z-of_z f.lower, to_z-of_z f.fits) f.is
