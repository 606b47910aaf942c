use Rattle.grammar.proofs.Reading.{handed_on}
use Rattle.grammar.proofs.WholeText.{heads-first, heads-next, heads-stuck, heads-broken, heads-bad, lines-bad, text-is}
use Rattle.definitions.specs.Text.{base_line, scaled_line, at_line, full_line}
use lib.IntN.{ℤ, pos}
use mathlib.Core.List.{List, [], ◌∷◌}
use mathlib.Core.Path.{refl}
use Rattle.sync_read.proofs.parse.Goals as goal

abbrev zeros : List ℤ
zeros = pos 0 ∷ pos 0 ∷ pos 0 ∷ pos 0 ∷ pos 0 ∷ pos 0 ∷ pos 0 ∷ pos 0 ∷ []

pub returns-in_err-head_line : goal.returns-in_err-head_line
returns-in_err-head_line c =
    let v0 = heads-first c.args.s.now zeros in
    let b = c.in_err-head_line.ensures.read in
    let b0 = heads-stuck _ base_line (98 ∷ 97 ∷ 115 ∷ 101 ∷ 32 ∷ []) c.args.s.now (record { is = refl }) v0 b.1 in
    let b1 = heads-broken _ scaled_line (115 ∷ 99 ∷ 97 ∷ 108 ∷ 101 ∷ 100 ∷ 32 ∷ []) c.args.s.now (record { is = refl }) b0 in
    let b2 = heads-broken _ at_line (97 ∷ 116 ∷ 32 ∷ []) c.args.s.now (record { is = refl }) b1 in
    let b3 = heads-broken _ full_line (102 ∷ 117 ∷ 108 ∷ 108 ∷ 32 ∷ []) c.args.s.now (record { is = refl }) b2 in
    rw (handed_on c.from_residual.ensures.1) (refl, heads-bad c.args.s.now c.args.words.now _ b3)

pub returns-in_err-head_line-2 : goal.returns-in_err-head_line-2
returns-in_err-head_line-2 c =
    let v0 = heads-first c.args.s.now zeros in
    let v1 = heads-next _ base_line (98 ∷ 97 ∷ 115 ∷ 101 ∷ 32 ∷ []) c.args.s.now (record { is = refl }) v0 c.in_ok-head_line.ensures.read refl in
    let k1 = c.head_line.ensures.kept in
    let b = rw k1 at c.in_err-head_line-2.ensures.read in
    let b1 = heads-stuck _ scaled_line (115 ∷ 99 ∷ 97 ∷ 108 ∷ 101 ∷ 100 ∷ 32 ∷ []) c.args.s.now (record { is = refl }) v1 b.1 in
    let b2 = heads-broken _ at_line (97 ∷ 116 ∷ 32 ∷ []) c.args.s.now (record { is = refl }) b1 in
    let b3 = heads-broken _ full_line (102 ∷ 117 ∷ 108 ∷ 108 ∷ 32 ∷ []) c.args.s.now (record { is = refl }) b2 in
    rw (handed_on c.from_residual-in_err-head_line-2.ensures.1) (refl, heads-bad c.args.s.now c.args.words.now _ b3)

pub returns-in_err-head_line-3 : goal.returns-in_err-head_line-3
returns-in_err-head_line-3 c =
    let v0 = heads-first c.args.s.now zeros in
    let v1 = heads-next _ base_line (98 ∷ 97 ∷ 115 ∷ 101 ∷ 32 ∷ []) c.args.s.now (record { is = refl }) v0 c.in_ok-head_line.ensures.read refl in
    let k1 = c.head_line.ensures.kept in
    let v2 = heads-next _ scaled_line (115 ∷ 99 ∷ 97 ∷ 108 ∷ 101 ∷ 100 ∷ 32 ∷ []) c.args.s.now (record { is = refl }) v1 (rw k1 at c.in_ok-head_line-2.ensures.read) refl in
    let k2 = rw k1 at c.head_line-2.ensures.kept in
    let b = rw k2 at c.in_err-head_line-3.ensures.read in
    let b2 = heads-stuck _ at_line (97 ∷ 116 ∷ 32 ∷ []) c.args.s.now (record { is = refl }) v2 b.1 in
    let b3 = heads-broken _ full_line (102 ∷ 117 ∷ 108 ∷ 108 ∷ 32 ∷ []) c.args.s.now (record { is = refl }) b2 in
    rw (handed_on c.from_residual-in_err-head_line-3.ensures.1) (refl, heads-bad c.args.s.now c.args.words.now _ b3)

pub returns-in_err-head_line-4 : goal.returns-in_err-head_line-4
returns-in_err-head_line-4 c =
    let v0 = heads-first c.args.s.now zeros in
    let v1 = heads-next _ base_line (98 ∷ 97 ∷ 115 ∷ 101 ∷ 32 ∷ []) c.args.s.now (record { is = refl }) v0 c.in_ok-head_line.ensures.read refl in
    let k1 = c.head_line.ensures.kept in
    let v2 = heads-next _ scaled_line (115 ∷ 99 ∷ 97 ∷ 108 ∷ 101 ∷ 100 ∷ 32 ∷ []) c.args.s.now (record { is = refl }) v1 (rw k1 at c.in_ok-head_line-2.ensures.read) refl in
    let k2 = rw k1 at c.head_line-2.ensures.kept in
    let v3 = heads-next _ at_line (97 ∷ 116 ∷ 32 ∷ []) c.args.s.now (record { is = refl }) v2 (rw k2 at c.in_ok-head_line-3.ensures.read) refl in
    let k3 = rw k2 at c.head_line-3.ensures.kept in
    let b = rw k3 at c.in_err-head_line-4.ensures.read in
    let b3 = heads-stuck _ full_line (102 ∷ 117 ∷ 108 ∷ 108 ∷ 32 ∷ []) c.args.s.now (record { is = refl }) v3 b.1 in
    rw (handed_on c.from_residual-in_err-head_line-4.ensures.1) (refl, heads-bad c.args.s.now c.args.words.now _ b3)

pub returns-in_err-n : goal.returns-in_err-n
returns-in_err-n c =
    let v0 = heads-first c.args.s.now zeros in
    let v1 = heads-next _ base_line (98 ∷ 97 ∷ 115 ∷ 101 ∷ 32 ∷ []) c.args.s.now (record { is = refl }) v0 c.in_ok-head_line.ensures.read refl in
    let k1 = c.head_line.ensures.kept in
    let v2 = heads-next _ scaled_line (115 ∷ 99 ∷ 97 ∷ 108 ∷ 101 ∷ 100 ∷ 32 ∷ []) c.args.s.now (record { is = refl }) v1 (rw k1 at c.in_ok-head_line-2.ensures.read) refl in
    let k2 = rw k1 at c.head_line-2.ensures.kept in
    let v3 = heads-next _ at_line (97 ∷ 116 ∷ 32 ∷ []) c.args.s.now (record { is = refl }) v2 (rw k2 at c.in_ok-head_line-3.ensures.read) refl in
    let k3 = rw k2 at c.head_line-3.ensures.kept in
    let v4 = heads-next _ full_line (102 ∷ 117 ∷ 108 ∷ 108 ∷ 32 ∷ []) c.args.s.now (record { is = refl }) v3 (rw k3 at c.in_ok-head_line-4.ensures.read) refl in
    let k4 = rw k3 at c.head_line-4.ensures.kept in
    let v = rw k4 at c.in_err-n.ensures.read in
    rw (handed_on c.from_residual-in_err-n.ensures.1) (v.0, lines-bad c.args.s.now c.args.words.now zeros _ _ v4 _ v.1)

pub returns : goal.returns
returns c =
    let v0 = heads-first c.args.s.now zeros in
    let v1 = heads-next _ base_line (98 ∷ 97 ∷ 115 ∷ 101 ∷ 32 ∷ []) c.args.s.now (record { is = refl }) v0 c.in_ok-head_line.ensures.read refl in
    let k1 = c.head_line.ensures.kept in
    let v2 = heads-next _ scaled_line (115 ∷ 99 ∷ 97 ∷ 108 ∷ 101 ∷ 100 ∷ 32 ∷ []) c.args.s.now (record { is = refl }) v1 (rw k1 at c.in_ok-head_line-2.ensures.read) refl in
    let k2 = rw k1 at c.head_line-2.ensures.kept in
    let v3 = heads-next _ at_line (97 ∷ 116 ∷ 32 ∷ []) c.args.s.now (record { is = refl }) v2 (rw k2 at c.in_ok-head_line-3.ensures.read) refl in
    let k3 = rw k2 at c.head_line-3.ensures.kept in
    let v4 = heads-next _ full_line (102 ∷ 117 ∷ 108 ∷ 108 ∷ 32 ∷ []) c.args.s.now (record { is = refl }) v3 (rw k3 at c.in_ok-head_line-4.ensures.read) refl in
    let k4 = rw k3 at c.head_line-4.ensures.kept in
    text-is c.args.s.now c.args.words.now zeros _ _ v4 c.numbers_of.result _ _ refl c.numbers_of.ensures (rw k4 at c.in_ok-n.ensures.read)
