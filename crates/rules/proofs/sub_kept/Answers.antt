use borrow.Author.Rules.{rules}
use native.Mathlib.Omega.{arith}
use Prim.Native.Nat.{◌+◌}
use mathlib.Core.List.{map}
use mathlib.Core.Path.{refl, sym, ◌∙◌}
use lib.IntN.{pos}
use mir.Syntax.{w32}
use Rattle.std.proofs.lemmas.List.{get_or-map}
use Rattle.definitions.specs.declared.SubSplit.TheVariants.{S8x8, S8x4, S4x8, S4x4}
use Rattle.definitions.specs.Record.{sub_type_of}
use Rattle.records.proofs.FirstBlocks.{said-8x8, said-8x4, said-4x8, said-4x4}
use Rattle.records.proofs.Words.{bits_are, bits-are-not, other}
use Rattle.rules.proofs.Parts.{kept-sub, told}
use Rattle.rules.proofs.sub_kept.Goals as goal

pub returns-in-0 : goal.returns-in-0
returns-in-0 g c =
    let sub = sub_type_of (map g.W.Word.value c.args.words.now) c.args.q in
    let kind = c.get.ensures.is ∙ sym (get_or-map g.W.Word.value c.args.words.now (1 + c.args.q) c.index-words-q.result (pos 0) (search rules)) in
    let is = told (pos 0) kind (bits_are w32 c.get.result (pos 0) (search rules) (search rules) (search rules)) in
    (omega arith, kept-sub sub S8x8 (said-8x8 sub is))

pub returns-in-1 : goal.returns-in-1
returns-in-1 g c =
    let sub = sub_type_of (map g.W.Word.value c.args.words.now) c.args.q in
    let kind = c.get.ensures.is ∙ sym (get_or-map g.W.Word.value c.args.words.now (1 + c.args.q) c.index-words-q.result (pos 0) (search rules)) in
    let is = told (pos 1) kind (bits_are w32 c.get.result (pos 1) (search rules) (search rules) (search rules)) in
    let n0 = other sub (pos 1) (pos 0) is refl in
    (omega arith, kept-sub sub S8x4 (said-8x4 sub n0 is))

pub returns-in-2 : goal.returns-in-2
returns-in-2 g c =
    let sub = sub_type_of (map g.W.Word.value c.args.words.now) c.args.q in
    let kind = c.get.ensures.is ∙ sym (get_or-map g.W.Word.value c.args.words.now (1 + c.args.q) c.index-words-q.result (pos 0) (search rules)) in
    let is = told (pos 2) kind (bits_are w32 c.get.result (pos 2) (search rules) (search rules) (search rules)) in
    let n0 = other sub (pos 2) (pos 0) is refl in
    let n1 = other sub (pos 2) (pos 1) is refl in
    (omega arith, kept-sub sub S4x8 (said-4x8 sub n0 n1 is))

pub returns-in_default : goal.returns-in_default
returns-in_default g c =
    let sub = sub_type_of (map g.W.Word.value c.args.words.now) c.args.q in
    let kind = c.get.ensures.is ∙ sym (get_or-map g.W.Word.value c.args.words.now (1 + c.args.q) c.index-words-q.result (pos 0) (search rules)) in
    let n0 = told (pos 0) kind (bits-are-not w32 c.get.result (pos 0) (search rules) (search rules) (search rules)) in
    let n1 = told (pos 1) kind (bits-are-not w32 c.get.result (pos 1) (search rules) (search rules) (search rules)) in
    let n2 = told (pos 2) kind (bits-are-not w32 c.get.result (pos 2) (search rules) (search rules) (search rules)) in
    (omega arith, kept-sub sub S4x4 (said-4x4 sub n0 n1 n2))
