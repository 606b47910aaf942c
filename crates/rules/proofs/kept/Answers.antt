use borrow.Author.Rules.{rules}
use native.Mathlib.Omega.{arith}
use Prim.Native.Nat.{ℕ}
use mathlib.Core.List.{map}
use mathlib.Core.Path.{refl, sym, ap, ◌∙◌}
use lib.IntN.{pos}
use mir.Syntax.{w32}
use Rattle.std.proofs.lemmas.List.{get_or-map}
use Rattle.definitions.specs.Record.{type_of, sub_type_of, sub_split_of}
use Rattle.records.specs.Checking.{sub_first_block}
use Rattle.records.proofs.FirstBlocks.{first-intra, first-16x16, first-16x8, first-8x16, first-8x8}
use Rattle.records.proofs.Words.{bits_are, bits-are-not, other}
use Rattle.rules.proofs.Parts.{kept-all, kept-none, kept_row, kept-column, told}
use Rattle.rules.proofs.kept.Goals as goal

pub returns-in-0 : goal.returns-in-0
returns-in-0 g c =
    let words = map g.W.Word.value c.args.words.now in
    let kind = c.get.ensures.is ∙ sym (get_or-map g.W.Word.value c.args.words.now 0 c.index-words-0.result (pos 0) (search rules)) in
    let is = told (pos 0) kind (bits_are w32 c.get.result (pos 0) (search rules) (search rules) (search rules)) in
    (omega arith, λ b h at. kept-all b h ∙ sym (first-intra words b is))

pub returns-in-1 : goal.returns-in-1
returns-in-1 g c =
    let words = map g.W.Word.value c.args.words.now in
    let kind = c.get.ensures.is ∙ sym (get_or-map g.W.Word.value c.args.words.now 0 c.index-words-0.result (pos 0) (search rules)) in
    let type = type_of words in
    let is = told (pos 1) kind (bits_are w32 c.get.result (pos 1) (search rules) (search rules) (search rules)) in
    (omega arith, λ b h at. kept-none b ∙ sym (first-16x16 words b (other type (pos 1) (pos 0) is refl) is))

pub returns-in-2 : goal.returns-in-2
returns-in-2 g c =
    let words = map g.W.Word.value c.args.words.now in
    let kind = c.get.ensures.is ∙ sym (get_or-map g.W.Word.value c.args.words.now 0 c.index-words-0.result (pos 0) (search rules)) in
    let type = type_of words in
    let is = told (pos 2) kind (bits_are w32 c.get.result (pos 2) (search rules) (search rules) (search rules)) in
    (omega arith, λ b h at. kept_row b h ∙ sym (first-16x8 words b (other type (pos 2) (pos 0) is refl) (other type (pos 2) (pos 1) is refl) is))

pub returns-in-3 : goal.returns-in-3
returns-in-3 g c =
    let words = map g.W.Word.value c.args.words.now in
    let kind = c.get.ensures.is ∙ sym (get_or-map g.W.Word.value c.args.words.now 0 c.index-words-0.result (pos 0) (search rules)) in
    let type = type_of words in
    let is = told (pos 3) kind (bits_are w32 c.get.result (pos 3) (search rules) (search rules) (search rules)) in (
      omega arith,
      λ b h at.
          kept-column b h ∙ sym (first-8x16 words b (other type (pos 3) (pos 0) is refl) (other type (pos 3) (pos 1) is refl) (other type (pos 3) (pos 2) is refl) is),
    )

pub returns-in_default : goal.returns-in_default
returns-in_default g c =
    let words = map g.W.Word.value c.args.words.now in
    let kind = c.get.ensures.is ∙ sym (get_or-map g.W.Word.value c.args.words.now 0 c.index-words-0.result (pos 0) (search rules)) in
    let n0 = told (pos 0) kind (bits-are-not w32 c.get.result (pos 0) (search rules) (search rules) (search rules)) in
    let n1 = told (pos 1) kind (bits-are-not w32 c.get.result (pos 1) (search rules) (search rules) (search rules)) in
    let n2 = told (pos 2) kind (bits-are-not w32 c.get.result (pos 2) (search rules) (search rules) (search rules)) in
    let n3 = told (pos 3) kind (bits-are-not w32 c.get.result (pos 3) (search rules) (search rules) (search rules)) in (
      c.sub_kept.ensures.0,
      λ b h at.
          c.sub_kept.ensures.1 b h
          ∙ (ap (λ (q : ℕ). sub_first_block (sub_split_of (sub_type_of words q)) b) (sym at) ∙ sym (first-8x8 words b n0 n1 n2 n3 h)),
    )
