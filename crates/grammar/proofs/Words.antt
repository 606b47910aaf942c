-- The record lines of a text have the words of a record each. Assumes nothing.
use Prim.Native.Nat.{ℕ, ◌*◌}
use mathlib.Core.Path.{◌≡◌, refl}
use mathlib.Core.List.{List}
use native.Mathlib.Omega.{arith}
use lib.IntN.{ℤ}
use lib.ListN.{length, length-append}
use Rattle.definitions.specs.declared.Numbers.{Numbers}
use Rattle.definitions.specs.Record.{record_words}
use Rattle.definitions.specs.Text.{LineOf, RecordKind, intra, whole, mb, kind_of, Entry, Records, no_record, a_note, a_record, Text, words_for, base_of}
use Rattle.definitions.proofs.Records.{laid-length}
use Rattle.grammar.proofs.Runs.{form-count}

pub line-words : (r : RecordKind) {vs : List ℤ} {t : List ℕ} → LineOf (kind_of r) vs t → length (words_for r vs) ≡ record_words
line-words intra h = laid-length _
line-words whole {vs} h = laid-length _
line-words mb h = form-count h

lines-words : {rs : List Entry} {u : List ℕ} → Records rs u → length (base_of rs) ≡ record_words * length rs
lines-words no_record = refl
lines-words (a_note n h) = lines-words h
lines-words (a_record {r = r} {vs = vs} {rs = rs} l h) = omega (arith, length-append (words_for r vs) (base_of rs), line-words r l, lines-words h)

pub text-words : {n : Numbers} {rs : List Entry} {t : List ℕ} → Text n rs t → length (base_of rs) ≡ record_words * length rs
text-words h = lines-words h.lines
