-- Demand 2 of what the text call hands over, as its contract says it: "With words for 99 records lent".
use Rattle.std.specs.Prelude.{ℕ, ◌*◌, ◌≡◌, List, ℤ, length}
use Rattle.definitions.specs.Replies.{TextReply}
use Rattle.definitions.specs.Record.{record_words}
use Rattle.definitions.specs.Text.{ReadExactly, text_records}

abbrev pub TextPromised : List ℕ → List ℤ → TextReply → List ℤ → Type 0
TextPromised t words reply new = length words ≡ record_words * text_records → ReadExactly t words reply new
