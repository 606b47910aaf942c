-- The words of the record at an address have the numbers of that record. Assumes nothing.
use Rattle.std.proofs.Common.{ℕ, ◌+◌, ◌*◌, ◌-◌, ◌≡◌, ℤ, List, map, take, drop, arith}
use Rattle.std.proofs.lemmas.List.{take-map, drop-map, take_all, length-take}
use Rattle.definitions.specs.Record.{record_at, record_words}

pub record-numbers :
    {A : Type 0} (value : A → ℤ) (base : List A) (a : ℕ) →
    map value (take record_words (take (record_words * a + record_words - record_words * a) (drop (record_words * a) base))) ≡ record_at (map value base) a
unfolding record_at
record-numbers value base a =
    let n : record_words * a + record_words - record_words * a ≡ record_words = omega arith in
    let whole = take_all record_words (take record_words (drop (record_words * a) base)) (simp length-take (omega arith)) in
    rw (n, whole, drop-map, take-map)
