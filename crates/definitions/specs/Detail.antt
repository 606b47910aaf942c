-- "Where detail was sent" of document 02 (E7): which quadrants of a macroblock carry coded detail. By the block map alone, before any filling, and for intra answers too.
use Rattle.std.specs.Prelude.{ℕ, Bool, List, ℤ}
use Rattle.definitions.specs.declared.Axes.{Axes}
use Rattle.definitions.specs.Basics.{four, set_of, some_of}
use Rattle.definitions.specs.BlockMap.{address_read, block_read}
use Rattle.definitions.specs.Record.{record_at, has_detail}
use Rattle.definitions.specs.Blocks.{quadrant_of, raster_of}

-- block i reads a base quadrant whose bit is set: the quadrant that holds the block read, in the record read
abbrev pub reads_detail : Axes → List ℤ → ℕ → ℕ → ℕ → Bool
reads_detail g base column row i = has_detail (record_at base (address_read g column row i)) (quadrant_of (block_read g column row i))

-- An enhancement quadrant's bit is set exactly when one of its blocks reads a base quadrant whose bit is set, intra ones included
unfoldable pub quadrant_detail : Axes → List ℤ → ℕ → ℕ → ℕ → Bool
quadrant_detail g base column row q = some_of (four (λ k. reads_detail g base column row (raster_of q k)))

-- the four bits of a macroblock inside (outside they are 0: outside_basis of Answer)
unfoldable pub detail_at : Axes → List ℤ → ℕ → ℕ → ℕ
detail_at g base column row = set_of 4 (quadrant_detail g base column row)
