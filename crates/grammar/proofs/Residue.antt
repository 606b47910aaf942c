-- What may come after a state of the machine: a language for each symbol, over the language B of what comes after it.
use Prim.Native.Nat.{ℕ, suc, ◌≤◌}
use mathlib.Core.Path.{◌≡◌}
use mathlib.Core.Logic.{◌⊎◌}
use mathlib.Core.List.{List, [], ◌∷◌, ◌++◌}
use lib.IntN.{ℤ, pos, negsuc}
use Rattle.definitions.specs.Text.{Letter, Digit, All, valued, Plain, Number, Rest, Item, Note, Notes, Kind, LineOf, RecordKind, kind_of}
use Rattle.grammar.proofs.Machine.{Follow, gap, shut, in_list, Sym, lit, first, letters, rest, field, dashed, zeroed, figures, line, opened, entry, Ev, num, rec, Delta, halt, go, emit, limit, with_minus, nums}
use Rattle.grammar.proofs.Cats.{Cat}

-- texts, with the numbers that stand in them
abbrev pub Lang : Type 1
Lang = List Ev → List ℕ → Type 0

pub record Lit (c : ℕ) (B : List ℕ → Type 0) (u : List ℕ) : Type 0 where
  pub more : List ℕ
  pub is : u ≡ c ∷ more
  pub then : B more

-- B, with the number z standing first
pub record Gives (z : Ev) (B : Lang) (ws : List Ev) (u : List ℕ) : Type 0 where
  pub others : List Ev
  pub is : ws ≡ z ∷ others
  pub then : B others u

abbrev pub Fol : Follow → ℤ → Lang → Lang
Fol gap z B ws = Lit 32 (Gives (num z) B ws)
Fol shut z B ws = Lit 41 (Gives (num z) B ws)
Fol (in_list d) z B ws = Cat (Rest (Item d)) (B ws)

pub record Figures (a n : ℕ) (t : List ℕ) : Type 0 where
  pub all : All Digit t
  pub worth : valued a t ≡ n

pub record Line (k : Kind) (B : Lang) (ws : List Ev) (u : List ℕ) : Type 0 where
  pub before : List ℕ
  pub here : List ℕ
  pub after : List ℕ
  pub found : List ℤ
  pub others : List Ev
  pub notes : Notes before
  pub this : LineOf k found here
  pub gives : ws ≡ nums found others
  pub then : B others after
  pub cut : u ≡ before ++ (here ++ after)

-- a record line, and after it B
pub record RecLine (B : Lang) (ws : List Ev) (u : List ℕ) : Type 0 where
  pub kind : RecordKind
  pub here : List ℕ
  pub after : List ℕ
  pub found : List ℤ
  pub others : List Ev
  pub this : LineOf (kind_of kind) found here
  pub gives : ws ≡ rec kind ∷ nums found others
  pub then : B others after
  pub cut : u ≡ here ++ after

abbrev pub EntryOf : Lang → Lang
EntryOf B ws u = Cat Note (B ws) u ⊎ RecLine B ws u

abbrev pub L : Sym → Lang → Lang
L (lit c) B ws u = Lit c (B ws) u
L (first d) B ws u = Cat (Item d) (Cat (Rest (Item d)) (B ws)) u
L (letters d) B ws u = Cat (All Letter) (Cat (Rest (Item d)) (B ws)) u
L (rest d) B ws u = Cat (Rest (Item d)) (B ws) u
L (field f) B ws u = (z : ℤ) × Cat (Number z) (Fol f z B ws) u
L (dashed f) B ws u = (n : ℕ) × (n ≤ 32767) × Cat (Plain (suc n)) (Fol f (negsuc n) B ws) u
L (zeroed f) B ws u = Fol f (pos 0) B ws u
L (figures sg a f) B ws u = (n : ℕ) × (n ≤ limit sg) × Cat (Figures a n) (Fol f (with_minus sg n) B ws) u
L (line k) B ws u = Line k B ws u
L (opened k) B ws u = Line k B ws (40 ∷ u)
L entry B ws u = EntryOf B ws (40 ∷ u)

abbrev pub Seq : List Sym → Lang → Lang
Seq [] B = B
Seq (s ∷ k) B = L s (Seq k B)

-- what may come after a step
abbrev pub Next : Delta → Lang → Lang
Next halt B ws u = ⊥
Next (go k) B ws u = Seq k B ws u
Next (emit z k) B ws u = Gives z (Seq k B) ws u
