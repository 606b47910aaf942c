-- A machine that reads the text byte by byte: its state is what has yet to come, as a stack of symbols, and the numbers read so far.
-- No contract cites it: what it is good for is that one text has one reading (Runs), and that what closes itself ends in one place (Alone).
use Prim.Native.Nat.{ℕ, zero, suc, ◌+◌, ◌-◌, ◌*◌}
use mathlib.Core.Bool.{Bool, true, false, cond}
use mathlib.Core.List.{List, [], ◌∷◌, ◌++◌}
use lib.ListN.{take}
use lib.IntN.{ℤ, pos}
use Rattle.definitions.specs.Basics.{minus}
use Rattle.definitions.specs.Text.{Part, byte, spaced, ended, Kind, base_line, scaled_line, at_line, full_line, intra_line, whole_line, mb_line, letter, tail_of, RecordKind, intra, whole, mb, Entry}
use lib.Dec.{leb, eqb}
use Rattle.grammar.specs.Readers.{byte_class_of}
use Rattle.grammar.specs.declared.ByteClass.{ByteClass}
use Rattle.grammar.specs.declared.ByteClass.TheVariants.{Alpha, Zero, Nonzero, Dash, Open, Close, Space, Other}

-- what follows a number: a space, a closing bracket, or the rest of a list whose items nest d deep
pub data Follow : Type 0 where
  gap shut : Follow
  in_list : ℕ → Follow

-- a symbol: what has yet to come
pub data Sym : Type 0 where
  lit : ℕ → Sym  -- this byte
  first : ℕ → Sym  -- an item, and the rest of its list
  letters : ℕ → Sym  -- more letters, and the rest of the list
  rest : ℕ → Sym  -- the rest of a list
  field : Follow → Sym  -- a number, and what follows it
  dashed : Follow → Sym  -- the same after its minus
  zeroed : Follow → Sym  -- the same after its only digit, 0
  figures : Bool → ℕ → Follow → Sym  -- the same after digits worth a; true: there was a minus
  line : Kind → Sym  -- notes, and a line of this kind
  opened : Kind → Sym  -- the same after its first byte
  entry : Sym  -- a note or a record line after its first byte

-- what stands in the text: a number, or that a record line begins
pub data Ev : Type 0 where
  num : ℤ → Ev
  rec : RecordKind → Ev

-- these numbers, and then ws
abbrev pub nums : List ℤ → List Ev → List Ev
nums [] ws = ws
nums (z ∷ vs) ws = num z ∷ nums vs ws

-- what the record lines leave in the machine
abbrev pub flat : List Entry → List Ev
flat [] = []
flat (e ∷ rs) = rec e.kind ∷ nums e.fields (flat rs)

-- what a byte does to the symbol on top: it may not come; symbols take its place; and something that stands in the text is recorded
pub data Delta : Type 0 where
  halt : Delta
  go : List Sym → Delta
  emit : Ev → List Sym → Delta

-- by the class of the byte; any other byte may not come
abbrev pub choose : ByteClass → Delta → Delta → Delta → Delta → Delta → Delta → Delta → Delta
choose Alpha a n z d o c s = a
choose Zero a n z d o c s = n
choose Nonzero a n z d o c s = z
choose Dash a n z d o c s = d
choose Open a n z d o c s = o
choose Close a n z d o c s = c
choose Space a n z d o c s = s
choose Other a n z d o c s = halt

-- the most that digits are worth, without and with a minus
abbrev pub limit : Bool → ℕ
limit false = 32767
limit true = 32768

-- the number that digits worth n are, without and with a minus
abbrev pub with_minus : Bool → ℕ → ℤ
with_minus false n = pos n
with_minus true n = minus n

-- what a closing bracket does after a number z that f follows, and what a space does
abbrev pub shuts : Follow → ℤ → Delta
shuts gap z = halt
shuts shut z = emit (num z) []
shuts (in_list d) z = go []

abbrev pub gaps : Follow → ℤ → Delta
gaps gap z = emit (num z) []
gaps shut z = halt
gaps (in_list d) z = go (first d ∷ [])

-- one digit more, and digits now worth a
abbrev pub grow : Bool → ℕ → Follow → Delta
grow sg a f = cond (leb a (limit sg)) (go (figures sg a f ∷ [])) halt

-- an opening bracket, where lists nest d deep at the most
abbrev pub opens : ℕ → Delta
opens zero = halt
opens (suc d) = go (first d ∷ rest (suc d) ∷ [])

-- a note after its bracket and its n, and then k
abbrev pub note_tail : List Sym → List Sym
note_tail k = lit 111 ∷ lit 116 ∷ lit 101 ∷ rest 7 ∷ lit 10 ∷ k

-- the symbols of a pattern
abbrev pub syms : List Part → List Sym
syms [] = []
syms (byte c ∷ ps) = lit c ∷ syms ps
syms (spaced ∷ ps) = field gap ∷ syms ps
syms (ended ∷ ps) = field shut ∷ syms ps

-- what a byte b of class c does to a symbol
abbrev pub δc : Sym → ℕ → ByteClass → Delta
δc (lit x) b c = cond (eqb b x) (go []) halt
δc (first d) b c =
    choose c (go (letters d ∷ [])) (go (zeroed (in_list d) ∷ [])) (go (figures false (b - 48) (in_list d) ∷ [])) (go (dashed (in_list d) ∷ [])) (opens d) halt halt
δc (letters d) b c = choose c (go (letters d ∷ [])) halt halt halt halt (go []) (go (first d ∷ []))
δc (rest d) b c = choose c halt halt halt halt halt (go []) (go (first d ∷ []))
δc (field f) b c = choose c halt (go (zeroed f ∷ [])) (go (figures false (b - 48) f ∷ [])) (go (dashed f ∷ [])) halt halt halt
δc (dashed f) b c = choose c halt halt (go (figures true (b - 48) f ∷ [])) halt halt halt halt
δc (zeroed f) b c = choose c halt halt halt halt halt (shuts f (pos 0)) (gaps f (pos 0))
δc (figures sg a f) b c = choose c halt (grow sg (10 * a + (b - 48)) f) (grow sg (10 * a + (b - 48)) f) halt halt (shuts f (with_minus sg a)) (gaps f (with_minus sg a))
δc (line k) b c = cond (eqb b 40) (go (opened k ∷ [])) halt
δc (opened k) b c = cond (eqb b 110) (go (note_tail (line k ∷ []))) (cond (eqb b (letter k)) (go (syms (tail_of k))) halt)
δc entry b c =
    cond (eqb b 110) (go (note_tail []))
    (cond (eqb b 105) (emit (rec intra) (syms (tail_of intra_line)))
    (cond (eqb b 119) (emit (rec whole) (syms (tail_of whole_line)))
    (cond (eqb b 109) (emit (rec mb) (syms (tail_of mb_line))) halt)))

unfoldable pub δ : Sym → ℕ → Delta
δ s b = δc s b (byte_class_of b)

-- a step, with the symbols k below
abbrev pub push : Delta → List Sym → Delta
push halt k = halt
push (go t) k = go (t ++ k)
push (emit z t) k = emit z (t ++ k)

-- with nothing more asked, notes and record lines may come
unfoldable pub step_k : List Sym → ℕ → Delta
step_k [] b = cond (eqb b 40) (go (entry ∷ [])) halt
step_k (s ∷ k) b = push (δ s b) k

-- a state: no text can go on; or what was recorded, and what has yet to come
pub data Cfg : Type 0 where
  dead : Cfg
  live : List Ev → List Sym → Cfg

-- the state after a step
abbrev pub enter : List Ev → Delta → Cfg
enter g halt = dead
enter g (go k) = live g k
enter g (emit z k) = live (g ++ (z ∷ [])) k

unfoldable pub step : Cfg → ℕ → Cfg
step dead b = dead
step (live g k) b = enter g (step_k k b)

unfoldable pub runs : Cfg → List ℕ → Cfg
runs c [] = c
runs c (b ∷ t) = runs (step c b) t

-- the first four lines have yet to come
abbrev pub start : Cfg
start = live [] (line base_line ∷ line scaled_line ∷ line at_line ∷ line full_line ∷ [])

-- where the machine is after the first i bytes of s
unfoldable pub state_at : List ℕ → ℕ → Cfg
state_at s i = runs start (take i s)

-- a text can go on
abbrev pub Alive : Cfg → Type 0
Alive dead = ⊥
Alive (live g k) = Unit {0}

-- alive, and more is asked
abbrev pub Waiting : Cfg → Type 0
Waiting dead = ⊥
Waiting (live g []) = ⊥
Waiting (live g (y ∷ k)) = Unit {0}

-- these bytes, and then k
abbrev pub lits : List ℕ → List Sym → List Sym
lits [] k = k
lits (c ∷ w) k = lit c ∷ lits w k
