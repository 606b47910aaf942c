-- What the record that a call writes is as a motion record itself: a third layer would read it as its base. And that no record that is written shows step 1.
use Rattle.std.specs.Prelude.{ℕ, ◌*◌, ◌<◌, ◌≡◌, Bool, true, ◌&&◌, ◌||◌, List, [], ℤ, get_or}
use Rattle.definitions.specs.declared.Motion.{Motion}
use Rattle.definitions.specs.declared.Numbers.{Numbers}
use Rattle.definitions.specs.declared.Basis.{Basis}
use Rattle.definitions.specs.declared.Split.{Split}
use Rattle.definitions.specs.declared.Answer.{Answer}
use Rattle.definitions.specs.declared.Answer.TheVariants.{Outside, Intra, Inherited}
use Rattle.definitions.specs.Basics.{pick, all_below, four}
use Rattle.definitions.specs.Geometry.{axes_of, inside}
use Rattle.definitions.specs.Record.{fits, motion_of, vector_x_of, vector_y_of, used, first_broken}
use Rattle.definitions.specs.Inheriting.{intra_set, gathered, merged, live_of, copied, resolved}
use Rattle.definitions.specs.Demand3.{SinglyGives, Case}

-- the vector words are in −L..L − 1
unfoldable pub vectors_in_range : ℕ → List ℤ → Bool
vectors_in_range limit r =
    all_below 16 (λ b. all_below 2 (λ l. fits limit (vector_x_of r b l) && fits limit (vector_y_of r b l)))

-- The first broken rule of a written record, for rule 5's limit of the base and any other
pub record AsRecord (limit : ℕ) (answer : Answer) (written : List ℤ) : Type 0 where
  -- inherited, each block uses a list,
  pub uses : (b : Basis) (s : Split) → answer ≡ Inherited b s → (i : ℕ) → i < 16
      → (used (motion_of written i).list0.reference || used (motion_of written i).list1.reference) ≡ true
  -- and the rule is 0, or 5 where a vector word is out of range;
  pub inherited : (b : Basis) (s : Split) → answer ≡ Inherited b s → (any : ℕ) → first_broken any written ≡ pick (vectors_in_range any written) 0 5
  -- none is out of twice the range;
  pub doubled : (b : Basis) (s : Split) → answer ≡ Inherited b s → first_broken (2 * limit) written ≡ 0
  -- intra, it is 0,
  pub intra : (b : Basis) → answer ≡ Intra b → (any : ℕ) → first_broken any written ≡ 0
  -- and outside 1.
  pub outside : answer ≡ Outside → (any : ℕ) → first_broken any written ≡ 1

-- In every case of demand 3
abbrev pub WrittenEntire : ℕ → Type 0
WrittenEntire limit =
    (n : Numbers) (column row : ℕ) (base : List ℤ) → Case limit n column row base
    → (words : List ℤ) (answer : Answer) (written : List ℤ) → SinglyGives limit n column row words base answer written
    → AsRecord limit answer written

-- Step 1 is not seen: in every case, inside the window, steps 2 and 3 alone give the same.
abbrev pub without_step1 : ℕ → List (List Motion) → List (List Motion)
without_step1 set m = copied (live_of set) (four (λ q. merged (get_or m q [])))

abbrev pub Step1Unseen : ℕ → Type 0
Step1Unseen limit =
    (n : Numbers) (column row : ℕ) (base : List ℤ) → Case limit n column row base → inside (axes_of n) column row ≡ true
    → resolved (intra_set (axes_of n) base column row) (gathered (axes_of n) base column row)
    ≡ without_step1 (intra_set (axes_of n) base column row) (gathered (axes_of n) base column row)
