-- What a C region does to a memory, as C runs it, with integers that have no bound.
use Rattle.std.specs.Prelude.{ℕ, zero, suc, ◌+◌, List, [], ◌∷◌, ◌++◌, ℤ, pos, negsuc, neg_ℤ, ◌≤ℤ◌, ◌+ℤ◌, ◌-ℤ◌, ◌*ℤ◌, unsigned_abs, int_lt, int_le, int_rem, Bool, true, false, cond, not, ◌&&◌, ◌||◌, ◌≡◌, bytes_eq, map}
use Rattle.std.specs.Int.{int_max, int_min}
use Rattle.std.specs.Ordering.{int_eq}
use Rattle.scop_core.specs.Sequences.{fold_steps}
use Rattle.scop_core.specs.Memory.{Cell, App, Memory, stored, terms_at}
use Rattle.scop_core.specs.Meaning.{floor_of}
use Rattle.clan_extract.specs.Regions.{Expression, Number, Name, Sum, Difference, Product, Negation, Maximum, Minimum, Ceiling, Floor, Remainder, Comparison, IsLess, IsLessOrEqual, IsGreater, IsGreaterOrEqual, IsEqual, IsUnequal, Condition, Compare, Both, Either, Opposite, Reference, Assignment, Node, For, If, Block, Assign, Nodes, NoNodes, Then, array_references, number_in}

-- a loop that is running: its name and the value that it has now
pub record Binding : Type 0 where
  pub name : List ℕ
  pub value : ℤ

-- what is fixed for a whole region: its parameters with their values, and its arrays
pub record Setting : Type 0 where
  pub parameters : List (List ℕ)
  pub values : List ℤ
  pub arrays : List (List ℕ)

-- the value of a parameter, at its place in the list of values
abbrev pub parameter_value : List (List ℕ) → List ℤ → List ℕ → ℤ
parameter_value [] values name = pos 0
parameter_value (x ∷ xs) [] name = pos 0
parameter_value (x ∷ xs) (v ∷ values) name = cond (bytes_eq x name) v (parameter_value xs values name)

-- the value of a name where these loops run, from the outermost: that of the innermost loop of the name, or the given one
abbrev pub value_inside : List Binding → List ℕ → ℤ → ℤ
value_inside [] name given = given
value_inside (b ∷ inner) name given = value_inside inner name (cond (bytes_eq b.name name) b.value given)

-- the value of a name: of the innermost loop of this name, else of the parameter
abbrev pub name_value : Setting → List Binding → List ℕ → ℤ
name_value setting loops name = value_inside loops name (parameter_value setting.parameters setting.values name)

-- the value of an expression; a ceiling is the least q with q * d >= n, a floor the greatest q with q * d <= n,
-- and a remainder is that of the division toward zero
abbrev pub value_of : Setting → List Binding → Expression → ℤ
value_of setting loops (Number value) = pos value
value_of setting loops (Name name) = name_value setting loops name
value_of setting loops (Sum left right) = value_of setting loops left +ℤ value_of setting loops right
value_of setting loops (Difference left right) = value_of setting loops left -ℤ value_of setting loops right
value_of setting loops (Product left right) = value_of setting loops left *ℤ value_of setting loops right
value_of setting loops (Negation of) = neg_ℤ (value_of setting loops of)
value_of setting loops (Maximum left right) = int_max (value_of setting loops left) (value_of setting loops right)
value_of setting loops (Minimum left right) = int_min (value_of setting loops left) (value_of setting loops right)
value_of setting loops (Ceiling of divisor) = neg_ℤ (floor_of (neg_ℤ (value_of setting loops of)) (pos divisor))
value_of setting loops (Floor of divisor) = floor_of (value_of setting loops of) (pos divisor)
value_of setting loops (Remainder of divisor) = int_rem (value_of setting loops of) (pos divisor)

-- the comparison holds
abbrev pub compare : Comparison → ℤ → ℤ → Bool
compare IsLess a b = int_lt a b
compare IsLessOrEqual a b = int_le a b
compare IsGreater a b = int_lt b a
compare IsGreaterOrEqual a b = int_le b a
compare IsEqual a b = int_eq a b
compare IsUnequal a b = not (int_eq a b)

-- the condition holds
abbrev pub truth_of : Setting → List Binding → Condition → Bool
truth_of setting loops (Compare comparison left right) = compare comparison (value_of setting loops left) (value_of setting loops right)
truth_of setting loops (Both left right) = truth_of setting loops left && truth_of setting loops right
truth_of setting loops (Either left right) = truth_of setting loops left || truth_of setting loops right
truth_of setting loops (Opposite of) = not (truth_of setting loops of)

-- the values from v on, each a step from the last, as long as the test holds; at most so many
abbrev pub values_while : (ℤ → Bool) → ℤ → ℕ → ℤ → List ℤ
values_while test step zero v = []
values_while test step (suc most) v = cond (test v) (v ∷ values_while test step most (v +ℤ step)) []

-- the values that a loop takes. From the start it goes toward the bound by at least 1 at a time, so it has passed it
-- after as many values as the distance and one more
abbrev pub loop_values : Comparison → ℤ → ℤ → ℤ → List ℤ
loop_values comparison start bound step = values_while (λ v. compare comparison v bound) step (unsigned_abs (bound -ℤ start) + 1) start

-- the cell of a reference: the number of its array, and the values of its subscripts
abbrev pub cell_of : Setting → List Binding → Reference → Cell
cell_of setting loops r = record { array = number_in setting.arrays r.name; subscripts = map (λ e. value_of setting loops e) r.subscripts }

-- the references whose cells an assignment reads: its target where it updates it, then the arrays of its right side
abbrev pub reads_of : Setting → List Binding → Assignment → List Reference
reads_of setting loops a = cond a.updates (a.target ∷ []) [] ++ array_references setting.parameters (map (λ b. b.name) loops) a.right

-- the memory after an assignment: at its target the term of its text, of the names and values of the loops round it,
-- of the parameters and of what it reads
abbrev pub assigned : Setting → List Binding → Assignment → Memory → Memory
assigned setting loops a m =
    stored m (cell_of setting loops a.target)
    (App a.text (map (λ b. b.name) loops) 1 (map (λ b. b.value) loops) setting.values (terms_at m (map (λ r. cell_of setting loops r) (reads_of setting loops a))))

-- the memory after a statement, and after a list of statements
abbrev mutual
  pub run_node : Setting → List Binding → Node → Memory → Memory
  run_node setting loops (For name start comparison bound step body) m =
      fold_steps (λ v k. run_nodes setting (loops ++ record { name = name; value = v } ∷ []) body k)
      (loop_values comparison (value_of setting loops start) (value_of setting loops bound) step) m
  run_node setting loops (If condition then_nodes else_nodes) m =
      cond (truth_of setting loops condition) (run_nodes setting loops then_nodes m) (run_nodes setting loops else_nodes m)
  run_node setting loops (Block nodes) m = run_nodes setting loops nodes m
  run_node setting loops (Assign a) m = assigned setting loops a m

  pub run_nodes : Setting → List Binding → Nodes → Memory → Memory
  run_nodes setting loops NoNodes m = m
  run_nodes setting loops (Then first rest) m = run_nodes setting loops rest (run_node setting loops first m)

-- the values from v on, each a step from the last, as long as the test holds: at the one after the last it fails
abbrev pub AsLongAs : (ℤ → Bool) → ℤ → ℤ → List ℤ → Type 0
AsLongAs test step v [] = test v ≡ false
AsLongAs test step v (x ∷ xs) = (x ≡ v) × (test v ≡ true) × AsLongAs test step (v +ℤ step) xs

-- the step goes toward the bound
abbrev pub Approaches : Comparison → ℤ → Type 0
Approaches IsLess step = pos 1 ≤ℤ step
Approaches IsLessOrEqual step = pos 1 ≤ℤ step
Approaches IsGreater step = step ≤ℤ negsuc 0
Approaches IsGreaterOrEqual step = step ≤ℤ negsuc 0
Approaches IsEqual step = ⊥
Approaches IsUnequal step = ⊥

-- a loop runs for its start and each next value, as long as its comparison holds
abbrev pub LoopsRunAsLongAs : Type 0
LoopsRunAsLongAs = (comparison : Comparison) (step : ℤ) → Approaches comparison step → (start bound : ℤ)
    → AsLongAs (λ v. compare comparison v bound) step start (loop_values comparison start bound step)
