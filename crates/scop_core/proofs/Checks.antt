-- Definitions on concrete data.
use Rattle.std.proofs.Common.{◌≡◌, ◌⊎◌, refl, sym, subst, Some, None, inl, inr, ℕ, zero, suc, ◌<◌, List, [], ◌∷◌, length, get_or, ap, arith, ℤ, pos, negsuc, ◌≤ℤ◌}
use Rattle.std.specs.Prelude.{codes, All}
use Rattle.std.proofs.lemmas.Int.{ints, by_lt_z}
use Rattle.std.proofs.lemmas.List.Elements.{All-nil, All-cons}
use Rattle.relation_core.specs.Systems.{System}
use Rattle.relation_core.specs.Points.{MeetsAll, coordinates}
use Rattle.relation_core.specs.declared.part_rows.RowKind.TheVariants.{AtLeast}
use Rattle.scop_data.specs.declared.affines.Affine.{Affine}
use Rattle.scop_data.specs.declared.accesses.AccessKind.TheVariants.{Read, Write, MayWrite}
use Rattle.scop_data.specs.declared.accesses.Access.{Access}
use Rattle.scop_data.specs.declared.schedules.Floor.{Floor}
use Rattle.scop_data.specs.declared.statements.Statement.{Statement}
use Rattle.scop_data.specs.SolvedRows.{HasSizes, PairFits}
use Rattle.scop_core.specs.Printable.{IsDomainPart}
use Rattle.scop_data.specs.SolvedData.{UsesEarlier, IsSolvedSchedule, IsSolvedAccess}
use Rattle.scop_core.specs.Shapes.{IsShapedStatement, IsShapedScop}
use Rattle.scop_data.specs.ScopData.{ScopData}
use Rattle.scop_data.specs.Sequences.{In}
use Rattle.scop_data.specs.Memory.{Cell, Term, Initial, App, NoTerms, More, initial, Use, Event, step_of}
use Rattle.scop_data.specs.Meaning.{InContext, Instance, IsInstance, floor_of, interleaved, stamp, Touch, Run, final}

-- floors of negative quotients
floor_of_minus_five : floor_of (negsuc 4) (pos 4) ≡ negsuc 1
floor_of_minus_five = refl

floor_of_minus_four : floor_of (negsuc 3) (pos 4) ≡ negsuc 0
floor_of_minus_four = refl

floor_of_five : floor_of (pos 5) (pos 4) ≡ pos 1
floor_of_five = refl

betas_and_levels : interleaved (pos 0 ∷ (pos 3 ∷ [])) (pos 7 ∷ []) ≡ pos 0 ∷ (pos 7 ∷ (pos 3 ∷ []))
betas_and_levels = refl

-- a cell of the array 1 and its subscript
abbrev at : ℤ → Cell
at subscript = record { array = pos 1; subscripts = subscript ∷ [] }

-- the values of the one iterator, and of the one floor
abbrev iterator_form : Affine
iterator_form = record { iterators = pos 1 ∷ []; floors = pos 0 ∷ []; parameters = pos 0 ∷ []; constant = pos 0 }

abbrev floor_form : Affine
floor_form = record { iterators = pos 0 ∷ []; floors = pos 1 ∷ []; parameters = pos 0 ∷ []; constant = pos 0 }

abbrev zero_form : Affine
zero_form = record { iterators = pos 0 ∷ []; floors = []; parameters = pos 0 ∷ []; constant = pos 0 }

-- i + 5 >= 0 and -i + N - 1 >= 0
abbrev from_minus_five : System
from_minus_five = record {
  shape = record { outputs = 1; inputs = 0; locals = 0; parameters = 1 };
  rows = record { kind = AtLeast; entries = pos 1 ∷ (pos 0 ∷ (pos 5 ∷ [])) }
      ∷ (record { kind = AtLeast; entries = negsuc 0 ∷ (pos 1 ∷ (negsuc 0 ∷ [])) } ∷ []);
}

-- a statement in strips of four that reads and writes the cell 0 of the array 1
abbrev strip_statement : Statement
strip_statement = record {
  domain = from_minus_five ∷ [];
  schedule = record {
    floors = record { value = iterator_form; size = pos 4 } ∷ [];
    levels = floor_form ∷ (iterator_form ∷ []);
    betas = pos 0 ∷ (pos 0 ∷ (pos 0 ∷ []));
  };
  accesses = record { kind = Read; array = pos 1; subscripts = zero_form ∷ [] } ∷ (record { kind = Write; array = pos 1; subscripts = zero_form ∷ [] } ∷ []);
  body = record { text = codes "A[0] += i;"; iterators = codes "i" ∷ [] };
  extensions = [];
}

abbrev strips : ScopData
strips = record {
  language = codes "C";
  context = record { shape = record { outputs = 0; inputs = 0; locals = 0; parameters = 1 }; rows = [] };
  parameters = Some (codes "N" ∷ []);
  statements = strip_statement ∷ [];
  arrays = None;
  extensions = [];
}

-- a context without rows has every value of its one parameter, and no list of another length
any_in_context : (v : ℤ) → InContext strips (v ∷ [])
any_in_context v = record { outputs_are = refl; inputs_are = refl; parameters_are = refl; locals = []; locals_are = refl; meets = tt }

not_in_context : InContext strips [] → ⊥
not_in_context h = absurd (omega (arith, h.parameters_are))

abbrev instance_at : ℤ → Instance
instance_at v = record { statement = 1; values = v ∷ [] }

-- a stamp with a floor of a negative value
stamp_of_minus_five : stamp strips (negsuc 2 ∷ []) (instance_at (negsuc 4)) ≡ pos 0 ∷ (negsuc 1 ∷ (pos 0 ∷ (negsuc 4 ∷ (pos 0 ∷ []))))
stamp_of_minus_five = refl

stamp_of_minus_four : stamp strips (negsuc 2 ∷ []) (instance_at (negsuc 3)) ≡ pos 0 ∷ (negsuc 0 ∷ (pos 0 ∷ (negsuc 3 ∷ (pos 0 ∷ []))))
stamp_of_minus_four = refl

-- the whole run at N = -3
abbrev two_instances : List Instance
two_instances = instance_at (negsuc 4) ∷ (instance_at (negsuc 3) ∷ [])

value_of_instance : (v : ℤ) (locals : List ℤ) → length locals ≡ 0 → MeetsAll from_minus_five.rows (coordinates (v ∷ []) [] locals (negsuc 2 ∷ [])) → (negsuc 4 ≡ v) ⊎ (negsuc 3 ≡ v)
value_of_instance v (x ∷ xs) e m = absurd (omega (arith, e))
value_of_instance v [] e m = let low = m.0 in let high = m.1.0 in by_lt_z v (negsuc 3) (λ h. inl (omega (arith, ints))) (λ h. inr (omega (arith, ints)))

all_instances : (k : ℕ) (x : List ℤ) → IsInstance strips (negsuc 2 ∷ []) (record { statement = k; values = x }) → In (record { statement = k; values = x }) two_instances
all_instances zero x h = absurd h
all_instances (suc zero) [] h = absurd (omega (arith, h.0))
all_instances (suc zero) (v ∷ []) (e, inl d) = elim (value_of_instance v d.locals d.locals_are d.meets) as (λ _. In (instance_at v) two_instances) [
  | inl f ↦ inl (ap (λ u. instance_at u) f)
  | inr f ↦ inr (inl (ap (λ u. instance_at u) f))
]
all_instances (suc zero) (v ∷ []) (e, inr d) = absurd d
all_instances (suc zero) (v ∷ (w ∷ x)) h = absurd (omega (arith, h.0))
all_instances (suc (suc k)) x h = absurd h

-- what holds at both instances: all rows, with no local
abbrev lies_in : (v : ℤ) → MeetsAll from_minus_five.rows (coordinates (v ∷ []) [] [] (negsuc 2 ∷ [])) → IsInstance strips (negsuc 2 ∷ []) (instance_at v)
lies_in v m = (refl, inl (record { outputs_are = refl; inputs_are = refl; parameters_are = refl; locals = []; locals_are = refl; meets = m }))

only_instances : (a : Instance) → In a two_instances → IsInstance strips (negsuc 2 ∷ []) a
only_instances a (inl e) = subst (λ b. IsInstance strips (negsuc 2 ∷ []) b) e (lies_in (negsuc 4) (omega (arith, ints), (omega (arith, ints), tt)))
only_instances a (inr (inl e)) = subst (λ b. IsInstance strips (negsuc 2 ∷ []) b) e (lies_in (negsuc 3) (omega (arith, ints), (omega (arith, ints), tt)))
only_instances a (inr (inr i)) = absurd i

run_of_strips : Run strips (negsuc 2 ∷ []) two_instances
run_of_strips = record { all = λ a h. all_instances a.statement a.values h; only = only_instances; rising = (inr (refl, inl (omega (arith, ints))), tt) }

-- what the body computes at the value v, from the term that the cell had
abbrev added : ℤ → Term → Term
added v t = App (codes "A[0] += i;") (codes "i" ∷ []) 1 (v ∷ []) (negsuc 2 ∷ []) (More t NoTerms)

-- two writes to one cell: the second one reads what the first one wrote
memory_of_strips : final strips (negsuc 2 ∷ []) two_instances (at (pos 0)) ≡ added (negsuc 3) (added (negsuc 4) (Initial (at (pos 0))))
memory_of_strips = refl

elsewhere_as_before : final strips (negsuc 2 ∷ []) two_instances (at (pos 1)) ≡ Initial (at (pos 1))
elsewhere_as_before = refl

-- both write and read the one cell, so they touch
strips_touch : Touch strips (negsuc 2 ∷ []) (instance_at (negsuc 4)) (instance_at (negsuc 3))
strips_touch = (record { kind = Read; cell = at (pos 0) }, record { kind = Write; cell = at (pos 0) }, inl refl, inr (inl refl), refl, inr refl)

-- a MAY_WRITE before a READ: the cell that is read comes first, and the write has the number 1
abbrev event_with : List Use → Event
event_with uses = record { uses = uses; text = codes "S"; names = []; values = []; parameters = [] }

may_write_takes_its_cell : step_of (event_with (record { kind = MayWrite; cell = at (pos 1) } ∷ (record { kind = Read; cell = at (pos 2) } ∷ []))) initial (at (pos 1))
    ≡ App (codes "S") [] 1 [] [] (More (Initial (at (pos 2))) (More (Initial (at (pos 1))) NoTerms))
may_write_takes_its_cell = refl

-- two writing accesses of one step: they count from 1, and the later one replaces the earlier one at the same cell
later_store_stays : step_of (event_with (record { kind = Write; cell = at (pos 1) } ∷ (record { kind = Write; cell = at (pos 1) } ∷ []))) initial (at (pos 1))
    ≡ App (codes "S") [] 2 [] [] NoTerms
later_store_stays = refl

each_store_has_its_number : step_of (event_with (record { kind = Write; cell = at (pos 1) } ∷ (record { kind = MayWrite; cell = at (pos 2) } ∷ []))) initial (at (pos 1))
    ≡ App (codes "S") [] 1 [] [] (More (Initial (at (pos 2))) NoTerms)
each_store_has_its_number = refl

-- no access, no effect
no_access : step_of (event_with []) initial (at (pos 1)) ≡ Initial (at (pos 1))
no_access = refl

-- the strips have the shapes of a SCoP
one_item : {X : Type 0} (P : X → Type 0) (x : X) → P x → All P (x ∷ [])
one_item P x h = All-cons P x [] h (All-nil P)

two_items : {X : Type 0} (P : X → Type 0) (x y : X) → P x → P y → All P (x ∷ (y ∷ []))
two_items P x y h g = All-cons P x (y ∷ []) h (one_item P y g)

sizes_one : HasSizes 1 1 1 iterator_form
sizes_one = record { iterators_are = refl; floors_are = refl; parameters_are = refl }

floor_fits : (k : ℕ) (d : Floor) → k < 1 → PairFits k (get_or strip_statement.schedule.floors k d)
floor_fits zero d h = record { local = omega (arith, ints); constant = omega (arith, ints) }
floor_fits (suc k) d h = absurd (omega arith)

floor_is_first : (k : ℕ) (d : Floor) → k < 1 → UsesEarlier k (get_or strip_statement.schedule.floors k d)
floor_is_first zero d h zero g = refl
floor_is_first zero d h (suc j) g = refl
floor_is_first (suc k) d h j g = absurd (omega arith)

strip_schedule : IsSolvedSchedule 1 1 strip_statement.schedule
strip_schedule = record {
  relation = record {
    levels = two_items (HasSizes 1 1 1) floor_form iterator_form (record { iterators_are = refl; floors_are = refl; parameters_are = refl }) sizes_one;
    floors = one_item (λ (floor : Floor). HasSizes 1 1 1 floor.value) (record { value = iterator_form; size = pos 4 }) sizes_one;
    betas = refl;
    limits = record { outputs = omega arith; inputs = omega arith; locals = omega arith; parameters = omega arith };
    pairs = floor_fits;
  };
  sizes = one_item (λ (floor : Floor). pos 1 ≤ℤ floor.size) (record { value = iterator_form; size = pos 4 }) (omega (arith, ints));
  earlier = floor_is_first;
}

strip_access : (access : Access) → access.array ≡ pos 1 → access.subscripts ≡ zero_form ∷ [] → IsSolvedAccess 1 1 access
strip_access access a e =
    let sizes : HasSizes 1 0 1 zero_form = record { iterators_are = refl; floors_are = refl; parameters_are = refl } in
    let count : length access.subscripts ≡ 1 = ap length e in
    record {
      relation = record {
        subscripts = subst (All (HasSizes 1 0 1)) (sym e) (one_item (HasSizes 1 0 1) zero_form sizes);
        limits = record { outputs = omega (arith, count); inputs = omega arith; locals = omega arith; parameters = omega arith };
      };
      identifier = omega (arith, ints, a);
    }

strips_are_shaped : IsShapedScop strips
strips_are_shaped = record {
  context = record { outputs = refl; inputs = refl; locals = refl };
  statements = one_item (IsShapedStatement 1) strip_statement (record {
    some_part = refl;
    domain = one_item (IsDomainPart 1 1) from_minus_five (record { outputs = refl; inputs = refl; parameters_are = refl });
    schedule = strip_schedule;
    accesses = two_items (IsSolvedAccess 1 1) _ _ (strip_access (record { kind = Read; array = pos 1; subscripts = zero_form ∷ [] }) refl refl)
        (strip_access (record { kind = Write; array = pos 1; subscripts = zero_form ∷ [] }) refl refl);
  });
}

-- a statement without a domain part has them not
no_part : IsShapedStatement 1 (record strip_statement { domain = [] }) → ⊥
no_part h = let e = h.some_part in absurd (cc)
