-- The order of its original over the floors of an edited statement gives the stamps of the original.
use Rattle.std.proofs.Common.{◌≡◌, ℕ, ◌+◌, ◌-◌, ◌≤◌, List, [], ◌∷◌, ◌++◌, length, map, All, ℤ, ◌+ℤ◌, refl, ap, sym, ◌∙◌, subst, arith}
use Rattle.std.proofs.lemmas.Int.{ints}
use Rattle.std.proofs.lemmas.List.{length-append, length-map}
use Rattle.std.proofs.lemmas.List.Elements.{All-head, All-tail, All-cons, All-nil}
use Rattle.row_core.specs.Rows.{dot}
use Rattle.scop_data.specs.declared.affines.Affine.{Affine}
use Rattle.scop_data.specs.declared.schedules.Schedule.{Schedule}
use Rattle.scop_core.specs.SolvedRows.{zeros, HasSizes, HasRelation}
use Rattle.scop_core.specs.ReadBack.{IsSolvedSchedule}
use Rattle.scop_core.specs.Meaning.{affine_at, floors_after, levels_at, interleaved, stamp_of}
use Rattle.scop_core.specs.LevelOrder.{level_values}
use Rattle.schedule_forms.proofs.SolvedDots.{dot_append}
use Rattle.dependence_systems.proofs.Segments.{dot_zeros, length_zeros}
use Rattle.dependence_systems.proofs.SystemMeanings.{length_floors}
use Rattle.legality.specs.Mixed.{padded, mixed}
use Rattle.edit_laws.specs.Keeping.{FloorsGoOn}

-- coefficients that are 0 add nothing
padded_value : (form : Affine) (k : ℕ) (x f rest n : List ℤ) → length form.floors ≡ length f → affine_at (padded k form) x (f ++ rest) n ≡ affine_at form x f n
padded_value form k x f rest n e =
    let j = k - length form.floors in
    let more = dot_append form.floors (zeros j) f rest e in
    let none : dot (zeros j) rest ≡ _ = dot_zeros j rest in
    let value : dot (form.floors ++ zeros j) (f ++ rest) ≡ dot form.floors f = omega (arith, ints, more, none) in
    ap (λ z. ((dot form.iterators x +ℤ z) +ℤ dot form.parameters n) +ℤ form.constant) value

padded_levels : (levels : List Affine) (iterators parameters k : ℕ) (x f rest n : List ℤ) → All (HasSizes iterators (length f) parameters) levels
    → levels_at (map (padded k) levels) x (f ++ rest) n ≡ levels_at levels x f n
padded_levels [] iterators parameters k x f rest n sizes = refl
padded_levels (form ∷ levels) iterators parameters k x f rest n sizes =
    let P = HasSizes iterators (length f) parameters in
    ap (λ z. z ∷ levels_at (map (padded k) levels) x (f ++ rest) n) (padded_value form k x f rest n (All-head P form levels sizes).floors_are)
    ∙ ap (λ t. affine_at form x f n ∷ t) (padded_levels levels iterators parameters k x f rest n (All-tail P form levels sizes))

pub mixed_values : (iterators parameters : ℕ) (old now : Schedule) → IsSolvedSchedule iterators parameters old → FloorsGoOn old now → (x n : List ℤ)
    → level_values (mixed old now) x n ≡ level_values old x n
mixed_values iterators parameters old now solved go x n =
    let f = floors_after [] old.floors x n in
    let g = go x n in
    let long : length f ≡ length old.floors = length_floors [] old.floors x n ∙ omega arith in
    ap (λ t. levels_at (map (padded (length now.floors)) old.levels) x t n) g.1
    ∙ padded_levels old.levels iterators parameters (length now.floors) x f g.0 n (subst (λ c. All (HasSizes iterators c parameters) old.levels) (sym long) solved.relation.levels)

pub mixed_stamp : (iterators parameters : ℕ) (old now : Schedule) → IsSolvedSchedule iterators parameters old → FloorsGoOn old now → (x n : List ℤ)
    → stamp_of (mixed old now) x n ≡ stamp_of old x n
mixed_stamp iterators parameters old now solved go x n = ap (λ v. interleaved old.betas v) (mixed_values iterators parameters old now solved go x n)

-- there are no fewer floors than before
pub more_floors : (old now : Schedule) → FloorsGoOn old now → length old.floors ≤ length now.floors
more_floors old now go =
    let g = go [] [] in
    omega (arith, ap length g.1, length-append (floors_after [] old.floors [] []) g.0, length_floors [] old.floors [] [], length_floors [] now.floors [] [])

padded_sizes : (iterators parameters floors k : ℕ) (levels : List Affine) → floors ≤ k → All (HasSizes iterators floors parameters) levels
    → All (HasSizes iterators k parameters) (map (padded k) levels)
padded_sizes iterators parameters floors k [] h sizes = All-nil (HasSizes iterators k parameters)
padded_sizes iterators parameters floors k (form ∷ levels) h sizes =
    let P = HasSizes iterators floors parameters in
    let head = All-head P form levels sizes in
    All-cons (HasSizes iterators k parameters) (padded k form) (map (padded k) levels)
    (record {
      iterators_are = head.iterators_are;
      floors_are = omega (arith, length-append form.floors (zeros (k - length form.floors)), length_zeros (k - length form.floors), head.floors_are);
      parameters_are = head.parameters_are;
    })
    (padded_sizes iterators parameters floors k levels h (All-tail P form levels sizes))

-- and the mixed schedule is in solved form
pub mixed_solved : (iterators parameters : ℕ) (old now : Schedule) → IsSolvedSchedule iterators parameters old → IsSolvedSchedule iterators parameters now → FloorsGoOn old now
    → IsSolvedSchedule iterators parameters (mixed old now)
mixed_solved iterators parameters old now o t go =
    let k = length now.floors in
    let relation : HasRelation iterators parameters (mixed old now) = record {
      levels = padded_sizes iterators parameters (length old.floors) k old.levels (more_floors old now go) o.relation.levels;
      floors = t.relation.floors;
      betas = o.relation.betas ∙ ap (λ c. c + 1) (sym (length-map old.levels (padded k)));
      limits = record {
        outputs = omega (arith, o.relation.limits.outputs, length-map old.levels (padded k));
        inputs = o.relation.limits.inputs;
        locals = t.relation.limits.locals;
        parameters = o.relation.limits.parameters;
      };
      pairs = t.relation.pairs;
    } in record { relation = relation; sizes = t.sizes; earlier = t.earlier }
