-- The script turns the schedules of the original into those of the target.
use Rattle.std.proofs.Common.{◌≡◌, ℤ, ℕ, zero, suc, ◌≤◌, nat_lt, inl, inr, Some, None, List, [], ◌∷◌, ◌++◌, length, map, refl, sym, ◌∙◌, ap, arith}
use Rattle.std.specs.Prelude.{slice_get}
use Rattle.std.proofs.lemmas.Bool.{ltb-true, ltb-false}
use Rattle.std.proofs.lemmas.Option.{get_or_from_slice_get}
use Rattle.row_core.specs.Dense.{dense_of}
use Rattle.beta_tree.proofs.Places.{bool_tells}
use Rattle.scop_data.specs.declared.statements.Statement.{Statement}
use Rattle.scop_core.specs.ScopData.{ScopData, betas_in}
use Rattle.scop_core.specs.Meaning.{statement_at, floors_after, levels_at, interleaved, stamp_in}
use Rattle.clay_script.specs.declared.commands.Command.{Command}
use Rattle.clay_commands.specs.declared.leaves.Leaf.{Leaf}
use Rattle.clay_commands.specs.Drafts.{Draft, scheduled}
use Rattle.clay_commands.specs.Spots.{edits, stamp_at, vector_at, values_in}
use Rattle.clay_commands.specs.Afters.{closed_leaf, after_script, IsFormed, refusal_of}
use Rattle.edit_laws.proofs.Brought.{scripts_edit_values}
use Rattle.edit_laws.proofs.Unrefused.{unrefused_scripts_are_formed}
use Rattle.chlore_recover.specs.Runs.{at_levels}
use Rattle.chlore_recover.specs.Strategy.{Placed, as_prefix, ordered_from, in_beta_order, fissions, fuses, all_levels, order_for, reorder_unless_same, strategy, Recovers}
use Rattle.chlore_recover.specs.Recovered.{CanRecover, StrategyRecovers}
use Rattle.chlore_recover.proofs.Assembly.{alone, IsLed, led, seat_ends, strategy_none}
use Rattle.chlore_recover.proofs.Moves.{moved, IsSetting}
use Rattle.chlore_recover.proofs.Seats.{vectors_in, paired_count, seat_of}
use Rattle.chlore_recover.proofs.Stands.{stands_get, stands_map}

-- SCoPs without statements

empty : {A : Type 0} (xs : List A) → length xs ≡ 0 → xs ≡ []
empty [] e = refl
empty (x ∷ xs) e = absurd (omega arith)

abbrev script_for : ScopData → ScopData → List Placed → List Placed → List Command
script_for O T p q = fissions (map (λ e. e.1) p) ++ all_levels O T 0 p ++ reorder_unless_same (order_for p q) ++ fuses (map (λ e. e.1) q)

none_script : (O T : ScopData) → O.statements ≡ [] → T.statements ≡ [] → strategy O T ≡ []
none_script O T a b =
    let p : in_beta_order O ≡ [] = ap (λ S. ordered_from 0 (dense_of (betas_in S))) a in
    let q : in_beta_order T ≡ [] = ap (λ S. ordered_from 0 (dense_of (betas_in S))) b in
    ap (λ z. script_for O T z (in_beta_order T)) p ∙ ap (script_for O T []) q

none_recovers : (O T : ScopData) → CanRecover O T → length O.statements ≡ 0 → Recovers O T (strategy O T)
none_recovers O T can e =
    let count = paired_count O.context.shape.parameters O.statements T.statements can.statements in
    let is : strategy O T ≡ [] = none_script O T (empty O.statements e) (empty T.statements (omega arith)) in
    record {
      unrefused = ap (λ script. refusal_of O script) is;
      edited = λ k x n low high. absurd (omega arith);
    }

-- the stamp of a statement after the script

-- the values of a statement's levels where it has no floors
values_same : (s t : Statement) (x n : List ℤ) → s.schedule.floors ≡ [] → t.schedule.floors ≡ []
    → levels_at t.schedule.levels x (floors_after [] s.schedule.floors x n) n ≡ levels_at t.schedule.levels x (floors_after [] t.schedule.floors x n) n
values_same s t x n a b = ap (λ fs. levels_at t.schedule.levels x (floors_after [] fs x n) n) (a ∙ sym b)

closed_stamp : (leaf : Leaf) (w : List ℕ) (s t : Statement) (x n : List ℤ) → leaf.beta ≡ w → leaf.statement ≡ scheduled s (at_levels s.schedule t.schedule.levels)
    → stamp_in (Some (closed_leaf leaf)) x n ≡ interleaved (as_prefix w) (levels_at t.schedule.levels x (floors_after [] s.schedule.floors x n) n)
closed_stamp leaf w s t x n b e =
    ap (λ v. interleaved (as_prefix v) (levels_at leaf.statement.schedule.levels x (floors_after [] leaf.statement.schedule.floors x n) n)) b
    ∙ ap (λ z. interleaved (as_prefix w) (levels_at z.schedule.levels x (floors_after [] z.schedule.floors x n) n)) e

some_recovers : (O T : ScopData) → IsSetting O T → Recovers O T (strategy O T)
some_recovers O T x =
    let a = led O T x in
    let D : Draft = map (moved a.h) (map (moved a.g) (alone O T a.f)) in
    let unrefused : refusal_of O (strategy O T) ≡ None = a.leads.unrefused 1 in
    let formed : IsFormed O (strategy O T) = unrefused_scripts_are_formed O (strategy O T) unrefused in
    record {
      unrefused = unrefused;
      edited = edited a formed;
    }
  where
    edited : IsLed O T → IsFormed O (strategy O T) → (k : ℕ) (y n : List ℤ) → 1 ≤ k → k ≤ length O.statements
        → ((edits O (strategy O T) k y n).spot.number ≡ k)
        × (stamp_at (edits O (strategy O T) k y n) ≡ interleaved (as_prefix (vector_at (dense_of (betas_in T.statements)) k)) (values_in (statement_at T.statements k) y n))
    edited a formed zero y n low high = absurd (omega arith)
    edited a formed (suc i) y n low high =
        let seat = seat_of O T i x.original x.target x.can (omega arith) in
        let z = seat.has in
        let w : List ℕ = seat.w in
        let s : Statement = seat.s in
        let t : Statement = seat.t in
        let D : Draft = map (moved a.h) (map (moved a.g) (alone O T a.f)) in
        let there : statement_at O.statements (suc i) ≡ Some s = stands_get i s O.statements z.original in
        let has = scripts_edit_values O (strategy O T) x.original formed (strategy_none O T x) (suc i) s there y n in
        let l = seat_ends O T a i seat.v w s t z in
        let after : statement_at (after_script O (strategy O T)).scop.statements (suc i) ≡ Some (closed_leaf l.leaf) =
        ap (λ E. slice_get (map closed_leaf E) i) a.leads.drafts ∙ stands_get i (closed_leaf l.leaf) (map closed_leaf D) (stands_map closed_leaf i l.leaf D l.stands) in
        let goal_vector : vector_at (dense_of (betas_in T.statements)) (suc i) ≡ w = get_or_from_slice_get (vectors_in T) i w [] (stands_get i w (vectors_in T) z.goal) in
        let goal_values : values_in (statement_at T.statements (suc i)) y n ≡ levels_at t.schedule.levels y (floors_after [] t.schedule.floors y n) n =
        ap (λ o. values_in o y n) (stands_get i t T.statements z.target) in
        let left : stamp_at (edits O (strategy O T) (suc i) y n) ≡ interleaved (as_prefix w) (levels_at t.schedule.levels y (floors_after [] t.schedule.floors y n) n) =
        has.stamp_is ∙ (ap (λ o. stamp_in o y n) after ∙ (closed_stamp l.leaf w s t y n l.beta l.statement
        ∙ ap (interleaved (as_prefix w)) (values_same s t y n z.pair.clans.floors z.pair.recoverable.floors))) in
        let right : interleaved (as_prefix (vector_at (dense_of (betas_in T.statements)) (suc i))) (values_in (statement_at T.statements (suc i)) y n) ≡ interleaved (as_prefix w) (levels_at t.schedule.levels y (floors_after [] t.schedule.floors y n) n) =
        ap (λ v. interleaved (as_prefix v) (values_in (statement_at T.statements (suc i)) y n)) goal_vector ∙ ap (interleaved (as_prefix w)) goal_values in
        (has.number, left ∙ sym right)

pub strategy_recovers : StrategyRecovers
strategy_recovers O T vo vt can =
    elim (bool_tells (nat_lt 0 (length O.statements))) [
      | inl t ↦ some_recovers O T (record { original = vo; target = vt; can = can; some = ltb-true 0 (length O.statements) t })
      | inr f ↦ let l = ltb-false 0 (length O.statements) f in none_recovers O T can (omega arith)
    ]
