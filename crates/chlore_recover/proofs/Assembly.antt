-- The four steps of the script, one after the other.
use Rattle.std.proofs.Common.{◌≡◌, ℤ, pos, ℕ, suc, ◌+◌, ◌-◌, true, false, if◌then◌else◌, List, [], ◌∷◌, ◌++◌, length, map, refl, sym, ◌∙◌, ap, subst, arith}
use Rattle.std.specs.List.{range_with_len}
use Rattle.std.proofs.lemmas.List.{length-map}
use Rattle.beta_tree.specs.Vectors.{In}
use Rattle.beta_tree.specs.Edits.{place_of, is_permutation_of, same_vector}
use Rattle.beta_tree.proofs.Orders.{Orders}
use Rattle.beta_tree.proofs.Places.{In-map, from_In-map}
use Rattle.beta_trails.specs.Trails.{zeros, ranked}
use Rattle.beta_trails.specs.Laws.{placed_from}
use Rattle.scop_data.specs.declared.statements.Statement.{Statement}
use Rattle.scop_core.specs.ScopData.{ScopData}
use Rattle.clay_script.specs.declared.commands.Command.{Command}
use Rattle.clay_script.specs.declared.commands.Command.TheVariants.{Fission, Fuse, Reorder, Interchange, Skew, Shift, Reverse, Stripmine, Tile, Iss}
use Rattle.clay_commands.specs.declared.leaves.Leaf.{Leaf}
use Rattle.clay_commands.specs.Drafts.{Draft, betas_of, drafted, scheduled}
use Rattle.clay_commands.specs.Steps.{IsVectorCommand, IsPlainCommand}
use Rattle.clay_commands.proofs.Closings.{drafted_betas}
use Rattle.edit_laws.specs.Stamping.{SplitsNone}
use Rattle.chlore_recover.specs.Runs.{at_levels}
use Rattle.chlore_recover.specs.Orders.{vectors_of}
use Rattle.chlore_recover.specs.Splits.{VectorsLead}
use Rattle.chlore_recover.specs.Strategy.{Placed, as_prefix, in_beta_order, levels_in, fissions, fuses, all_levels, order_for, reorder_unless_same, strategy}
use Rattle.chlore_recover.specs.Drafted.{HaveSame, AreLevelsUnder, script_at, leveled_from}
use Rattle.chlore_recover.proofs.Awaits.{all_levels_are_led}
use Rattle.chlore_recover.proofs.Members.{map_same, led_betas}
use Rattle.chlore_recover.proofs.Moves.{Leads, leads_on, moved, IsMove, moves, rank_moved, place_moved, back_moved, IsSetting, await_all, seat_leveled, leveled_keeps}
use Rattle.chlore_recover.proofs.Orders.{reorder_leads}
use Rattle.chlore_recover.proofs.Ranks.{permutation_of_orders, place_is, ordered_count, ordered_of, places_of, places_order, order_orders, ranked_at}
use Rattle.chlore_recover.proofs.Rises.{ordered_rises}
use Rattle.chlore_recover.proofs.Seats.{vectors_in, vectors_tree, vectors_count, IsLeafOf, leaf_of, beta_order_trailed, IsSeat, paired_count, seat_of}
use Rattle.chlore_recover.proofs.Stands.{Stands, one_stands, stands_in, in_stands, stands_below, some_stands, stands_map}
use Rattle.chlore_recover.proofs.Taken.{script_is}
use Rattle.chlore_recover.proofs.Trailed.{fissions_apart, fuses_back, apart_tree}

-- the vectors in beta order, and the order of the reorder
abbrev pub sorted : ScopData → List (List ℕ)
sorted S = vectors_of (in_beta_order S)

abbrev pub order_of : ScopData → ScopData → List ℕ
order_of O T = order_for (in_beta_order O) (in_beta_order T)

-- the vectors of leaves after the levels

keep_betas : (g : Leaf → Leaf) (D : Draft) → ((leaf : Leaf) → (g leaf).beta ≡ leaf.beta) → betas_of (map g D) ≡ betas_of D
keep_betas g [] h = refl
keep_betas g (leaf ∷ D) h = ap (λ v. v ∷ betas_of (map g D)) (h leaf) ∙ ap (λ V. leaf.beta ∷ V) (keep_betas g D h)

-- the leaves after the fissions and the levels
abbrev pub alone : ScopData → ScopData → (List ℕ → List ℕ) → Draft
alone O T f = map (leveled_from O T 0 (in_beta_order O)) (map (moved f) (drafted O))

alone_betas : (O T : ScopData) (f : List ℕ → List ℕ) → betas_of (alone O T f) ≡ map f (vectors_in O)
alone_betas O T f =
    keep_betas (leveled_from O T 0 (in_beta_order O)) (map (moved f) (drafted O)) (leveled_keeps O T 0 (in_beta_order O))
    ∙ (led_betas f (drafted O) ∙ ap (map f) (drafted_betas O))

-- a vector in its seat

seat_moved : (O T : ScopData) (f g : List ℕ → List ℕ) (i : ℕ) (v w : List ℕ) (s t : Statement) (y : IsSeat O T i v w s t) → ranked 0 (map length (sorted O)) ≡ map f (sorted O)
    → placed_from 0 (order_of O T) (map length (sorted O)) ≡ map g (ranked 0 (map length (sorted O))) → g (f v) ≡ y.seat ∷ zeros (length w - 1)
seat_moved O T f g i v w s t y isf isg =
    let at : Stands y.rank v (sorted O) = stands_map (λ e. e.1) y.rank (i, v) (in_beta_order O) y.ranked in
    ap g (rank_moved f (sorted O) y.rank v isf at)
    ∙ (place_moved g (order_of O T) (sorted O) y.rank v isg at
    ∙ (ap (λ k. k ∷ zeros (length v - 1)) y.order ∙ ap (λ m. y.seat ∷ zeros (m - 1)) y.long))

ranked_count : (r : ℕ) (lengths : List ℕ) → length (ranked r lengths) ≡ length lengths
ranked_count r [] = refl
ranked_count r (l ∷ lengths) = ap suc (ranked_count (r + 1) lengths)

sorted_count : (S : ScopData) → length (in_beta_order S) ≡ length S.statements
sorted_count S = ordered_count 0 (vectors_in S) ∙ vectors_count S

-- after the reorder the leaves have the vectors that the fuses begin with

last_there : (O T : ScopData) (x : IsSetting O T) (f g : List ℕ → List ℕ) → ranked 0 (map length (sorted O)) ≡ map f (sorted O) → placed_from 0 (order_of O T) (map length (sorted O)) ≡ map g (ranked 0 (map length (sorted O)))
    → (u : List ℕ) → In u (map g (map f (vectors_in O))) → In u (ranked 0 (map length (sorted T)))
last_there O T x f g isf isg u i =
    let (u1, i1, e1) = from_In-map g u (map f (vectors_in O)) i in
    let (v, i2, e2) = from_In-map f u1 (vectors_in O) i1 in
    let (k, h) = in_stands v (vectors_in O) i2 in
    let count = vectors_count O in
    let low = stands_below k v (vectors_in O) h in
    let seat = seat_of O T k x.original x.target x.can (omega arith) in
    let y = seat.has in
    let own : seat.v ≡ v = one_stands k seat.v v (vectors_in O) y.vector h in
    let to : u ≡ y.seat ∷ zeros (length seat.w - 1) = sym e1 ∙ (ap g (sym e2 ∙ ap f (sym own)) ∙ seat_moved O T f g k seat.v seat.w seat.s seat.t y isf isg) in
    let at : Stands y.seat (y.seat ∷ zeros (length seat.w - 1)) (ranked 0 (map length (sorted T))) =
    ranked_at 0 y.seat y.seat seat.w (sorted T) (omega arith) (stands_map (λ e. e.1) y.seat (k, seat.w) (in_beta_order T) y.seated) in
    subst (λ z. In z (ranked 0 (map length (sorted T)))) (sym to) (stands_in y.seat (y.seat ∷ zeros (length seat.w - 1)) (ranked 0 (map length (sorted T))) at)

last_back : (O T : ScopData) (x : IsSetting O T) (f g : List ℕ → List ℕ) → ranked 0 (map length (sorted O)) ≡ map f (sorted O) → placed_from 0 (order_of O T) (map length (sorted O)) ≡ map g (ranked 0 (map length (sorted O)))
    → (u : List ℕ) → In u (ranked 0 (map length (sorted T))) → In u (map g (map f (vectors_in O)))
last_back O T x f g isf isg u i =
    let (j, h) = in_stands u (ranked 0 (map length (sorted T))) i in
    let low = stands_below j u (ranked 0 (map length (sorted T))) h in
    let c1 = ranked_count 0 (map length (sorted T)) in
    let c2 = length-map (sorted T) length in
    let c3 = length-map (in_beta_order T) (λ e. e.1) in
    let c4 = sorted_count T in
    let c5 = paired_count O.context.shape.parameters O.statements T.statements x.can.statements in
    let (e, he) = some_stands j (in_beta_order T) (omega arith) in
    let is : u ≡ j ∷ zeros (length e.1 - 1) = one_stands j u (j ∷ zeros (length e.1 - 1)) (ranked 0 (map length (sorted T))) h
    (ranked_at 0 j j e.1 (sorted T) (omega arith) (stands_map (λ z. z.1) j e (in_beta_order T) he)) in
    let from = ordered_of 0 (vectors_in T) e (stands_in j e (in_beta_order T) he) in
    let k : ℕ = from.place in
    let c6 = stands_below k e.1 (vectors_in T) from.stands in
    let c7 = vectors_count T in
    let seat = seat_of O T k x.original x.target x.can (omega arith) in
    let y = seat.has in
    let named : e.0 ≡ k = let n = from.is in omega arith in
    let o = places_order (vectors_in T) in
    let p1 : place_of k (places_of (in_beta_order T)) ≡ j =
    subst (λ z. place_of z (places_of (in_beta_order T)) ≡ j) named (place_is (length (vectors_in T)) (places_of (in_beta_order T)) j e.0 o (stands_map (λ z. z.0) j e (in_beta_order T) he)) in
    let p2 : place_of k (places_of (in_beta_order T)) ≡ y.seat =
    place_is (length (vectors_in T)) (places_of (in_beta_order T)) y.seat k o (stands_map (λ z. z.0) y.seat (k, seat.w) (in_beta_order T) y.seated) in
    let same : y.seat ≡ j = sym p2 ∙ p1 in
    let whole : e ≡ (k, seat.w) = one_stands j e (k, seat.w) (in_beta_order T) he (subst (λ z. Stands z (k, seat.w) (in_beta_order T)) same y.seated) in
    let to : u ≡ g (f seat.v) =
    is ∙ (ap (λ z. j ∷ zeros (length z.1 - 1)) whole ∙ (ap (λ z. z ∷ zeros (length seat.w - 1)) (sym same) ∙ sym (seat_moved O T f g k seat.v seat.w seat.s seat.t y isf isg))) in
    subst (λ z. In z (map g (map f (vectors_in O)))) (sym to)
    (In-map g (f seat.v) (map f (vectors_in O)) (In-map f seat.v (vectors_in O) (stands_in k seat.v (vectors_in O) y.vector)))

-- the whole script leads from the statements of O to these leaves
pub record IsLed (O T : ScopData) : Type 0 where
  pub f : List ℕ → List ℕ
  pub g : List ℕ → List ℕ
  pub h : List ℕ → List ℕ
  pub leads : Leads O.context.shape.parameters (strategy O T) (drafted O) (map (moved h) (map (moved g) (alone O T f)))
  pub ranks : ranked 0 (map length (sorted O)) ≡ map f (sorted O)
  pub seats : placed_from 0 (order_of O T) (map length (sorted O)) ≡ map g (ranked 0 (map length (sorted O)))
  pub ends : sorted T ≡ map h (ranked 0 (map length (sorted T)))

pub led : (O T : ScopData) → IsSetting O T → IsLed O T
led O T x =
    let n : ℕ = O.context.shape.parameters in
    let V : List (List ℕ) = vectors_in O in
    let co = vectors_count O in
    let ct = vectors_count T in
    let count = paired_count n O.statements T.statements x.can.statements in
    let some = x.some in
    let to = beta_order_trailed O x.original some in
    let tr = beta_order_trailed T x.target (omega arith) in
    let o = ordered_rises V (vectors_tree O x.original) in
    let A : List Command = fissions (sorted O) in
    let B : List Command = all_levels O T 0 (in_beta_order O) in
    let C : List Command = reorder_unless_same (order_of O T) in
    let E : List Command = fuses (sorted T) in
    let R : List (List ℕ) = ranked 0 (map length (sorted O)) in
    let one : IsMove n A (drafted O) (sorted O) R = moves n A (drafted O) (sorted O) R o.tree (subst (λ z. HaveSame z (sorted O)) (sym (drafted_betas O)) o.same) (fissions_apart (sorted O) to) in
    let f : List ℕ → List ℕ = one.move in
    let after_fissions : Draft = map (moved f) (drafted O) in
    let after_levels : Draft = alone O T f in
    let two : Leads n B after_fissions after_levels = record {
      unrefused = λ i. (all_levels_are_led n i 0 O T (in_beta_order O) after_fissions (await_all O T x f one.is)).0;
      drafts = (all_levels_are_led n 0 0 O T (in_beta_order O) after_fissions (await_all O T x f one.is)).1;
    } in
    let levels_same : HaveSame (betas_of after_levels) R = subst (λ z. HaveSame z R) (sym (alone_betas O T f)) (subst (HaveSame (map f V)) (sym one.is) (map_same f V (sorted O) o.same)) in
    let c1 = length-map (sorted O) length in
    let c2 = o.long in
    let sizes : length (map length (sorted O)) ≡ length V = omega arith in
    let permutes : is_permutation_of (length (map length (sorted O))) (order_of O T) ≡ true =
    permutation_of_orders (length (map length (sorted O))) (order_of O T) (subst (λ k. Orders k (order_of O T)) (sym sizes) (order_orders V (vectors_in T) (let e : length V ≡ length (vectors_in T) = omega arith in e))) in
    let three : IsMove n C after_levels R (placed_from 0 (order_of O T) (map length (sorted O))) =
    moves n C after_levels R (placed_from 0 (order_of O T) (map length (sorted O))) (apart_tree (sorted O) to) levels_same (reorder_leads (order_of O T) (map length (sorted O)) (omega arith) permutes) in
    let g : List ℕ → List ℕ = three.move in
    let after_reorder : Draft = map (moved g) after_levels in
    let S : List (List ℕ) = ranked 0 (map length (sorted T)) in
    let reorder_betas : betas_of after_reorder ≡ map g (map f V) = led_betas g after_levels ∙ ap (map g) (alone_betas O T f) in
    let reorder_same : HaveSame (betas_of after_reorder) S = subst (λ z. HaveSame z S) (sym reorder_betas) (record { there = last_there O T x f g one.is three.is; back = last_back O T x f g one.is three.is }) in
    let four : IsMove n E after_reorder S (sorted T) = moves n E after_reorder S (sorted T) (apart_tree (sorted T) tr) reorder_same (fuses_back (sorted T) tr) in
    let after_fuses : Draft = map (moved four.move) after_reorder in
    record {
      f = f;
      g = g;
      h = four.move;
      leads = leads_on n (A ++ B ++ C) E (drafted O) after_reorder after_fuses (leads_on n (A ++ B) C (drafted O) after_levels after_reorder (leads_on n A B (drafted O) after_fissions after_levels one.leads two) three.leads) four.leads;
      ranks = one.is;
      seats = three.is;
      ends = four.is;
    }

-- the last leaf of a statement
pub seat_ends : (O T : ScopData) (a : IsLed O T) (i : ℕ) (v w : List ℕ) (s t : Statement) → IsSeat O T i v w s t
    → IsLeafOf w (scheduled s (at_levels s.schedule t.schedule.levels)) i (map (moved a.h) (map (moved a.g) (alone O T a.f)))
seat_ends O T a i v w s t y =
    let l = leaf_of 1 i (vectors_in O) O.statements v s y.vector y.original in
    let one : Leaf = moved a.f l.leaf in
    let two : Leaf = leveled_from O T 0 (in_beta_order O) one in
    let at : Stands y.rank v (sorted O) = stands_map (λ e. e.1) y.rank (i, v) (in_beta_order O) y.ranked in
    let first : one.beta ≡ a.f v = ap a.f l.beta in
    let beta : one.beta ≡ y.rank ∷ zeros (length v - 1) = first ∙ rank_moved a.f (sorted O) y.rank v a.ranks at in
    let kept : two.beta ≡ a.f v = leveled_keeps O T 0 (in_beta_order O) one ∙ first in
    let end : a.h (y.seat ∷ zeros (length w - 1)) ≡ w = back_moved a.h (sorted T) y.seat w a.ends (stands_map (λ e. e.1) y.seat (i, w) (in_beta_order T) y.seated) in
    record {
      leaf = moved a.h (moved a.g two);
      stands = stands_map (moved a.h) i (moved a.g two) (map (moved a.g) (alone O T a.f))
          (stands_map (moved a.g) i two (alone O T a.f)
          (stands_map (leveled_from O T 0 (in_beta_order O)) i one (map (moved a.f) (drafted O)) (stands_map (moved a.f) i l.leaf (drafted O) l.stands)));
      beta = ap (λ z. a.h (a.g z)) kept ∙ (ap a.h (seat_moved O T a.f a.g i v w s t y a.ranks a.seats) ∙ end);
      statement = seat_leveled O T i v w s t y one (zeros (length v - 1)) beta l.statement;
    }

-- no command splits a statement

none_then : (command : Command) (script : List Command) → SplitsNone (command ∷ script) → SplitsNone script
none_then (Fission p c) script h = h
none_then (Fuse p) script h = h
none_then (Reorder p order) script h = h
none_then (Interchange p k l) script h = h
none_then (Skew p k l f) script h = h
none_then (Shift p k v c) script h = h
none_then (Reverse p k) script h = h
none_then (Stripmine p k s) script h = h
none_then (Tile p k s t) script h = h
none_then (Iss p xs ns c) script h = absurd h

none_more : (command : Command) (A B : List Command) → SplitsNone (command ∷ A) → SplitsNone B → SplitsNone (command ∷ B)
none_more (Fission p c) A B h g = g
none_more (Fuse p) A B h g = g
none_more (Reorder p order) A B h g = g
none_more (Interchange p k l) A B h g = g
none_more (Skew p k l f) A B h g = g
none_more (Shift p k v c) A B h g = g
none_more (Reverse p k) A B h g = g
none_more (Stripmine p k s) A B h g = g
none_more (Tile p k s t) A B h g = g
none_more (Iss p xs ns c) A B h g = absurd h

none_both : (A B : List Command) → SplitsNone A → SplitsNone B → SplitsNone (A ++ B)
none_both [] B h g = g
none_both (command ∷ A) B h g = none_more command A (A ++ B) h (none_both A B (none_then command A h) g)

vector_none : (command : Command) (script : List Command) → IsVectorCommand command → SplitsNone script → SplitsNone (command ∷ script)
vector_none (Fission p c) script is h = h
vector_none (Fuse p) script is h = h
vector_none (Reorder p order) script is h = h
vector_none (Interchange p k l) script is h = absurd is
vector_none (Skew p k l f) script is h = absurd is
vector_none (Shift p k v c) script is h = absurd is
vector_none (Reverse p k) script is h = absurd is
vector_none (Stripmine p k s) script is h = absurd is
vector_none (Tile p k s t) script is h = absurd is
vector_none (Iss p xs ns c) script is h = absurd is

plain_none : (command : Command) (script : List Command) → IsPlainCommand command → SplitsNone script → SplitsNone (command ∷ script)
plain_none (Fission p c) script is h = absurd is
plain_none (Fuse p) script is h = absurd is
plain_none (Reorder p order) script is h = absurd is
plain_none (Interchange p k l) script is h = h
plain_none (Skew p k l f) script is h = h
plain_none (Shift p k v c) script is h = h
plain_none (Reverse p k) script is h = h
plain_none (Stripmine p k s) script is h = absurd is
plain_none (Tile p k s t) script is h = absurd is
plain_none (Iss p xs ns c) script is h = absurd is

vectors_none : (script : List Command) (V W : List (List ℕ)) → VectorsLead script V W → SplitsNone script
vectors_none [] V W h = tt
vectors_none (command ∷ script) V W (U, is, natural, ok, more) = vector_none command script is (vectors_none script U W more)

levels_none : (p : List ℤ) (script : List Command) → AreLevelsUnder p script → SplitsNone script
levels_none p [] h = tt
levels_none p (command ∷ script) (is, own, more) = plain_none command script is (levels_none p script more)

all_none : (O T : ScopData) (r : ℕ) (placed : List Placed) → SplitsNone (all_levels O T r placed)
all_none O T r [] = tt
all_none O T r (e ∷ placed) =
    none_both (script_at O T r e) (all_levels O T (r + 1) placed)
    (levels_none (pos r ∷ []) (script_at O T r e) (script_is (pos r ∷ []) (levels_in O e.0) (levels_in T e.0))) (all_none O T (r + 1) placed)

pub strategy_none : (O T : ScopData) → IsSetting O T → SplitsNone (strategy O T)
strategy_none O T x =
    let n : ℕ = O.context.shape.parameters in
    let V : List (List ℕ) = vectors_in O in
    let co = vectors_count O in
    let ct = vectors_count T in
    let count = paired_count n O.statements T.statements x.can.statements in
    let some = x.some in
    let to = beta_order_trailed O x.original some in
    let tr = beta_order_trailed T x.target (omega arith) in
    let A : List Command = fissions (sorted O) in
    let B : List Command = all_levels O T 0 (in_beta_order O) in
    let C : List Command = reorder_unless_same (order_of O T) in
    let a : SplitsNone A = vectors_none A (sorted O) (ranked 0 (map length (sorted O))) (fissions_apart (sorted O) to) in
    let c : SplitsNone C = reorder_none (order_of O T) in
    let e : SplitsNone (fuses (sorted T)) = vectors_none (fuses (sorted T)) (ranked 0 (map length (sorted T))) (sorted T) (fuses_back (sorted T) tr) in
    none_both (A ++ B ++ C) (fuses (sorted T)) (none_both (A ++ B) C (none_both A B a (all_none O T 0 (in_beta_order O))) c) e
  where
    reorder_none : (order : List ℕ) → SplitsNone (reorder_unless_same order)
    reorder_none order = elim (same_vector order (range_with_len 0 (length order))) as (λ b. SplitsNone (if b then [] else Reorder [] (as_prefix order) ∷ [])) [ true ↦ tt | false ↦ tt ]
