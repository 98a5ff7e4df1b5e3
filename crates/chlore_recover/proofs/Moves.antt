-- The four steps of the script, on leaves.
use Rattle.std.proofs.Common.{◌≡◌, ◌≢◌, pos, ℕ, zero, suc, ◌+◌, ◌-◌, ◌<◌, ◌==◌, true, false, if◌then◌else◌, inl, inr, Option, Some, None, List, [], ◌∷◌, ◌++◌, length, map, refl, sym, ◌∙◌, ap, subst, arith}
use Rattle.std.specs.Option.{is_some}
use Rattle.std.proofs.lemmas.Bool.{eqb-true}
use Rattle.beta_tree.specs.Vectors.{In, IsTree, under, is_nil, no_statement}
use Rattle.beta_tree.specs.Edits.{place_of}
use Rattle.beta_tree.proofs.Places.{bool_tells, same_yes, same_no, In-map, In-under}
use Rattle.beta_trails.specs.Trails.{zeros, ranked}
use Rattle.beta_trails.specs.Laws.{placed_from}
use Rattle.scop_data.specs.declared.affines.Affine.{Affine}
use Rattle.scop_data.specs.declared.statements.Statement.{Statement}
use Rattle.scop_core.specs.ScopData.{ScopData}
use Rattle.scop_core.specs.Validity.{IsValid}
use Rattle.scop_core.specs.Meaning.{statement_at}
use Rattle.clay_script.specs.declared.commands.Command.{Command}
use Rattle.clay_commands.specs.declared.leaves.Leaf.{Leaf}
use Rattle.clay_commands.specs.Drafts.{Draft, betas_of, drafted, is_under, scheduled, with_beta, drafts_after}
use Rattle.clay_commands.specs.Refusals.{first_refusal}
use Rattle.clay_commands.specs.Steps.{AllUnder}
use Rattle.clay_commands.proofs.Closings.{drafted_betas}
use Rattle.chlore_recover.specs.LevelScripts.{level_script, forms_along}
use Rattle.chlore_recover.specs.Runs.{at_levels}
use Rattle.chlore_recover.specs.Orders.{vectors_of}
use Rattle.chlore_recover.specs.Splits.{VectorsLead}
use Rattle.chlore_recover.specs.Strategy.{Placed, in_beta_order, levels_in}
use Rattle.chlore_recover.specs.Drafted.{HaveSame, vector_along, IsTaken, leveled, script_at, Await, leveled_from}
use Rattle.chlore_recover.specs.Recovered.{CanRecover}
use Rattle.chlore_recover.proofs.Awaits.{drafts_on, refusals_on, leveled_beta}
use Rattle.chlore_recover.proofs.Members.{leaves_are_led, led_betas}
use Rattle.chlore_recover.proofs.Pairs.{IsDone, pair_done}
use Rattle.chlore_recover.proofs.Ranks.{ordered_of, ranked_at, placed_at}
use Rattle.chlore_recover.proofs.Seats.{vectors_in, leaf_beta, leaf_statement, IsSeat, seat_of}
use Rattle.chlore_recover.proofs.Stands.{Stands, one_stands, stands_in, stands_below, stands_map, map_stands, stands_get}

-- no command of the script is refused, whatever its number, and the leaves D become E
pub record Leads (n : ℕ) (script : List Command) (D E : Draft) : Type 0 where
  pub unrefused : (i : ℕ) → first_refusal n i script D ≡ None
  pub drafts : drafts_after script D ≡ E

pub leads_on : (n : ℕ) (A B : List Command) (D E F : Draft) → Leads n A D E → Leads n B E F → Leads n (A ++ B) D F
leads_on n A B D E F a b = record {
  unrefused = λ i. refusals_on n i A B D (a.unrefused i) (λ j. subst (λ z. first_refusal n j B z ≡ None) (sym a.drafts) (b.unrefused j));
  drafts = drafts_on A B D ∙ (ap (drafts_after B) a.drafts ∙ b.drafts);
}

-- a leaf with its vector moved
abbrev pub moved : (List ℕ → List ℕ) → Leaf → Leaf
moved f leaf = with_beta (f leaf.beta) leaf

-- a script moves the vector of each leaf alike, and V to W
pub record IsMove (n : ℕ) (script : List Command) (D : Draft) (V W : List (List ℕ)) : Type 0 where
  pub move : List ℕ → List ℕ
  pub leads : Leads n script D (map (moved move) D)
  pub is : W ≡ map move V

pub moves : (n : ℕ) (script : List Command) (D : Draft) (V W : List (List ℕ)) → IsTree V → HaveSame (betas_of D) V → VectorsLead script V W → IsMove n script D V W
moves n script D V W t s h = record {
  move = vector_along script V;
  leads = record {
    unrefused = λ i. let (none, drafts, vectors) = leaves_are_led n i script D V W t s h in none;
    drafts = let (none, drafts, vectors) = leaves_are_led n 0 script D V W t s h in drafts;
  };
  is = let (none, drafts, vectors) = leaves_are_led n 0 script D V W t s h in vectors;
}

-- what the three moves make of one vector

pub rank_moved : (f : List ℕ → List ℕ) (V : List (List ℕ)) (q : ℕ) (v : List ℕ) → ranked 0 (map length V) ≡ map f V → Stands q v V → f v ≡ q ∷ zeros (length v - 1)
rank_moved f V q v is h =
    one_stands q (f v) (q ∷ zeros (length v - 1)) (ranked 0 (map length V))
    (subst (λ X. Stands q (f v) X) (sym is) (stands_map f q v V h)) (ranked_at 0 q q v V (omega arith) h)

pub place_moved : (g : List ℕ → List ℕ) (order : List ℕ) (V : List (List ℕ)) (q : ℕ) (v : List ℕ) → placed_from 0 order (map length V) ≡ map g (ranked 0 (map length V)) → Stands q v V
    → g (q ∷ zeros (length v - 1)) ≡ place_of q order ∷ zeros (length v - 1)
place_moved g order V q v is h =
    one_stands q (g (q ∷ zeros (length v - 1))) (place_of q order ∷ zeros (length v - 1)) (placed_from 0 order (map length V))
    (subst (λ X. Stands q (g (q ∷ zeros (length v - 1))) X) (sym is) (stands_map g q (q ∷ zeros (length v - 1)) (ranked 0 (map length V)) (ranked_at 0 q q v V (omega arith) h)))
    (placed_at 0 q q order v V (omega arith) h)

pub back_moved : (h : List ℕ → List ℕ) (V : List (List ℕ)) (j : ℕ) (w : List ℕ) → V ≡ map h (ranked 0 (map length V)) → Stands j w V → h (j ∷ zeros (length w - 1)) ≡ w
back_moved h V j w is s =
    one_stands j (h (j ∷ zeros (length w - 1))) w V
    (subst (λ X. Stands j (h (j ∷ zeros (length w - 1))) X) (sym is) (stands_map h j (j ∷ zeros (length w - 1)) (ranked 0 (map length V)) (ranked_at 0 j j w V (omega arith) s))) s

-- two valid SCoPs with statements, for which there is a script
pub record IsSetting (O T : ScopData) : Type 0 where
  pub original : IsValid O
  pub target : IsValid T
  pub can : CanRecover O T
  pub some : 0 < length O.statements

-- the script for the levels of a statement in its seat

levels_of : Option Statement → List Affine
levels_of o = elim o as (λ _. List Affine) [ None ↦ [] | Some s ↦ s.schedule.levels ]

levels_there : (S : ScopData) (i : ℕ) (s : Statement) → Stands i s S.statements → levels_in S i ≡ s.schedule.levels
unfolding levels_of
levels_there S i s h =
    let up : i + 1 ≡ suc i = omega arith in
    ap (λ k. levels_of (statement_at S.statements k)) up ∙ ap levels_of (stands_get i s S.statements h)

pub seat_done : (O T : ScopData) (i : ℕ) (v w : List ℕ) (s t : Statement) (y : IsSeat O T i v w s t) → IsDone O.context.shape.parameters (script_at O T y.rank (i, v)) s t
seat_done O T i v w s t y =
    let same : script_at O T y.rank (i, v) ≡ level_script (pos y.rank ∷ []) s.schedule.levels t.schedule.levels =
    ap (λ a. level_script (pos y.rank ∷ []) a (levels_in T i)) (levels_there O i s y.original) ∙ ap (level_script (pos y.rank ∷ []) s.schedule.levels) (levels_there T i t y.target) in
    subst (λ c. IsDone O.context.shape.parameters c s t) (sym same) (pair_done O.context.shape.parameters (pos y.rank ∷ []) s t y.pair y.shaped y.formed)

-- after the fissions each loop has its statement, and that one's script is taken

not_nil : (U : List (List ℕ)) (u : List ℕ) → In u U → is_nil U ≡ false
not_nil [] u i = absurd i
not_nil (x ∷ U) u i = refl

some_under : (P w : List ℕ) (V : List (List ℕ)) → In (P ++ w) V → no_statement P V ≡ false
some_under P w V i = not_nil (under P V) w (In-under P w V i)

all_under_from : (P : List ℕ) (Q : Statement → Type 0) (D : Draft) → ((i : ℕ) (leaf : Leaf) → Stands i leaf D → is_under P leaf.beta ≡ true → Q leaf.statement) → AllUnder P Q D
all_under_from P Q [] h = tt
all_under_from P Q (leaf ∷ D) h = (h 0 leaf refl, all_under_from P Q D (λ i l s. h (suc i) l s))

under_one : (r x : ℕ) (w : List ℕ) → is_under (r ∷ []) (x ∷ w) ≡ true → x ≡ r
under_one r x w h =
    elim (bool_tells (x == r)) [
      | inl t ↦ eqb-true x r t
      | inr f ↦ let no : false ≡ true = subst (λ b. is_some (if b then Some w else None) ≡ true) f h in absurd (cc)
    ]

first_betas : (O : ScopData) (f : List ℕ → List ℕ) → betas_of (map (moved f) (drafted O)) ≡ map f (vectors_in O)
first_betas O f = led_betas f (drafted O) ∙ ap (map f) (drafted_betas O)

loop_some : (O T : ScopData) (f : List ℕ → List ℕ) (r : ℕ) (e : Placed) → ranked 0 (map length (vectors_of (in_beta_order O))) ≡ map f (vectors_of (in_beta_order O)) → Stands r e (in_beta_order O)
    → no_statement (r ∷ []) (betas_of (map (moved f) (drafted O))) ≡ false
loop_some O T f r e is h =
    let from = ordered_of 0 (vectors_in O) e (stands_in r e (in_beta_order O) h) in
    let here : In (f e.1) (map f (vectors_in O)) = In-map f e.1 (vectors_in O) (stands_in from.place e.1 (vectors_in O) from.stands) in
    let to : f e.1 ≡ r ∷ zeros (length e.1 - 1) = rank_moved f (vectors_of (in_beta_order O)) r e.1 is (stands_map (λ g. g.1) r e (in_beta_order O) h) in
    subst (λ B. no_statement (r ∷ []) B ≡ false) (sym (first_betas O f))
    (some_under (r ∷ []) (zeros (length e.1 - 1)) (map f (vectors_in O)) (subst (λ z. In z (map f (vectors_in O))) to here))

loop_taken : (O T : ScopData) (x : IsSetting O T) (f : List ℕ → List ℕ) (r : ℕ) (e : Placed) → ranked 0 (map length (vectors_of (in_beta_order O))) ≡ map f (vectors_of (in_beta_order O)) → Stands r e (in_beta_order O)
    → AllUnder (r ∷ []) (λ s. IsTaken O.context.shape.parameters (script_at O T r e) s.schedule) (map (moved f) (drafted O))
loop_taken O T x f r e is h =
    let n : ℕ = O.context.shape.parameters in
    let V : List (List ℕ) = vectors_in O in
    all_under_from (r ∷ []) (λ s. IsTaken n (script_at O T r e) s.schedule) (map (moved f) (drafted O)) (λ i leaf st u.
    let (old, so, eo) = map_stands (moved f) i leaf (drafted O) st in
    let at : Stands i old.statement O.statements = leaf_statement 1 i V O.statements old so in
    let seat = seat_of O T i x.original x.target x.can (stands_below i old.statement O.statements at) in
    let y = seat.has in
    let own_v : old.beta ≡ seat.v = one_stands i old.beta seat.v V (leaf_beta 1 i V O.statements old so) y.vector in
    let own_s : old.statement ≡ seat.s = one_stands i old.statement seat.s O.statements at y.original in
    let to : f seat.v ≡ y.rank ∷ zeros (length seat.v - 1) = rank_moved f (vectors_of (in_beta_order O)) y.rank seat.v is (stands_map (λ g. g.1) y.rank (i, seat.v) (in_beta_order O) y.ranked) in
    let beta : leaf.beta ≡ y.rank ∷ zeros (length seat.v - 1) = sym (ap (λ l. l.beta) eo) ∙ (ap f own_v ∙ to) in
    let statement : leaf.statement ≡ seat.s = sym (ap (λ l. l.statement) eo) ∙ own_s in
    let loop : y.rank ≡ r = under_one r y.rank (zeros (length seat.v - 1)) (subst (λ z. is_under (r ∷ []) z ≡ true) beta u) in
    let same : (i, seat.v) ≡ e = one_stands r (i, seat.v) e (in_beta_order O) (subst (λ k. Stands k (i, seat.v) (in_beta_order O)) loop y.ranked) h in
    let taken : IsTaken n (script_at O T y.rank (i, seat.v)) seat.s.schedule = (seat_done O T i seat.v seat.w seat.s seat.t y).taken in
    subst (λ s. IsTaken n (script_at O T r e) s.schedule) (sym statement)
    (subst (λ z. IsTaken n (script_at O T r z) seat.s.schedule) same
    (subst (λ k. IsTaken n (script_at O T k (i, seat.v)) seat.s.schedule) loop taken)))

await_from : (O T : ScopData) (x : IsSetting O T) (f : List ℕ → List ℕ) (r : ℕ) (placed : List Placed) → ranked 0 (map length (vectors_of (in_beta_order O))) ≡ map f (vectors_of (in_beta_order O))
    → ((q : ℕ) (e : Placed) → Stands q e placed → Stands (r + q) e (in_beta_order O)) → Await O.context.shape.parameters O T r placed (map (moved f) (drafted O))
await_from O T x f r [] is h = tt
await_from O T x f r (e ∷ placed) is h =
    let none : r + 0 ≡ r = omega arith in
    let here : Stands r e (in_beta_order O) = subst (λ k. Stands k e (in_beta_order O)) none (h 0 e refl) in (
      loop_some O T f r e is here,
      loop_taken O T x f r e is here,
      await_from O T x f (r + 1) placed is (λ q g s. let up : r + suc q ≡ r + 1 + q = omega arith in subst (λ k. Stands k g (in_beta_order O)) up (h (suc q) g s)),
    )

pub await_all : (O T : ScopData) (x : IsSetting O T) (f : List ℕ → List ℕ) → ranked 0 (map length (vectors_of (in_beta_order O))) ≡ map f (vectors_of (in_beta_order O))
    → Await O.context.shape.parameters O T 0 (in_beta_order O) (map (moved f) (drafted O))
await_all O T x f is =
    await_from O T x f 0 (in_beta_order O) is (λ q e s. let same : q ≡ 0 + q = omega arith in subst (λ k. Stands k e (in_beta_order O)) same s)

-- each script changes the leaf in its loop alone

leveled_other : (script : List Command) (r q : ℕ) (leaf : Leaf) (w : List ℕ) → q ≢ r → leaf.beta ≡ q ∷ w → leveled script (r ∷ []) leaf ≡ leaf
leveled_other script r q leaf w ne e =
    let no : is_under (r ∷ []) leaf.beta ≡ false = ap (is_under (r ∷ [])) e ∙ ap (λ b. is_some (if b then Some w else None)) (same_no q r ne) in
    subst (λ u. (if u then record leaf { statement = scheduled leaf.statement (forms_along script leaf.statement.schedule) } else leaf) ≡ leaf) (sym no) refl

own_leveled : (script : List Command) (q : ℕ) (leaf : Leaf) (w : List ℕ) → leaf.beta ≡ q ∷ w → (leveled script (q ∷ []) leaf).statement ≡ scheduled leaf.statement (forms_along script leaf.statement.schedule)
own_leveled script q leaf w e =
    let yes : is_under (q ∷ []) leaf.beta ≡ true = ap (is_under (q ∷ [])) e ∙ ap (λ b. is_some (if b then Some w else None)) (same_yes q) in
    subst (λ u. (if u then record leaf { statement = scheduled leaf.statement (forms_along script leaf.statement.schedule) } else leaf).statement ≡ scheduled leaf.statement (forms_along script leaf.statement.schedule)) (sym yes) refl

passed : (O T : ScopData) (q r : ℕ) (placed : List Placed) (leaf : Leaf) (w : List ℕ) → q < r → leaf.beta ≡ q ∷ w → leveled_from O T r placed leaf ≡ leaf
passed O T q r [] leaf w l e = refl
passed O T q r (g ∷ placed) leaf w l e =
    let ne : q ≢ r = λ z. omega arith in
    ap (leveled_from O T (r + 1) placed) (leveled_other (script_at O T r g) r q leaf w ne e) ∙ passed O T q (r + 1) placed leaf w (omega arith) e

reached : (O T : ScopData) (q r i : ℕ) (placed : List Placed) (e : Placed) (leaf : Leaf) (w : List ℕ) → q ≡ r + i → Stands i e placed → leaf.beta ≡ q ∷ w → leveled_from O T r placed leaf ≡ leveled (script_at O T q e) (q ∷ []) leaf
reached O T q r i [] e leaf w is h b = absurd h
reached O T q r zero (g ∷ placed) e leaf w is h b =
    let same : r ≡ q = omega arith in
    let first : leveled (script_at O T r g) (r ∷ []) leaf ≡ leveled (script_at O T q e) (q ∷ []) leaf =
    ap (λ k. leveled (script_at O T k g) (k ∷ []) leaf) same ∙ ap (λ z. leveled (script_at O T q z) (q ∷ []) leaf) h in
    ap (leveled_from O T (r + 1) placed) first
    ∙ passed O T q (r + 1) placed (leveled (script_at O T q e) (q ∷ []) leaf) w (omega arith) (leveled_beta (script_at O T q e) (q ∷ []) leaf ∙ b)
reached O T q r (suc i) (g ∷ placed) e leaf w is h b =
    let ne : q ≢ r = λ z. omega arith in
    ap (leveled_from O T (r + 1) placed) (leveled_other (script_at O T r g) r q leaf w ne b) ∙ reached O T q (r + 1) i placed e leaf w (omega arith) h b

-- the statement of a leaf in its seat gets the target's levels
pub seat_leveled : (O T : ScopData) (i : ℕ) (v w : List ℕ) (s t : Statement) (y : IsSeat O T i v w s t) (leaf : Leaf) (u : List ℕ) → leaf.beta ≡ y.rank ∷ u → leaf.statement ≡ s
    → (leveled_from O T 0 (in_beta_order O) leaf).statement ≡ scheduled s (at_levels s.schedule t.schedule.levels)
seat_leveled O T i v w s t y leaf u b e =
    let script : List Command = script_at O T y.rank (i, v) in
    let at = reached O T y.rank 0 y.rank (in_beta_order O) (i, v) leaf u (omega arith) y.ranked b in
    ap (λ l. l.statement) at
    ∙ (own_leveled script y.rank leaf u b
    ∙ (ap (λ z. scheduled z (forms_along script z.schedule)) e ∙ ap (scheduled s) (seat_done O T i v w s t y).made))

pub leveled_keeps : (O T : ScopData) (r : ℕ) (placed : List Placed) (leaf : Leaf) → (leveled_from O T r placed leaf).beta ≡ leaf.beta
leveled_keeps O T r [] leaf = refl
leveled_keeps O T r (e ∷ placed) leaf = leveled_keeps O T (r + 1) placed (leveled (script_at O T r e) (r ∷ []) leaf) ∙ leveled_beta (script_at O T r e) (r ∷ []) leaf
