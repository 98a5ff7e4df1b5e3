-- What is asked of vectors by a command on them alone goes by their members.
use Rattle.std.proofs.Common.{◌≡◌, ℕ, ◌+◌, nat_lt, Bool, true, false, if◌then◌else◌, not, ◌&&◌, ◌||◌, inl, inr, Result, Ok, Err, None, List, [], ◌∷◌, ◌++◌, map, refl, sym, ◌∙◌, ap, subst, append-nil}
use Rattle.std.specs.List.{list_any}
use Rattle.beta_tree.specs.declared.refusals.BetaFail.{BetaFail}
use Rattle.beta_tree.specs.declared.refusals.BetaFail.TheVariants.{NoBeta, NotALoop, BadArgument}
use Rattle.beta_tree.specs.Vectors.{In, IsTree, IsDense, under, heads, is_nil, no_statement, is_leaf, is_loop, children_of}
use Rattle.beta_tree.specs.Edits.{fissioned, fused, reordered, next_sibling, is_permutation_of}
use Rattle.beta_tree.proofs.Places.{bool_tells, In-map, from_In-map, In-under, from_In-under, child_of_prefix, vector_of_child}
use Rattle.beta_tree.proofs.Counts.{count_of_range}
use Rattle.beta_tree.proofs.Trees.{leaf_in, child_below, child_exists}
use Rattle.beta_tree.proofs.Undone.{answers_are_trees}
use Rattle.scop_core.specs.Assembly.{or_else}
use Rattle.clay_script.specs.declared.commands.Command.{Command}
use Rattle.clay_script.specs.declared.commands.Command.TheVariants.{Fission, Fuse, Reorder, Interchange, Skew, Shift, Reverse, Stripmine, Tile, Iss}
use Rattle.clay_script.specs.Commands.{prefix_of}
use Rattle.clay_commands.specs.Arguments.{natural, order_in, are_natural, prefix_in}
use Rattle.clay_commands.specs.Drafts.{Draft, betas_of, with_beta, vector_after, leaf_after, draft_after, drafts_after}
use Rattle.clay_commands.specs.Refusals.{refusal_at, first_refusal}
use Rattle.clay_commands.specs.Steps.{IsVectorCommand, vector_answer, refusal_under, joined}
use Rattle.clay_commands.proofs.DraftMaps.{maps_to}
use Rattle.clay_commands.proofs.VectorMaps.{vector_leaf, vector_stepped}
use Rattle.chlore_recover.specs.Splits.{VectorsLead}
use Rattle.chlore_recover.specs.Drafted.{HaveSame, vector_along, LeavesAreLed}

-- tests of members

nil_same : (A B : List (List ℕ)) → ((x : List ℕ) → In x A → In x B) → ((x : List ℕ) → In x B → In x A) → is_nil A ≡ is_nil B
nil_same [] [] f g = refl
nil_same [] (y ∷ B) f g = absurd (g y (inl refl))
nil_same (x ∷ A) [] f g = absurd (f x (inl refl))
nil_same (x ∷ A) (y ∷ B) f g = refl

none_same : (P : List ℕ) (V W : List (List ℕ)) → HaveSame V W → no_statement P V ≡ no_statement P W
none_same P V W s =
    nil_same (under P V) (under P W) (λ x i. In-under P x W (s.there (P ++ x) (from_In-under P x V i)))
    (λ x i. In-under P x V (s.back (P ++ x) (from_In-under P x W i)))

either : (a b : Bool) → b ≡ true → (a || b) ≡ true
either true b e = refl
either false b e = e

nil_by : (U : List (List ℕ)) → In [] U → list_any is_nil U ≡ true
nil_by [] i = absurd i
nil_by (u ∷ U) (inl e) = subst (λ z. (is_nil z || list_any is_nil U) ≡ true) (sym e) refl
nil_by (u ∷ U) (inr i) = either (is_nil u) (list_any is_nil U) (nil_by U i)

leaf_by : (P : List ℕ) (V : List (List ℕ)) → In P V → is_leaf P V ≡ true
leaf_by P V i = nil_by (under P V) (In-under P [] V (subst (λ z. In z V) (sym (append-nil P)) i))

leaf_same : (P : List ℕ) (V W : List (List ℕ)) → HaveSame V W → is_leaf P V ≡ is_leaf P W
leaf_same P V W s =
    elim (bool_tells (is_leaf P V)) [
      | inl t ↦ t ∙ sym (leaf_by P W (s.there P (leaf_in P V t)))
      | inr f ↦ elim (bool_tells (is_leaf P W)) [
        | inl t ↦ let e : false ≡ true = sym f ∙ leaf_by P V (s.back P (leaf_in P W t)) in absurd (cc)
        | inr g ↦ f ∙ sym g
      ]
    ]

children_same : (P : List ℕ) (V W : List (List ℕ)) → IsDense W → HaveSame V W → children_of P V ≡ children_of P W
children_same P V W d s =
    count_of_range (children_of P W) (heads (under P V))
    (λ x h. let (w, i) = child_exists P x W d h in child_of_prefix P x w V (s.back (P ++ x ∷ w) i))
    (λ x i. let (w, j) = vector_of_child P x V i in child_below P x w W d (s.there (P ++ x ∷ w) j))

pub map_same : (f : List ℕ → List ℕ) (V W : List (List ℕ)) → HaveSame V W → HaveSame (map f V) (map f W)
map_same f V W s = record {
  there = λ v i. let (u, j, e) = from_In-map f v V i in subst (λ z. In z (map f W)) e (In-map f u W (s.there u j));
  back = λ v i. let (u, j, e) = from_In-map f v W i in subst (λ z. In z (map f V)) e (In-map f u V (s.back u j));
}

-- an answer behind three tests

abbrev behind_tests : BetaFail → BetaFail → BetaFail → Bool → Bool → Bool → List (List ℕ) → Result (List (List ℕ)) BetaFail
behind_tests e f g a b c V = if a then Err e else (if b then Err f else (if c then Err g else Ok V))

same_tests : (e f g : BetaFail) (a b c : Bool) (V W U : List (List ℕ)) → behind_tests e f g a b c W ≡ Ok U → (behind_tests e f g a b c V ≡ Ok V) × (W ≡ U) × (a ≡ false)
same_tests e f g true b c V W U h = absurd (cc)
same_tests e f g false true c V W U h = absurd (cc)
same_tests e f g false false true V W U h = absurd (cc)
same_tests e f g false false false V W U h = (refl, cc, refl)

-- what a command on vectors alone answers of V, and makes of each, where it has an answer of W
record Follows (command : Command) (V W U : List (List ℕ)) : Type 0 where
  answer : vector_answer command (prefix_in command) V ≡ Ok (map (vector_after command W) V)
  each : (v : List ℕ) → vector_after command V v ≡ vector_after command W v
  is : map (vector_after command W) W ≡ U
  tree : IsTree U
  some : no_statement (prefix_in command) V ≡ false

follows : (command : Command) (V W U : List (List ℕ)) → IsVectorCommand command → IsTree W → HaveSame V W → vector_answer command (prefix_in command) W ≡ Ok U → Follows command V W U
follows (Fission p c) V W U is t s h =
    let P : List ℕ = map natural p in
    let k : ℕ = natural c in
    let f : List ℕ → List ℕ = fissioned P k in
    let test : List (List ℕ) → Bool = λ X. not (nat_lt 0 k && nat_lt k (children_of P X)) in
    let e1 = none_same P V W s in
    let e2 : not (is_loop P V) ≡ not (is_loop P W) = ap (λ b. not (not (is_nil P) && not b && not (is_leaf P V))) e1 ∙ ap (λ b. not (not (is_nil P) && not (no_statement P W) && not b)) (leaf_same P V W s) in
    let e3 : test V ≡ test W = ap (λ n. not (nat_lt 0 k && nat_lt k n)) (children_same P V W t.dense s) in
    let (ok, made, has) = same_tests NoBeta NotALoop BadArgument (no_statement P W) (not (is_loop P W)) (test W) (map f V) (map f W) U h in
    record {
      answer = ap (λ a. behind_tests NoBeta NotALoop BadArgument a (not (is_loop P V)) (test V) (map f V)) e1 ∙ (ap (λ b. behind_tests NoBeta NotALoop BadArgument (no_statement P W) b (test V) (map f V)) e2 ∙ (ap (λ b. behind_tests NoBeta NotALoop BadArgument (no_statement P W) (not (is_loop P W)) b (map f V)) e3 ∙ ok));
      each = λ v. refl;
      is = made;
      tree = answers_are_trees.0 P k W U t h;
      some = e1 ∙ has;
    }
follows (Fuse p) V W U is t s h =
    let P : List ℕ = map natural p in
    let n : ℕ = children_of P W in
    let next : List (List ℕ) → Bool = λ X. not (is_nil P) && no_statement (next_sibling P) X in
    let loops : List (List ℕ) → Bool = λ X. not (is_loop P X && is_loop (next_sibling P) X) in
    let loop_same : (Q : List ℕ) → is_loop Q V ≡ is_loop Q W = λ Q. ap (λ b. not (is_nil Q) && not b && not (is_leaf Q V)) (none_same Q V W s) ∙ ap (λ b. not (is_nil Q) && not (no_statement Q W) && not b) (leaf_same Q V W s) in
    let e1 = none_same P V W s in
    let e2 : next V ≡ next W = ap (λ b. not (is_nil P) && b) (none_same (next_sibling P) V W s) in
    let e3 : loops V ≡ loops W = ap (λ b. not (b && is_loop (next_sibling P) V)) (loop_same P) ∙ ap (λ b. not (is_loop P W && b)) (loop_same (next_sibling P)) in
    let e4 : children_of P V ≡ n = children_same P V W t.dense s in
    let (ok, made, has) = same_tests NoBeta NoBeta NotALoop (no_statement P W) (next W) (loops W) (map (fused P n) V) (map (fused P n) W) U h in
    record {
      answer = ap (λ k. behind_tests NoBeta NoBeta NotALoop (no_statement P V) (next V) (loops V) (map (fused P k) V)) e4 ∙ (ap (λ a. behind_tests NoBeta NoBeta NotALoop a (next V) (loops V) (map (fused P n) V)) e1 ∙ (ap (λ b. behind_tests NoBeta NoBeta NotALoop (no_statement P W) b (loops V) (map (fused P n) V)) e2 ∙ (ap (λ b. behind_tests NoBeta NoBeta NotALoop (no_statement P W) (next W) b (map (fused P n) V)) e3 ∙ ok)));
      each = λ v. ap (λ k. fused P k v) e4;
      is = made;
      tree = answers_are_trees.1 P W U t h;
      some = e1 ∙ has;
    }
follows (Reorder p order) V W U is t s h =
    let P : List ℕ = map natural p in
    let o : List ℕ = order_in order in
    let f : List ℕ → List ℕ = reordered P o in
    let test : List (List ℕ) → Bool = λ X. not (is_permutation_of (children_of P X) o) in
    let e1 = none_same P V W s in
    let e2 = leaf_same P V W s in
    let e3 : test V ≡ test W = ap (λ n. not (is_permutation_of n o)) (children_same P V W t.dense s) in
    let (ok, made, has) = same_tests NoBeta NotALoop BadArgument (no_statement P W) (is_leaf P W) (test W) (map f V) (map f W) U h in
    record {
      answer = ap (λ a. behind_tests NoBeta NotALoop BadArgument a (is_leaf P V) (test V) (map f V)) e1 ∙ (ap (λ b. behind_tests NoBeta NotALoop BadArgument (no_statement P W) b (test V) (map f V)) e2 ∙ (ap (λ b. behind_tests NoBeta NotALoop BadArgument (no_statement P W) (is_leaf P W) b (map f V)) e3 ∙ ok));
      each = λ v. refl;
      is = made;
      tree = answers_are_trees.2 P o W U t h;
      some = e1 ∙ has;
    }
follows (Interchange p j l) V W U is t s h = absurd is
follows (Skew p j l f) V W U is t s h = absurd is
follows (Shift p j v c) V W U is t s h = absurd is
follows (Reverse p j) V W U is t s h = absurd is
follows (Stripmine p j n) V W U is t s h = absurd is
follows (Tile p j n k) V W U is t s h = absurd is
follows (Iss p xs ns c) V W U is t s h = absurd is

-- leaves after such a command

not_refused : (n i : ℕ) (command : Command) (D : Draft) → are_natural (prefix_of command) ≡ true → no_statement (prefix_in command) (betas_of D) ≡ false → refusal_under n i command (prefix_in command) D ≡ None → refusal_at n i command D ≡ None
not_refused n i command D natural some h = rw (natural, some) h

led_draft : (command : Command) (D : Draft) (W : List (List ℕ)) → IsVectorCommand command → ((v : List ℕ) → vector_after command (betas_of D) v ≡ vector_after command W v) → draft_after command D ≡ map (λ leaf. with_beta (vector_after command W leaf.beta) leaf) D
led_draft command D W is each =
    maps_to (λ leaf. with_beta (vector_after command W leaf.beta) leaf) (leaf_after command (betas_of D)) D
    (λ leaf. vector_leaf command (betas_of D) leaf is ∙ ap (λ v. with_beta v leaf ∷ []) (each leaf.beta))

pub led_betas : (g : List ℕ → List ℕ) (D : Draft) → betas_of (map (λ leaf. with_beta (g leaf.beta) leaf) D) ≡ map g (betas_of D)
led_betas g [] = refl
led_betas g (leaf ∷ D) = ap (λ t. g leaf.beta ∷ t) (led_betas g D)

led_twice : (f g : List ℕ → List ℕ) (D : Draft) → map (λ leaf. with_beta (g leaf.beta) leaf) (map (λ leaf. with_beta (f leaf.beta) leaf) D) ≡ map (λ leaf. with_beta (g (f leaf.beta)) leaf) D
led_twice f g [] = refl
led_twice f g (leaf ∷ D) = ap (λ t. with_beta (g (f leaf.beta)) leaf ∷ t) (led_twice f g D)

map_twice : (f g : List ℕ → List ℕ) (V : List (List ℕ)) → map g (map f V) ≡ map (λ v. g (f v)) V
map_twice f g [] = refl
map_twice f g (v ∷ V) = ap (λ t. g (f v) ∷ t) (map_twice f g V)

led_none : (D : Draft) → D ≡ map (λ leaf. with_beta leaf.beta leaf) D
led_none [] = refl
led_none (leaf ∷ D) = ap (λ t. leaf ∷ t) (led_none D)

map_none : (V : List (List ℕ)) → V ≡ map (λ v. v) V
map_none [] = refl
map_none (v ∷ V) = ap (λ t. v ∷ t) (map_none V)

pub leaves_are_led : LeavesAreLed
leaves_are_led n i [] D W U t s e = (refl, led_none D, sym e ∙ map_none W)
leaves_are_led n i (command ∷ script) D W U t s (X, is, natural, ok, lead) =
    let V : List (List ℕ) = betas_of D in
    let f : List ℕ → List ℕ = vector_after command W in
    let F : Follows command V W X = follows command V W X is t s ok in
    let step = vector_stepped n i command (prefix_in command) D (joined (map f V) D) V (map f V) is refl refl F.answer refl in
    let first : refusal_at n i command D ≡ None = not_refused n i command D natural F.some step.unrefused in
    let E : Draft = map (λ leaf. with_beta (f leaf.beta) leaf) D in
    let draft : draft_after command D ≡ E = led_draft command D W is F.each in
    let moved : HaveSame (betas_of E) (map f W) = subst (λ z. HaveSame z (map f W)) (sym (led_betas f D)) (map_same f V W s) in
    let more : VectorsLead script (map f W) U = subst (λ z. VectorsLead script z U) (sym F.is) lead in
    let (none, drafts, vectors) = leaves_are_led n (i + 1) script E (map f W) U (subst IsTree (sym F.is) F.tree) moved more in (
      subst (λ z. or_else z (first_refusal n (i + 1) script (draft_after command D)) ≡ None) (sym first) (subst (λ z. first_refusal n (i + 1) script z ≡ None) (sym draft) none),
      ap (drafts_after script) draft ∙ (drafts ∙ led_twice f (vector_along script (map f W)) D),
      vectors ∙ map_twice f (vector_along script (map f W)) W,
    )
