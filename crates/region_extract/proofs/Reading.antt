-- What a value reads, by what its parts read.
use Rattle.std.proofs.Common.{◌≡◌, ◌∙◌, ◌+◌, ◌<◌, ◌≤◌, ℕ, List, [], ◌∷◌, ◌++◌, length, get_or, take, drop, Some, None, Result, Ok, Err, refl, ap, sym, subst}
use Rattle.std.specs.Prelude.{OnOk}
use Rattle.std.proofs.lemmas.List.{take_all, take_more, drop_all}
use Rattle.std.proofs.lemmas.List.Elements.{filter-append}
use Rattle.scop_core.proofs.Assemblies.{item_drop}
use Rattle.scop_data.specs.declared.accesses.AccessKind.TheVariants.{Read}
use Rattle.c_lexer.specs.declared.pieces.Piece.{Piece}
use Rattle.c_parser.specs.declared.tree.Primary.{Primary, out-Primary}
use Rattle.c_parser.specs.declared.tree.Primary.TheVariants as pri
use Rattle.c_parser.specs.declared.tree.Target.{Target}
use Rattle.c_parser.specs.declared.tree.Unary.{Unary, out-Unary}
use Rattle.c_parser.specs.declared.tree.UnarySign.{UnarySign}
use Rattle.c_parser.specs.declared.tree.Value.{Value, out-Value}
use Rattle.c_parser.specs.declared.tree.Arms.{Arms, out-Arms}
use Rattle.clan_extract.specs.Regions.{Reference, array_references, is_array}
use Rattle.clan_walk.specs.Walk.{State, read, referred}
use Rattle.region_trees.specs.Terms.{Located, Operation, Term, all_signed, arms_of, or_of, primary_of, target_of, unary_of, value_of}
use Rattle.region_trees.specs.Layers.{all_by, arms_is, joined_by, primary_is, primary_layer, some_by, terms_by, unary_is, value_is, with_arms}
use Rattle.region_trees.specs.Regions.{references_of, references_of_all, result_map2}
use Rattle.region_forms.specs.Evaluations.{named_of}
use Rattle.region_forms.proofs.Trees.{all_more, joined_more, value_or}
use Rattle.region_extract.specs.Walks.{Reads, ReadsAll, ReadsAmong, ReadsBoth}
use Rattle.region_extract.proofs.Results.{both_of}

-- ---- one after the other

read_both : (rs ss : List Reference) (s : State) → read (rs ++ ss) s ≡ read ss (read rs s)
read_both [] ss s = refl
read_both (r ∷ rs) ss s = read_both rs ss (referred Read r s)

-- references change the accesses alone
pub read_keeps_names : (rs : List Reference) (s : State) → ((read rs s).parameters ≡ s.parameters) × ((read rs s).loops ≡ s.loops)
read_keeps_names [] s = (refl, refl)
read_keeps_names (r ∷ rs) s = read_keeps_names rs (referred Read r s)

pub reads_two : (x y : Result (List Reference) ℕ) (a b c : State) → ReadsAmong x a b → ReadsAmong y b c
    → ReadsAmong (result_map2 (λ (rs : List Reference) (ss : List Reference). rs ++ ss) x y) a c
reads_two x y a b c p q zs is =
    let made = both_of (λ (rs : List Reference) (ss : List Reference). rs ++ ss) x y zs is in
    let rs : List Reference = array_references a.parameters a.loops made.left in
    let ss : List Reference = array_references a.parameters a.loops made.right in
    let names : ((read rs a).parameters ≡ a.parameters) × ((read rs a).loops ≡ a.loops) = read_keeps_names rs a in
    q made.right made.right_is
    ∙ ap (λ (s : State). read (array_references s.parameters s.loops made.right) s) (p made.left made.left_is)
    ∙ ap (λ ps. read (array_references ps (read rs a).loops made.right) (read rs a)) names.0
    ∙ ap (λ ls. read (array_references a.parameters ls made.right) (read rs a)) names.1
    ∙ sym (read_both rs ss a)
    ∙ ap (λ xs. read xs a) (sym (filter-append (λ r. is_array a.parameters a.loops r) made.left made.right))
    ∙ ap (λ xs. read (array_references a.parameters a.loops xs) a) (sym made.made)

pub reads_none : (s : State) → ReadsAmong (Ok []) s s
reads_none s rs is = let nothing : rs ≡ [] = cc in ap (λ xs. read (array_references s.parameters s.loops xs) s) (sym nothing)

-- ---- operands

module _ {S X : Type 0} (of : S → Operation) (says : X → Term) (left : Term) where
  -- one operand more
  pub operand_read : (xs : List (S × X)) (k : ℕ) (x : S × X) (a b c : State) → k < length xs → x ≡ get_or xs k x
      → Reads (joined_by of says left (take k xs)) a b → Reads (says x.1) b c → Reads (joined_by of says left (take (k + 1) xs)) a c
  operand_read xs k x a b c within is p q =
      subst (λ t. Reads t a c)
      (sym (ap (joined_by of says left) (take_more xs k x within ∙ ap (λ y. take k xs ++ y ∷ []) (sym is)) ∙ joined_more of says left (take k xs) x))
      (reads_two (references_of (joined_by of says left (take k xs))) (references_of (says x.1)) a b c p q)

  -- all operands
  pub operands_read : (xs ys : List (S × X)) (k : ℕ) (t : Term) (a b : State) → xs ≡ ys → length xs ≤ k → t ≡ joined_by of says left ys
      → Reads (joined_by of says left (take k xs)) a b → Reads t a b
  operands_read xs ys k t a b same all is p = subst (λ u. Reads u a b) (ap (joined_by of says left) (take_all k xs all ∙ same) ∙ sym is) p

module _ {X : Type 0} (operation : Operation) (says : X → Term) where
  some_more : (xs : List X) (x : X) (a b c : State) → Reads (some_by operation says xs) a b → Reads (says x) b c → Reads (some_by operation says (xs ++ x ∷ [])) a c
  some_more [] x a b c p q = let same : b ≡ a = p [] refl in subst (λ s. Reads (says x) s c) same q
  some_more (y ∷ ys) x a b c p q =
      subst (λ t. Reads t a c) (sym (all_more operation says (says y) ys x))
      (reads_two (references_of (all_by operation says (says y) ys)) (references_of (says x)) a b c p q)

  -- the same of a list of one or more
  pub item_read : (xs : List X) (k : ℕ) (x : X) (a b c : State) → k < length xs → x ≡ get_or xs k x → Reads (some_by operation says (take k xs)) a b
      → Reads (says x) b c → Reads (some_by operation says (take (k + 1) xs)) a c
  item_read xs k x a b c within is p q =
      subst (λ ys. Reads (some_by operation says ys) a c) (sym (take_more xs k x within ∙ ap (λ y. take k xs ++ y ∷ []) (sym is)))
      (some_more (take k xs) x a b c p q)

  pub items_read : (xs ys : List X) (k : ℕ) (t : Term) (a b : State) → xs ≡ ys → length xs ≤ k → t ≡ some_by operation says ys
      → Reads (some_by operation says (take k xs)) a b → Reads t a b
  items_read xs ys k t a b same all is p = subst (λ u. Reads u a b) (ap (some_by operation says) (take_all k xs all ∙ same) ∙ sym is) p

-- ---- values one after the other

module _ {X : Type 0} (says : X → Located) (xs : List X) (a : State) where
  -- what reads the others from b on, reads all of them
  abbrev pub ReadsRest : ℕ → State → Type 0
  ReadsRest k b = (c : State) → ReadsAll (terms_by says (drop k xs)) b c → ReadsAll (terms_by says xs) a c

  pub argument_read : (k : ℕ) (x : X) (b c : State) → k < length xs → x ≡ get_or xs k x → ReadsRest k b → Reads (says x).term b c → ReadsRest (k + 1) c
  argument_read k x b c within is p q d rest =
      p d (subst (λ ys. ReadsAll (terms_by says ys) b d) (sym (item_drop xs k x within is))
      (reads_two (references_of (says x).term) (references_of_all (terms_by says (drop (k + 1) xs))) b c d q rest))

  pub arguments_read : (k : ℕ) (b : State) → length xs ≤ k → ReadsRest k b → ReadsAll (terms_by says xs) a b
  arguments_read k b all p = p b (subst (λ ys. ReadsAll (terms_by says ys) b b) (sym (drop_all k xs all)) (reads_none b))

-- ---- trees

pub on_ok : {A E P Q : Type 0} (r : Result A E) → (P → Q) → OnOk r P → OnOk r Q
on_ok (Ok a) f p = f p
on_ok (Err e) f p = p

-- an operand, by its form
pub primary_read : (source : List ℕ) (x y : Primary) (t : Term) (a b : State) → x ≡ y → primary_layer source (out-Primary y) ≡ t → Reads t a b
    → Reads (primary_of source x) a b
primary_read source x y t a b same is p = subst (λ u. Reads u a b) (sym (ap (primary_of source) same ∙ primary_is source y ∙ is)) p

pub integer_read : (source : List ℕ) (x : Primary) (piece : Piece) (s : State) → x ≡ pri.Integer piece → Reads (primary_of source x) s s
integer_read source x piece s is = primary_read source x (pri.Integer piece) _ s s is (ap (primary_layer source) (pri.outs-Integer piece)) (reads_none s)

pub literal_read : (source : List ℕ) (x : Primary) (piece : Piece) (s : State) → x ≡ pri.Literal piece → Reads (primary_of source x) s s
literal_read source x piece s is = primary_read source x (pri.Literal piece) _ s s is (ap (primary_layer source) (pri.outs-Literal piece)) (reads_none s)

pub target_read : (source : List ℕ) (x : Primary) (target : Target) (a b : State) → x ≡ pri.Target target → Reads (named_of (target_of source target)) a b
    → Reads (primary_of source x) a b
target_read source x target a b is p = primary_read source x (pri.Target target) _ a b is (ap (primary_layer source) (pri.outs-Target target)) p

pub call_read : (source : List ℕ) (x : Primary) (name : Piece) (values : List Value) (a b : State) → x ≡ pri.Call name values
    → ReadsAll (terms_by (value_of source) values) a b → Reads (primary_of source x) a b
call_read source x name values a b is p = primary_read source x (pri.Call name values) _ a b is (ap (primary_layer source) (pri.outs-Call name values)) p

pub bracket_read : (source : List ℕ) (x : Primary) (value : Value) (a b : State) → x ≡ pri.Bracket value → Reads (value_of source value).term a b
    → Reads (primary_of source x) a b
bracket_read source x value a b is p = primary_read source x (pri.Bracket value) _ a b is (ap (primary_layer source) (pri.outs-Bracket value)) p

-- an operand with its signs
signs_read : (signs : List UnarySign) (t : Term) (a b : State) → Reads t a b → Reads (all_signed signs t) a b
signs_read [] t a b p = p
signs_read (sign ∷ signs) t a b p = signs_read signs t a b p

pub unary_read : (source : List ℕ) (x : Unary) (a b : State) → Reads (primary_of source (out-Unary x).primary) a b → Reads (unary_of source x) a b
unary_read source x a b p =
    subst (λ t. Reads t a b) (sym (unary_is source x)) (signs_read (out-Unary x).signs (primary_of source (out-Unary x).primary) a b p)

-- a value without arms, and one with them
pub test_read : (source : List ℕ) (x : Value) (a b : State) → (out-Value x).arms ≡ None → Reads (or_of source (out-Value x).test) a b → Reads (value_of source x).term a b
test_read source x a b none p = subst (λ t. Reads t a b) (sym (value_or source x none)) p

pub choice_read : (source : List ℕ) (x : Value) (arms : Arms) (a b c : State) → (out-Value x).arms ≡ Some arms → Reads (or_of source (out-Value x).test) a b
    → ReadsBoth (arms_of source arms) b c → Reads (value_of source x).term a c
choice_read source x arms a b c some p q =
    let test : Term = or_of source (out-Value x).test in
    subst (λ t. Reads t a c) (sym (ap (λ (v : Located). v.term) (value_is source x) ∙ ap (with_arms source test) some))
    (reads_two (references_of test)
    (result_map2 (λ (rs : List Reference) (ss : List Reference). rs ++ ss) (references_of (arms_of source arms).yes) (references_of (arms_of source arms).no)) a b c p q)

pub arms_read : (source : List ℕ) (x : Arms) (a b c : State) → Reads (value_of source (out-Arms x).yes).term a b → Reads (value_of source (out-Arms x).no).term b c
    → ReadsBoth (arms_of source x) a c
arms_read source x a b c p q =
    subst (λ y. ReadsBoth y a c) (sym (arms_is source x))
    (reads_two (references_of (value_of source (out-Arms x).yes).term) (references_of (value_of source (out-Arms x).no).term) a b c p q)
