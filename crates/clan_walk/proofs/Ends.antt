-- Behind a whole region: its first refusal, or the pieces of its SCoP.
use Rattle.std.proofs.Common.{◌≡◌, inl, inr, ℕ, ◌+◌, ◌≤◌, List, [], ◌∷◌, ◌++◌, length, map, Bool, true, ◌&&◌, not, cond, refl, sym, ◌∙◌, ap, subst, arith, append_assoc, pos}
use Rattle.std.specs.Prelude.{min, nat_lt, nat_le, Option, None, Some, if◌then◌else◌, codes, is_none}
use Rattle.std.proofs.lemmas.Bool.Decides.{Decides-ltb}
use Rattle.std.proofs.lemmas.Bool.{le-leb}
use Rattle.suite_base.specs.declared.refusals.Refusal.{Refusal}
use Rattle.suite_base.specs.declared.refusals.Refusal.TheVariants.{Limit}
use Rattle.suite_base.specs.declared.refusals.Which.TheVariants.{Statements, Parameters, Arrays}
use Rattle.scop_data.specs.declared.raw_pieces.RawStatement.{RawStatement}
use Rattle.scop_data.specs.declared.raw_pieces.ScopPieces.{ScopPieces}
use Rattle.scop_data.specs.Pieces.{statement_pieces, pieces_of}
use Rattle.scop_core.specs.Sequences.{In}
use Rattle.scop_core.specs.Assembly.{or_else}
use Rattle.scop_core.specs.Assembly as assembly
use Rattle.scop_core.specs.Printable.{IsPrintable}
use Rattle.scop_core.specs.ReadBack.{ReadBack}
use Rattle.scop_core.proofs.ReadBackPieces.{at_most, if_none, or_none}
use Rattle.clan_extract.specs.Regions.{Nodes, numbered, names_if_any}
use Rattle.clan_extract.specs.Placements.{Placed, placed_all, children_of_all, loop_names}
use Rattle.clan_extract.specs.Refusals.{statement_refusal, statements_refusal, whole_refusal, refusal_of}
use Rattle.clan_extract.specs.ReadBack.{IsPrintableRegion}
use Rattle.clan_extract.specs.Scops.{statement, scop_of}
use Rattle.clan_extract.proofs.OutsideIn.{inside_nothing}
use Rattle.clan_extract.proofs.ReadBacks.{scop_reads_back}
use Rattle.clan_walk.specs.Walk.{start, walk_of, refusal_at_end, pieces_at_end}
use Rattle.clan_walk.specs.Laws.{WalkTranslates, WalkFinishes, WalkKeepsPlaces}
use Rattle.clan_walk.proofs.Around.{none_around}
use Rattle.clan_walk.proofs.Gathered.{le_not_lt}
use Rattle.clan_walk.proofs.Kept.{placed_all_count, walk_keeps, walk_keeps_all}
use Rattle.clan_walk.proofs.Takings.{Taken, can_take, refusal_then, pieces_then, take, take_all, place}
use Rattle.clan_walk.proofs.Assignments.{clip_test}
use Rattle.clan_walk.proofs.Walks.{walk_all_is}

or_nothing : (r : Option Refusal) → or_else r None ≡ r
or_nothing None = refl
or_nothing (Some x) = refl

or_assoc : (a b c : Option Refusal) → or_else (or_else a b) c ≡ or_else a (or_else b c)
or_assoc None b c = refl
or_assoc (Some x) b c = refl

same_else : (w r s : Option Refusal) → (w ≡ None → r ≡ s) → or_else w r ≡ or_else w s
same_else None r s h = h refl
same_else (Some x) r s h = refl

module _ (parameters arrays : List (List ℕ)) where
  abbrev few_names : Bool
  few_names = nat_le (length parameters) 16 && nat_le (length arrays) 4096

  -- before the limit the next one can be taken, unless one was refused
  can : (out : Taken) → few_names ≡ true → out.number + 1 ≤ 1024 → can_take parameters arrays out ≡ is_none out.refusal
  can out few l = ap (λ t. t && (nat_lt out.number 1024 && is_none out.refusal)) few ∙ ap (λ t. t && is_none out.refusal) ((Decides-ltb out.number 1024).1 (omega (arith, l)))

  refused_by : (p : Placed) (out : Taken) → few_names ≡ true → out.number + 1 ≤ 1024 → or_else out.refusal (refusal_then parameters arrays p out) ≡ or_else out.refusal (statement_refusal parameters arrays (out.number + 1) p)
  refused_by p out few l = same_else out.refusal (refusal_then parameters arrays p out) (statement_refusal parameters arrays (out.number + 1) p)
      (λ none. ap (λ t. cond t (statement_refusal parameters arrays (out.number + 1) p) None) (can out few l ∙ ap is_none none))

  refusals_are : (ps : List Placed) (out : Taken) → few_names ≡ true → out.number + length ps ≤ 1024
      → (take_all parameters arrays ps out).refusal ≡ or_else out.refusal (statements_refusal parameters arrays (out.number + 1) ps)
  unfolding take
  refusals_are [] out few l = sym (or_nothing out.refusal)
  refusals_are (p ∷ ps) out few l =
      refusals_are ps (take parameters arrays p out) few (omega (arith, l))
      ∙ ap (λ r. or_else r (statements_refusal parameters arrays (out.number + 1 + 1) ps)) (refused_by p out few (omega (arith, l)))
      ∙ or_assoc out.refusal (statement_refusal parameters arrays (out.number + 1) p) (statements_refusal parameters arrays (out.number + 1 + 1) ps)

  abbrev raw_of : Placed → RawStatement
  raw_of p = statement_pieces (length parameters) (statement parameters arrays p)

  abbrev raws : List Placed → List RawStatement
  raws ps = map (statement_pieces (length parameters)) (map (statement parameters arrays) ps)

  taken_pieces : (p : Placed) (out : Taken) → few_names ≡ true → out.number + 1 ≤ 1024 → out.refusal ≡ None → statement_refusal parameters arrays (out.number + 1) p ≡ None
      → length (loop_names p.rounds) ≤ 12 → pieces_then parameters arrays p out ≡ raw_of p ∷ []
  taken_pieces p out few l none unrefused depth =
      let c : can_take parameters arrays out ≡ true = can out few l ∙ ap is_none none in
      let d : nat_le (length (loop_names p.rounds)) 12 ≡ true = le-leb (length (loop_names p.rounds)) 12 depth in
      let r : refusal_then parameters arrays p out ≡ None = ap (λ t. cond t (statement_refusal parameters arrays (out.number + 1) p) None) c ∙ unrefused in
      ap (λ t. cond ((t && nat_le (length (loop_names p.rounds)) 12) && is_none (refusal_then parameters arrays p out)) (raw_of p ∷ []) []) c
      ∙ ap (λ t. cond (t && is_none (refusal_then parameters arrays p out)) (raw_of p ∷ []) []) d
      ∙ ap (λ t. cond (is_none t) (raw_of p ∷ []) []) r

  pieces_are : (ps : List Placed) (out : Taken) → few_names ≡ true → out.number + length ps ≤ 1024 → out.refusal ≡ None → statements_refusal parameters arrays (out.number + 1) ps ≡ None
      → ((p : Placed) → In p ps → length (loop_names p.rounds) ≤ 12) → (take_all parameters arrays ps out).statements ≡ out.statements ++ raws ps
  unfolding take
  pieces_are [] out few l none unrefused depth = sym (nothing out.statements)
    where
      nothing : (xs : List RawStatement) → xs ++ [] ≡ xs
      nothing [] = refl
      nothing (x ∷ xs) = ap (λ ys. x ∷ ys) (nothing xs)
  pieces_are (p ∷ ps) out few l none unrefused depth =
      let both = or_none _ _ unrefused in
      let first : (take parameters arrays p out).refusal ≡ None = refused_by p out few (omega (arith, l)) ∙ ap (λ r. or_else r (statement_refusal parameters arrays (out.number + 1) p)) none ∙ both.0 in
      pieces_are ps (take parameters arrays p out) few (omega (arith, l)) first both.1 (λ q i. depth q (inr i))
      ∙ ap (λ xs. (out.statements ++ xs) ++ raws ps) (taken_pieces p out few (omega (arith, l)) none both.0 (depth p (inl refl)))
      ∙ append_assoc out.statements (raw_of p ∷ []) (raws ps)

  abbrev nothing_taken : Taken
  nothing_taken = record { number = 0; statements = []; refusal = None }

  -- behind a region with few statements
  end_is : (region : Nodes) → length (placed_all 0 region) ≤ 1024
      → walk_of parameters arrays region ≡ place parameters arrays [] [] (0 + children_of_all region) [] (take_all parameters arrays (placed_all 0 region) nothing_taken)
  end_is region few =
      walk_all_is parameters arrays region [] [] 0 [] nothing_taken (record { signs_are = refl; around_is = none_around parameters }) (omega (arith, few))
      ∙ ap (λ ps. place parameters arrays [] [] (0 + children_of_all region) [] (take_all parameters arrays ps nothing_taken)) (inside_nothing (placed_all 0 region))

  limit_by : Bool → Bool → Bool → Option Refusal
  limit_by a b c = if a then Some (Limit Parameters 0) else (if b then Some (Limit Arrays 0) else (if c then Some (Limit Statements 0) else None))

  number_is : (region : Nodes) → (walk_of parameters arrays region).number ≡ min (length (placed_all 0 region)) 1025
  number_is region =
      (walk_keeps_all region (start parameters arrays)).number (omega arith)
      ∙ ap (λ n. min n 1025) (ap (λ n. 0 + n) (sym (placed_all_count region 0)) ∙ from_zero (length (placed_all 0 region)))
    where
      from_zero : (n : ℕ) → 0 + n ≡ n
      from_zero n = omega arith

  whole_is : (region : Nodes) → limit_by (nat_lt 16 (length (walk_of parameters arrays region).parameters)) (nat_lt 4096 (length (walk_of parameters arrays region).arrays)) (nat_lt 1024 (walk_of parameters arrays region).number)
      ≡ limit_by (nat_lt 16 (length parameters)) (nat_lt 4096 (length arrays)) (nat_lt 1024 (length (placed_all 0 region)))
  whole_is region =
      let k = walk_keeps_all region (start parameters arrays) in
      ap (λ ns. limit_by (nat_lt 16 (length ns)) (nat_lt 4096 (length (walk_of parameters arrays region).arrays)) (nat_lt 1024 (walk_of parameters arrays region).number)) k.parameters
      ∙ ap (λ ns. limit_by (nat_lt 16 (length parameters)) (nat_lt 4096 (length ns)) (nat_lt 1024 (walk_of parameters arrays region).number)) k.arrays
      ∙ ap (λ t. limit_by (nat_lt 16 (length parameters)) (nat_lt 4096 (length arrays)) t) (ap (λ n. nat_lt 1024 n) (number_is region) ∙ clip_test 1024 (length (placed_all 0 region)))

  -- no limit of the whole is passed
  record Small (region : Nodes) : Type 0 where
    pub names : few_names ≡ true
    pub statements : length (placed_all 0 region) ≤ 1024

  small : (region : Nodes) → whole_refusal parameters arrays (placed_all 0 region) ≡ None → Small region
  small region none =
      let a = if_none _ _ _ none in
      let b = if_none _ _ _ a.1 in
      let c = if_none _ _ _ b.1 in
      record {
        names = ap (λ t. t && nat_le (length arrays) 4096) (le_not_lt (length parameters) 16 ∙ ap not a.0) ∙ (le_not_lt (length arrays) 4096 ∙ ap not b.0);
        statements = at_most 1024 (length (placed_all 0 region)) c.0;
      }

  refusal_is : (region : Nodes) → refusal_at_end (walk_of parameters arrays region) ≡ refusal_of parameters arrays region
  unfolding limit_by
  refusal_is region =
      ap (λ w. or_else w (walk_of parameters arrays region).refusal) (whole_is region)
      ∙ same_else (whole_refusal parameters arrays (placed_all 0 region)) (walk_of parameters arrays region).refusal (statements_refusal parameters arrays 1 (placed_all 0 region))
      (λ none. let s = small region none in ap (λ s. s.refusal) (end_is region s.statements) ∙ refusals_are (placed_all 0 region) nothing_taken s.names (omega (arith, s.statements)))

  pieces_with : List RawStatement → ScopPieces
  pieces_with statements = record {
    language = codes "C";
    context = record { shape = record { outputs = 0; inputs = 0; locals = 0; parameters = length parameters }; rows = [] };
    parameters = names_if_any parameters;
    statements = statements;
    arrays = Some (numbered (pos 1) arrays);
    extensions = [];
  }

  end_pieces : (region : Nodes) → IsPrintableRegion parameters arrays region → refusal_of parameters arrays region ≡ None
      → pieces_at_end (walk_of parameters arrays region) ≡ pieces_of (scop_of parameters arrays region)
  unfolding pieces_with
  end_pieces region printable none =
      let both = or_none _ _ none in
      let s = small region both.0 in
      ap pieces_at_end (end_is region s.statements)
      ∙ ap pieces_with (pieces_are (placed_all 0 region) nothing_taken s.names (omega (arith, s.statements)) refl both.1 (λ p i. (printable.assignments p i).depth))

pub walk_translates : WalkTranslates
walk_translates parameters arrays region = record { refusal = refusal_is parameters arrays region; pieces = end_pieces parameters arrays region }

pub walk_finishes : WalkFinishes
walk_finishes parameters arrays region printable = (
  record {
    printable = λ none. let r = back none in subst (λ p. IsPrintable p) (sym (pieces none)) r.printable;
    unrefused = λ none. let r = back none in ap assembly.refusal_of (pieces none) ∙ r.unrefused;
  },
  λ none. ap assembly.scop_of (end_pieces parameters arrays region printable none) ∙ (scop_reads_back parameters arrays region printable none).same,
)
  where
    unrefused : refusal_at_end (walk_of parameters arrays region) ≡ None → refusal_of parameters arrays region ≡ None
    unrefused none = sym (refusal_is parameters arrays region) ∙ none

    back : refusal_at_end (walk_of parameters arrays region) ≡ None → ReadBack (scop_of parameters arrays region)
    back none = scop_reads_back parameters arrays region printable (unrefused none)

    pieces : refusal_at_end (walk_of parameters arrays region) ≡ None → pieces_at_end (walk_of parameters arrays region) ≡ pieces_of (scop_of parameters arrays region)
    pieces none = end_pieces parameters arrays region printable (unrefused none)

pub walk_keeps_places : WalkKeepsPlaces
walk_keeps_places = (walk_keeps, walk_keeps_all)
