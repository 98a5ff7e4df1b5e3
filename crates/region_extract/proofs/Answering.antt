-- The region's answer, by the names, the first fault and the walk; and the text's answer by that.
use Rattle.std.proofs.Common.{◌≡◌, ◌∙◌, inl, inr, ℕ, List, [], Option, Some, None, Result, Ok, Err, refl, ap, sym, subst}
use Rattle.std.specs.Prelude.{IfOk, IfErr, OnOk}
use Rattle.suite_base.specs.declared.places.Place.{Place}
use Rattle.suite_base.specs.declared.refusals.Fail.{Fail}
use Rattle.suite_base.specs.declared.refusals.Fail.TheVariants as fail
use Rattle.suite_base.specs.declared.refusals.Refusal.{Refusal}
use Rattle.suite_base.specs.declared.refusals.Refusal.TheVariants.{NameClash, NotAffine}
use Rattle.c_lexer.specs.declared.regions.RegionFail.{RegionFail}
use Rattle.c_lexer.specs.declared.regions.Span.{Span}
use Rattle.suite_base.specs.Places.{place_at}
use Rattle.c_lexer.specs.Regions.{region_of}
use Rattle.c_parser.specs.declared.tree.Node.{Node}
use Rattle.c_parser.specs.declared.tree.Region.{Region}
use Rattle.c_parser.specs.Regions.{Completes, HasReason, IsRegion}
use Rattle.scop_core.specs.Assembly as assembly
use Rattle.scop_core.specs.ScopData.{ScopData}
use Rattle.clan_extract.specs.Names.{Occurrence, arrays_in, clash, parameters_in}
use Rattle.clan_extract.specs.ReadBack.{IsPrintableRegion}
use Rattle.clan_extract.specs.Refusals.{refusal_of}
use Rattle.clan_extract.specs.Regions.{Nodes}
use Rattle.clan_extract.specs.Scops.{scop_of}
use Rattle.clan_walk.specs.Laws.{CanFinish}
use Rattle.clan_walk.specs.Walk.{State, pieces_at_end, refusal_at_end, walk_of}
use Rattle.clan_walk.proofs.Ends.{walk_finishes, walk_translates}
use Rattle.printable_regions.proofs.Printable.{derived_is_printable}
use Rattle.region_names.specs.declared.region.Names.{Names}
use Rattle.region_names.specs.Answers.{names_or_clash, unless_clash}
use Rattle.region_rules.specs.Faults.{fault_of}
use Rattle.region_trees.specs.Occurrences.{occurrences_in_all}
use Rattle.region_trees.specs.Regions.{nodes_of}
use Rattle.region_trees.specs.Statements.{statements_of}
use Rattle.region_trees.specs.Translation.{clan_of, of_names, of_region, unless_refused}
use Rattle.region_extract.specs.Answers.{Extracts, Refuses, Translates, refusal_for}
use Rattle.region_extract.specs.Walks.{IsBehind}

-- ---- names

abbrev occurrences : List ℕ → List Node → List Occurrence
occurrences source nodes = occurrences_in_all [] (statements_of source nodes)

-- the names, where they do not clash
record AreNames (all : List Occurrence) (names : Names) : Type 0 where
  no_clash : clash all ≡ None
  parameters : names.parameters ≡ parameters_in all
  arrays : names.arrays ≡ arrays_in all

names_by : (all : List Occurrence) (names : Names) (x : Option ℕ) → clash all ≡ x → Ok names ≡ unless_clash all x → AreNames all names
names_by all names (Some at) is e = absurd (cc)
names_by all names None is e =
    let same : names ≡ record { parameters = parameters_in all; arrays = arrays_in all } = cc in
    record { no_clash = is; parameters = ap (λ n. n.parameters) same; arrays = ap (λ n. n.arrays) same }

clash_by : (all : List Occurrence) (at : ℕ) (x : Option ℕ) → Err at ≡ unless_clash all x → x ≡ Some at
clash_by all at (Some b) e = cc
clash_by all at None e = absurd (cc)

pub clash_answers : (source : List ℕ) (nodes : List Node) (at : ℕ) (place : Place) → Err at ≡ names_or_clash (occurrences source nodes) → place ≡ place_at source at
    → Extracts (clan_of source nodes) (Err (fail.Refused (NameClash place)))
clash_answers source nodes at place clashes is =
    ap (λ x. of_names source x (occurrences source nodes) (nodes_of (statements_of source nodes))) (clash_by (occurrences source nodes) at (clash (occurrences source nodes)) clashes)
    ∙ ap (λ p. Err (NameClash p)) (sym is)

pub names_answer : (source : List ℕ) (nodes : List Node) (names : Names) (r : Result ScopData Fail) → Ok names ≡ names_or_clash (occurrences source nodes)
    → Extracts (of_region source names.parameters names.arrays (nodes_of (statements_of source nodes))) r → Extracts (clan_of source nodes) r
names_answer source nodes names r named p =
    let are = names_by (occurrences source nodes) names (clash (occurrences source nodes)) refl named in
    let region = nodes_of (statements_of source nodes) in
    let same : of_region source names.parameters names.arrays region ≡ clan_of source nodes =
    ap (λ ps. of_region source ps names.arrays region) are.parameters ∙ ap (λ bs. of_region source (parameters_in (occurrences source nodes)) bs region) are.arrays
    ∙ ap (λ x. of_names source x (occurrences source nodes) region) (sym are.no_clash) in
    subst (λ x. Extracts x r) same p

pub names_print : (source : List ℕ) (span : Span) (nodes : List Node) (names : Names) → IsRegion source span nodes → Ok names ≡ names_or_clash (occurrences source nodes)
    → (region : Nodes) → nodes_of (statements_of source nodes) ≡ Ok region → IsPrintableRegion names.parameters names.arrays region
names_print source span nodes names derived named region is =
    let are = names_by (occurrences source nodes) names (clash (occurrences source nodes)) refl named in
    subst (λ ps. IsPrintableRegion ps names.arrays region) (sym are.parameters)
    (subst (λ bs. IsPrintableRegion (parameters_in (occurrences source nodes)) bs region) (sym are.arrays) (derived_is_printable source span nodes region derived is))

-- ---- faults

fault_by : (source : List ℕ) (parameters arrays : List (List ℕ)) (x : Result Nodes ℕ) (at : ℕ) → Some at ≡ fault_of x
    → of_region source parameters arrays x ≡ Err (NotAffine (place_at source at))
fault_by source parameters arrays (Ok nodes) at e = absurd (cc)
fault_by source parameters arrays (Err b) at e = let same : b ≡ at = cc in ap (λ a. Err (NotAffine (place_at source a))) same

pub fault_answers : (source : List ℕ) (parameters arrays : List (List ℕ)) (x : Result Nodes ℕ) (at : ℕ) (place : Place) → Some at ≡ fault_of x → place ≡ place_at source at
    → Extracts (of_region source parameters arrays x) (Err (fail.Refused (NotAffine place)))
fault_answers source parameters arrays x at place faulty is = fault_by source parameters arrays x at faulty ∙ ap (λ p. Err (NotAffine p)) (sym is)

-- ---- the walk

-- the region, where there is no fault
region_by : (x : Result Nodes ℕ) → fault_of x ≡ None → (region : Nodes) × (x ≡ Ok region)
region_by (Ok region) e = (region, refl)
region_by (Err at) e = absurd (cc)

module _ (parameters arrays : List (List ℕ)) (region : Nodes) (printable : IsPrintableRegion parameters arrays region) where
  finished : (source : List ℕ) (s : State) (r : Result ScopData Fail) → s ≡ walk_of parameters arrays region → OnOk r (refusal_at_end s ≡ None)
      → IfOk r (λ scop. scop ≡ assembly.scop_of (pieces_at_end s)) → IfErr r (assembly.HasCause (refusal_at_end s))
      → Extracts (unless_refused (refusal_of parameters arrays region) (scop_of parameters arrays region)) r
  finished source s (Ok scop) same none made cause =
      let S : ScopData = scop_of parameters arrays region in
      let no : refusal_of parameters arrays region ≡ None = sym (walk_translates parameters arrays region).refusal ∙ ap refusal_at_end (sym same) ∙ none in
      ap (λ x. unless_refused x S) no
      ∙ ap (λ x. Ok x) (sym (made ∙ ap (λ t. assembly.scop_of (pieces_at_end t)) same ∙ (walk_finishes parameters arrays region printable).1 no))
  finished source s (Err fail.Memory) same none made cause = tt
  finished source s (Err (fail.Refused refusal)) same none made cause =
      ap (λ x. unless_refused x (scop_of parameters arrays region))
      (sym (walk_translates parameters arrays region).refusal ∙ ap refusal_at_end (sym same) ∙ cause)

  can_finish : (s : State) → s ≡ walk_of parameters arrays region → CanFinish s
  can_finish s same = subst CanFinish (sym same) (walk_finishes parameters arrays region printable).0

module _ (source : List ℕ) (nodes : List Node) (parameters arrays : List (List ℕ)) (s : State) where
  abbrev Prints : Type 0
  Prints = (region : Nodes) → nodes_of (statements_of source nodes) ≡ Ok region → IsPrintableRegion parameters arrays region

  pub walk_can_finish : fault_of (nodes_of (statements_of source nodes)) ≡ None → Prints → IsBehind source nodes parameters arrays s → CanFinish s
  walk_can_finish affine prints behind =
      let is = region_by (nodes_of (statements_of source nodes)) affine in
      can_finish parameters arrays is.0 (prints is.0 is.1) s (behind is.0 is.1)

  pub walk_answers : (r : Result ScopData Fail) → fault_of (nodes_of (statements_of source nodes)) ≡ None → Prints → IsBehind source nodes parameters arrays s
      → OnOk r (refusal_at_end s ≡ None) → IfOk r (λ scop. scop ≡ assembly.scop_of (pieces_at_end s)) → IfErr r (assembly.HasCause (refusal_at_end s))
      → Extracts (of_region source parameters arrays (nodes_of (statements_of source nodes))) r
  walk_answers r affine prints behind none made cause =
      let is = region_by (nodes_of (statements_of source nodes)) affine in
      subst (λ x. Extracts (of_region source parameters arrays x) r) (sym is.1)
      (finished parameters arrays is.0 (prints is.0 is.1) source s r (behind is.0 is.1) none made cause)

-- ---- texts

pub no_region_answers : (text : List ℕ) (f : RegionFail) (refusal : Refusal) → Err f ≡ region_of text → refusal ≡ refusal_for f → Refuses text refusal
no_region_answers text f refusal is says = inl (record { fail = f; is_fail = sym is; says = says })

pub unparsed_answers : (text : List ℕ) (span : Span) (f : Fail) → Ok span ≡ region_of text → Completes text span (Err f) → HasReason text span (Err f) → Translates text (Err f)
unparsed_answers text span fail.Memory is complete cause = tt
unparsed_answers text span (fail.Refused refusal) is complete cause = inr (inl (record { span = span; is_region = sym is; cause = cause; underived = complete }))

pub parsed_answers : (text : List ℕ) (span : Span) (found : Region) (r : Result ScopData Fail) → Ok span ≡ region_of text → IsRegion text span found.nodes
    → Completes text span (Ok found) → Extracts (clan_of text found.nodes) r → Translates text r
parsed_answers text span found (Ok scop) is derived complete p =
    record { nodes = found.nodes; parsed = record { span = span; is_region = sym is; derived = derived }; translated = p }
parsed_answers text span found (Err fail.Memory) is derived complete p = tt
parsed_answers text span found (Err (fail.Refused refusal)) is derived complete p =
    inr (inr (record {
      nodes = found.nodes;
      parsed = record { span = span; is_region = sym is; derived = derived };
      only = λ other q.
          let same : q.span ≡ span = let e : Ok q.span ≡ Ok span = sym q.is_region ∙ sym is in cc in
          complete other (subst (λ x. IsRegion text x other) same q.derived);
      refused = p;
    }))
