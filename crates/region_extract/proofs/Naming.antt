-- Names with their subscripts: which of them are read as arrays, and the forms of subscripts.
use Rattle.std.proofs.Common.{◌≡◌, ◌∙◌, ◌+◌, ◌<◌, ◌≤◌, ℕ, List, [], ◌∷◌, ◌++◌, length, get_or, drop, map, Bool, true, false, cond, Option, Some, None, Ok, refl, ap, sym, subst}
use Rattle.std.specs.Prelude.{◌&&◌, ◌||◌, not}
use Rattle.std.specs.List.{All}
use Rattle.std.proofs.lemmas.List.{append-nil, drop_all}
use Rattle.std.proofs.lemmas.List.Elements.{All-push}
use Rattle.scop_core.proofs.Assemblies.{item_drop}
use Rattle.scop_data.specs.declared.affines.Affine.{Affine}
use Rattle.scop_data.specs.declared.accesses.AccessKind.{AccessKind}
use Rattle.scop_data.specs.declared.accesses.AccessKind.TheVariants.{Read}
use Rattle.c_lexer.specs.Pieces.{bytes_of}
use Rattle.c_parser.specs.declared.tree.Sum.{Sum}
use Rattle.c_parser.specs.declared.tree.Target.{Target, out-Target}
use Rattle.clan_extract.specs.Forms.{is_affine}
use Rattle.clan_extract.specs.Regions.{Expression, Reference, array_references, is_among, is_array, is_empty}
use Rattle.clan_rows.specs.declared.forms.Form.{Form}
use Rattle.clan_rows.specs.Contents.{made}
use Rattle.clan_rows.specs.Fitting.{checked_form}
use Rattle.clan_walk.specs.Places.{IsSizedForm}
use Rattle.clan_walk.specs.Walk.{State, accessed, read, referred}
use Rattle.region_trees.specs.Terms.{Element, More, NoTerms, Term, Terms, sum_of, target_of}
use Rattle.region_trees.specs.Layers.{target_is, terms_by}
use Rattle.region_trees.specs.Regions.{expression_of, passed, reference_of, references_of, subscripts_of}
use Rattle.region_forms.specs.Evaluations.{EvaluationData, HasShape, IsValue, named_of}
use Rattle.region_extract.specs.Walks.{AreForms, Reads, Refers, are_none, is_value}
use Rattle.region_extract.proofs.Results.{both_of, one_of, passed_of}

-- ---- which names are read

-- with or without subscripts, a name is an array or not
array_by : (ts : Terms) (es : List Expression) (b : Bool) → subscripts_of ts ≡ Ok es → (not (is_empty es) || not b) ≡ not (are_none ts && b)
array_by NoTerms es b is = let nothing : es ≡ [] = cc in ap (λ xs. not (is_empty xs) || not b) nothing
array_by (More at t ts) es b is =
    let made = both_of (λ (e : Expression) (rest : List Expression). e ∷ rest) (passed is_affine at (expression_of t)) (subscripts_of ts) es is in
    ap (λ xs. not (is_empty xs) || not b) made.made

-- what a name with its subscripts refers to
record Named (e : Element) (s : State) (rs : List Reference) : Type 0 where
  reference : Reference
  of_is : reference_of e.name e.subscripts ≡ Ok reference
  rs_are : rs ≡ reference ∷ []
  array : is_array s.parameters s.loops reference ≡ not (is_value e s)

named_as : (e : Element) (s : State) (rs : List Reference) → references_of (named_of e) ≡ Ok rs → Named e s rs
named_as e s rs is =
    let outer = one_of (λ (r : Reference). r ∷ []) (reference_of e.name e.subscripts) rs is in
    let as_reference : List Expression → Reference = λ es. record { name = e.name; subscripts = es } in
    let inner = one_of as_reference (subscripts_of e.subscripts) outer.of outer.of_is in
    record {
      reference = outer.of;
      of_is = outer.of_is;
      rs_are = outer.made;
      array =
          ap (is_array s.parameters s.loops) inner.made
          ∙ array_by e.subscripts inner.of (is_among e.name s.loops || is_among e.name s.parameters) inner.of_is;
    }

read_by : (r : Reference) (b : Bool) (s : State) → is_array s.parameters s.loops r ≡ b → read (array_references s.parameters s.loops (r ∷ [])) s ≡ read (cond b (r ∷ []) []) s
read_by r b s e = ap (λ t. read (cond t (r ∷ []) []) s) e

-- a loop's name or a parameter's is not read
pub value_named : (e : Element) (s : State) → true ≡ is_value e s → Reads (named_of e) s s
value_named e s known rs is =
    let named = named_as e s rs is in
    sym (ap (λ xs. read (array_references s.parameters s.loops xs) s) named.rs_are ∙ read_by named.reference false s (named.array ∙ ap not (sym known)))

-- any other is
pub array_named : (e : Element) (a b : State) → false ≡ is_value e a → Refers Read e a b → Reads (named_of e) a b
array_named e a b unknown p rs is =
    let named = named_as e a rs is in
    p named.reference named.of_is
    ∙ sym (ap (λ xs. read (array_references a.parameters a.loops xs) a) named.rs_are ∙ read_by named.reference true a (named.array ∙ ap not (sym unknown)))

subscripted : (source : List ℕ) (xs : List Sum) → ¬ (xs ≡ []) → false ≡ are_none (terms_by (sum_of source) xs)
subscripted source [] some = absurd (some refl)
subscripted source (x ∷ xs) some = refl

-- of a target's name
pub is_no_value : (source : List ℕ) (x : Target) (s : State) → ¬ ((out-Target x).subscripts ≡ []) → false ≡ is_value (target_of source x) s
is_no_value source x s some =
    ap (λ b. b && (is_among (bytes_of source (out-Target x).name) s.loops || is_among (bytes_of source (out-Target x).name) s.parameters))
    (subscripted source (out-Target x).subscripts some)
    ∙ ap (λ e. is_value e s) (sym (target_is source x))

pub is_plain_value : (source : List ℕ) (x : Target) (s : State) (name : List ℕ) (loops parameters : List (List ℕ)) → (out-Target x).subscripts ≡ []
    → name ≡ bytes_of source (out-Target x).name → loops ≡ s.loops → parameters ≡ s.parameters
    → (is_among name loops || is_among name parameters) ≡ is_value (target_of source x) s
is_plain_value source x s name loops parameters none named looped given =
    ap (λ n. is_among n loops || is_among n parameters) named
    ∙ ap (λ ls. is_among (bytes_of source (out-Target x).name) ls || is_among (bytes_of source (out-Target x).name) parameters) looped
    ∙ ap (λ ps. is_among (bytes_of source (out-Target x).name) s.loops || is_among (bytes_of source (out-Target x).name) ps) given
    ∙ ap (λ xs. are_none (terms_by (sum_of source) xs) && (is_among (bytes_of source (out-Target x).name) s.loops || is_among (bytes_of source (out-Target x).name) s.parameters))
    (sym none)
    ∙ ap (λ e. is_value e s) (sym (target_is source x))

-- ---- an access

pub target_added : (kind : AccessKind) (source : List ℕ) (x : Target) (s new : State) (name : List ℕ) (forms : List (Option Affine)) (parameters loops : List (List ℕ))
    → parameters ≡ s.parameters → loops ≡ s.loops → name ≡ bytes_of source (out-Target x).name
    → AreForms parameters loops (terms_by (sum_of source) (out-Target x).subscripts) forms → new ≡ accessed kind name forms s → Refers kind (target_of source x) s new
target_added kind source x s new name forms parameters loops given looped named told added =
    subst (λ e. Refers kind e s new) (sym (target_is source x)) refers
  where
    refers : Refers kind (record { name = bytes_of source (out-Target x).name; at = (out-Target x).name.from; subscripts = terms_by (sum_of source) (out-Target x).subscripts }) s new
    refers r is =
        let as_reference : List Expression → Reference = λ es. record { name = bytes_of source (out-Target x).name; subscripts = es } in
        let made = one_of as_reference (subscripts_of (terms_by (sum_of source) (out-Target x).subscripts)) r is in
        added
        ∙ ap (λ n. accessed kind n forms s) named
        ∙ ap (λ fs. accessed kind (bytes_of source (out-Target x).name) fs s) (told made.of made.of_is)
        ∙ ap (λ ps. accessed kind (bytes_of source (out-Target x).name) (map (λ e. checked_form ps loops e) made.of) s) given
        ∙ ap (λ ls. accessed kind (bytes_of source (out-Target x).name) (map (λ e. checked_form s.parameters ls e) made.of) s) looped
        ∙ ap (λ r. referred kind r s) (sym made.made)

-- ---- forms of subscripts

form_more : (parameters loops : List (List ℕ)) (at : ℕ) (t : Term) (ts : Terms) (v : EvaluationData) (gs : List (Option Affine)) → IsValue parameters loops t v
    → AreForms parameters loops ts gs → AreForms parameters loops (More at t ts) (v.form ∷ gs)
form_more parameters loops at t ts v gs value rest es is =
    let made = both_of (λ (e : Expression) (rest : List Expression). e ∷ rest) (passed is_affine at (expression_of t)) (subscripts_of ts) es is in
    let first = passed_of is_affine at (expression_of t) made.left made.left_is in
    let here : v.form ≡ checked_form parameters loops made.left = (value.expression made.left first.was).form_is in
    ap (λ f. f ∷ gs) here ∙ ap (λ fs. checked_form parameters loops made.left ∷ fs) (rest made.right made.right_is)
    ∙ ap (map (λ e. checked_form parameters loops e)) (sym made.made)

module _ (parameters loops : List (List ℕ)) (source : List ℕ) (subscripts : List Sum) where
  -- what gives the forms of the others, gives those of all behind these
  abbrev pub FormsRest : ℕ → List (Option Form) → Type 0
  FormsRest k forms = (gs : List (Option Affine)) → AreForms parameters loops (terms_by (sum_of source) (drop k subscripts)) gs
      → AreForms parameters loops (terms_by (sum_of source) subscripts) (map made forms ++ gs)

  pub form_told : (k : ℕ) (x : Sum) (forms : List (Option Form)) (f : Option Form) (v : EvaluationData) → k < length subscripts → x ≡ get_or subscripts k x
      → FormsRest k forms → IsValue parameters loops (sum_of source x).term v → v.form ≡ made f → FormsRest (k + 1) (forms ++ f ∷ [])
  form_told k x forms f v within is p value form gs rest =
      subst (AreForms parameters loops (terms_by (sum_of source) subscripts)) (ap (λ g. map made forms ++ g ∷ gs) form ∙ sym (pushed forms f gs))
      (p (v.form ∷ gs) (subst (λ ys. AreForms parameters loops (terms_by (sum_of source) ys) (v.form ∷ gs)) (sym (item_drop subscripts k x within is))
      (form_more parameters loops (sum_of source x).at (sum_of source x).term (terms_by (sum_of source) (drop (k + 1) subscripts)) v gs value rest)))
    where
      pushed : (forms : List (Option Form)) (f : Option Form) (gs : List (Option Affine)) → map made (forms ++ f ∷ []) ++ gs ≡ map made forms ++ made f ∷ gs
      pushed [] f gs = refl
      pushed (g ∷ forms) f gs = ap (λ fs. made g ∷ fs) (pushed forms f gs)

  pub forms_told : (k : ℕ) (forms : List (Option Form)) → length subscripts ≤ k → FormsRest k forms → AreForms parameters loops (terms_by (sum_of source) subscripts) (map made forms)
  forms_told k forms all p =
      subst (AreForms parameters loops (terms_by (sum_of source) subscripts)) (append-nil (map made forms))
      (p [] (subst (λ ys. AreForms parameters loops (terms_by (sum_of source) ys) []) (sym (drop_all k subscripts all)) none))
    where
      none : AreForms parameters loops NoTerms []
      none es is = let nothing : es ≡ [] = cc in ap (map (λ e. checked_form parameters loops e)) (sym nothing)

-- a form that is there has its sizes
sized : (parameters loops : List (List ℕ)) (f : Option Form) → HasShape parameters loops (made f) → IsSizedForm (length loops) (length parameters) f
sized parameters loops None shape = tt
sized parameters loops (Some f) shape = shape

pub sizes_told : (parameters loops : List (List ℕ)) (forms : List (Option Form)) (f : Option Form) (t : Term) (v : EvaluationData)
    → All (IsSizedForm (length loops) (length parameters)) forms → IsValue parameters loops t v → v.form ≡ made f
    → All (IsSizedForm (length loops) (length parameters)) (forms ++ f ∷ [])
sizes_told parameters loops forms f t v all value form =
    All-push (IsSizedForm (length loops) (length parameters)) forms f all (sized parameters loops f (subst (HasShape parameters loops) form value.shape))
