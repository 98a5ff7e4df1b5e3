-- The names of sound statements are names of C; parameters and arrays are such names.
use Rattle.std.proofs.Common.{◌≡◌, ℕ, zero, suc, List, [], ◌∷◌, ◌++◌, Bool, true, false, refl, Some}
use Rattle.std.specs.Prelude.{cond, bytes_eq}
use Rattle.std.specs.List.{list_all}
use Rattle.c_lexer.specs.TokenForms.{is_name}
use Rattle.c_lexer.specs.Symbols.{operator_names}
use Rattle.scop_core.specs.Printable.{is_body_line}
use Rattle.clan_extract.specs.Regions.{is_among, without, first_occurrences}
use Rattle.clan_extract.specs.Names.{Role, Function, Occurrence, is_parameter, is_array_role, role_of, names_with, parameters_in, arrays_in}
use Rattle.region_trees.specs.Terms.{Term, Integer, Literal, Named, Call, Bracket, Signed, Joined, Choice, Terms, NoTerms, More}
use Rattle.region_trees.specs.Statements.{Statement, Loop, Branch, Block, Assignment, Statements, NoStatements, Next}
use Rattle.region_trees.specs.Occurrences.{occurrence, occurrences_of, occurrences_of_all, occurrences_left, occurrences_in, occurrences_in_all}
use Rattle.printable_regions.specs.Sound.{is_named, are_named, is_sound, are_sound}
use Rattle.printable_regions.proofs.Bytes.{and_first, and_second, third, fourth, both_hold, are_c_names}

-- each occurrence is of a name of C
abbrev pub have_names : List Occurrence → Bool
have_names os = list_all (λ o. is_name o.name) os

joined : (xs ys : List Occurrence) → have_names xs ≡ true → have_names ys ≡ true → have_names (xs ++ ys) ≡ true
joined [] ys p q = q
joined (x ∷ xs) ys p q = both_hold _ _ (and_first _ _ p) (joined xs ys (and_second _ _ p) q)

or_none : (b : Bool) (os : List Occurrence) → have_names os ≡ true → have_names (cond b [] os) ≡ true
or_none true os h = refl
or_none false os h = h

one : (o : Occurrence) → is_name o.name ≡ true → have_names (o ∷ []) ≡ true
one o h = both_hold _ _ h refl

mutual
  term_has : (control : Bool) (scope : List (List ℕ)) (t : Term) → is_named t ≡ true → have_names (occurrences_of control scope t) ≡ true
  term_has control scope (Integer value) h = refl
  term_has control scope Literal h = refl
  term_has control scope (Named name at subscripts) h = both_hold _ _ (and_first (is_name name) (are_named subscripts) h) (terms_have true scope subscripts (and_second (is_name name) (are_named subscripts) h))
  term_has control scope (Call name at arguments) h =
      let o : Occurrence = occurrence name (Some Function) at in
      joined (cond (is_among name operator_names) [] (o ∷ [])) (occurrences_of_all control scope arguments)
      (or_none (is_among name operator_names) (o ∷ []) (one o (and_first (is_name name) (are_named arguments) h)))
      (terms_have control scope arguments (and_second (is_name name) (are_named arguments) h))
  term_has control scope (Bracket of) h = term_has control scope of h
  term_has control scope (Signed sign of) h = term_has control scope of h
  term_has control scope (Joined operation left right) h =
      joined (occurrences_of control scope left) _ (term_has control scope left (and_first (is_named left) (is_named right) h))
      (term_has control scope right (and_second (is_named left) (is_named right) h))
  term_has control scope (Choice test first second) h =
      let q = third (is_named test) (is_named first) (is_named second) h in
      joined (occurrences_of control scope test) _ (term_has control scope test q.0)
      (joined (occurrences_of control scope first) _ (term_has control scope first q.1) (term_has control scope second q.2))

  terms_have : (control : Bool) (scope : List (List ℕ)) (ts : Terms) → are_named ts ≡ true → have_names (occurrences_of_all control scope ts) ≡ true
  terms_have control scope NoTerms h = refl
  terms_have control scope (More at first rest) h =
      joined (occurrences_of control scope first) _ (term_has control scope first (and_first (is_named first) (are_named rest) h))
      (terms_have control scope rest (and_second (is_named first) (are_named rest) h))

mutual
  statement_has : (loops : ℕ) (scope : List (List ℕ)) (x : Statement) → is_sound loops x ≡ true → have_names (occurrences_in scope x) ≡ true
  statement_has zero scope (Loop name at start comparison bound step step_at body) h = absurd (cc)
  statement_has (suc loops) scope (Loop name at start comparison bound step step_at body) h =
      let q = fourth (is_name name) (is_named start.term) (is_named bound.term) (are_sound loops body) h in
      both_hold _ _ q.0 (joined (occurrences_of true scope start.term) _ (term_has true scope start.term q.1)
      (joined (occurrences_of true scope bound.term) _ (term_has true scope bound.term q.2) (statements_have loops (name ∷ scope) body q.3)))
  statement_has loops scope (Branch condition then_statements else_statements) h =
      let q = third (is_named condition.term) (are_sound loops then_statements) (are_sound loops else_statements) h in
      joined (occurrences_of true scope condition.term) _ (term_has true scope condition.term q.0)
      (joined (occurrences_in_all scope then_statements) _ (statements_have loops scope then_statements q.1)
      (statements_have loops scope else_statements q.2))
  statement_has loops scope (Block statements) h = statements_have loops scope statements h
  statement_has loops scope (Assignment text target updates right) h =
      let q = fourth (is_body_line text) (is_name target.name) (are_named target.subscripts) (is_named right.term) h in
      joined (occurrences_left scope target) _
      (both_hold _ _ q.1 (terms_have true scope target.subscripts q.2)) (term_has false scope right.term q.3)

  pub statements_have : (loops : ℕ) (scope : List (List ℕ)) (xs : Statements) → are_sound loops xs ≡ true → have_names (occurrences_in_all scope xs) ≡ true
  statements_have loops scope NoStatements h = refl
  statements_have loops scope (Next first rest) h =
      joined (occurrences_in scope first) _ (statement_has loops scope first (and_first (is_sound loops first) (are_sound loops rest) h))
      (statements_have loops scope rest (and_second (is_sound loops first) (are_sound loops rest) h))

-- ---- lists of names

kept : (b : Bool) (name : List ℕ) (names : List (List ℕ)) → is_name name ≡ true → are_c_names names ≡ true → are_c_names (cond b (name ∷ names) names) ≡ true
kept true name names p q = both_hold _ _ p q
kept false name names p q = q

names_are : (test : Role → Bool) (all os : List Occurrence) → have_names os ≡ true → are_c_names (names_with test all os) ≡ true
names_are test all [] h = refl
names_are test all (o ∷ os) h = kept (test (role_of all o)) o.name (names_with test all os) (and_first _ _ h) (names_are test all os (and_second _ _ h))

left : (b : Bool) (x : List ℕ) (xs : List (List ℕ)) → is_name x ≡ true → are_c_names xs ≡ true → are_c_names (cond b xs (x ∷ xs)) ≡ true
left true x xs p q = q
left false x xs p q = both_hold _ _ p q

without_are : (name : List ℕ) (xs : List (List ℕ)) → are_c_names xs ≡ true → are_c_names (without name xs) ≡ true
without_are name [] h = refl
without_are name (x ∷ xs) h = left (bytes_eq x name) x (without name xs) (and_first _ _ h) (without_are name xs (and_second _ _ h))

firsts_are : (xs : List (List ℕ)) → are_c_names xs ≡ true → are_c_names (first_occurrences xs) ≡ true
firsts_are [] h = refl
firsts_are (x ∷ xs) h = both_hold _ _ (and_first _ _ h) (without_are x (first_occurrences xs) (firsts_are xs (and_second _ _ h)))

pub parameters_are : (os : List Occurrence) → have_names os ≡ true → are_c_names (parameters_in os) ≡ true
parameters_are os h = firsts_are (names_with is_parameter os os) (names_are is_parameter os os h)

pub arrays_are : (os : List Occurrence) → have_names os ≡ true → are_c_names (arrays_in os) ≡ true
arrays_are os h = firsts_are (names_with is_array_role os os) (names_are is_array_role os os h)
