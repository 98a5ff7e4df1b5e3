-- The documents that the rules read are those whose pieces can be printed and pass no limit.
use Rattle.std.proofs.Common.{◌≡◌, refl, sym, ap, subst, ◌∙◌, Option, Some, None, ℕ, ℤ, ◌+◌, ◌<◌, List, [], ◌∷◌, length, map, Ok, true, false, ◌&&◌, ◌==◌, inl, inr, arith}
use Rattle.std.specs.Prelude.{nat_lt, ◌||◌, if◌then◌else◌, IfSome, All}
use Rattle.std.specs.List.{AllByRecursion}
use Rattle.std.proofs.lemmas.Bool.{and_parts, and_from, or_parts, or_from, ltb-true, lt-ltb}
use Rattle.std.proofs.lemmas.List.{length-map}
use Rattle.std.proofs.lemmas.List.Elements.{All-from_recursion, recursion_from_All}
use Rattle.suite_base.specs.declared.refusals.Refusal.{Refusal}
use Rattle.suite_base.specs.declared.refusals.Refusal.TheVariants.{Limit}
use Rattle.suite_base.specs.declared.refusals.Which.TheVariants as which
use Rattle.suite_base.proofs.LineCuts.{bool_tells}
use Rattle.relation_core.specs.Systems.{System, width}
use Rattle.scop_data.specs.declared.accesses.AccessKind.{AccessKind}
use Rattle.scop_core.specs.declared.limits.PartCount.TheVariants.{OutputCount, LocalCount, RowCount}
use Rattle.scop_data.specs.declared.statements.Body.{Body}
use Rattle.scop_data.specs.declared.raw_pieces.RawStatement.{RawStatement}
use Rattle.scop_data.specs.declared.raw_pieces.ScopPieces.{ScopPieces}
use Rattle.scop_core.specs.Assembly.{or_else, array_count, some_above, accesses_above, statement_above, accesses_many, has_many_parts, whole_limit, statement_limit, first_limit, the_part, HasInputs, HasShapes, scop_of}
use Rattle.scop_core.specs.Printable.{is_body, are_names, are_arrays, body_name, arrays_name, has_part, IsContext, IsDomainPart, IsPrintableStatement, IsPrintable}
use Rattle.scop_reader.specs.declared.roles.Role.TheVariants.{Context, Domain, Scattering}
use Rattle.scop_reader.specs.Rules.{suits, outputs_of_first}
use Rattle.scop_reader.specs.Documents.{Parts, StatementText, Document, access_pieces, statement_pieces, pieces_of, first_special}
use Rattle.scop_reader.specs.Texts.{are_wide, parts_are_wide, is_relation, are_relations, has_one_special, is_statement, are_statements, IsDocument, IsTextOfPieces, pieces_in, ReadsExactly, StandsForOne}
use Rattle.scop_reader.proofs.GrammarWords.{same_ok}
use Rattle.scop_reader.proofs.GrammarParts.{Fits}
use Rattle.scop_reader.proofs.GrammarRelations.{AllFit, AreAccesses}
use Rattle.scop_reader.proofs.GrammarBodies.{IsBody}
use Rattle.scop_reader.proofs.GrammarArrays.{AreArrays}
use Rattle.scop_reader.proofs.GrammarExtensions.{ItemsFit}
use Rattle.scop_reader.proofs.GrammarStatements.{StatementFits, StatementsFit}
use Rattle.scop_reader.proofs.GrammarWhole.{NamesFit, DocumentFits, text_is_read, read_is_text}
use Rattle.scop_reader.proofs.GrammarConditions.{no_limit, low_of, low_back, tested, fitted, is_equal, equal_is, scattering_suits, suits_scattering, inputs_low, domain_parts, parts_domain, domain_low, AccessesTested, accesses_tested, accesses_fit, items_split, items_join}

-- ---- the limits of a statement

pub record StatementLow (raw : RawStatement) : Type 0 where
  pub iterators : some_above OutputCount 12 raw.domain ≡ false
  pub levels : some_above OutputCount 49 raw.scattering ≡ false
  pub locals : statement_above LocalCount 24 raw ≡ false
  pub rows : statement_above RowCount 256 raw ≡ false
  pub parts : has_many_parts raw ≡ false
  pub accesses : nat_lt 256 (length raw.accesses) ≡ false
  pub subscripts : accesses_above OutputCount 13 raw.accesses ≡ false

pub statement_low : (k : ℕ) (raw : RawStatement) → statement_limit k raw ≡ None → StatementLow raw
statement_low k raw e =
    let l7 = if accesses_above OutputCount 13 raw.accesses then Some (Limit which.Subscripts k) else None in
    let l6 = if nat_lt 256 (length raw.accesses) then Some (Limit which.Accesses k) else l7 in
    let l5 = if has_many_parts raw then Some (Limit which.Parts k) else l6 in
    let l4 = if statement_above RowCount 256 raw then Some (Limit which.Rows k) else l5 in
    let l3 = if statement_above LocalCount 24 raw then Some (Limit which.Locals k) else l4 in
    let l2 = if some_above OutputCount 49 raw.scattering then Some (Limit which.Levels k) else l3 in
    let e1 = no_limit (some_above OutputCount 12 raw.domain) (Limit which.Iterators k) l2 e in
    let e2 = no_limit (some_above OutputCount 49 raw.scattering) (Limit which.Levels k) l3 e1.1 in
    let e3 = no_limit (statement_above LocalCount 24 raw) (Limit which.Locals k) l4 e2.1 in
    let e4 = no_limit (statement_above RowCount 256 raw) (Limit which.Rows k) l5 e3.1 in
    let e5 = no_limit (has_many_parts raw) (Limit which.Parts k) l6 e4.1 in
    let e6 = no_limit (nat_lt 256 (length raw.accesses)) (Limit which.Accesses k) l7 e5.1 in
    let e7 = no_limit (accesses_above OutputCount 13 raw.accesses) (Limit which.Subscripts k) None e6.1 in
    record { iterators = e1.0; levels = e2.0; locals = e3.0; rows = e4.0; parts = e5.0; accesses = e6.0; subscripts = e7.0 }

low_statement : (k : ℕ) (raw : RawStatement) → StatementLow raw → statement_limit k raw ≡ None
low_statement k raw low = rw (low.iterators, low.levels, low.locals, low.rows, low.parts, low.accesses, low.subscripts) refl

two_less : (n : ℕ) → nat_lt 258 (n + 2) ≡ false → nat_lt 256 n ≡ false
two_less n e =
    elim (bool_tells (nat_lt 256 n)) [
      | inl above ↦ absurd (let low : 256 < n = ltb-true 256 n above in let no : true ≡ false = sym (lt-ltb 258 (n + 2) (omega arith)) ∙ e in cc)
      | inr below ↦ below
    ]

two_above : (n : ℕ) → nat_lt 256 n ≡ false → nat_lt 258 (n + 2) ≡ false
two_above n e =
    elim (bool_tells (nat_lt 258 (n + 2))) [
      | inl above ↦ absurd (let low : 258 < n + 2 = ltb-true 258 (n + 2) above in let no : true ≡ false = sym (lt-ltb 256 n (omega arith)) ∙ e in cc)
      | inr below ↦ below
    ]

-- ---- statements

outputs_same : (parts : List System) → outputs_of_first parts ≡ (the_part parts).shape.outputs
outputs_same [] = refl
outputs_same (p ∷ parts) = refl

body_parts : (n : ℕ) (o : Option Body) → IfSome o (IsBody n) → IfSome o (λ b. is_body b ≡ true) × IfSome o (λ b. length b.iterators ≡ n)
body_parts n None h = (tt, tt)
body_parts n (Some b) h = (h.printable, h.size)

body_join : (n : ℕ) (o : Option Body) → IfSome o (λ b. is_body b ≡ true) → IfSome o (λ b. length b.iterators ≡ n) → IfSome o (IsBody n)
body_join n None h k = tt
body_join n (Some b) h k = record { printable = h; size = k }

-- the pieces of a statement can be printed, have fitting shapes and pass no limit
pub record IsProper (parameters k : ℕ) (s : StatementText) : Type 0 where
  pub shapes : HasShapes parameters (statement_pieces s)
  pub printable : IsPrintableStatement parameters (statement_pieces s)
  pub limit : statement_limit k (statement_pieces s) ≡ None
  pub is : is_statement s ≡ true

relation_is : (r : Parts) → (r.is_counted || (length r.parts == 1)) ≡ true → parts_are_wide r.parts ≡ true → is_relation r ≡ true
relation_is r h k = and_from (r.is_counted || (length r.parts == 1)) (parts_are_wide r.parts) h k

pub fits_proper : (parameters k : ℕ) (s : StatementText) → StatementFits parameters k s → IsProper parameters k s
fits_proper parameters k s f =
    let n : ℕ = outputs_of_first s.domain.parts in
    let m : ℕ = (the_part s.domain.parts).shape.outputs in
    let same : n ≡ m = outputs_same s.domain.parts in
    let accesses : List (AccessKind × List System) = map access_pieces s.accesses in
    let d = tested (Domain parameters None) k s.domain.parts f.domain.fit in
    let c = tested (Scattering parameters n) k s.scattering.parts f.scattering.fit in
    let a : AccessesTested parameters m s.accesses = subst (λ (x : ℕ). AccessesTested parameters x s.accesses) same (accesses_tested parameters n k s.accesses f.accesses) in
    let items : ItemsFit body_name (IsBody m) s.items = subst (λ (x : ℕ). ItemsFit body_name (IsBody x) s.items) same f.items in
    let split = items_split body_name (IsBody m) s.items items in
    let body = body_parts m (first_special s.items) split.0 in
    let inputs : AllByRecursion (HasInputs m parameters) s.scattering.parts = subst (λ (x : ℕ). AllByRecursion (HasInputs x parameters) s.scattering.parts) same (scattering_suits parameters n s.scattering.parts c.suited) in
    record {
      shapes = record {
        scattering = All-from_recursion (HasInputs m parameters) s.scattering.parts inputs;
        accesses = All-from_recursion (λ access. All (HasInputs m parameters) access.1) accesses a.inputs;
        body = body.1;
      };
      printable = record {
        domain = All-from_recursion (IsDomainPart m parameters) s.domain.parts (domain_parts parameters s.domain.parts d.suited);
        some_domain = f.domain.some;
        some_scattering = f.scattering.some;
        some_accesses = All-from_recursion (λ access. has_part access.1 ≡ true) accesses a.some;
        body = body.0;
        extensions = split.1;
      };
      limit = low_statement k (statement_pieces s) (record {
        iterators = d.outputs;
        levels = c.outputs;
        locals = or_from (some_above LocalCount 24 s.domain.parts) (some_above LocalCount 24 s.scattering.parts || accesses_above LocalCount 24 accesses) d.locals
            (or_from (some_above LocalCount 24 s.scattering.parts) (accesses_above LocalCount 24 accesses) c.locals a.locals);
        rows = or_from (some_above RowCount 256 s.domain.parts) (some_above RowCount 256 s.scattering.parts || accesses_above RowCount 256 accesses) d.rows
            (or_from (some_above RowCount 256 s.scattering.parts) (accesses_above RowCount 256 accesses) c.rows a.rows);
        parts = or_from (nat_lt 64 (length s.domain.parts)) (nat_lt 64 (length s.scattering.parts) || accesses_many accesses) f.domain.few
            (or_from (nat_lt 64 (length s.scattering.parts)) (accesses_many accesses) f.scattering.few a.few);
        accesses = ap (nat_lt 256) (length-map s.accesses access_pieces) ∙ two_less (length s.accesses) f.few;
        subscripts = a.outputs;
      });
      is = and_from (is_relation s.domain && is_relation s.scattering && are_relations s.accesses) (has_one_special s.items)
          (and_from (is_relation s.domain && is_relation s.scattering) (are_relations s.accesses)
          (and_from (is_relation s.domain) (is_relation s.scattering) (relation_is s.domain f.domain.told d.wide) (relation_is s.scattering f.scattering.told c.wide)) a.are) f.one;
    }

-- what a proper statement passes, taken apart
record ProperParts (parameters k : ℕ) (s : StatementText) : Type 0 where
  low : StatementLow (statement_pieces s)
  domain_told : (s.domain.is_counted || (length s.domain.parts == 1)) ≡ true
  domain_wide : parts_are_wide s.domain.parts ≡ true
  scattering_told : (s.scattering.is_counted || (length s.scattering.parts == 1)) ≡ true
  scattering_wide : parts_are_wide s.scattering.parts ≡ true
  accesses_are : are_relations s.accesses ≡ true
  one : has_one_special s.items ≡ true

proper_parts : (parameters k : ℕ) (s : StatementText) → IsProper parameters k s → ProperParts parameters k s
proper_parts parameters k s p =
    let all = and_parts (is_relation s.domain && is_relation s.scattering && are_relations s.accesses) (has_one_special s.items) p.is in
    let three = and_parts (is_relation s.domain && is_relation s.scattering) (are_relations s.accesses) all.0 in
    let two = and_parts (is_relation s.domain) (is_relation s.scattering) three.0 in
    let d = and_parts (s.domain.is_counted || (length s.domain.parts == 1)) (parts_are_wide s.domain.parts) two.0 in
    let c = and_parts (s.scattering.is_counted || (length s.scattering.parts == 1)) (parts_are_wide s.scattering.parts) two.1 in
    record { low = statement_low k (statement_pieces s) p.limit; domain_told = d.0; domain_wide = d.1; scattering_told = c.0; scattering_wide = c.1; accesses_are = three.1; one = all.1 }

pub proper_fits : (parameters k : ℕ) (s : StatementText) → nat_lt 16 parameters ≡ false → IsProper parameters k s → StatementFits parameters k s
proper_fits parameters k s ps p =
    let n : ℕ = outputs_of_first s.domain.parts in
    let m : ℕ = (the_part s.domain.parts).shape.outputs in
    let same : m ≡ n = sym (outputs_same s.domain.parts) in
    let accesses : List (AccessKind × List System) = map access_pieces s.accesses in
    let q = proper_parts parameters k s p in
    let locals = or_parts (some_above LocalCount 24 s.domain.parts) (some_above LocalCount 24 s.scattering.parts || accesses_above LocalCount 24 accesses) q.low.locals in
    let more_locals = or_parts (some_above LocalCount 24 s.scattering.parts) (accesses_above LocalCount 24 accesses) locals.1 in
    let rows = or_parts (some_above RowCount 256 s.domain.parts) (some_above RowCount 256 s.scattering.parts || accesses_above RowCount 256 accesses) q.low.rows in
    let more_rows = or_parts (some_above RowCount 256 s.scattering.parts) (accesses_above RowCount 256 accesses) rows.1 in
    let parts = or_parts (nat_lt 64 (length s.domain.parts)) (nat_lt 64 (length s.scattering.parts) || accesses_many accesses) q.low.parts in
    let more_parts = or_parts (nat_lt 64 (length s.scattering.parts)) (accesses_many accesses) parts.1 in
    let domain : AllByRecursion (IsDomainPart m parameters) s.domain.parts = recursion_from_All (IsDomainPart m parameters) s.domain.parts p.printable.domain in
    let inputs : AllByRecursion (HasInputs m parameters) s.scattering.parts = recursion_from_All (HasInputs m parameters) s.scattering.parts p.shapes.scattering in
    let scattering : AllFit (Scattering parameters m) k s.scattering.parts = fitted (Scattering parameters m) k s.scattering.parts (record {
      suited = suits_scattering parameters m s.scattering.parts inputs;
      outputs = q.low.levels;
      locals = more_locals.0;
      rows = more_rows.0;
      parameters = inputs_low parameters m s.scattering.parts ps inputs;
      wide = q.scattering_wide;
    }) in
    let a : AreAccesses parameters m k s.accesses = accesses_fit parameters m k s.accesses ps (record {
      inputs = recursion_from_All (λ access. All (HasInputs m parameters) access.1) accesses p.shapes.accesses;
      some = recursion_from_All (λ access. has_part access.1 ≡ true) accesses p.printable.some_accesses;
      outputs = q.low.subscripts;
      locals = more_locals.1;
      rows = more_rows.1;
      few = more_parts.1;
      are = q.accesses_are;
    }) in
    let items : ItemsFit body_name (IsBody m) s.items = items_join body_name (IsBody m) s.items q.one (body_join m (first_special s.items) p.printable.body p.shapes.body) p.printable.extensions in
    record {
      few = two_above (length s.accesses) (ap (nat_lt 256) (sym (length-map s.accesses access_pieces)) ∙ q.low.accesses);
      domain = record {
        fit = fitted (Domain parameters None) k s.domain.parts (record {
          suited = parts_domain parameters s.domain.parts domain;
          outputs = q.low.iterators;
          locals = locals.0;
          rows = rows.0;
          parameters = domain_low parameters m s.domain.parts ps domain;
          wide = q.domain_wide;
        });
        some = p.printable.some_domain;
        few = parts.0;
        told = q.domain_told;
      };
      scattering = record {
        fit = subst (λ (x : ℕ). AllFit (Scattering parameters x) k s.scattering.parts) same scattering;
        some = p.printable.some_scattering;
        few = more_parts.0;
        told = q.scattering_told;
      };
      accesses = subst (λ (x : ℕ). AreAccesses parameters x k s.accesses) same a;
      items = subst (λ (x : ℕ). ItemsFit body_name (IsBody x) s.items) same items;
      one = q.one;
    }

-- ---- all statements

pub record AllProper (parameters k : ℕ) (statements : List StatementText) : Type 0 where
  pub shapes : AllByRecursion (HasShapes parameters) (map statement_pieces statements)
  pub printable : AllByRecursion (IsPrintableStatement parameters) (map statement_pieces statements)
  pub limit : first_limit k (map statement_pieces statements) ≡ None
  pub are : are_statements statements ≡ true

pub no_first : {X : Type 0} (a b : Option X) → or_else a b ≡ None → (a ≡ None) × (b ≡ None)
no_first None b e = (refl, e)
no_first (Some x) b e = absurd (cc)

all_proper : (parameters k : ℕ) (statements : List StatementText) → StatementsFit parameters k statements → AllProper parameters k statements
all_proper parameters k [] h = record { shapes = tt; printable = tt; limit = refl; are = refl }
all_proper parameters k (s ∷ statements) h =
    let one = fits_proper parameters k s h.0 in
    let more = all_proper parameters (k + 1) statements h.1 in
    record {
      shapes = (one.shapes, more.shapes);
      printable = (one.printable, more.printable);
      limit = ap (λ (o : Option Refusal). or_else o (first_limit (k + 1) (map statement_pieces statements))) one.limit ∙ more.limit;
      are = and_from (is_statement s) (are_statements statements) one.is more.are;
    }

all_fit : (parameters k : ℕ) (statements : List StatementText) → nat_lt 16 parameters ≡ false → AllProper parameters k statements → StatementsFit parameters k statements
all_fit parameters k [] ps p = tt
all_fit parameters k (s ∷ statements) ps p =
    let limits = no_first (statement_limit k (statement_pieces s)) (first_limit (k + 1) (map statement_pieces statements)) p.limit in
    let are = and_parts (is_statement s) (are_statements statements) p.are in (
      proper_fits parameters k s ps (record { shapes = p.shapes.0; printable = p.printable.0; limit = limits.0; is = are.0 }),
      all_fit parameters (k + 1) statements ps (record { shapes = p.shapes.1; printable = p.printable.1; limit = limits.1; are = are.1 }),
    )

-- ---- the context, the names and the arrays

context_of : (p : System) → suits Context p.shape ≡ true → IsContext p
context_of p e =
    let all = and_parts ((p.shape.outputs == 0) && (p.shape.inputs == 0)) (p.shape.locals == 0) e in
    let two = and_parts (p.shape.outputs == 0) (p.shape.inputs == 0) all.0 in
    record { outputs = is_equal p.shape.outputs 0 two.0; inputs = is_equal p.shape.inputs 0 two.1; locals = is_equal p.shape.locals 0 all.1 }

context_fits : (p : System) → IsContext p → nat_lt 16 p.shape.parameters ≡ false → nat_lt 256 (length p.rows) ≡ false → are_wide (width p.shape) p.rows ≡ true → Fits Context 0 p
context_fits p c ps rows wide = record {
  suited = and_from ((p.shape.outputs == 0) && (p.shape.inputs == 0)) (p.shape.locals == 0)
      (and_from (p.shape.outputs == 0) (p.shape.inputs == 0) (equal_is p.shape.outputs 0 c.outputs) (equal_is p.shape.inputs 0 c.inputs)) (equal_is p.shape.locals 0 c.locals);
  limit = low_back Context 0 p (record { rows = rows; outputs = ap (nat_lt 0) c.outputs; locals = ap (nat_lt 24) c.locals; parameters = ps });
  wide = wide;
}

names_parts : (n : ℕ) (o : Option (List (List ℕ))) → NamesFit n o → IfSome o (λ names. are_names names ≡ true) × IfSome o (λ names. length names ≡ n)
names_parts n None h = (tt, tt)
names_parts n (Some names) h = (h.1, h.0)

names_join : (n : ℕ) (o : Option (List (List ℕ))) → IfSome o (λ names. are_names names ≡ true) → IfSome o (λ names. length names ≡ n) → NamesFit n o
names_join n None h k = tt
names_join n (Some names) h k = (k, h)

arrays_parts : (o : Option (List (ℤ × List ℕ))) → IfSome o AreArrays → IfSome o (λ arrays. are_arrays arrays ≡ true) × (nat_lt 4096 (array_count o) ≡ false)
arrays_parts None h = (tt, refl)
arrays_parts (Some arrays) h = (h.are, h.few)

arrays_join : (o : Option (List (ℤ × List ℕ))) → IfSome o (λ arrays. are_arrays arrays ≡ true) → nat_lt 4096 (array_count o) ≡ false → IfSome o AreArrays
arrays_join None h k = tt
arrays_join (Some arrays) h k = record { are = h; few = k }

-- ---- the limits of the whole

pub record WholeLow (pieces : ScopPieces) : Type 0 where
  pub statements : nat_lt 1024 (length pieces.statements) ≡ false
  pub parameters : nat_lt 16 pieces.context.shape.parameters ≡ false
  pub rows : nat_lt 256 (length pieces.context.rows) ≡ false
  pub arrays : nat_lt 4096 (array_count pieces.arrays) ≡ false

pub whole_low : (pieces : ScopPieces) → whole_limit pieces ≡ None → WholeLow pieces
whole_low pieces e =
    let l4 = if nat_lt 4096 (array_count pieces.arrays) then Some (Limit which.Arrays 0) else None in
    let l3 = if nat_lt 256 (length pieces.context.rows) then Some (Limit which.Rows 0) else l4 in
    let l2 = if nat_lt 16 pieces.context.shape.parameters then Some (Limit which.Parameters 0) else l3 in
    let e1 = no_limit (nat_lt 1024 (length pieces.statements)) (Limit which.Statements 0) l2 e in
    let e2 = no_limit (nat_lt 16 pieces.context.shape.parameters) (Limit which.Parameters 0) l3 e1.1 in
    let e3 = no_limit (nat_lt 256 (length pieces.context.rows)) (Limit which.Rows 0) l4 e2.1 in
    let e4 = no_limit (nat_lt 4096 (array_count pieces.arrays)) (Limit which.Arrays 0) None e3.1 in
    record { statements = e1.0; parameters = e2.0; rows = e3.0; arrays = e4.0 }

low_whole : (pieces : ScopPieces) → WholeLow pieces → whole_limit pieces ≡ None
low_whole pieces low = rw (low.statements, low.parameters, low.rows, low.arrays) refl

-- ---- documents

pub fits_document : (d : Document) → DocumentFits d → IsDocument d
fits_document d f =
    let ps : ℕ = d.context.shape.parameters in
    let low = low_of Context 0 d.context f.context.limit in
    let s = all_proper ps 1 d.statements f.statements in
    let names = names_parts ps d.parameters f.names in
    let items = items_split arrays_name AreArrays d.items f.items in
    let arrays = arrays_parts (first_special d.items) items.0 in
    record {
      printable = record {
        language = f.language;
        context = context_of d.context f.context.suited;
        names = names.0;
        name_count = names.1;
        shapes = All-from_recursion (HasShapes ps) (map statement_pieces d.statements) s.shapes;
        statements = All-from_recursion (IsPrintableStatement ps) (map statement_pieces d.statements) s.printable;
        arrays = arrays.0;
        extensions = items.1;
      };
      context = f.context.wide;
      statements = s.are;
      arrays = f.one;
      whole_limits = low_whole (pieces_of d) (record { statements = ap (nat_lt 1024) (length-map d.statements statement_pieces) ∙ f.few; parameters = low.parameters; rows = low.rows; arrays = arrays.1 });
      statement_limits = s.limit;
    }

pub document_fits : (d : Document) → IsDocument d → DocumentFits d
document_fits d is =
    let ps : ℕ = d.context.shape.parameters in
    let low = whole_low (pieces_of d) is.whole_limits in
    let p = is.printable in
    record {
      language = p.language;
      context = context_fits d.context p.context low.parameters low.rows is.context;
      names = names_join ps d.parameters p.names p.name_count;
      few = ap (nat_lt 1024) (sym (length-map d.statements statement_pieces)) ∙ low.statements;
      statements = all_fit ps 1 d.statements low.parameters (record {
        shapes = recursion_from_All (HasShapes ps) (map statement_pieces d.statements) p.shapes;
        printable = recursion_from_All (IsPrintableStatement ps) (map statement_pieces d.statements) p.statements;
        limit = is.statement_limits;
        are = is.statements;
      });
      items = items_join arrays_name AreArrays d.items is.arrays (arrays_join (first_special d.items) p.arrays low.arrays) p.extensions;
      one = is.arrays;
    }

-- ---- a text is read exactly where it is one

pub read_text : (bytes : List ℕ) (pieces : ScopPieces) → pieces_in bytes ≡ Ok pieces → IsTextOfPieces bytes pieces
read_text bytes pieces e =
    let r = read_is_text bytes pieces e in
    record { document = r.document; proper = fits_document r.document r.fits; text = r.text; pieces_are = r.pieces_are }

pub text_read : (bytes : List ℕ) (pieces : ScopPieces) → IsTextOfPieces bytes pieces → pieces_in bytes ≡ Ok pieces
text_read bytes pieces t = text_is_read bytes t.document (document_fits t.document t.proper) t.text ∙ ap (λ (p : ScopPieces). Ok p) (sym t.pieces_are)

pub reads_exactly_law : ReadsExactly
reads_exactly_law bytes pieces = (read_text bytes pieces, text_read bytes pieces)

-- the pieces of a text that is read can be printed
pub read_printable : (bytes : List ℕ) (pieces : ScopPieces) → pieces_in bytes ≡ Ok pieces → IsPrintable pieces
read_printable bytes pieces e =
    let t = read_text bytes pieces e in
    subst IsPrintable (sym t.pieces_are) t.proper.printable

pub stands_for_one_law : StandsForOne
stands_for_one_law bytes S T s t =
    let same : s.pieces ≡ t.pieces = same_ok s.pieces t.pieces (sym (text_read bytes s.pieces s.text) ∙ text_read bytes t.pieces t.text) in
    s.scop_is ∙ (ap scop_of same ∙ sym t.scop_is)
