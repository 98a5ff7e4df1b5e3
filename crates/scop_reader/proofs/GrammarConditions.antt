-- What the rules ask of a statement, and what its pieces are asked: printable, of fitting shapes, within the limits.
use Rattle.std.proofs.Common.{inl, inr, ◌≤◌, ◌<◌, suc, arith, ◌≡◌, refl, sym, ap, ◌∙◌, Option, Some, None, ℕ, List, [], ◌∷◌, length, map, Bool, true, false, ◌&&◌, ◌==◌}
use Rattle.std.specs.Prelude.{nat_lt, ◌||◌, if◌then◌else◌, IfSome, All}
use Rattle.std.specs.List.{AllByRecursion}
use Rattle.std.proofs.lemmas.Bool.{and_parts, and_from, or_parts, or_from}
use Rattle.std.proofs.lemmas.Bool.Decides.{leb_tells, Decides-eqb}
use Rattle.std.proofs.lemmas.List.Elements.{All-from_recursion, recursion_from_All}
use Rattle.suite_base.specs.declared.refusals.Refusal.TheVariants.{Limit}
use Rattle.suite_base.specs.declared.refusals.Which.TheVariants as which
use Rattle.relation_core.specs.Systems.{System, width}
use Rattle.scop_data.specs.declared.accesses.AccessKind.{AccessKind}
use Rattle.scop_core.specs.declared.limits.PartCount.TheVariants.{OutputCount, LocalCount, RowCount}
use Rattle.scop_core.specs.Assembly.{some_above, accesses_above, accesses_many, the_part, HasInputs}
use Rattle.scop_core.specs.Printable.{is_kept, are_kept, has_part, IsDomainPart}
use Rattle.scop_reader.specs.declared.roles.Role.{Role}
use Rattle.scop_reader.specs.declared.roles.Role.TheVariants.{Context, Domain, Scattering, Access}
use Rattle.scop_reader.specs.Rules.{header_limit, most_outputs, outputs_are, suits, role_behind}
use Rattle.scop_reader.specs.Documents.{Item, Special, Kept, Parts, access_pieces, first_special, kept_items}
use Rattle.scop_reader.specs.Texts.{are_wide, parts_are_wide, is_relation, are_relations, has_no_special, has_one_special}
use Rattle.scop_reader.proofs.GrammarParts.{header_is}
use Rattle.scop_reader.proofs.GrammarRelations.{AllFit, AreAccesses}
use Rattle.scop_reader.proofs.GrammarExtensions.{ItemsFit}

-- ---- limits one after another

pub no_limit : {X : Type 0} (b : Bool) (x : X) (o : Option X) → (if b then Some x else o) ≡ None → (b ≡ false) × (o ≡ None)
no_limit true x o e = absurd (cc)
no_limit false x o e = (refl, e)

pub most : (n m : ℕ) → nat_lt n m ≡ false → m ≤ n
most n m e =
    elim (leb_tells (suc n) m) [
      | inl above ↦ absurd (let no : true ≡ false = sym above.0 ∙ e in cc)
      | inr below ↦ let low : m < suc n = below.1 in omega arith
    ]

-- a part passes no limit of its role
pub record Low (role : Role) (p : System) : Type 0 where
  pub rows : nat_lt 256 (length p.rows) ≡ false
  pub outputs : nat_lt (most_outputs role) p.shape.outputs ≡ false
  pub locals : nat_lt 24 p.shape.locals ≡ false
  pub parameters : nat_lt 16 p.shape.parameters ≡ false

pub low_of : (role : Role) (k : ℕ) (p : System) → header_limit role k (header_is p) ≡ None → Low role p
low_of role k p e =
    let c = if nat_lt 16 p.shape.parameters then Some (Limit which.Parameters k) else None in
    let b = if nat_lt 24 p.shape.locals then Some (Limit which.Locals k) else c in
    let a = if nat_lt (most_outputs role) p.shape.outputs then Some (Limit (outputs_are role) k) else b in
    let one = no_limit (nat_lt 256 (length p.rows)) (Limit which.Rows k) a e in
    let two = no_limit (nat_lt (most_outputs role) p.shape.outputs) (Limit (outputs_are role) k) b one.1 in
    let three = no_limit (nat_lt 24 p.shape.locals) (Limit which.Locals k) c two.1 in
    let four = no_limit (nat_lt 16 p.shape.parameters) (Limit which.Parameters k) None three.1 in
    record { rows = one.0; outputs = two.0; locals = three.0; parameters = four.0 }

pub low_back : (role : Role) (k : ℕ) (p : System) → Low role p → header_limit role k (header_is p) ≡ None
low_back role k p low = rw (low.rows, low.outputs, low.locals, low.parameters) refl

-- ---- the parts of a relation

abbrev pub AllSuit : Role → List System → Type 0
AllSuit role [] = Unit {0}
AllSuit role (p ∷ ps) = (suits role p.shape ≡ true) × AllSuit (role_behind role p) ps

abbrev pub many_parameters : List System → Bool
many_parameters [] = false
many_parameters (p ∷ ps) = nat_lt 16 p.shape.parameters || many_parameters ps

-- every part suits the role and passes no limit
pub record Tested (role : Role) (parts : List System) : Type 0 where
  pub suited : AllSuit role parts
  pub outputs : some_above OutputCount (most_outputs role) parts ≡ false
  pub locals : some_above LocalCount 24 parts ≡ false
  pub rows : some_above RowCount 256 parts ≡ false
  pub parameters : many_parameters parts ≡ false
  pub wide : parts_are_wide parts ≡ true

same_most : (role : Role) (p : System) → most_outputs (role_behind role p) ≡ most_outputs role
same_most Context p = refl
same_most (Domain ps None) p = refl
same_most (Domain ps (Some n)) p = refl
same_most (Scattering ps n) p = refl
same_most (Access ps n) p = refl

pub tested : (role : Role) (k : ℕ) (parts : List System) → AllFit role k parts → Tested role parts
tested role k [] fit = record { suited = tt; outputs = refl; locals = refl; rows = refl; parameters = refl; wide = refl }
tested role k (p ∷ ps) fit =
    let low = low_of role k p fit.0.limit in
    let more = tested (role_behind role p) k ps fit.1 in
    let outputs : some_above OutputCount (most_outputs role) ps ≡ false = ap (λ (n : ℕ). some_above OutputCount n ps) (sym (same_most role p)) ∙ more.outputs in
    record {
      suited = (fit.0.suited, more.suited);
      outputs = or_from (nat_lt (most_outputs role) p.shape.outputs) (some_above OutputCount (most_outputs role) ps) low.outputs outputs;
      locals = or_from (nat_lt 24 p.shape.locals) (some_above LocalCount 24 ps) low.locals more.locals;
      rows = or_from (nat_lt 256 (length p.rows)) (some_above RowCount 256 ps) low.rows more.rows;
      parameters = or_from (nat_lt 16 p.shape.parameters) (many_parameters ps) low.parameters more.parameters;
      wide = and_from (are_wide (width p.shape) p.rows) (parts_are_wide ps) fit.0.wide more.wide;
    }

pub fitted : (role : Role) (k : ℕ) (parts : List System) → Tested role parts → AllFit role k parts
fitted role k [] t = tt
fitted role k (p ∷ ps) t =
    let outputs = or_parts (nat_lt (most_outputs role) p.shape.outputs) (some_above OutputCount (most_outputs role) ps) t.outputs in
    let locals = or_parts (nat_lt 24 p.shape.locals) (some_above LocalCount 24 ps) t.locals in
    let rows = or_parts (nat_lt 256 (length p.rows)) (some_above RowCount 256 ps) t.rows in
    let parameters = or_parts (nat_lt 16 p.shape.parameters) (many_parameters ps) t.parameters in
    let wide = and_parts (are_wide (width p.shape) p.rows) (parts_are_wide ps) t.wide in (
      record { suited = t.suited.0; limit = low_back role k p (record { rows = rows.0; outputs = outputs.0; locals = locals.0; parameters = parameters.0 }); wide = wide.0 },
      fitted (role_behind role p) k ps (record {
        suited = t.suited.1;
        outputs = ap (λ (n : ℕ). some_above OutputCount n ps) (same_most role p) ∙ outputs.1;
        locals = locals.1;
        rows = rows.1;
        parameters = parameters.1;
        wide = wide.1;
      }),
    )

-- ---- inputs and parameters

pub is_equal : (a b : ℕ) → (a == b) ≡ true → a ≡ b
is_equal a b e = (Decides-eqb a b).0 e

pub equal_is : (a b : ℕ) → a ≡ b → (a == b) ≡ true
equal_is a b e = (Decides-eqb a b).1 e

inputs_of : (ps n : ℕ) (p : System) → ((p.shape.parameters == ps) && (p.shape.inputs == n)) ≡ true → HasInputs n ps p
inputs_of ps n p e =
    let both = and_parts (p.shape.parameters == ps) (p.shape.inputs == n) e in
    record { inputs_are = is_equal p.shape.inputs n both.1; parameters_are = is_equal p.shape.parameters ps both.0 }

inputs_back : (ps n : ℕ) (p : System) → HasInputs n ps p → ((p.shape.parameters == ps) && (p.shape.inputs == n)) ≡ true
inputs_back ps n p h = and_from (p.shape.parameters == ps) (p.shape.inputs == n) (equal_is p.shape.parameters ps h.parameters_are) (equal_is p.shape.inputs n h.inputs_are)

pub scattering_suits : (ps n : ℕ) (parts : List System) → AllSuit (Scattering ps n) parts → AllByRecursion (HasInputs n ps) parts
scattering_suits ps n [] h = tt
scattering_suits ps n (p ∷ parts) h = (inputs_of ps n p h.0, scattering_suits ps n parts h.1)

pub suits_scattering : (ps n : ℕ) (parts : List System) → AllByRecursion (HasInputs n ps) parts → AllSuit (Scattering ps n) parts
suits_scattering ps n [] h = tt
suits_scattering ps n (p ∷ parts) h = (inputs_back ps n p h.0, suits_scattering ps n parts h.1)

access_suits : (ps n : ℕ) (parts : List System) → AllSuit (Access ps n) parts → AllByRecursion (HasInputs n ps) parts
access_suits ps n [] h = tt
access_suits ps n (p ∷ parts) h = (inputs_of ps n p h.0, access_suits ps n parts h.1)

suits_access : (ps n : ℕ) (parts : List System) → AllByRecursion (HasInputs n ps) parts → AllSuit (Access ps n) parts
suits_access ps n [] h = tt
suits_access ps n (p ∷ parts) h = (inputs_back ps n p h.0, suits_access ps n parts h.1)

low_parameters : (ps : ℕ) (p : System) → nat_lt 16 ps ≡ false → p.shape.parameters ≡ ps → nat_lt 16 p.shape.parameters ≡ false
low_parameters ps p low e = ap (nat_lt 16) e ∙ low

pub inputs_low : (ps n : ℕ) (parts : List System) → nat_lt 16 ps ≡ false → AllByRecursion (HasInputs n ps) parts → many_parameters parts ≡ false
inputs_low ps n [] low h = refl
inputs_low ps n (p ∷ parts) low h = or_from (nat_lt 16 p.shape.parameters) (many_parameters parts) (low_parameters ps p low h.0.parameters_are) (inputs_low ps n parts low h.1)

-- ---- the parts of a domain

domain_part : (ps n : ℕ) (p : System) → suits (Domain ps (Some n)) p.shape ≡ true → IsDomainPart n ps p
domain_part ps n p e =
    let both = and_parts ((p.shape.parameters == ps) && (p.shape.inputs == 0)) (p.shape.outputs == n) e in
    let own = and_parts (p.shape.parameters == ps) (p.shape.inputs == 0) both.0 in
    record { outputs = is_equal p.shape.outputs n both.1; inputs = is_equal p.shape.inputs 0 own.1; parameters_are = is_equal p.shape.parameters ps own.0 }

part_domain : (ps n : ℕ) (p : System) → IsDomainPart n ps p → suits (Domain ps (Some n)) p.shape ≡ true
part_domain ps n p h =
    and_from ((p.shape.parameters == ps) && (p.shape.inputs == 0)) (p.shape.outputs == n)
    (and_from (p.shape.parameters == ps) (p.shape.inputs == 0) (equal_is p.shape.parameters ps h.parameters_are) (equal_is p.shape.inputs 0 h.inputs)) (equal_is p.shape.outputs n h.outputs)

known_domain : (ps n : ℕ) (parts : List System) → AllSuit (Domain ps (Some n)) parts → AllByRecursion (IsDomainPart n ps) parts
known_domain ps n [] h = tt
known_domain ps n (p ∷ parts) h = (domain_part ps n p h.0, known_domain ps n parts h.1)

domain_known : (ps n : ℕ) (parts : List System) → AllByRecursion (IsDomainPart n ps) parts → AllSuit (Domain ps (Some n)) parts
domain_known ps n [] h = tt
domain_known ps n (p ∷ parts) h = (part_domain ps n p h.0, domain_known ps n parts h.1)

pub domain_parts : (ps : ℕ) (parts : List System) → AllSuit (Domain ps None) parts → AllByRecursion (IsDomainPart (the_part parts).shape.outputs ps) parts
domain_parts ps [] h = tt
domain_parts ps (p ∷ parts) h =
    let own = and_parts ((p.shape.parameters == ps) && (p.shape.inputs == 0)) true h.0 in
    let both = and_parts (p.shape.parameters == ps) (p.shape.inputs == 0) own.0 in
    (record { outputs = refl; inputs = is_equal p.shape.inputs 0 both.1; parameters_are = is_equal p.shape.parameters ps both.0 }, known_domain ps p.shape.outputs parts h.1)

pub parts_domain : (ps : ℕ) (parts : List System) → AllByRecursion (IsDomainPart (the_part parts).shape.outputs ps) parts → AllSuit (Domain ps None) parts
parts_domain ps [] h = tt
parts_domain ps (p ∷ parts) h = (
  and_from ((p.shape.parameters == ps) && (p.shape.inputs == 0)) true
      (and_from (p.shape.parameters == ps) (p.shape.inputs == 0) (equal_is p.shape.parameters ps h.0.parameters_are) (equal_is p.shape.inputs 0 h.0.inputs)) refl,
  domain_known ps p.shape.outputs parts h.1,
)

pub domain_low : (ps n : ℕ) (parts : List System) → nat_lt 16 ps ≡ false → AllByRecursion (IsDomainPart n ps) parts → many_parameters parts ≡ false
domain_low ps n [] low h = refl
domain_low ps n (p ∷ parts) low h = or_from (nat_lt 16 p.shape.parameters) (many_parameters parts) (low_parameters ps p low h.0.parameters_are) (domain_low ps n parts low h.1)

-- ---- accesses

-- every access has parts of these inputs and parameters, and passes no limit
pub record AccessesTested (ps n : ℕ) (accesses : List (AccessKind × Parts)) : Type 0 where
  pub inputs : AllByRecursion (λ access. All (HasInputs n ps) access.1) (map access_pieces accesses)
  pub some : AllByRecursion (λ access. has_part access.1 ≡ true) (map access_pieces accesses)
  pub outputs : accesses_above OutputCount 13 (map access_pieces accesses) ≡ false
  pub locals : accesses_above LocalCount 24 (map access_pieces accesses) ≡ false
  pub rows : accesses_above RowCount 256 (map access_pieces accesses) ≡ false
  pub few : accesses_many (map access_pieces accesses) ≡ false
  pub are : are_relations accesses ≡ true

pub accesses_tested : (ps n k : ℕ) (accesses : List (AccessKind × Parts)) → AreAccesses ps n k accesses → AccessesTested ps n accesses
accesses_tested ps n k [] h = record { inputs = tt; some = tt; outputs = refl; locals = refl; rows = refl; few = refl; are = refl }
accesses_tested ps n k (a ∷ accesses) h =
    let t = tested (Access ps n) k a.1.parts h.0.fit in
    let more = accesses_tested ps n k accesses h.1 in
    let rest : List (AccessKind × List System) = map access_pieces accesses in
    record {
      inputs = (All-from_recursion (HasInputs n ps) a.1.parts (access_suits ps n a.1.parts t.suited), more.inputs);
      some = (h.0.some, more.some);
      outputs = or_from (some_above OutputCount 13 a.1.parts) (accesses_above OutputCount 13 rest) t.outputs more.outputs;
      locals = or_from (some_above LocalCount 24 a.1.parts) (accesses_above LocalCount 24 rest) t.locals more.locals;
      rows = or_from (some_above RowCount 256 a.1.parts) (accesses_above RowCount 256 rest) t.rows more.rows;
      few = or_from (nat_lt 64 (length a.1.parts)) (accesses_many rest) h.0.few more.few;
      are = and_from (is_relation a.1) (are_relations accesses) (and_from (a.1.is_counted || (length a.1.parts == 1)) (parts_are_wide a.1.parts) h.0.told t.wide) more.are;
    }

pub accesses_fit : (ps n k : ℕ) (accesses : List (AccessKind × Parts)) → nat_lt 16 ps ≡ false → AccessesTested ps n accesses → AreAccesses ps n k accesses
accesses_fit ps n k [] low t = tt
accesses_fit ps n k (a ∷ accesses) low t =
    let rest : List (AccessKind × List System) = map access_pieces accesses in
    let outputs = or_parts (some_above OutputCount 13 a.1.parts) (accesses_above OutputCount 13 rest) t.outputs in
    let locals = or_parts (some_above LocalCount 24 a.1.parts) (accesses_above LocalCount 24 rest) t.locals in
    let rows = or_parts (some_above RowCount 256 a.1.parts) (accesses_above RowCount 256 rest) t.rows in
    let few = or_parts (nat_lt 64 (length a.1.parts)) (accesses_many rest) t.few in
    let are = and_parts (is_relation a.1) (are_relations accesses) t.are in
    let own = and_parts (a.1.is_counted || (length a.1.parts == 1)) (parts_are_wide a.1.parts) are.0 in
    let inputs : AllByRecursion (HasInputs n ps) a.1.parts = recursion_from_All (HasInputs n ps) a.1.parts t.inputs.0 in (
      record {
        fit = fitted (Access ps n) k a.1.parts (record {
          suited = suits_access ps n a.1.parts inputs;
          outputs = outputs.0;
          locals = locals.0;
          rows = rows.0;
          parameters = inputs_low ps n a.1.parts low inputs;
          wide = own.1;
        });
        some = t.some.0;
        few = few.0;
        told = own.0;
      },
      accesses_fit ps n k accesses low (record { inputs = t.inputs.1; some = t.some.1; outputs = outputs.1; locals = locals.1; rows = rows.1; few = few.1; are = are.1 }),
    )

-- ---- extensions

pub items_split : {A : Type 0} (special : List ℕ) (D : A → Type 0) (items : List (Item A)) → ItemsFit special D items → IfSome (first_special items) D × (are_kept special (kept_items items) ≡ true)
items_split special D [] h = (tt, refl)
items_split special D (Special a ∷ items) h = (h.0, (items_split special D items h.1).1)
items_split special D (Kept x ∷ items) h =
    let more = items_split special D items h.1 in
    (more.0, and_from (is_kept special x) (are_kept special (kept_items items)) h.0 more.1)

none_join : {A : Type 0} (special : List ℕ) (D : A → Type 0) (items : List (Item A)) → has_no_special items ≡ true → are_kept special (kept_items items) ≡ true → ItemsFit special D items
none_join special D [] free h = tt
none_join special D (Special a ∷ items) free h = absurd (cc)
none_join special D (Kept x ∷ items) free h =
    let both = and_parts (is_kept special x) (are_kept special (kept_items items)) h in
    (both.0, none_join special D items free both.1)

pub items_join : {A : Type 0} (special : List ℕ) (D : A → Type 0) (items : List (Item A)) → has_one_special items ≡ true → IfSome (first_special items) D → are_kept special (kept_items items) ≡ true → ItemsFit special D items
items_join special D [] free d h = tt
items_join special D (Special a ∷ items) free d h = (d, none_join special D items free h)
items_join special D (Kept x ∷ items) free d h =
    let both = and_parts (is_kept special x) (are_kept special (kept_items items)) h in
    (both.0, items_join special D items free d both.1)
