-- The rows of a violation behind those that it shares.
use Rattle.std.proofs.Common.{◌≡◌, ℕ, List, ◌++◌, Some, Result, Ok, Err, OnOk, ap, sym, ◌∙◌, subst}
use Rattle.relation_core.specs.Systems.{System}
use Rattle.scop_data.specs.declared.statements.Statement.{Statement}
use Rattle.scop_core.specs.Sequences.{In}
use Rattle.dependence_systems.specs.declared.dependences.Dep.{Dep}
use Rattle.dependence_systems.specs.declared.widths.Widths.{Widths}
use Rattle.dependence_systems.specs.Sides.{member, schedule_in, sides}
use Rattle.dependence_systems.specs.Fits.{SchedulesFit}
use Rattle.dependence_systems.specs.Systems.{widths_for, widths_of, shape_with}
use Rattle.dependence_systems.proofs.EntryFound.{IsEntry, listed_entry}
use Rattle.legality.specs.Mixed.{mixed_sides, mixed_at}
use Rattle.legality.specs.Reversals.{reversed_rows}
use Rattle.legality.specs.Violations.{Edit, dependences, new_schedule, shared_pairing, shared_system, violation_system}
use Rattle.legality.specs.Edits.{IsEdit}
use Rattle.legality.proofs.MixedSides.{mixed_match}
use Rattle.legality.proofs.ReversedPairs.{Statements, pairing_by}
use Rattle.legality.proofs.ReadyEntries.{statements_in, can_build}

same_value : {X : Type 0} {a b : X} → Some a ≡ Some b → a ≡ b
same_value e = cc

-- what the look-ups of statements and parts found
pub record Ends (E : Edit) (e : Dep) (s t : Statement) (p q : System) : Type 0 where
  pub source_is : member E.now.statements e.source ≡ Some s
  pub target_is : member E.now.statements e.target ≡ Some t
  pub source_part_is : member s.domain e.source_part ≡ Some p
  pub target_part_is : member t.domain e.target_part ≡ Some q

pub ends_of : (E : Edit) (e : Dep) (s t : Statement) (p q : System) (statements : List Statement) (ps qs : List System) → statements ≡ E.now.statements
    → member statements e.source ≡ Some s → member statements e.target ≡ Some t → ps ≡ s.domain → member ps e.source_part ≡ Some p → qs ≡ t.domain → member qs e.target_part ≡ Some q
    → Ends E e s t p q
ends_of E e s t p q statements ps qs es s_is t_is ep p_is eq q_is = record {
  source_is = ap (λ z. member z e.source) (sym es) ∙ s_is;
  target_is = ap (λ z. member z e.target) (sym es) ∙ t_is;
  source_part_is = ap (λ z. member z e.source_part) (sym ep) ∙ p_is;
  target_part_is = ap (λ z. member z e.target_part) (sym eq) ∙ q_is;
}

-- the columns are those of what was found
pub widths_found : (E : Edit) → IsEdit E → (e : Dep) → In e (dependences E) → (s t : Statement) (p q : System) → Ends E e s t p q
    → widths_of (shared_pairing E e) ≡ widths_for p q s.schedule t.schedule
widths_found E edit e listed s t p q h =
    let now = E.now.statements in
    let i : IsEntry (sides E.old E.now E.of) e = listed_entry (sides E.old E.now E.of) e listed in
    let n : Statements E e = statements_in E edit e i in
    let es : n.source ≡ s = same_value (sym n.source_is ∙ h.source_is) in
    let et : n.target ≡ t = same_value (sym n.target_is ∙ h.target_is) in
    let ep : n.source_domain ≡ p = same_value (sym n.source_domain_is ∙ (ap (λ u. member u.domain e.source_part) es ∙ h.source_part_is)) in
    let eq : n.target_domain ≡ q = same_value (sym n.target_domain_is ∙ (ap (λ u. member u.domain e.target_part) et ∙ h.target_part_is)) in
    let made = ap (λ m. widths_of m) (pairing_by E e (mixed_sides E.old E.now E.of) (mixed_at E.old.statements now E.of) (mixed_match E.old.statements now E.of edit.pieces) n) in
    made ∙ (ap (λ z. widths_for z n.target_domain (new_schedule E e.source) (new_schedule E e.target)) ep
    ∙ (ap (λ z. widths_for p z (new_schedule E e.source) (new_schedule E e.target)) eq
    ∙ (ap (λ z. widths_for p q (schedule_in z) (new_schedule E e.target)) h.source_is ∙ ap (λ z. widths_for p q s.schedule (schedule_in z)) h.target_is)))

pub columns_found : (E : Edit) → IsEdit E → (e : Dep) → In e (dependences E) → (s t : Statement) (p q : System) → Ends E e s t p q → (part : System) → part ≡ shared_system E e
    → (w : Widths) → w ≡ widths_for p q s.schedule t.schedule → part.shape ≡ shape_with w part.shape.parameters
columns_found E edit e listed s t p q h part is w ew =
    let widths = widths_found E edit e listed s t p q h ∙ sym ew in
    let shape : (shared_system E e).shape ≡ shape_with w (shared_system E e).shape.parameters = ap (λ z. shape_with z E.now.context.shape.parameters) widths in
    subst (λ z. z.shape ≡ shape_with w z.shape.parameters) (sym is) shape

pub fits_found : (E : Edit) → IsEdit E → (e : Dep) → In e (dependences E) → (s t : Statement) (p q : System) → Ends E e s t p q → (part : System) → part ≡ shared_system E e
    → (w : Widths) → w ≡ widths_for p q s.schedule t.schedule → SchedulesFit w part.shape.parameters s.schedule t.schedule
fits_found E edit e listed s t p q h part is w ew =
    let widths = widths_found E edit e listed s t p q h ∙ sym ew in
    let fit : SchedulesFit (widths_of (shared_pairing E e)) E.now.context.shape.parameters (new_schedule E e.source) (new_schedule E e.target) = (can_build E edit e listed).new_fit in
    let one : SchedulesFit w E.now.context.shape.parameters (new_schedule E e.source) (new_schedule E e.target) = subst (λ z. SchedulesFit z E.now.context.shape.parameters (new_schedule E e.source) (new_schedule E e.target)) widths fit in
    let two : SchedulesFit w E.now.context.shape.parameters s.schedule (new_schedule E e.target)
    = subst (λ z. SchedulesFit w E.now.context.shape.parameters (schedule_in z) (new_schedule E e.target)) h.source_is one in
    let three : SchedulesFit w E.now.context.shape.parameters s.schedule t.schedule = subst (λ z. SchedulesFit w E.now.context.shape.parameters s.schedule (schedule_in z)) h.target_is two in
    subst (λ z. SchedulesFit w z.shape.parameters s.schedule t.schedule) (sym is) three

one_system : {a b : System} → a.shape ≡ b.shape → a.rows ≡ b.rows → a ≡ b
one_system {a} {b} e f = ap (λ z. record { shape = z; rows = a.rows }) e ∙ ap (λ z. record { shape = b.shape; rows = z }) f

-- with its rows the system is that of the violation
pub system_found : (E : Edit) → IsEdit E → (e : Dep) → In e (dependences E) → (s t : Statement) (p q : System) → Ends E e s t p q → (part made : System) → part ≡ shared_system E e
    → (w : Widths) → w ≡ widths_for p q s.schedule t.schedule → (level : ℕ) → made.shape ≡ part.shape → made.rows ≡ part.rows ++ reversed_rows w s.schedule t.schedule level
    → made ≡ violation_system E (record { entry = e; level = level })
system_found E edit e listed s t p q h part made is w ew level shape rows =
    let widths = widths_found E edit e listed s t p q h ∙ sym ew in
    let all : made.rows ≡ (shared_system E e).rows ++ reversed_rows (widths_of (shared_pairing E e)) (new_schedule E e.source) (new_schedule E e.target) level
    = rows ∙ (ap (λ z. z.rows ++ reversed_rows w s.schedule t.schedule level) is
    ∙ (ap (λ z. (shared_system E e).rows ++ reversed_rows z s.schedule t.schedule level) (sym widths)
    ∙ (ap (λ z. (shared_system E e).rows ++ reversed_rows (widths_of (shared_pairing E e)) (schedule_in z) t.schedule level) (sym h.source_is)
    ∙ ap (λ z. (shared_system E e).rows ++ reversed_rows (widths_of (shared_pairing E e)) (new_schedule E e.source) (schedule_in z) level) (sym h.target_is)))) in
    one_system (shape ∙ ap (λ z. z.shape) is) all

pub on_ok : {T F P Q : Type 0} (r : Result T F) → (P → Q) → OnOk r P → OnOk r Q
on_ok (Ok x) f h = f h
on_ok (Err x) f h = tt
