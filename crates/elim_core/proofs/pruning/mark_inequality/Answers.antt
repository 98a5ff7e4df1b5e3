use Rattle.std.proofs.Common.{◌≡◌, refl, sym, ◌∙◌, Some, None, true, false}
use Rattle.std.specs.BTreeMap.{get}
use Rattle.std.specs.Ordering.{nat_cmp}
use Rattle.relation_core.specs.Systems.{row_at}
use Rattle.elim_core.specs.Keys.{key}
use Rattle.elim_core.specs.Pruning.{is_partner, LeadsTo, IsAlone}
use Rattle.elim_core.specs.declared.marks.Place.TheVariants.{Only}
use Rattle.elim_core.proofs.Marking.{on_ok_of, adds_alone, alone_unknown, alone_unlike, partner_only, only_place}
use Rattle.elim_core.proofs.pruning.mark_inequality.Goals as goal

pub mark_with_partner-requires-clause-partner : goal.mark_with_partner-requires-clause-partner
mark_with_partner-requires-clause-partner g c =
    let o : c.key-own.result ≡ key c.args.tableau.now.variables (row_at c.args.tableau.now.rows c.args.k) = rw (← c.row-w.ensures.at, ← c.variables.ensures.value) c.key-own.ensures in
    let e : get nat_cmp c.args.marks.now.places c.key-own.result ≡ Some (Only c.in-Some-Only.i) =
    only_place (get nat_cmp c.args.marks.now.places c.key-own.result) c.place_of.result c.in-Some-Only.field-0 c.in-Some-Only.i c.place_of.ensures c.in-Some-Only.is c.in-Some-Only.field-0-is in
    let m : is_partner c.args.tableau.now.variables c.args.tableau.now.rows c.args.marks.now.stays.items (row_at c.args.tableau.now.rows c.args.k) c.in-Some-Only.i ≡ true =
    rw (c.is_partner.ensures, c.as_slice.ensures.value) at c.if-is_partner.true in
    partner_only _ _ _ (get nat_cmp c.args.marks.now.places) _ _ _ c.requires.indexed o e m

pub returns-in-None : goal.returns-in-None
returns-in-None g c =
    let o : c.key-own.result ≡ key c.args.tableau.now.variables (row_at c.args.tableau.now.rows c.args.k) = rw (← c.row-w.ensures.at, ← c.variables.ensures.value) c.key-own.ensures in
    let e : get nat_cmp c.args.marks.now.places c.key-own.result ≡ None = sym c.place_of.ensures ∙ c.in-None.is in
    let a = alone_unknown c.args.tableau.now.variables c.args.tableau.now.rows c.args.marks.now.stays.items (get nat_cmp c.args.marks.now.places) (row_at c.args.tableau.now.rows c.args.k) c.key-own.result c.requires.indexed o e in
    on_ok_of c.add.result c.add.ensures.marks c.add.ensures.places
    (λ m p. rw m (adds_alone c.args.tableau.now.variables c.args.tableau.now.rows c.args.marks.now.stays.items (get nat_cmp c.args.marks.now.places) _ c.args.k c.key-own.result _ c.requires.place c.requires.count c.requires.indexed c.requires.variables a o p refl
    (λ j t. let f : LeadsTo None j = rw e at t in absurd f)))

pub returns-else-is_partner : goal.returns-else-is_partner
returns-else-is_partner g c =
    let o : c.key-own.result ≡ key c.args.tableau.now.variables (row_at c.args.tableau.now.rows c.args.k) = rw (← c.row-w.ensures.at, ← c.variables.ensures.value) c.key-own.ensures in
    let e : get nat_cmp c.args.marks.now.places c.key-own.result ≡ Some (Only c.in-Some-Only.i) =
    only_place (get nat_cmp c.args.marks.now.places c.key-own.result) c.place_of.result c.in-Some-Only.field-0 c.in-Some-Only.i c.place_of.ensures c.in-Some-Only.is c.in-Some-Only.field-0-is in
    let m : is_partner c.args.tableau.now.variables c.args.tableau.now.rows c.args.marks.now.stays.items (row_at c.args.tableau.now.rows c.args.k) c.in-Some-Only.i ≡ false =
    rw (c.is_partner.ensures, c.as_slice.ensures.value) at c.if-is_partner.false in
    let a = alone_unlike c.args.tableau.now.variables c.args.tableau.now.rows c.args.marks.now.stays.items (get nat_cmp c.args.marks.now.places) (row_at c.args.tableau.now.rows c.args.k) c.key-own.result c.in-Some-Only.i c.requires.indexed o e m in
    on_ok_of c.add-else-is_partner.result c.add-else-is_partner.ensures.marks c.add-else-is_partner.ensures.places
    (λ q p. rw q (adds_alone c.args.tableau.now.variables c.args.tableau.now.rows c.args.marks.now.stays.items (get nat_cmp c.args.marks.now.places) _ c.args.k c.key-own.result _ c.requires.place c.requires.count c.requires.indexed c.requires.variables a o p tt (λ j t. tt)))

pub returns-in-None-find_partner : goal.returns-in-None-find_partner
returns-in-None-find_partner g c =
    let o : c.key-own.result ≡ key c.args.tableau.now.variables (row_at c.args.tableau.now.rows c.args.k) = rw (← c.row-w.ensures.at, ← c.variables.ensures.value) c.key-own.ensures in
    let a : IsAlone c.args.tableau.now.variables c.args.tableau.now.rows c.args.marks.now.stays.items (row_at c.args.tableau.now.rows c.args.k) = rw (← c.as_slice-in-Some-Several.ensures.value) c.in-None-find_partner.ensures in
    on_ok_of c.add-in-None-find_partner.result c.add-in-None-find_partner.ensures.marks c.add-in-None-find_partner.ensures.places
    (λ q p. rw q (adds_alone c.args.tableau.now.variables c.args.tableau.now.rows c.args.marks.now.stays.items (get nat_cmp c.args.marks.now.places) _ c.args.k c.key-own.result _ c.requires.place c.requires.count c.requires.indexed c.requires.variables a o p tt (λ j t. tt)))
