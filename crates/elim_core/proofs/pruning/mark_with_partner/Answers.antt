use Rattle.std.proofs.Common.{◌≡◌, ◌<◌, length, true, false, int_le, arith}
use Rattle.row_core.specs.Rows.{entry}
use Rattle.relation_core.specs.Systems.{row_at}
use Rattle.elim_core.proofs.Marking.{on_ok_of, partner_before, adds_beaten, adds_for_partner}
use Rattle.elim_core.proofs.pruning.mark_with_partner.Goals as goal

pub returns-then-is_at_most : goal.returns-then-is_at_most
returns-then-is_at_most g c =
    let s : c.args.i < length c.args.tableau.now.rows = omega (arith, c.requires.place, partner_before c.args.tableau.now.variables c.args.tableau.now.rows c.args.marks.now.stays.items (row_at c.args.tableau.now.rows c.args.k) c.args.i c.args.k c.requires.count c.requires.partner.is_one) in
    let e : int_le (entry (row_at c.args.tableau.now.rows c.args.i).entries c.args.tableau.now.variables) (entry (row_at c.args.tableau.now.rows c.args.k).entries c.args.tableau.now.variables) ≡ true =
    rw (c.is_at_most.ensures, c.entry.ensures, c.entry-2.ensures, c.variables-n.ensures.value, c.row-partner.ensures.at, c.row-w.ensures.at) at c.if-is_at_most.true in
    rw c.in_ok-push.ensures.items (adds_beaten _ _ _ _ c.args.i _ c.requires.place c.requires.count c.requires.indexed c.requires.variables c.requires.partner e)

pub returns : goal.returns
returns g c =
    let s : c.args.i < length c.args.tableau.now.rows = omega (arith, c.requires.place, partner_before c.args.tableau.now.variables c.args.tableau.now.rows c.args.marks.now.stays.items (row_at c.args.tableau.now.rows c.args.k) c.args.i c.args.k c.requires.count c.requires.partner.is_one) in
    let e : int_le (entry (row_at c.args.tableau.now.rows c.args.i).entries c.args.tableau.now.variables) (entry (row_at c.args.tableau.now.rows c.args.k).entries c.args.tableau.now.variables) ≡ false =
    rw (c.is_at_most.ensures, c.entry.ensures, c.entry-2.ensures, c.variables-n.ensures.value, c.row-partner.ensures.at, c.row-w.ensures.at) at c.if-is_at_most.false in
    on_ok_of c.add.result c.add.ensures.marks c.add.ensures.places
    (λ m p. rw m (adds_for_partner c.args.tableau.now.variables c.args.tableau.now.rows _ _ _ c.args.i c.args.k c.args.own c.args.place c.requires.place c.requires.count c.requires.indexed c.requires.variables c.requires.partner e c.requires.own p c.requires.follows))
