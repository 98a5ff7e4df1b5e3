use Rattle.std.proofs.Common.{ap, sym, ◌∙◌, length}
use Rattle.relation_core.specs.Systems.{width}
use Rattle.dependence_systems.proofs.Differences.{comparison_length}
use Rattle.dependence_systems.proofs.comparing.push_comparison.Goals as goal

pub push_entries-requires : goal.push_entries-requires
push_entries-requires c =
    let long = comparison_length c.args.comparison c.args.w.now c.args.part.now.shape.parameters c.args.a.now c.args.b.now c.requires.sizes in
    ap length c.in_ok-row.ensures.row ∙ (long ∙ ap width (sym c.requires.columns))
