use Rattle.std.proofs.Common.{ℕ, List, Option, sym, subst, map}
use Rattle.clan_rows.specs.declared.forms.Form.{Form}
use Rattle.clan_rows.specs.Contents.{made}
use Rattle.c_parser.specs.declared.tree.Sum.{Sum}
use Rattle.region_trees.specs.Layers.{terms_by}
use Rattle.region_trees.specs.Terms.{sum_of}
use Rattle.region_extract.specs.Walks.{AreForms}
use Rattle.region_extract.proofs.Naming.{target_added}
use Rattle.region_extract.proofs.Reading.{on_ok}
use Rattle.region_extract.proofs.accesses.add_target.Goals as goal

pub returns : goal.returns
returns c =
    let parameters = c.scope_at-scope.result.parameters.now in
    let loops = c.scope_at-scope.result.loops.now in
    let told =
    subst (λ (source : List ℕ). AreForms parameters loops (terms_by (sum_of source) c.as_slice.result.now) (map made c.as_slice-2.result.now)) c.scope_at-scope.ensures.source
    (subst (λ (fs : List (Option Form)). AreForms parameters loops (terms_by (sum_of c.scope_at-scope.result.source.now) c.as_slice.result.now) (map made fs)) (sym c.as_slice-2.ensures)
    c.in_ok-forms.ensures.forms) in
    on_ok c.add_access.result
    (λ p. target_added c.args.kind c.args.source.now c.args.target.now c.args.place.now c.add_access.new.self c.piece_bytes-name.result.now (map made c.as_slice-2.result.now)
    parameters loops c.scope_at-scope.ensures.parameters c.scope_at-scope.ensures.loops c.piece_bytes-name.ensures
    (subst (λ (xs : List Sum). AreForms parameters loops (terms_by (sum_of c.args.source.now) xs) (map made c.as_slice-2.result.now)) c.as_slice.ensures told) p)
    c.add_access.ensures
