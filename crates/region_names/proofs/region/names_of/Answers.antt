use Rattle.std.proofs.Common.{◌≡◌, ℕ, List, [], ap, subst, ◌∙◌}
use Rattle.std.specs.Prelude.{IfOk, Result}
use Rattle.clan_extract.specs.Names.{Occurrence}
use Rattle.region_trees.specs.Occurrences.{occurrences_in_all}
use Rattle.region_trees.specs.Statements.{statements_of}
use Rattle.region_names.specs.declared.region.Names.{Names}
use Rattle.region_names.specs.Answers.{kept_names, names_or_clash}
use Rattle.region_names.specs.Registers.{after}
use Rattle.region_names.specs.Walks.{nodes_names}
use Rattle.region_names.proofs.Meaning.{first_walk_answers, walks_answer}
use Rattle.region_names.proofs.region.names_of.Goals as goal

pub returns-then-not-first : goal.returns-then-not-first
unfolding nodes_names
returns-then-not-first c =
    let all : List Occurrence = occurrences_in_all [] (statements_of c.args.source.now c.args.nodes.now) in
    let same : kept_names c.tell_nodes.new.register ≡ names_or_clash all =
    first_walk_answers all c.tell_nodes.new.register (c.in_ok-tell_nodes.ensures ∙ ap (λ r. after r all) c.new-first.ensures) c.if-not-first.true in
    let P : Result Names ℕ → Type 0 = λ x. IfOk c.kept_names.result (λ names. names ≡ x) in
    subst P same c.kept_names.ensures

pub returns : goal.returns
unfolding nodes_names
returns c =
    let all : List Occurrence = occurrences_in_all [] (statements_of c.args.source.now c.args.nodes.now) in
    let same : kept_names c.tell_nodes-2.new.register ≡ names_or_clash all =
    walks_answer all c.tell_nodes.new.register _ c.tell_nodes-2.new.register
    (c.in_ok-tell_nodes.ensures ∙ ap (λ r. after r all) c.new-first.ensures) c.restarted-second.ensures c.in_ok-tell_nodes-2.ensures in
    let P : Result Names ℕ → Type 0 = λ x. IfOk c.kept_names-2.result (λ names. names ≡ x) in
    subst P same c.kept_names-2.ensures
