use Rattle.std.proofs.Common.{◌≡◌, ◌<◌, ◌+◌, ◌^◌, ◌∙◌, sym, ap, subst, None, Ok, false, nat_lt, length, get_or, unsigned_abs}
use Rattle.std.proofs.lemmas.Bool.{ltb-true}
use Rattle.std.specs.Prelude.{All}
use Rattle.beta_tree.specs.Vectors.{IsTree}
use Rattle.beta_tree.specs.Answers.{leaf_answer}
use Rattle.scop_core.specs.Printable.{IsDomainPart}
use Rattle.clay_commands.specs.declared.leaves.Leaf.{Leaf}
use Rattle.clay_commands.specs.Drafts.{betas_of}
use Rattle.clay_commands.specs.Refusals.{limit_of}
use Rattle.clay_commands.specs.Steps.{place_in, split_at}
use Rattle.clay_commands.proofs.DraftMaps.{read_condition}
use Rattle.clay_commands.proofs.SplitFacts.{no_leaf, split_facts, split_heavy, split_stepped, long_split}
use Rattle.clay_commands.proofs.split_steps.split_step.Goals as goal

pub returns-then-not-is_light-clause-cause : goal.returns-then-not-is_light-clause-cause
returns-then-not-is_light-clause-cause c =
    let none = read_condition c.args.parameters c.args.i c.args.command.now c.args.prefix.now c.args.leaves.now.items c.as_slice.result.now c.level_condition-condition.result
    c.as_slice.ensures.value c.level_condition-condition.ensures c.in_default.is in
    let unlimited : limit_of c.args.i c.args.command.now c.args.leaves.now.items ≡ None =
    sym (ap (λ d. limit_of c.args.i c.args.command.now d) c.as_slice-2.ensures.value) ∙ sym c.split_limit-limit.ensures ∙ c.in_default-limit.is in
    let heavy : nat_lt (unsigned_abs c.args.by.2 + 1) (2 ^ 127) ≡ false = sym c.is_light.ensures ∙ c.if-not-is_light.true in
    split_heavy c.args.parameters c.args.i c.args.command.now c.args.by.0.now c.args.by.1.now c.args.by.2 c.args.prefix.now c.args.leaves.now.items c.requires.split none unlimited
    c.requires.prefix c.requires.some heavy

pub split_at-requires-clause-place : goal.split_at-requires-clause-place
split_at-requires-clause-place c =
    let none = read_condition c.args.parameters c.args.i c.args.command.now c.args.prefix.now c.args.leaves.now.items c.as_slice.result.now c.level_condition-condition.result
    c.as_slice.ensures.value c.level_condition-condition.ensures c.in_default.is in
    let unlimited : limit_of c.args.i c.args.command.now c.args.leaves.now.items ≡ None =
    sym (ap (λ d. limit_of c.args.i c.args.command.now d) c.as_slice-2.ensures.value) ∙ sym c.split_limit-limit.ensures ∙ c.in_default-limit.is in
    let facts = split_facts c.args.parameters c.args.i c.args.command.now c.args.by.0.now c.args.by.1.now c.args.by.2 c.args.prefix.now c.args.leaves.now.items c.requires.split none unlimited c.requires.sound in
    let at : c.place-j.result ≡ place_in c.args.prefix.now c.args.leaves.now.items = c.place-j.ensures ∙ ap (λ d. place_in c.args.prefix.now d) c.as_slice-3.ensures.value in
    subst (λ n. n < length c.args.leaves.now.items) (sym at) facts.within

pub split_at-requires-clause-parts : goal.split_at-requires-clause-parts
split_at-requires-clause-parts c =
    let none = read_condition c.args.parameters c.args.i c.args.command.now c.args.prefix.now c.args.leaves.now.items c.as_slice.result.now c.level_condition-condition.result
    c.as_slice.ensures.value c.level_condition-condition.ensures c.in_default.is in
    let unlimited : limit_of c.args.i c.args.command.now c.args.leaves.now.items ≡ None =
    sym (ap (λ d. limit_of c.args.i c.args.command.now d) c.as_slice-2.ensures.value) ∙ sym c.split_limit-limit.ensures ∙ c.in_default-limit.is in
    let facts = split_facts c.args.parameters c.args.i c.args.command.now c.args.by.0.now c.args.by.1.now c.args.by.2 c.args.prefix.now c.args.leaves.now.items c.requires.split none unlimited c.requires.sound in
    let at : c.place-j.result ≡ place_in c.args.prefix.now c.args.leaves.now.items = c.place-j.ensures ∙ ap (λ d. place_in c.args.prefix.now d) c.as_slice-3.ensures.value in
    subst (λ n. (d : Leaf) → All (IsDomainPart (length c.args.by.0.now) (length c.args.by.1.now)) (get_or c.args.leaves.now.items n d).statement.domain) (sym at) facts.parts

pub join-requires : goal.join-requires
join-requires c =
    let none = read_condition c.args.parameters c.args.i c.args.command.now c.args.prefix.now c.args.leaves.now.items c.as_slice.result.now c.level_condition-condition.result
    c.as_slice.ensures.value c.level_condition-condition.ensures c.in_default.is in
    let unlimited : limit_of c.args.i c.args.command.now c.args.leaves.now.items ≡ None =
    sym (ap (λ d. limit_of c.args.i c.args.command.now d) c.as_slice-2.ensures.value) ∙ sym c.split_limit-limit.ensures ∙ c.in_default-limit.is in
    let facts = split_facts c.args.parameters c.args.i c.args.command.now c.args.by.0.now c.args.by.1.now c.args.by.2 c.args.prefix.now c.args.leaves.now.items c.requires.split none unlimited c.requires.sound in
    let at : c.place-j.result ≡ place_in c.args.prefix.now c.args.leaves.now.items = c.place-j.ensures ∙ ap (λ d. place_in c.args.prefix.now d) c.as_slice-3.ensures.value in
    let tree : IsTree (betas_of c.args.leaves.now.items) = subst (λ V. IsTree V) c.requires.vectors c.len-tree.ensures.tree in
    let answer : leaf_answer c.args.prefix.now (betas_of c.args.leaves.now.items) ≡ Ok c.split_leaf.new.self =
    sym (ap (λ V. leaf_answer c.args.prefix.now V) c.requires.vectors) ∙ c.in_default-split_leaf.ensures.ok in
    let split : c.split_at.new.leaves.items ≡ split_at (place_in c.args.prefix.now c.args.leaves.now.items) c.args.by.0.now c.args.by.1.now c.args.by.2
    (get_or c.args.leaves.now.items (place_in c.args.prefix.now c.args.leaves.now.items) no_leaf) c.args.leaves.now.items =
    c.in_ok-split_at.ensures no_leaf ∙ ap (λ n. split_at n c.args.by.0.now c.args.by.1.now c.args.by.2 (get_or c.args.leaves.now.items n no_leaf) c.args.leaves.now.items) at in
    let long = long_split c.args.prefix.now c.args.leaves.now.items c.split_at.new.leaves.items c.split_leaf.new.self c.args.by.0.now c.args.by.1.now c.args.by.2
    (get_or c.args.leaves.now.items (place_in c.args.prefix.now c.args.leaves.now.items) no_leaf) tree facts.leaf c.requires.some answer split in
    long

pub returns-clause-ok : goal.returns-clause-ok
returns-clause-ok c =
    let none = read_condition c.args.parameters c.args.i c.args.command.now c.args.prefix.now c.args.leaves.now.items c.as_slice.result.now c.level_condition-condition.result
    c.as_slice.ensures.value c.level_condition-condition.ensures c.in_default.is in
    let unlimited : limit_of c.args.i c.args.command.now c.args.leaves.now.items ≡ None =
    sym (ap (λ d. limit_of c.args.i c.args.command.now d) c.as_slice-2.ensures.value) ∙ sym c.split_limit-limit.ensures ∙ c.in_default-limit.is in
    let facts = split_facts c.args.parameters c.args.i c.args.command.now c.args.by.0.now c.args.by.1.now c.args.by.2 c.args.prefix.now c.args.leaves.now.items c.requires.split none unlimited c.requires.sound in
    let at : c.place-j.result ≡ place_in c.args.prefix.now c.args.leaves.now.items = c.place-j.ensures ∙ ap (λ d. place_in c.args.prefix.now d) c.as_slice-3.ensures.value in
    let tree : IsTree (betas_of c.args.leaves.now.items) = subst (λ V. IsTree V) c.requires.vectors c.len-tree.ensures.tree in
    let answer : leaf_answer c.args.prefix.now (betas_of c.args.leaves.now.items) ≡ Ok c.split_leaf.new.self =
    sym (ap (λ V. leaf_answer c.args.prefix.now V) c.requires.vectors) ∙ c.in_default-split_leaf.ensures.ok in
    let split : c.split_at.new.leaves.items ≡ split_at (place_in c.args.prefix.now c.args.leaves.now.items) c.args.by.0.now c.args.by.1.now c.args.by.2
    (get_or c.args.leaves.now.items (place_in c.args.prefix.now c.args.leaves.now.items) no_leaf) c.args.leaves.now.items =
    c.in_ok-split_at.ensures no_leaf ∙ ap (λ n. split_at n c.args.by.0.now c.args.by.1.now c.args.by.2 (get_or c.args.leaves.now.items n no_leaf) c.args.leaves.now.items) at in
    let long = long_split c.args.prefix.now c.args.leaves.now.items c.split_at.new.leaves.items c.split_leaf.new.self c.args.by.0.now c.args.by.1.now c.args.by.2
    (get_or c.args.leaves.now.items (place_in c.args.prefix.now c.args.leaves.now.items) no_leaf) tree facts.leaf c.requires.some answer split in
    let light : unsigned_abs c.args.by.2 + 1 < 2 ^ 127 = ltb-true (unsigned_abs c.args.by.2 + 1) (2 ^ 127) (sym c.is_light.ensures ∙ c.if-not-is_light.false) in
    split_stepped c.args.parameters c.args.i c.args.command.now c.args.by.0.now c.args.by.1.now c.args.by.2 c.args.prefix.now c.args.leaves.now.items c.split_at.new.leaves.items
    c.join.new.leaves.items c.split_leaf.new.self no_leaf c.requires.split c.requires.prefix none unlimited c.requires.sound tree c.requires.some light split answer c.in_ok-join.ensures long
