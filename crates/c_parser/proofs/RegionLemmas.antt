-- What the rules' answer says of derivations.
use Rattle.std.proofs.Common.{◌≡◌, ℕ, List, Result, Some, Ok, Err, IfOk, inl, inr, ap, sym, ◌∙◌, subst, arith}
use Rattle.suite_base.specs.declared.refusals.Fail.{Fail}
use Rattle.suite_base.specs.declared.refusals.Fail.TheVariants as fail
use Rattle.suite_base.specs.Limits.{max_nests, max_loops}
use Rattle.c_lexer.specs.declared.regions.Span.{Span}
use Rattle.c_lexer.specs.declared.stops.Stop.{Stop}
use Rattle.c_lexer.specs.declared.stops.Stop.TheVariants.{Memory, Refused}
use Rattle.c_lexer.specs.Readings.{Reading}
use Rattle.c_lexer.specs.Input.{Outcome}
use Rattle.c_lexer.proofs.SymbolFacts.{no_token, large_integer}
use Rattle.suite_base.specs.declared.refusals.Refusal.{Refusal}
use Rattle.suite_base.specs.declared.refusals.Refusal.TheVariants.{BadToken, NumberTooLarge, BadSyntax, TooDeep}
use Rattle.suite_base.specs.declared.places.Place.{Place}
use Rattle.c_parser.specs.declared.tree.Node.{Node}
use Rattle.c_parser.specs.declared.tree.Region.{Region}
use Rattle.c_parser.specs.Statements.{region}
use Rattle.c_parser.specs.Derivations.{Derived}
use Rattle.c_parser.specs.Regions.{reading_at, IsRegion, Answers, Completes, HasReason, answer_of, Parses}
use Rattle.c_parser.proofs.Yields.{Yields}
use Rattle.c_parser.proofs.StatementYields.{region_yields}
use Rattle.c_parser.proofs.Comes.{Comes, IsLimit}
use Rattle.c_parser.proofs.StatementComes.{region_comes}
use Rattle.c_parser.specs.Prefixes.{later, HasCause}
use Rattle.c_parser.proofs.Runs.{Runs, Fails, kind}
use Rattle.c_parser.proofs.StatementRuns.{region_runs}

abbrev read_nodes : List Node → Result (List Node) Stop → List Node
read_nodes nodes (Ok all) = all
read_nodes nodes (Err e) = nodes

answered : (r : Reading) (o : Outcome (List Node)) (nodes : List Node) → Yields r (λ all m. Derived max_nests max_loops all r) o → answer_of o ≡ Ok nodes → Derived max_nests max_loops nodes r
answered r (Ok y) nodes h e = let P : List Node → Type 0 = λ x. Derived max_nests max_loops x r in subst P (ap (read_nodes nodes) e) h.1
answered r (Err x) nodes h e = absurd (cc)

never : (refusal : Refusal) → IsLimit ⊥ refusal → ⊥
never (TooDeep p) h = h
never _ h = h

abbrev Answered : Result (List Node) Stop → Result Region Fail → Type 0
Answered answer (Ok found) = answer ≡ Ok found.nodes
Answered answer (Err fail.Memory) = Unit {0}
Answered answer (Err (fail.Refused refusal)) = answer ≡ Err (Refused refusal)

-- what is read is derived
pub read_derived : (bytes : List ℕ) (span : Span) (result : Result Region Fail) → Parses bytes span result → IfOk result (λ found. IsRegion bytes span found.nodes)
read_derived bytes span (Ok found) h = answered (reading_at bytes span) _ found.nodes (region_yields (reading_at bytes span)) h.1
read_derived bytes span (Err e) h = tt

comes_answered : (o : Outcome (List Node)) (nodes : List Node) (m : Reading) (result : Result Region Fail) → Comes ⊥ nodes m o → Answered (answer_of o) result → Answers nodes result
comes_answered (Ok y) nodes m (Ok found) h e = ap (read_nodes nodes) (sym e) ∙ h.0
comes_answered (Ok y) nodes m (Err fail.Memory) h e = tt
comes_answered (Ok y) nodes m (Err (fail.Refused refusal)) h e = absurd (cc)
comes_answered (Err Memory) nodes m result h e = absurd h
comes_answered (Err (Refused refusal)) nodes m result h e = absurd (never refusal h)

-- what is derived is read
pub read_complete : (bytes : List ℕ) (span : Span) (result : Result Region Fail) → Parses bytes span result → Completes bytes span result
read_complete bytes span (Ok found) h nodes x = comes_answered _ nodes x.0 (Ok found) (region_comes ⊥ max_nests max_loops (inl (omega arith)) (inl (omega arith)) nodes (reading_at bytes span) x) h.1
read_complete bytes span (Err fail.Memory) h nodes x = tt
read_complete bytes span (Err (fail.Refused refusal)) h nodes x =
    comes_answered _ nodes x.0 (Err (fail.Refused refusal)) (region_comes ⊥ max_nests max_loops (inl (omega arith)) (inl (omega arith)) nodes (reading_at bytes span) x) h

-- ---- causes

no_depth : (refusal : Refusal) → 3 ≡ kind refusal → IsLimit (Unit {0}) refusal → ⊥
no_depth (TooDeep p) e h = absurd (omega (arith, e))
no_depth _ e h = h

no_tree : (p : Place) (nodes : List Node) (m : Reading) (o : Outcome (List Node)) → Fails (BadSyntax p) o → Comes (Unit {0}) nodes m o → ⊥
no_tree p nodes m (Ok y) f h = f
no_tree p nodes m (Err Memory) f h = f
no_tree p nodes m (Err (Refused refusal)) f h = no_depth refusal f h

no_room : (p : Place) (nodes : List Node) (m : Reading) (o : Outcome (List Node)) → Fails (TooDeep p) o → Comes ⊥ nodes m o → ⊥
no_room p nodes m (Ok y) f h = f
no_room p nodes m (Err Memory) f h = f
no_room p nodes m (Err (Refused refusal)) f h = never refusal h

caused : (r : Reading) (refusal : Refusal) → Runs r (λ x. region) 0 (Err (Refused refusal)) → HasCause r refusal
unfolding Runs
caused r (BadToken p) (k, ik, sound, c, fails) = (k, sound, ap Some (sym c.0), no_token (later k r) c.1)
caused r (NumberTooLarge p) (k, ik, sound, c, fails) = (k, sound, ap Some (sym c.0), large_integer (later k r) c.1)
caused r (BadSyntax p) (k, ik, sound, c, fails) =
    (k, sound, ap Some (sym c), λ nests loops x nodes d e. no_tree p nodes e.0 (region x) (fails x d) (region_comes (Unit {0}) nests loops (inr tt) (inr tt) nodes x e))
caused r (TooDeep p) (k, ik, sound, c, fails) =
    (k, sound, ap Some (sym c.0), (c.1, λ x nodes d e. no_room p nodes e.0 (region x) (fails x d) (region_comes ⊥ max_nests max_loops (inl (omega arith)) (inl (omega arith)) nodes x e)))
caused r _ (k, ik, sound, c, fails) = absurd c

abbrev refusal_in : Refusal → Result (List Node) Stop → Refusal
refusal_in refusal (Ok y) = refusal
refusal_in refusal (Err Memory) = refusal
refusal_in refusal (Err (Refused f)) = f

found_cause : (r : Reading) (refusal : Refusal) (o : Outcome (List Node)) → Runs r (λ x. region) 0 o → answer_of o ≡ Err (Refused refusal) → HasCause r refusal
unfolding Runs
found_cause r refusal (Ok y) h e = absurd (cc)
found_cause r refusal (Err Memory) h e = absurd h
found_cause r refusal (Err (Refused f)) h e = subst (λ x. HasCause r x) (ap (refusal_in refusal) e) (caused r f h)

-- what is refused has its cause
pub read_cause : (bytes : List ℕ) (span : Span) (result : Result Region Fail) → Parses bytes span result → HasReason bytes span result
read_cause bytes span (Ok found) h = tt
read_cause bytes span (Err fail.Memory) h = tt
read_cause bytes span (Err (fail.Refused refusal)) h = found_cause (reading_at bytes span) refusal _ (region_runs (reading_at bytes span)) h
