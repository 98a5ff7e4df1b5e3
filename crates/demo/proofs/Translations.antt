-- A text has at most one translation.
use Rattle.std.proofs.Common.{◌≡◌, inl, ◌∙◌, ℕ, List, Result, Ok, Err, sym, subst, arith}
use Rattle.suite_base.specs.declared.refusals.Refusal.{Refusal}
use Rattle.suite_base.specs.declared.refusals.Refusal.TheVariants.{TooDeep}
use Rattle.c_lexer.specs.declared.regions.Span.{Span}
use Rattle.c_lexer.specs.Readings.{Reading}
use Rattle.c_lexer.specs.Regions.{region_of}
use Rattle.c_lexer.specs.declared.stops.Stop.TheVariants as stop
use Rattle.c_parser.specs.declared.tree.Node.{Node}
use Rattle.c_lexer.specs.Input.{Outcome}
use Rattle.c_parser.specs.Regions.{IsRegion, reading_at}
use Rattle.c_parser.specs.Statements.{region}
use Rattle.c_parser.proofs.Comes.{Comes, IsLimit}
use Rattle.c_parser.proofs.StatementComes.{region_comes}
use Rattle.region_trees.specs.Translation.{clan_of}
use Rattle.scop_core.specs.ScopData.{ScopData}
use Rattle.region_extract.specs.Answers.{IsTranslation}

no_limit : (refusal : Refusal) → ¬ IsLimit ⊥ refusal
no_limit (TooDeep p) h = h
no_limit refusal h = h

comes_to_one : (o : Outcome (List Node)) (a b : List Node) (m n : Reading) → Comes ⊥ a m o → Comes ⊥ b n o → a ≡ b
comes_to_one (Ok y) a b m n p q = sym p.0 ∙ q.0
comes_to_one (Err stop.Memory) a b m n p q = absurd p
comes_to_one (Err (stop.Refused refusal)) a b m n p q = absurd (no_limit refusal p)

one_region : (bytes : List ℕ) (span : Span) (a b : List Node) → IsRegion bytes span a → IsRegion bytes span b → a ≡ b
one_region bytes span a b p q =
    comes_to_one (region (reading_at bytes span)) a b p.0 q.0 (region_comes ⊥ 64 12 (inl (omega arith)) (inl (omega arith)) a (reading_at bytes span) p)
    (region_comes ⊥ 64 12 (inl (omega arith)) (inl (omega arith)) b (reading_at bytes span) q)

same_span : (text : List ℕ) (a b : Span) → region_of text ≡ Ok a → region_of text ≡ Ok b → a ≡ b
same_span text a b p q = cc

same_answer : (S T : ScopData) (x : Result ScopData Refusal) → x ≡ Ok S → x ≡ Ok T → S ≡ T
same_answer S T x p q = cc

pub one_translation : (text : List ℕ) (S T : ScopData) → IsTranslation text S → IsTranslation text T → S ≡ T
one_translation text S T p q =
    let span : p.parsed.span ≡ q.parsed.span = same_span text p.parsed.span q.parsed.span p.parsed.is_region q.parsed.is_region in
    let nodes : p.nodes ≡ q.nodes =
    one_region text q.parsed.span p.nodes q.nodes (subst (λ s. IsRegion text s p.nodes) span p.parsed.derived) q.parsed.derived in
    same_answer S T (clan_of text q.nodes) (subst (λ n. clan_of text n ≡ Ok S) nodes p.translated) q.translated
