-- A text that is translated is not refused, and no text is refused as too long.
use Rattle.std.proofs.Common.{◌≡◌, inl, inr, ◌∙◌, ℕ, List, [], ◌∷◌, Bool, true, false, Option, Some, None, Result, Ok, Err, refl, ap, sym, subst}
use Rattle.suite_base.specs.declared.refusals.Refusal.{Refusal}
use Rattle.std.specs.Prelude.{◌+◌, if◌then◌else◌, length, not, nat_lt}
use Rattle.suite_base.specs.declared.refusals.Refusal.TheVariants.{TooLong, Limit, TooManyParts, Overflow}
use Rattle.suite_base.specs.declared.refusals.Which.TheVariants.{Statements as OfStatements, Parameters, Locals, Rows, Accesses, Subscripts, Arrays}
use Rattle.suite_base.specs.declared.refusals.Where.TheVariants.{Statement as OfStatement}
use Rattle.c_lexer.specs.declared.regions.Span.{Span}
use Rattle.c_lexer.specs.declared.regions.RegionFail.{RegionFail}
use Rattle.c_lexer.specs.declared.regions.RegionFail.TheVariants.{NoRegion, OpenRegion, SecondRegion}
use Rattle.c_lexer.specs.Regions.{region_of}
use Rattle.c_parser.specs.Regions.{IsRegion}
use Rattle.scop_core.specs.ScopData.{ScopData}
use Rattle.scop_core.specs.Assembly.{or_else, some_above}
use Rattle.scop_core.specs.declared.limits.PartCount.TheVariants.{LocalCount, RowCount}
use Rattle.scop_data.specs.declared.statements.Statement.{Statement}
use Rattle.clan_extract.specs.Regions.{Nodes}
use Rattle.clan_extract.specs.Names.{Occurrence, clash, parameters_in, arrays_in}
use Rattle.clan_extract.specs.Placements.{Placed, placed_all}
use Rattle.clan_extract.specs.Refusals.{fits, refusal_of, statement_refusal, statements_refusal, subscripts_above, whole_refusal}
use Rattle.clan_extract.specs.Scops.{scop_of, statement}
use Rattle.region_trees.specs.Statements.{Statements, statements_of}
use Rattle.region_trees.specs.Regions.{nodes_of}
use Rattle.region_trees.specs.Occurrences.{occurrences_in_all}
use Rattle.region_trees.specs.Translation.{clan_of, of_names, of_region, of_statements, unless_refused}
use Rattle.region_extract.specs.Answers.{IsTranslation, Refuses, refusal_for}

same_span : (text : List ℕ) (a b : Span) → region_of text ≡ Ok a → region_of text ≡ Ok b → a ≡ b
same_span text a b p q = cc

no_fail : (text : List ℕ) (span : Span) (fail : RegionFail) → region_of text ≡ Ok span → ¬ (region_of text ≡ Err fail)
no_fail text span fail p q = absurd (cc)

no_two_answers : (S : ScopData) (refusal : Refusal) (x : Result ScopData Refusal) → x ≡ Ok S → ¬ (x ≡ Err refusal)
no_two_answers S refusal x p q = absurd (cc)

-- what is translated is not refused
pub translated_is_not_refused : (text : List ℕ) (S : ScopData) (refusal : Refusal) → IsTranslation text S → ¬ Refuses text refusal
translated_is_not_refused text S refusal t (inl h) = no_fail text t.parsed.span h.fail t.parsed.is_region h.is_fail
translated_is_not_refused text S refusal t (inr (inl h)) =
    h.underived t.nodes (subst (λ span. IsRegion text span t.nodes) (same_span text t.parsed.span h.span t.parsed.is_region h.is_region) t.parsed.derived)
translated_is_not_refused text S refusal t (inr (inr h)) =
    let same : h.nodes ≡ t.nodes = h.only t.nodes t.parsed in
    no_two_answers S refusal (clan_of text t.nodes) t.translated (subst (λ nodes. clan_of text nodes ≡ Err refusal) same h.refused)

-- ---- no refusal speaks of the text's length

abbrev is_length : Refusal → Bool
is_length TooLong = true
is_length refusal = false

-- the refusal, where there is one, is of the length
abbrev says : Option Refusal → Bool
says None = false
says (Some refusal) = is_length refusal

abbrev says_length : Result ScopData Refusal → Bool
says_length (Ok scop) = false
says_length (Err refusal) = is_length refusal

or_says : (x y : Option Refusal) → says x ≡ false → says y ≡ false → says (or_else x y) ≡ false
or_says None y e f = f
or_says (Some refusal) y e f = e

if_says : (b : Bool) (x y : Option Refusal) → says x ≡ false → says y ≡ false → says (if b then x else y) ≡ false
if_says true x y e f = e
if_says false x y e f = f

fail_says : (fail : RegionFail) → is_length (refusal_for fail) ≡ false
fail_says NoRegion = refl
fail_says (OpenRegion line) = refl
fail_says (SecondRegion line) = refl

statement_says : (parameters arrays : List (List ℕ)) (k : ℕ) (p : Placed) → says (statement_refusal parameters arrays k p) ≡ false
statement_says parameters arrays k p =
    let S : Statement = statement parameters arrays p in
    let range : Option Refusal = if not (fits parameters arrays p) then Some (Overflow OfStatement k) else None in
    let locals : Option Refusal = if some_above LocalCount 24 S.domain then Some (Limit Locals k) else range in
    let rows : Option Refusal = if some_above RowCount 256 S.domain then Some (Limit Rows k) else locals in
    let parts : Option Refusal = if nat_lt 64 (length S.domain) then Some (TooManyParts k) else rows in
    let subscripts : Option Refusal = if subscripts_above S.accesses then Some (Limit Subscripts k) else parts in
    if_says (nat_lt 256 (length S.accesses)) (Some (Limit Accesses k)) subscripts refl
    (if_says (subscripts_above S.accesses) (Some (Limit Subscripts k)) parts refl
    (if_says (nat_lt 64 (length S.domain)) (Some (TooManyParts k)) rows refl
    (if_says (some_above RowCount 256 S.domain) (Some (Limit Rows k)) locals refl
    (if_says (some_above LocalCount 24 S.domain) (Some (Limit Locals k)) range refl
    (if_says (not (fits parameters arrays p)) (Some (Overflow OfStatement k)) None refl refl)))))

statements_say : (parameters arrays : List (List ℕ)) (k : ℕ) (ps : List Placed) → says (statements_refusal parameters arrays k ps) ≡ false
statements_say parameters arrays k [] = refl
statements_say parameters arrays k (p ∷ ps) =
    or_says (statement_refusal parameters arrays k p) (statements_refusal parameters arrays (k + 1) ps) (statement_says parameters arrays k p)
    (statements_say parameters arrays (k + 1) ps)

whole_says : (parameters arrays : List (List ℕ)) (ps : List Placed) → says (whole_refusal parameters arrays ps) ≡ false
whole_says parameters arrays ps =
    let statements : Option Refusal = if nat_lt 1024 (length ps) then Some (Limit OfStatements 0) else None in
    let names : Option Refusal = if nat_lt 4096 (length arrays) then Some (Limit Arrays 0) else statements in
    if_says (nat_lt 16 (length parameters)) (Some (Limit Parameters 0)) names refl
    (if_says (nat_lt 4096 (length arrays)) (Some (Limit Arrays 0)) statements refl
    (if_says (nat_lt 1024 (length ps)) (Some (Limit OfStatements 0)) None refl refl))

region_says : (parameters arrays : List (List ℕ)) (region : Nodes) → says (refusal_of parameters arrays region) ≡ false
region_says parameters arrays region =
    or_says (whole_refusal parameters arrays (placed_all 0 region)) (statements_refusal parameters arrays 1 (placed_all 0 region))
    (whole_says parameters arrays (placed_all 0 region)) (statements_say parameters arrays 1 (placed_all 0 region))

unless_says : (x : Option Refusal) (S : ScopData) → says_length (unless_refused x S) ≡ says x
unless_says None S = refl
unless_says (Some refusal) S = refl

of_region_says : (source : List ℕ) (parameters arrays : List (List ℕ)) (x : Result Nodes ℕ) → says_length (of_region source parameters arrays x) ≡ false
of_region_says source parameters arrays (Err at) = refl
of_region_says source parameters arrays (Ok nodes) =
    unless_says (refusal_of parameters arrays nodes) (scop_of parameters arrays nodes) ∙ region_says parameters arrays nodes

of_names_says : (source : List ℕ) (x : Option ℕ) (names : List Occurrence) (nodes : Result Nodes ℕ) → says_length (of_names source x names nodes) ≡ false
of_names_says source (Some at) names nodes = refl
of_names_says source None names nodes = of_region_says source (parameters_in names) (arrays_in names) nodes

statements_no_length : (source : List ℕ) (xs : Statements) → ¬ (of_statements source xs ≡ Err TooLong)
statements_no_length source xs e =
    let no : true ≡ false = sym (ap says_length e) ∙ of_names_says source (clash (occurrences_in_all [] xs)) (occurrences_in_all [] xs) (nodes_of xs) in
    absurd (cc)

no_region_length : (fail : RegionFail) → ¬ (TooLong ≡ refusal_for fail)
no_region_length fail e = let no : true ≡ false = ap is_length e ∙ fail_says fail in absurd (cc)

-- no text is refused as too long
pub refuses_no_length : (text : List ℕ) → ¬ Refuses text TooLong
refuses_no_length text (inl h) = no_region_length h.fail h.says
refuses_no_length text (inr (inl h)) = h.cause.3
refuses_no_length text (inr (inr h)) = statements_no_length text (statements_of text h.nodes) h.refused
