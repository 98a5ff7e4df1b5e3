-- What is printed of a SCoP is a text of it.
use Rattle.std.proofs.Common.{◌≡◌, refl, sym, ap, subst, ◌∙◌, Option, Some, None, ℕ, ◌<◌, suc, List, [], ◌∷◌, length, map, true, ◌&&◌, ◌==◌, arith}
use Rattle.std.specs.Prelude.{nat_le, ◌||◌, All}
use Rattle.std.specs.List.{AllByRecursion}
use Rattle.std.proofs.lemmas.Bool.{and_from, or_left, le-leb}
use Rattle.std.proofs.lemmas.Bool.Decides.{Decides-eqb}
use Rattle.std.proofs.lemmas.List.Elements.{recursion_from_All}
use Rattle.suite_base.specs.Lines.{lines}
use Rattle.relation_core.specs.declared.part_rows.PartRow.{PartRow}
use Rattle.relation_core.specs.Systems.{System, width, row_at}
use Rattle.scop_data.specs.declared.accesses.AccessKind.{AccessKind}
use Rattle.scop_data.specs.declared.statements.Extension.{Extension}
use Rattle.scop_data.specs.declared.raw_pieces.RawStatement.{RawStatement}
use Rattle.scop_data.specs.declared.raw_pieces.ScopPieces.{ScopPieces}
use Rattle.scop_core.specs.Assembly.{or_else, whole_limit, first_limit, first_unsolved, early_refusal_of, first_clash, solved_statements, refusal_of}
use Rattle.scop_core.specs.Layouts.{layout}
use Rattle.scop_core.specs.ScopData.{ScopData}
use Rattle.scop_core.specs.Validity.{IsValid}
use Rattle.scop_core.specs.Printable.{has_part, IsPrintable, IsPrintableStatement}
use Rattle.scop_core.specs.ReadBack.{pieces_of as printed_pieces, ReadBack}
use Rattle.scop_core.proofs.ReadBackPieces.{pieces_read_back}
use Rattle.scop_reader.specs.Lines.{Rest}
use Rattle.scop_reader.specs.Rules.{from_open, no_second}
use Rattle.scop_reader.specs.Documents.{Parts, Document, said_document, pieces_of, behind_all}
use Rattle.scop_core.specs.Held.{IsFormed, StatementIsHeld, IsHeld}
use Rattle.scop_reader.specs.Texts.{IsScopText, are_wide, parts_are_wide, is_relation, are_relations, has_no_special, has_one_special, is_statement, are_statements, IsDocument, IsTextOf}
use Rattle.scop_reader.proofs.GrammarPrinted.{printed, printed_text, printed_lines, printed_says}
use Rattle.scop_reader.proofs.GrammarSpelled.{parts_of, access_text, keep, items_of, statement_text, document_of, pieces_are, layout_spelled}
use Rattle.scop_reader.proofs.GrammarGood.{AllGood, document_good}
use Rattle.scop_reader.proofs.GrammarProper.{whole_low, no_first}

-- ---- the document that is printed is one that a text can be

rows_wide : (w : ℕ) (rows : List PartRow) → ((k : ℕ) → k < length rows → length (row_at rows k).entries ≡ w) → are_wide w rows ≡ true
rows_wide w [] h = refl
rows_wide w (row ∷ rows) h =
    and_from (length row.entries == w) (are_wide w rows) ((Decides-eqb (length row.entries) w).1 (h 0 (omega arith))) (rows_wide w rows (λ k below. h (suc k) (omega arith)))

parts_wide : (ps : List System) → AllByRecursion IsFormed ps → parts_are_wide ps ≡ true
parts_wide [] f = refl
parts_wide (p ∷ ps) f = and_from (are_wide (width p.shape) p.rows) (parts_are_wide ps) (rows_wide (width p.shape) p.rows f.0.widths) (parts_wide ps f.1)

-- the number of parts is written, or there is one
told : (ps : List System) → has_part ps ≡ true → (nat_le 2 (length ps) || (length ps == 1)) ≡ true
told [] h = absurd (cc)
told (p ∷ []) h = refl
told (p ∷ q ∷ ps) h = or_left (nat_le 2 (length (p ∷ q ∷ ps))) (length (p ∷ q ∷ ps) == 1) (le-leb 2 (length (p ∷ q ∷ ps)) (omega arith))

relation_is : (ps : List System) → has_part ps ≡ true → AllByRecursion IsFormed ps → is_relation (parts_of ps) ≡ true
relation_is ps some f = and_from (nat_le 2 (length ps) || (length ps == 1)) (parts_are_wide ps) (told ps some) (parts_wide ps f)

relations_are : (accesses : List (AccessKind × List System)) → AllByRecursion (λ a. has_part a.1 ≡ true) accesses → AllByRecursion (λ a. All IsFormed a.1) accesses → are_relations (map access_text accesses) ≡ true
relations_are [] some f = refl
relations_are (a ∷ accesses) some f =
    and_from (is_relation (parts_of a.1)) (are_relations (map access_text accesses)) (relation_is a.1 some.0 (recursion_from_All IsFormed a.1 f.0)) (relations_are accesses some.1 f.1)

no_special : (A : Type 0) (xs : List Extension) → has_no_special (map (keep {A = A}) xs) ≡ true
no_special A [] = refl
no_special A (x ∷ xs) = no_special A xs

one_none : (A : Type 0) (xs : List Extension) → has_one_special (map (keep {A = A}) xs) ≡ true
one_none A [] = refl
one_none A (x ∷ xs) = one_none A xs

one_special : {A : Type 0} (o : Option A) (xs : List Extension) → has_one_special (items_of o xs) ≡ true
one_special {A} None xs = one_none A xs
one_special {A} (Some a) xs = no_special A xs

statement_is : (ps : ℕ) (raw : RawStatement) → IsPrintableStatement ps raw → StatementIsHeld raw → is_statement (statement_text raw) ≡ true
statement_is ps raw p held =
    let d : Parts = parts_of raw.domain in
    let c : Parts = parts_of raw.scattering in
    let accesses : List (AccessKind × Parts) = map access_text raw.accesses in
    let domain : is_relation d ≡ true = relation_is raw.domain p.some_domain (recursion_from_All IsFormed raw.domain held.domain) in
    let scattering : is_relation c ≡ true = relation_is raw.scattering p.some_scattering (recursion_from_All IsFormed raw.scattering held.scattering) in
    let all : are_relations accesses ≡ true = relations_are raw.accesses (recursion_from_All (λ (a : AccessKind × List System). has_part a.1 ≡ true) raw.accesses p.some_accesses)
    (recursion_from_All (λ (a : AccessKind × List System). All IsFormed a.1) raw.accesses held.accesses) in
    and_from (is_relation d && is_relation c && are_relations accesses) (has_one_special (items_of raw.body raw.extensions))
    (and_from (is_relation d && is_relation c) (are_relations accesses) (and_from (is_relation d) (is_relation c) domain scattering) all) (one_special raw.body raw.extensions)

statements_are : (ps : ℕ) (raws : List RawStatement) → AllByRecursion (IsPrintableStatement ps) raws → AllByRecursion StatementIsHeld raws → are_statements (map statement_text raws) ≡ true
statements_are ps [] p held = refl
statements_are ps (raw ∷ raws) p held =
    and_from (is_statement (statement_text raw)) (are_statements (map statement_text raws)) (statement_is ps raw p.0 held.0) (statements_are ps raws p.1 held.1)

-- the limits that pieces without a refusal keep
record Unrefused (p : ScopPieces) : Type 0 where
  whole : whole_limit p ≡ None
  statements : first_limit 1 p.statements ≡ None

unrefused : (p : ScopPieces) → refusal_of p ≡ None → Unrefused p
unrefused p e =
    let early = no_first (early_refusal_of p) (first_clash 1 [] (solved_statements 1 p.statements)) e in
    let whole = no_first (whole_limit p) (or_else (first_limit 1 p.statements) (first_unsolved 1 p.statements)) early.0 in
    let statements = no_first (first_limit 1 p.statements) (first_unsolved 1 p.statements) whole.1 in
    record { whole = whole.0; statements = statements.0 }

document_is : (p : ScopPieces) → IsPrintable p → IsHeld p → Unrefused p → IsDocument (document_of p)
document_is p is held low =
    let ps : ℕ = p.context.shape.parameters in
    let same : p ≡ pieces_of (document_of p) = sym (pieces_are p) in
    record {
      printable = subst IsPrintable same is;
      context = rows_wide (width p.context.shape) p.context.rows held.context.widths;
      statements = statements_are ps p.statements (recursion_from_All (IsPrintableStatement ps) p.statements is.statements) (recursion_from_All StatementIsHeld p.statements held.statements);
      arrays = one_special p.arrays p.extensions;
      whole_limits = subst (λ (x : ScopPieces). whole_limit x ≡ None) same low.whole;
      statement_limits = subst (λ (x : ScopPieces). first_limit 1 x.statements ≡ None) same low.statements;
    }

-- ---- what is printed says the document

nothing_follows : (rest : Rest) → rest.lines ≡ [] → no_second rest ≡ None
nothing_follows rest e = ap (λ (ls : List (List ℕ)). no_second (record { number = rest.number; lines = ls })) e

printed_is_text : (bytes : List ℕ) (d : Document) → bytes ≡ printed_text (said_document d) → AllGood (said_document d) → IsTextOf bytes d
printed_is_text bytes d e good =
    let ls : lines bytes ≡ map printed (said_document d) = ap lines e ∙ printed_lines (said_document d) good in
    let says = printed_says (said_document d) 1 good in
    record {
      rest = says.0;
      said = ap (λ (l : List (List ℕ)). behind_all (said_document d) (from_open 1 l)) ls ∙ says.1;
      one = nothing_follows says.0 says.2;
    }

-- what is printed of a valid SCoP, such as types hold, is a text of it
pub layout_read : (scop : ScopData) → IsValid scop → IsHeld (printed_pieces scop) → IsScopText (layout scop) scop
layout_read scop valid held =
    let p : ScopPieces = printed_pieces scop in
    let a = valid.assembled in
    let back : ReadBack scop = pieces_read_back a.pieces scop a.printable a.accepted a.is_theirs valid in
    let low : Unrefused p = unrefused p back.unrefused in
    let good : AllGood (said_document (document_of p)) = document_good p back.printable held (whole_low p low.whole) low.statements in
    record {
      pieces = p;
      text = record {
        document = document_of p;
        proper = document_is p back.printable held low;
        text = printed_is_text (layout scop) (document_of p) (layout_spelled scop) good;
        pieces_are = sym (pieces_are p);
      };
      accepted = back.unrefused;
      scop_is = sym back.same;
    }
