-- What each kind of operand has, and its first fault.
use Rattle.std.proofs.Common.{◌≡◌, sym, ap, ◌∙◌, ℕ, List, [], ◌∷◌, Option}
use Rattle.c_lexer.specs.declared.pieces.Piece.{Piece}
use Rattle.c_lexer.specs.Pieces.{bytes_of}
use Rattle.c_parser.specs.declared.tree.Value.{Value}
use Rattle.c_parser.specs.declared.tree.Primary.{Primary}
use Rattle.c_parser.specs.declared.tree.Primary.TheVariants as pri
use Rattle.region_trees.specs.Terms.{Call, Bracket, value_of, primary_of}
use Rattle.region_trees.specs.Layers.{terms_by, primary_layer, primary_is}
use Rattle.region_rules.specs.declared.facts.Facts.{Facts}
use Rattle.region_rules.specs.Facts.{facts_of, bracketed}
use Rattle.region_rules.specs.Faults.{reads_fault_of, values_fault_of}
use Rattle.region_rules.proofs.Joins.{bracket_facts}

-- ---- what they have

pub of_call : (source : List ℕ) (p : Piece) (xs : List Value)
    → facts_of (primary_of source (pri.Call p xs)) ≡ facts_of (Call (bytes_of source p) p.from (terms_by (value_of source) xs))
of_call source p xs = ap facts_of (primary_is source (pri.Call p xs) ∙ ap (primary_layer source) (pri.outs-Call p xs))

pub of_bracket : (source : List ℕ) (v : Value) → facts_of (primary_of source (pri.Bracket v)) ≡ bracketed (facts_of (value_of source v).term)
of_bracket source v =
    ap facts_of (primary_is source (pri.Bracket v) ∙ ap (primary_layer source) (pri.outs-Bracket v)) ∙ bracket_facts (value_of source v).term

-- ---- their first fault

pub call_reads : (source : List ℕ) (p : Piece) (xs : List Value)
    → reads_fault_of (primary_of source (pri.Call p xs)) ≡ values_fault_of (terms_by (value_of source) xs)
call_reads source p xs = ap reads_fault_of (primary_is source (pri.Call p xs) ∙ ap (primary_layer source) (pri.outs-Call p xs))

-- ---- from what code shows

pub by_called : (source : List ℕ) (x : Primary) (p : Piece) (xs ys : List Value) (f : Facts) → x ≡ pri.Call p xs → ys ≡ xs
    → f ≡ facts_of (Call (bytes_of source p) p.from (terms_by (value_of source) ys)) → f ≡ facts_of (primary_of source x)
by_called source x p xs ys f e g h =
    h ∙ ap (λ zs. facts_of (Call (bytes_of source p) p.from (terms_by (value_of source) zs))) g
    ∙ sym (of_call source p xs) ∙ ap (λ y. facts_of (primary_of source y)) (sym e)

pub by_bracketed : (source : List ℕ) (x : Primary) (v w : Value) (f g : Facts) → x ≡ pri.Bracket v → w ≡ v
    → g ≡ facts_of (value_of source w).term → f ≡ bracketed g → f ≡ facts_of (primary_of source x)
by_bracketed source x v w f g e a b h =
    h ∙ ap bracketed (b ∙ ap (λ y. facts_of (value_of source y).term) a)
    ∙ sym (of_bracket source v) ∙ ap (λ y. facts_of (primary_of source y)) (sym e)

pub by_call_reads : (source : List ℕ) (x : Primary) (p : Piece) (xs ys : List Value) (r : Option ℕ) → x ≡ pri.Call p xs → ys ≡ xs
    → r ≡ values_fault_of (terms_by (value_of source) ys) → r ≡ reads_fault_of (primary_of source x)
by_call_reads source x p xs ys r e g h =
    h ∙ ap (λ zs. values_fault_of (terms_by (value_of source) zs)) g
    ∙ sym (call_reads source p xs) ∙ ap (λ y. reads_fault_of (primary_of source y)) (sym e)
