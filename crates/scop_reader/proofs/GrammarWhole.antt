-- Whole texts, read and said.
use Rattle.std.proofs.Common.{◌≡◌, refl, sym, ap, subst, ◌∙◌, Option, Some, None, ℕ, ℤ, ◌+◌, List, [], ◌∷◌, ◌++◌, length, map, Ok, Err, Bool, true, false, inl, inr, arith}
use Rattle.std.specs.Prelude.{codes, nat_lt}
use Rattle.std.specs.List.{flat_map}
use Rattle.std.specs.Str.{bytes_eq}
use Rattle.std.proofs.lemmas.Bool.{and_parts}
use Rattle.std.proofs.lemmas.Slice.Eq.{bytes_eq-Decides}
use Rattle.suite_base.specs.declared.refusals.Refusal.TheVariants.{BadScop}
use Rattle.suite_base.specs.Lines.{lines}
use Rattle.suite_base.specs.Words.{content}
use Rattle.suite_base.proofs.LineCuts.{bool_tells}
use Rattle.relation_core.specs.Systems.{System}
use Rattle.scop_data.specs.declared.raw_pieces.RawStatement.{RawStatement}
use Rattle.scop_data.specs.declared.raw_pieces.ScopPieces.{ScopPieces}
use Rattle.scop_core.specs.Printable.{has_no, is_name, are_names, arrays_name}
use Rattle.scop_reader.specs.declared.roles.Role.TheVariants.{Context}
use Rattle.scop_reader.specs.Lines.{Rest}
use Rattle.scop_reader.specs.Reading.{Outcome, Reader, ◌>>=◌, ◌>>◌, pure, and_then, said_line, first_of, literal, word_line}
use Rattle.scop_reader.specs.Rules
use Rattle.scop_reader.specs.Rules.{statements_from, statement_count, names, parameter_names, Extensions, no_extensions, globals, close_word, open_word, from_open, opening, no_second, no_more, scop}
use Rattle.scop_reader.specs.Documents.{Said, Literal, Words, count, Item, StatementText, Document, said_names, said_statement, said_parameters, statement_pieces, pieces_of, first_special, kept_items, behind, behind_all}
use Rattle.scop_reader.specs.Texts.{has_one_special, IsTextOf, pieces_in, answer_of}
use Rattle.scop_reader.proofs.GrammarLines.{then_ok, check_then, unless_then, read_ok, same_value, same_left, behind_line, line_behind, are_lines, lines_are, all_keeps, split, split_one, join, join_one, one_alone, alone_one}
use Rattle.scop_reader.proofs.GrammarWords.{literal_reads, literal_said, word_line_reads, word_line_said, read_words_named, same_ok, not_ok}
use Rattle.scop_reader.proofs.GrammarParts.{Fits}
use Rattle.scop_reader.proofs.GrammarRelations.{said_the_context, context_reads, context_said}
use Rattle.scop_reader.proofs.GrammarBodies.{names_reads, names_said}
use Rattle.scop_reader.proofs.GrammarArrays.{AreArrays}
use Rattle.scop_reader.proofs.GrammarExtensions.{ItemsFit, gathered_from, follow_is, said_to_close, globals_reads, globals_said, if_reader}
use Rattle.scop_reader.proofs.GrammarStatements.{statement_count_reads, statement_count_said, StatementsFit, statements_reads, statements_said}

-- ---- parameters

abbrev said_strings : List (List ℕ) → List Said
said_strings ws = Literal (codes "<strings>") ∷ (said_names ws ++ Literal (codes "</strings>") ∷ [])

strings_reads : (n : ℕ) (ws : List (List ℕ)) (rest now : Rest) → length ws ≡ n → behind_all (said_strings ws) rest ≡ Some now → parameter_names n rest ≡ Ok (ws, now)
unfolding parameter_names
strings_reads n ws rest now size e =
    let a = split_one (Literal (codes "<strings>")) (said_names ws ++ Literal (codes "</strings>") ∷ []) rest now e in
    let b = split (said_names ws) (Literal (codes "</strings>") ∷ []) a.mid now a.second in
    rw (literal_reads (codes "<strings>") rest a.mid a.first, names_reads n ws a.mid b.mid size b.first, literal_reads (codes "</strings>") b.mid now (alone_one (Literal (codes "</strings>")) b.mid now b.second)) refl

strings_said : (n : ℕ) (ws : List (List ℕ)) (rest now : Rest) → are_lines rest.lines ≡ true → parameter_names n rest ≡ Ok (ws, now) → (length ws ≡ n) × (are_names ws ≡ true) × (behind_all (said_strings ws) rest ≡ Some now)
unfolding parameter_names
strings_said n ws rest now h e =
    let t = then_ok (literal (codes "<strings>") rest) _ ws now e in
    let first = literal_said (codes "<strings>") rest t.mid t.value t.first in
    let h1 : are_lines t.mid.lines ≡ true = all_keeps (Literal (codes "<strings>") ∷ []) rest t.mid (one_alone (Literal (codes "<strings>")) rest t.mid first) h in
    let u = then_ok (names n t.mid) _ ws now t.second in
    let read = names_said n u.value t.mid u.mid h1 u.first in
    let v = then_ok (literal (codes "</strings>") u.mid) _ ws now u.second in
    let last = literal_said (codes "</strings>") u.mid v.mid v.value v.first in
    let same : u.value ≡ ws = same_value u.value ws v.mid now v.second in
    let left : v.mid ≡ now = same_left u.value ws v.mid now v.second in
    let said : behind_all (said_strings u.value) rest ≡ Some now = join_one (Literal (codes "<strings>")) (said_names u.value ++ Literal (codes "</strings>") ∷ []) rest t.mid now first
    (join (said_names u.value) (Literal (codes "</strings>") ∷ []) t.mid u.mid now read.said (one_alone (Literal (codes "</strings>")) u.mid now (last ∙ ap (λ (r : Rest). Some r) left))) in
    (ap length (sym same) ∙ read.size, ap are_names (sym same) ∙ read.are, ap (λ (l : List (List ℕ)). behind_all (said_strings l) rest) (sym same) ∙ said)

abbrev pub NamesFit : ℕ → Option (List (List ℕ)) → Type 0
NamesFit n None = Unit {0}
NamesFit n (Some ws) = (length ws ≡ n) × (are_names ws ≡ true)

pub parameters_reads : (n : ℕ) (o : Option (List (List ℕ))) (rest now : Rest) → NamesFit n o → behind_all (said_parameters o) rest ≡ Some now → Rules.parameters n rest ≡ Ok (o, now)
unfolding Rules.parameters
parameters_reads n None rest now fit e =
    let l = behind_line (Literal (codes "0")) rest now refl (alone_one (Literal (codes "0")) rest now e) in
    let same : content l.line.bytes ≡ codes "0" = (bytes_eq-Decides (content l.line.bytes) (codes "0")).0 l.said_is in
    let other : bytes_eq (content l.line.bytes) (codes "1") ≡ false = ap (λ (t : List ℕ). bytes_eq t (codes "1")) same in
    rw (l.read, other, l.said_is) refl
parameters_reads n (Some ws) rest now fit e =
    let a = split_one (Literal (codes "1")) (said_strings ws) rest now e in
    let l = behind_line (Literal (codes "1")) rest a.mid refl a.first in
    rw (l.read, l.said_is, strings_reads n ws a.mid now fit.0 a.second) refl

pub parameters_said : (n : ℕ) (o : Option (List (List ℕ))) (rest now : Rest) → are_lines rest.lines ≡ true → Rules.parameters n rest ≡ Ok (o, now) → NamesFit n o × (behind_all (said_parameters o) rest ≡ Some now)
unfolding Rules.parameters
parameters_said n o rest now h e =
    let t = then_ok (said_line rest) _ o now e in
    elim (if_reader (bytes_eq (content t.value.bytes) (codes "1")) _ _ t.mid (Ok (o, now)) t.second) [
      | inl one ↦
          let u = then_ok (parameter_names n t.mid) _ o now one.1 in
          let first : behind (Literal (codes "1")) rest ≡ Some t.mid = line_behind (Literal (codes "1")) rest t.mid t.value refl t.first one.0 in
          let h1 : are_lines t.mid.lines ≡ true = all_keeps (Literal (codes "1") ∷ []) rest t.mid (one_alone (Literal (codes "1")) rest t.mid first) h in
          let read = strings_said n u.value t.mid u.mid h1 u.first in
          let same : Some u.value ≡ o = same_value (Some u.value) o u.mid now u.second in
          let left : u.mid ≡ now = same_left (Some u.value) o u.mid now u.second in
          let said : behind_all (said_parameters (Some u.value)) rest ≡ Some now = join_one (Literal (codes "1")) (said_strings u.value) rest t.mid now first (read.2 ∙ ap (λ (r : Rest). Some r) left) in
          (subst (NamesFit n) same (read.0, read.1), subst (λ (x : Option (List (List ℕ))). behind_all (said_parameters x) rest ≡ Some now) same said)
      | inr other ↦
          let c = check_then (bytes_eq (content t.value.bytes) (codes "0")) (BadScop t.value.number) t.mid _ o now other.1 in
          let same : None ≡ o = same_value None o t.mid now c.1 in
          let left : t.mid ≡ now = same_left None o t.mid now c.1 in
          let first : behind (Literal (codes "0")) rest ≡ Some t.mid = line_behind (Literal (codes "0")) rest t.mid t.value refl t.first c.0 in
          let said : behind_all (said_parameters None) rest ≡ Some now = one_alone (Literal (codes "0")) rest now (first ∙ ap (λ (r : Rest). Some r) left) in
          (subst (NamesFit n) same tt, subst (λ (x : Option (List (List ℕ))). behind_all (said_parameters x) rest ≡ Some now) same said)
    ]

-- ---- the language

one_language : (ws : List (List ℕ)) → length ws ≡ 1 → ws ≡ first_of ws ∷ []
one_language [] e = absurd (omega (arith, e))
one_language (w ∷ []) e = refl
one_language (w ∷ v ∷ ws) e = absurd (omega (arith, e))

one_word_reads : (word : List ℕ) (rest now : Rest) → behind (Words (word ∷ [])) rest ≡ Some now → Rules.one_word rest ≡ Ok (word, now)
unfolding Rules.one_word
one_word_reads word rest now e = rw (word_line_reads 1 (word ∷ []) rest now e refl) refl

one_word_said : (word : List ℕ) (rest now : Rest) → are_lines rest.lines ≡ true → Rules.one_word rest ≡ Ok (word, now) → (is_name word ≡ true) × (behind (Words (word ∷ [])) rest ≡ Some now)
unfolding Rules.one_word
one_word_said word rest now h e =
    let t = then_ok (word_line 1 rest) _ word now e in
    let w = word_line_said 1 t.value rest t.mid t.first in
    let named = read_words_named 1 t.value rest t.mid w h in
    let same : first_of t.value ≡ word = same_value (first_of t.value) word t.mid now t.second in
    let left : t.mid ≡ now = same_left (first_of t.value) word t.mid now t.second in
    let is : t.value ≡ word ∷ [] = one_language t.value w.size ∙ ap (λ (v : List ℕ). v ∷ []) same in
    ((and_parts (is_name word) true (ap are_names (sym is) ∙ named)).0, ap (λ (ws : List (List ℕ)). behind (Words ws) rest) (sym is) ∙ (w.said ∙ ap (λ (r : Rest). Some r) left))

-- ---- the lines that are read

from_open_keeps : (n : ℕ) (ls : List (List ℕ)) → are_lines ls ≡ true → are_lines (from_open n ls).lines ≡ true
from_open_keeps n [] h = refl
from_open_keeps n (l ∷ ls) h =
    elim (bool_tells (bytes_eq (content l) open_word)) [
      | inl e ↦ rw e h
      | inr e ↦ rw e (from_open_keeps (n + 1) ls (and_parts (has_no 10 l) (are_lines ls) h).1)
    ]

no_more_then : {B : Type 0} (rest : Rest) (f : Unit {0} → Reader B) (b : B) (now : Rest) → and_then (no_more rest) f ≡ Ok (b, now) → (no_second rest ≡ None) × (f tt rest ≡ Ok (b, now))
unfolding no_more
no_more_then rest f b now e = unless_then (no_second rest) rest f b now e

no_more_ok : (rest : Rest) → no_second rest ≡ None → no_more rest ≡ Ok (tt, rest)
unfolding no_more
no_more_ok rest e = rw e refl

-- ---- documents

-- a document that the rules read
pub record DocumentFits (d : Document) : Type 0 where
  pub language : is_name d.language ≡ true
  pub context : Fits Context 0 d.context
  pub names : NamesFit d.context.shape.parameters d.parameters
  pub few : nat_lt 1024 (length d.statements) ≡ false
  pub statements : StatementsFit d.context.shape.parameters 1 d.statements
  pub items : ItemsFit arrays_name AreArrays d.items
  pub one : has_one_special d.items ≡ true

abbrev first_rest : List ℕ → Rest
first_rest bytes = record { number = 1; lines = lines bytes }

scop_reads : (bytes : List ℕ) (d : Document) → DocumentFits d → (text : IsTextOf bytes d) → scop (first_rest bytes) ≡ Ok (pieces_of d, text.rest)
unfolding scop opening
scop_reads bytes d fits text =
    let start : Rest = from_open 1 (lines bytes) in
    let end : Rest = text.rest in
    let ps : ℕ = d.context.shape.parameters in
    let tail3 : List Said = flat_map said_statement d.statements ++ said_to_close d.items in
    let tail2 : List Said = said_parameters d.parameters ++ (count (length d.statements) ∷ tail3) in
    let c0 = split_one (Literal open_word) (Words (d.language ∷ []) ∷ (said_the_context d.is_counted d.context ++ tail2)) start end text.said in
    let c1 = split_one (Words (d.language ∷ [])) (said_the_context d.is_counted d.context ++ tail2) c0.mid end c0.second in
    let c2 = split (said_the_context d.is_counted d.context) tail2 c1.mid end c1.second in
    let c3 = split (said_parameters d.parameters) (count (length d.statements) ∷ tail3) c2.mid end c2.second in
    let c4 = split_one (count (length d.statements)) tail3 c3.mid end c3.second in
    let c5 = split (flat_map said_statement d.statements) (said_to_close d.items) c4.mid end c4.second in
    rw (
      literal_reads open_word start c0.mid c0.first,
      one_word_reads d.language c0.mid c1.mid c1.first,
      context_reads d.is_counted d.context c1.mid c2.mid fits.context c2.first,
      parameters_reads ps d.parameters c2.mid c3.mid fits.names c3.first,
      statement_count_reads (length d.statements) c3.mid c4.mid fits.few c4.first,
      statements_reads ps 1 (length d.statements) d.statements [] c4.mid c5.mid fits.statements refl c5.first,
      globals_reads d.items c5.mid end fits.items fits.one c5.second,
      no_more_ok end text.one,
    ) refl

-- a text of a document that fits is read as its pieces
pub text_is_read : (bytes : List ℕ) (d : Document) → DocumentFits d → IsTextOf bytes d → pieces_in bytes ≡ Ok (pieces_of d)
unfolding pieces_in
text_is_read bytes d fits text = ap answer_of (scop_reads bytes d fits text)

-- the document of a text that was read
pub record DocumentRead (bytes : List ℕ) (pieces : ScopPieces) : Type 0 where
  pub document : Document
  pub fits : DocumentFits document
  pub text : IsTextOf bytes document
  pub pieces_are : pieces ≡ pieces_of document

-- the statements and what follows them
abbrev behind_parameters : List ℕ → System → Option (List (List ℕ)) → Reader ScopPieces
behind_parameters language context parameters = do
  count ← statement_count
  statements ← statements_from context.shape.parameters 1 count []
  globals ← globals
  no_more
  pure (record { language = language; context = context; parameters = parameters; statements = statements; arrays = globals.special; extensions = globals.others })

-- what was read of a text up to its parameters
record Head (bytes : List ℕ) (pieces : ScopPieces) (now : Rest) : Type 0 where
  r0 : Rest
  opened : behind (Literal open_word) (from_open 1 (lines bytes)) ≡ Some r0
  language : List ℕ
  r1 : Rest
  named : is_name language ≡ true
  language_said : behind (Words (language ∷ [])) r0 ≡ Some r1
  is_counted : Bool
  context : System
  r2 : Rest
  context_fits : Fits Context 0 context
  context_is : behind_all (said_the_context is_counted context) r1 ≡ Some r2
  parameters : Option (List (List ℕ))
  r3 : Rest
  names : NamesFit context.shape.parameters parameters
  parameters_are : behind_all (said_parameters parameters) r2 ≡ Some r3
  are_left : are_lines r3.lines ≡ true
  goes_on : behind_parameters language context parameters r3 ≡ Ok (pieces, now)

-- what was read behind the parameters
record Tail (language : List ℕ) (context : System) (parameters : Option (List (List ℕ))) (r3 : Rest) (pieces : ScopPieces) : Type 0 where
  statements : List StatementText
  r4 : Rest
  few : nat_lt 1024 (length statements) ≡ false
  counted : behind (count (length statements)) r3 ≡ Some r4
  r5 : Rest
  statements_fit : StatementsFit context.shape.parameters 1 statements
  statements_are : behind_all (flat_map said_statement statements) r4 ≡ Some r5
  items : List (Item (List (ℤ × List ℕ)))
  r6 : Rest
  items_fit : ItemsFit arrays_name AreArrays items
  one : has_one_special items ≡ true
  items_are : behind_all (said_to_close items) r5 ≡ Some r6
  end : no_second r6 ≡ None
  pieces_are : pieces ≡ record { language = language; context = context; parameters = parameters; statements = map statement_pieces statements; arrays = first_special items; extensions = kept_items items }

-- the pieces that were put together are these
made_pieces : (language : List ℕ) (context : System) (parameters : Option (List (List ℕ))) (found : Extensions (List (ℤ × List ℕ))) (all : List RawStatement) (statements : List StatementText) (items : List (Item (List (ℤ × List ℕ)))) (pieces : ScopPieces) (mid now : Rest)
    → read_ok (record { language = language; context = context; parameters = parameters; statements = all; arrays = found.special; extensions = found.others }) mid ≡ Ok (pieces, now) → all ≡ map statement_pieces statements
    → found ≡ record { special = first_special items; others = kept_items items }
    → pieces ≡ record { language = language; context = context; parameters = parameters; statements = map statement_pieces statements; arrays = first_special items; extensions = kept_items items }
made_pieces language context parameters found all statements items pieces mid now e s x =
    let made : ScopPieces = record { language = language; context = context; parameters = parameters; statements = all; arrays = found.special; extensions = found.others } in
    sym (same_value made pieces mid now e) ∙ (ap (λ (l : List RawStatement). record { language = language; context = context; parameters = parameters; statements = l; arrays = found.special; extensions = found.others }) s
    ∙ ap (λ (f : Extensions (List (ℤ × List ℕ))). record { language = language; context = context; parameters = parameters; statements = map statement_pieces statements; arrays = f.special; extensions = f.others }) x)

text_head : (bytes : List ℕ) (pieces : ScopPieces) (now : Rest) → scop (first_rest bytes) ≡ Ok (pieces, now) → Head bytes pieces now
unfolding scop opening
text_head bytes pieces now e =
    let start : Rest = from_open 1 (lines bytes) in
    let h : are_lines start.lines ≡ true = from_open_keeps 1 (lines bytes) (lines_are bytes) in
    let t0 = then_ok (literal open_word start) _ pieces now e in
    let s0 = literal_said open_word start t0.mid t0.value t0.first in
    let h0 : are_lines t0.mid.lines ≡ true = all_keeps (Literal open_word ∷ []) start t0.mid (one_alone (Literal open_word) start t0.mid s0) h in
    let t1 = then_ok (Rules.one_word t0.mid) _ pieces now t0.second in
    let w = one_word_said t1.value t0.mid t1.mid h0 t1.first in
    let h1 : are_lines t1.mid.lines ≡ true = all_keeps (Words (t1.value ∷ []) ∷ []) t0.mid t1.mid (one_alone (Words (t1.value ∷ [])) t0.mid t1.mid w.1) h0 in
    let t2 = then_ok (Rules.context t1.mid) _ pieces now t1.second in
    let c = context_said t2.value t1.mid t2.mid t2.first in
    let h2 : are_lines t2.mid.lines ≡ true = all_keeps (said_the_context c.0 t2.value) t1.mid t2.mid c.2 h1 in
    let t3 = then_ok (Rules.parameters t2.value.shape.parameters t2.mid) _ pieces now t2.second in
    let p = parameters_said t2.value.shape.parameters t3.value t2.mid t3.mid h2 t3.first in
    record {
      r0 = t0.mid;
      opened = s0;
      language = t1.value;
      r1 = t1.mid;
      named = w.0;
      language_said = w.1;
      is_counted = c.0;
      context = t2.value;
      r2 = t2.mid;
      context_fits = c.1;
      context_is = c.2;
      parameters = t3.value;
      r3 = t3.mid;
      names = p.0;
      parameters_are = p.1;
      are_left = all_keeps (said_parameters t3.value) t2.mid t3.mid p.1 h2;
      goes_on = t3.second;
    }

text_tail : (language : List ℕ) (context : System) (parameters : Option (List (List ℕ))) (r3 : Rest) (pieces : ScopPieces) (now : Rest) → are_lines r3.lines ≡ true → behind_parameters language context parameters r3 ≡ Ok (pieces, now)
    → Tail language context parameters r3 pieces
text_tail language context parameters r3 pieces now h3 e =
    let t4 = then_ok (statement_count r3) _ pieces now e in
    let n = statement_count_said t4.value r3 t4.mid t4.first in
    let h4 : are_lines t4.mid.lines ≡ true = all_keeps (count t4.value ∷ []) r3 t4.mid (one_alone (count t4.value) r3 t4.mid n.1) h3 in
    let t5 = then_ok (statements_from context.shape.parameters 1 t4.value [] t4.mid) _ pieces now t4.second in
    let s = statements_said context.shape.parameters 1 t4.value t5.value [] t4.mid t5.mid h4 t5.first in
    let h5 : are_lines t5.mid.lines ≡ true = all_keeps (flat_map said_statement s.statements) t4.mid t5.mid s.said h4 in
    let t6 = then_ok (globals t5.mid) _ pieces now t5.second in
    let g = globals_said t6.value t5.mid t6.mid h5 t6.first in
    let m = no_more_then t6.mid _ pieces now t6.second in
    record {
      statements = s.statements;
      r4 = t4.mid;
      few = ap (nat_lt 1024) s.size ∙ n.0;
      counted = ap (λ (x : ℕ). behind (count x) r3) s.size ∙ n.1;
      r5 = t5.mid;
      statements_fit = s.fit;
      statements_are = s.said;
      items = g.items;
      r6 = t6.mid;
      items_fit = g.fit;
      one = sym (follow_is g.items) ∙ g.free;
      items_are = g.said;
      end = m.0;
      pieces_are = made_pieces language context parameters t6.value t5.value s.statements g.items pieces t6.mid now m.1 s.all_are (g.next_is ∙ gathered_from g.items g.free);
    }

text_of : (bytes : List ℕ) (pieces : ScopPieces) (now : Rest) → (a : Head bytes pieces now) → Tail a.language a.context a.parameters a.r3 pieces → DocumentRead bytes pieces
text_of bytes pieces now a t =
    let start : Rest = from_open 1 (lines bytes) in
    let d : Document = record { language = a.language; is_counted = a.is_counted; context = a.context; parameters = a.parameters; statements = t.statements; items = t.items } in
    let tail3 : List Said = flat_map said_statement t.statements ++ said_to_close t.items in
    let tail2 : List Said = said_parameters a.parameters ++ (count (length t.statements) ∷ tail3) in
    let said3 : behind_all tail3 t.r4 ≡ Some t.r6 = join (flat_map said_statement t.statements) (said_to_close t.items) t.r4 t.r5 t.r6 t.statements_are t.items_are in
    let said2 : behind_all tail2 a.r2 ≡ Some t.r6 = join (said_parameters a.parameters) (count (length t.statements) ∷ tail3) a.r2 a.r3 t.r6 a.parameters_are (join_one (count (length t.statements)) tail3 a.r3 t.r4 t.r6 t.counted said3) in
    let said1 : behind_all (said_the_context a.is_counted a.context ++ tail2) a.r1 ≡ Some t.r6 = join (said_the_context a.is_counted a.context) tail2 a.r1 a.r2 t.r6 a.context_is said2 in
    record {
      document = d;
      fits = record { language = a.named; context = a.context_fits; names = a.names; few = t.few; statements = t.statements_fit; items = t.items_fit; one = t.one };
      text = record {
        rest = t.r6;
        said = join_one (Literal open_word) (Words (a.language ∷ []) ∷ (said_the_context a.is_counted a.context ++ tail2)) start a.r0 t.r6 a.opened
            (join_one (Words (a.language ∷ [])) (said_the_context a.is_counted a.context ++ tail2) a.r0 a.r1 t.r6 a.language_said said1);
        one = t.end;
      };
      pieces_are = t.pieces_are;
    }

scop_said : (bytes : List ℕ) (pieces : ScopPieces) (now : Rest) → scop (first_rest bytes) ≡ Ok (pieces, now) → DocumentRead bytes pieces
scop_said bytes pieces now e =
    let a = text_head bytes pieces now e in
    text_of bytes pieces now a (text_tail a.language a.context a.parameters a.r3 pieces now a.are_left a.goes_on)

answered : (o : Outcome ScopPieces) (pieces : ScopPieces) → answer_of o ≡ Ok pieces → (now : Rest) × (o ≡ Ok (pieces, now))
answered (Ok p) pieces e = (p.1, ap (λ (x : ScopPieces). read_ok x p.1) (same_ok p.0 pieces e))
answered (Err r) pieces e = absurd (not_ok r pieces e)

-- a text that is read is one of a document that fits
pub read_is_text : (bytes : List ℕ) (pieces : ScopPieces) → pieces_in bytes ≡ Ok pieces → DocumentRead bytes pieces
unfolding pieces_in
read_is_text bytes pieces e =
    let a = answered (scop (first_rest bytes)) pieces e in
    scop_said bytes pieces a.0 a.1
