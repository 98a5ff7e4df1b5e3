-- Statements and whole texts, read and said.
use Rattle.std.proofs.Common.{◌≡◌, refl, sym, ap, subst, ◌∙◌, Some, None, ℕ, ◌+◌, ◌-◌, ◌≤◌, zero, suc, List, [], ◌∷◌, ◌++◌, length, map, Ok, true, false, arith}
use Rattle.std.specs.Prelude.{codes, nat_lt}
use Rattle.std.specs.List.{flat_map}
use Rattle.std.proofs.lemmas.List.{append-nil}
use Rattle.suite_base.specs.declared.refusals.Which.TheVariants as which
use Rattle.relation_core.specs.Systems.{System}
use Rattle.scop_data.specs.declared.accesses.AccessKind.{AccessKind}
use Rattle.scop_data.specs.declared.statements.Body.{Body}
use Rattle.scop_data.specs.declared.raw_pieces.RawStatement.{RawStatement}
use Rattle.scop_core.specs.Printable.{body_name}
use Rattle.scop_reader.specs.declared.roles.Role.TheVariants.{Domain, Scattering}
use Rattle.scop_reader.specs.Lines.{Rest}
use Rattle.scop_reader.specs.Rules
use Rattle.scop_reader.specs.Rules.{count_line, accesses_from, relation_count, outputs_of_first, statement, statements_from, statement_count, names, parameter_names, Extensions, extensions_from, no_extensions, globals, close_word, open_word, from_open, opening, no_second, no_more, scop}
use Rattle.scop_reader.specs.Documents.{Said, count, Item, Parts, StatementText, said_relation, said_access, said_item, said_body, said_statement, access_pieces, statement_pieces, first_special, kept_items, behind, behind_all}
use Rattle.scop_reader.specs.Texts.{has_one_special}
use Rattle.scop_reader.proofs.GrammarLines.{then_ok, read_ok, same_value, same_left, are_lines, all_keeps, split, split_one, join, join_one, one_alone}
use Rattle.scop_reader.proofs.GrammarWords.{count_line_reads, count_line_said}
use Rattle.scop_reader.proofs.GrammarParts.{within_then, push_list}
use Rattle.scop_reader.proofs.GrammarRelations.{IsRelation, WordRead, domain_reads, domain_said, scattering_reads, scattering_said, AreAccesses, accesses_reads, accesses_said}
use Rattle.scop_reader.proofs.GrammarBodies.{IsBody}
use Rattle.scop_reader.proofs.GrammarExtensions.{ItemsFit, gathered_from, follow, follow_is, items_reads, items_said}

-- ---- the numbers of relations and statements

pub relation_count_reads : (k n : ℕ) (rest now : Rest) → nat_lt 258 (n + 2) ≡ false → behind (count (n + 2)) rest ≡ Some now → relation_count k rest ≡ Ok (n + 2, now)
unfolding relation_count
relation_count_reads k n rest now few e =
    let line = count_line_reads 2 (n + 2) rest now e (omega arith) in
    rw (line.1, few) refl

record RelationCount (n : ℕ) (rest now : Rest) : Type 0 where
  least : 2 ≤ n
  few : nat_lt 258 n ≡ false
  said : behind (count n) rest ≡ Some now

relation_count_said : (k n : ℕ) (rest now : Rest) → relation_count k rest ≡ Ok (n, now) → RelationCount n rest now
unfolding relation_count
relation_count_said k n rest now e =
    let t = then_ok (count_line 2 rest) _ n now e in
    let line = count_line_said 2 t.value rest t.mid t.first in
    let w = within_then 258 t.value.1 which.Accesses k t.mid _ n now t.second in
    subst (λ (m : ℕ). RelationCount m rest now) (same_value t.value.1 n t.mid now w.1) (record { least = line.0; few = w.0; said = line.1 ∙ ap (λ (r : Rest). Some r) (same_left t.value.1 n t.mid now w.1) })

pub statement_count_reads : (n : ℕ) (rest now : Rest) → nat_lt 1024 n ≡ false → behind (count n) rest ≡ Some now → statement_count rest ≡ Ok (n, now)
unfolding statement_count
statement_count_reads n rest now few e =
    let line = count_line_reads 0 n rest now e (omega arith) in
    rw (line.1, few) refl

pub statement_count_said : (n : ℕ) (rest now : Rest) → statement_count rest ≡ Ok (n, now) → (nat_lt 1024 n ≡ false) × (behind (count n) rest ≡ Some now)
unfolding statement_count
statement_count_said n rest now e =
    let t = then_ok (count_line 0 rest) _ n now e in
    let line = count_line_said 0 t.value rest t.mid t.first in
    let w = within_then 1024 t.value.1 which.Statements 0 t.mid _ n now t.second in
    let same : t.value.1 ≡ n = same_value t.value.1 n t.mid now w.1 in
    (ap (nat_lt 1024) (sym same) ∙ w.0, ap (λ (m : ℕ). behind (count m) rest) (sym same) ∙ (line.1 ∙ ap (λ (r : Rest). Some r) (same_left t.value.1 n t.mid now w.1)))

-- ---- a statement

-- a statement that the rules read as number k
pub record StatementFits (parameters k : ℕ) (s : StatementText) : Type 0 where
  pub few : nat_lt 258 (length s.accesses + 2) ≡ false
  pub domain : IsRelation (Domain parameters None) k s.domain.is_counted s.domain.parts
  pub scattering : IsRelation (Scattering parameters (outputs_of_first s.domain.parts)) k s.scattering.is_counted s.scattering.parts
  pub accesses : AreAccesses parameters (outputs_of_first s.domain.parts) k s.accesses
  pub items : ItemsFit body_name (IsBody (outputs_of_first s.domain.parts)) s.items
  pub one : has_one_special s.items ≡ true

two_fewer : (n : ℕ) → n + 2 - 2 ≡ n
two_fewer n = omega arith

pub statement_reads : (parameters k : ℕ) (s : StatementText) (rest now : Rest) → StatementFits parameters k s → behind_all (said_statement s) rest ≡ Some now → statement parameters k rest ≡ Ok (statement_pieces s, now)
unfolding statement
statement_reads parameters k s rest now fits e =
    let n : ℕ = outputs_of_first s.domain.parts in
    let extensions : List Said = count (length s.items) ∷ flat_map (said_item said_body) s.items in
    let c0 = split_one (count (length s.accesses + 2)) (said_relation (codes "DOMAIN") s.domain ++ (said_relation (codes "SCATTERING") s.scattering ++ (flat_map said_access s.accesses ++ extensions))) rest now e in
    let c1 = split (said_relation (codes "DOMAIN") s.domain) (said_relation (codes "SCATTERING") s.scattering ++ (flat_map said_access s.accesses ++ extensions)) c0.mid now c0.second in
    let c2 = split (said_relation (codes "SCATTERING") s.scattering) (flat_map said_access s.accesses ++ extensions) c1.mid now c1.second in
    let c3 = split (flat_map said_access s.accesses) extensions c2.mid now c2.second in
    let c4 = split_one (count (length s.items)) (flat_map (said_item said_body) s.items) c3.mid now c3.second in
    let counted = count_line_reads 0 (length s.items) c3.mid c4.mid c4.first (omega arith) in
    let free : follow (no_extensions {A = Body}) s.items ≡ true = follow_is s.items ∙ fits.one in
    let read : extensions_from n (length s.items) no_extensions c4.mid ≡ Ok (record { special = first_special s.items; others = kept_items s.items }, now) =
    items_reads n (length s.items) s.items no_extensions c4.mid now fits.items free refl c4.second ∙ ap (λ (x : Extensions Body). read_ok x now) (gathered_from s.items free) in
    rw (
      relation_count_reads k (length s.accesses) rest c0.mid fits.few c0.first,
      domain_reads parameters k s.domain c0.mid c1.mid fits.domain c1.first,
      scattering_reads parameters n k s.scattering c1.mid c2.mid fits.scattering c2.first,
      two_fewer (length s.accesses),
      accesses_reads parameters n k (length s.accesses) s.accesses [] c2.mid c3.mid fits.accesses refl c3.first,
      counted.1,
      read,
    ) refl

pub record StatementRead (parameters k : ℕ) (made : RawStatement) (rest now : Rest) : Type 0 where
  pub text : StatementText
  pub fits : StatementFits parameters k text
  pub made_is : made ≡ statement_pieces text
  pub said : behind_all (said_statement text) rest ≡ Some now

-- what was read of a statement, piece by piece
record Pieces (parameters k : ℕ) (made : RawStatement) (rest now : Rest) : Type 0 where
  n : ℕ
  r0 : Rest
  counted : RelationCount n rest r0
  domain : List System
  r1 : Rest
  domain_read : WordRead (codes "DOMAIN") (Domain parameters None) k domain r0 r1
  scattering : List System
  r2 : Rest
  scattering_read : WordRead (codes "SCATTERING") (Scattering parameters (outputs_of_first domain)) k scattering r1 r2
  accesses : List (AccessKind × Parts)
  accesses_are : AreAccesses parameters (outputs_of_first domain) k accesses
  size : length accesses ≡ n - 2
  r3 : Rest
  accesses_said : behind_all (flat_map said_access accesses) r2 ≡ Some r3
  r4 : Rest
  items : List (Item Body)
  count_said : behind (count (length items)) r3 ≡ Some r4
  fit : ItemsFit body_name (IsBody (outputs_of_first domain)) items
  one : has_one_special items ≡ true
  items_said : behind_all (flat_map (said_item said_body) items) r4 ≡ Some now
  made_is : made ≡ record { domain = domain; scattering = scattering; accesses = map access_pieces accesses; body = first_special items; extensions = kept_items items }

pieces_read : (parameters k : ℕ) (made : RawStatement) (rest now : Rest) → are_lines rest.lines ≡ true → statement parameters k rest ≡ Ok (made, now) → Pieces parameters k made rest now
unfolding statement
pieces_read parameters k made rest now h e =
    let t0 = then_ok (relation_count k rest) _ made now e in
    let counted = relation_count_said k t0.value rest t0.mid t0.first in
    let h0 : are_lines t0.mid.lines ≡ true = all_keeps (count t0.value ∷ []) rest t0.mid (one_alone (count t0.value) rest t0.mid counted.said) h in
    let t1 = then_ok (Rules.domain parameters k t0.mid) _ made now t0.second in
    let domain = domain_said parameters k t1.value t0.mid t1.mid t1.first in
    let h1 : are_lines t1.mid.lines ≡ true = all_keeps (said_relation (codes "DOMAIN") domain.relation) t0.mid t1.mid domain.said h0 in
    let t2 = then_ok (Rules.scattering parameters (outputs_of_first t1.value) k t1.mid) _ made now t1.second in
    let scattering = scattering_said parameters (outputs_of_first t1.value) k t2.value t1.mid t2.mid t2.first in
    let h2 : are_lines t2.mid.lines ≡ true = all_keeps (said_relation (codes "SCATTERING") scattering.relation) t1.mid t2.mid scattering.said h1 in
    let t3 = then_ok (accesses_from parameters (outputs_of_first t1.value) k (t0.value - 2) [] t2.mid) _ made now t2.second in
    let accesses = accesses_said parameters (outputs_of_first t1.value) k (t0.value - 2) t3.value [] t2.mid t3.mid t3.first in
    let h3 : are_lines t3.mid.lines ≡ true = all_keeps (flat_map said_access accesses.accesses) t2.mid t3.mid accesses.said h2 in
    let t4 = then_ok (count_line 0 t3.mid) _ made now t3.second in
    let line = count_line_said 0 t4.value t3.mid t4.mid t4.first in
    let h4 : are_lines t4.mid.lines ≡ true = all_keeps (count t4.value.1 ∷ []) t3.mid t4.mid (one_alone (count t4.value.1) t3.mid t4.mid line.1) h3 in
    let t5 = then_ok (extensions_from (outputs_of_first t1.value) t4.value.1 no_extensions t4.mid) _ made now t4.second in
    let items = items_said (outputs_of_first t1.value) t4.value.1 t5.value no_extensions t4.mid t5.mid h4 t5.first in
    let found : Extensions Body = t5.value in
    let pieces : RawStatement = record { domain = t1.value; scattering = t2.value; accesses = t3.value; body = found.special; extensions = found.others } in
    let same : pieces ≡ made = same_value pieces made t5.mid now t5.second in
    let left : t5.mid ≡ now = same_left pieces made t5.mid now t5.second in
    let all : found ≡ record { special = first_special items.items; others = kept_items items.items } = items.next_is ∙ gathered_from items.items items.free in
    record {
      n = t0.value;
      r0 = t0.mid;
      counted = counted;
      domain = t1.value;
      r1 = t1.mid;
      domain_read = domain;
      scattering = t2.value;
      r2 = t2.mid;
      scattering_read = scattering;
      accesses = accesses.accesses;
      accesses_are = accesses.are;
      size = accesses.size;
      r3 = t3.mid;
      accesses_said = accesses.said;
      r4 = t4.mid;
      items = items.items;
      count_said = ap (λ (m : ℕ). behind (count m) t3.mid) items.size ∙ line.1;
      fit = items.fit;
      one = sym (follow_is items.items) ∙ items.free;
      items_said = items.said ∙ ap (λ (r : Rest). Some r) left;
      made_is = sym same ∙ (ap (λ (l : List (AccessKind × List System)). record { domain = t1.value; scattering = t2.value; accesses = l; body = found.special; extensions = found.others }) accesses.all_are
          ∙ ap (λ (x : Extensions Body). record { domain = t1.value; scattering = t2.value; accesses = map access_pieces accesses.accesses; body = x.special; extensions = x.others }) all);
    }

two_more : (n m : ℕ) → 2 ≤ n → m ≡ n - 2 → n ≡ m + 2
two_more n m h e = omega arith

text_of_pieces : (parameters k : ℕ) (made : RawStatement) (rest now : Rest) → Pieces parameters k made rest now → StatementRead parameters k made rest now
text_of_pieces parameters k made rest now p =
    let size : p.n ≡ length p.accesses + 2 = two_more p.n (length p.accesses) p.counted.least p.size in
    let d : Parts = p.domain_read.relation in
    let c : Parts = p.scattering_read.relation in
    let parts : d.parts ≡ p.domain = p.domain_read.parts_are in
    let outputs : outputs_of_first p.domain ≡ outputs_of_first d.parts = ap outputs_of_first (sym parts) in
    let text : StatementText = record { domain = d; scattering = c; accesses = p.accesses; items = p.items } in
    let extensions : List Said = count (length p.items) ∷ flat_map (said_item said_body) p.items in
    let tail : behind_all (flat_map said_access p.accesses ++ extensions) p.r2 ≡ Some now =
    join (flat_map said_access p.accesses) extensions p.r2 p.r3 now p.accesses_said (join_one (count (length p.items)) (flat_map (said_item said_body) p.items) p.r3 p.r4 now p.count_said p.items_said) in
    let from_domain : behind_all (said_relation (codes "DOMAIN") d ++ (said_relation (codes "SCATTERING") c ++ (flat_map said_access p.accesses ++ extensions))) p.r0 ≡ Some now =
    join (said_relation (codes "DOMAIN") d) (said_relation (codes "SCATTERING") c ++ (flat_map said_access p.accesses ++ extensions)) p.r0 p.r1 now p.domain_read.said
    (join (said_relation (codes "SCATTERING") c) (flat_map said_access p.accesses ++ extensions) p.r1 p.r2 now p.scattering_read.said tail) in
    record {
      text = text;
      fits = record {
        few = ap (nat_lt 258) (sym size) ∙ p.counted.few;
        domain = p.domain_read.is;
        scattering = subst (λ (n : ℕ). IsRelation (Scattering parameters n) k c.is_counted c.parts) outputs p.scattering_read.is;
        accesses = subst (λ (n : ℕ). AreAccesses parameters n k p.accesses) outputs p.accesses_are;
        items = subst (λ (n : ℕ). ItemsFit body_name (IsBody n) p.items) outputs p.fit;
        one = p.one;
      };
      made_is = p.made_is ∙ (ap (λ (l : List System). record { domain = l; scattering = p.scattering; accesses = map access_pieces p.accesses; body = first_special p.items; extensions = kept_items p.items }) (sym parts)
          ∙ ap (λ (l : List System). record { domain = d.parts; scattering = l; accesses = map access_pieces p.accesses; body = first_special p.items; extensions = kept_items p.items }) (sym p.scattering_read.parts_are));
      said = join_one (count (length p.accesses + 2)) (said_relation (codes "DOMAIN") d ++ (said_relation (codes "SCATTERING") c ++ (flat_map said_access p.accesses ++ extensions))) rest p.r0 now
          (ap (λ (m : ℕ). behind (count m) rest) (sym size) ∙ p.counted.said) from_domain;
    }

pub statement_said : (parameters k : ℕ) (made : RawStatement) (rest now : Rest) → are_lines rest.lines ≡ true → statement parameters k rest ≡ Ok (made, now) → StatementRead parameters k made rest now
statement_said parameters k made rest now h e = text_of_pieces parameters k made rest now (pieces_read parameters k made rest now h e)

-- ---- statements one after another

abbrev pub StatementsFit : ℕ → ℕ → List StatementText → Type 0
StatementsFit parameters k [] = Unit {0}
StatementsFit parameters k (s ∷ statements) = StatementFits parameters k s × StatementsFit parameters (k + 1) statements

pub statements_reads : (parameters k n : ℕ) (statements : List StatementText) (found : List RawStatement) (rest now : Rest) → StatementsFit parameters k statements → length statements ≡ n
    → behind_all (flat_map said_statement statements) rest ≡ Some now → statements_from parameters k n found rest ≡ Ok (found ++ map statement_pieces statements, now)
unfolding statements_from
statements_reads parameters k zero [] found rest now fit size e =
    let same : rest ≡ now = cc in
    rw (append-nil, same) refl
statements_reads parameters k (suc n) [] found rest now fit size e = absurd (omega (arith, size))
statements_reads parameters k zero (s ∷ statements) found rest now fit size e = absurd (omega (arith, size))
statements_reads parameters k (suc n) (s ∷ statements) found rest now fit size e =
    let c = split (said_statement s) (flat_map said_statement statements) rest now e in
    let one : statement parameters k rest ≡ Ok (statement_pieces s, c.mid) = statement_reads parameters k s rest c.mid fit.0 c.first in
    let more = statements_reads parameters (k + 1) n statements (found ++ statement_pieces s ∷ []) c.mid now fit.1 (omega (arith, size)) c.second in
    rw one (more ∙ ap (λ (l : List RawStatement). read_ok l now) (push_list found (statement_pieces s) (map statement_pieces statements)))

pub record StatementsRead (parameters k n : ℕ) (found all : List RawStatement) (rest now : Rest) : Type 0 where
  pub statements : List StatementText
  pub fit : StatementsFit parameters k statements
  pub all_are : all ≡ found ++ map statement_pieces statements
  pub size : length statements ≡ n
  pub said : behind_all (flat_map said_statement statements) rest ≡ Some now

pub statements_said : (parameters k n : ℕ) (all found : List RawStatement) (rest now : Rest) → are_lines rest.lines ≡ true → statements_from parameters k n found rest ≡ Ok (all, now) → StatementsRead parameters k n found all rest now
unfolding statements_from
statements_said parameters k zero all found rest now h e =
    record { statements = []; fit = tt; all_are = sym (same_value found all rest now e) ∙ sym (append-nil found); size = refl; said = ap (λ (r : Rest). Some r) (same_left found all rest now e) }
statements_said parameters k (suc n) all found rest now h e =
    let t = then_ok (statement parameters k rest) _ all now e in
    let one = statement_said parameters k t.value rest t.mid h t.first in
    let h1 : are_lines t.mid.lines ≡ true = all_keeps (said_statement one.text) rest t.mid one.said h in
    let more = statements_said parameters (k + 1) n all (found ++ t.value ∷ []) t.mid now h1 t.second in
    record {
      statements = one.text ∷ more.statements;
      fit = (one.fits, more.fit);
      all_are = more.all_are ∙ (push_list found t.value (map statement_pieces more.statements) ∙ ap (λ (s : RawStatement). found ++ s ∷ map statement_pieces more.statements) one.made_is);
      size = ap suc more.size;
      said = join (said_statement one.text) (flat_map said_statement more.statements) rest t.mid now one.said more.said;
    }
