-- Relations, read and said: their number of parts where it is written, the context, domains, scatterings, accesses.
use Rattle.std.proofs.Common.{◌≡◌, refl, sym, ap, subst, ◌∙◌, Option, Some, None, ℕ, ℤ, pos, ◌+◌, ◌≤◌, zero, suc, List, [], ◌∷◌, ◌++◌, length, map, Ok, Bool, true, false, ◌==◌, inl, inr, arith}
use Rattle.std.specs.Prelude.{nat_lt, ◌||◌, codes}
use Rattle.std.specs.List.{flat_map}
use Rattle.std.specs.Str.{bytes_eq}
use Rattle.std.proofs.lemmas.List.{append-nil}
use Rattle.std.proofs.lemmas.Bool.Decides.{Decides-eqb}
use Rattle.std.proofs.lemmas.Slice.Eq.{bytes_eq-Decides}
use Rattle.suite_base.specs.declared.refusals.Refusal.{Refusal}
use Rattle.suite_base.specs.declared.refusals.Refusal.TheVariants.{BadScop}
use Rattle.suite_base.specs.declared.refusals.Which.TheVariants as which
use Rattle.suite_base.specs.Words.{content}
use Rattle.suite_base.proofs.LineCuts.{bool_tells}
use Rattle.relation_core.specs.Systems.{System}
use Rattle.scop_data.specs.declared.accesses.AccessKind.{AccessKind}
use Rattle.scop_data.specs.declared.accesses.AccessKind.TheVariants as kind
use Rattle.scop_data.specs.LineWords.{header_numbers}
use Rattle.scop_core.specs.Layouts.{access_word}
use Rattle.scop_core.specs.Printable.{has_part}
use Rattle.scop_reader.specs.declared.roles.Role.{Role}
use Rattle.scop_reader.specs.declared.roles.Role.TheVariants.{Context, Domain, Scattering, Access}
use Rattle.scop_reader.specs.Lines.{Rest, Line, words_of, word_bytes, behind_silent}
use Rattle.scop_reader.specs.Reading.{said_line, next_said, first_line, first_of, literal, pure}
use Rattle.scop_reader.specs.Rules
use Rattle.scop_reader.specs.Rules.{count_line, role_behind, parts_from, is_counted, part_count, counted, within, one_part, context_counted, access_kind, some_of, kind_line, accesses_from}
use Rattle.scop_reader.specs.Documents.{Said, Literal, Numbers, Parts, count, said_row, said_part, said_count, said_relation, said_access, access_pieces, behind, behind_all}
use Rattle.scop_reader.proofs.GrammarLines.{then_ok, read_ok, same_value, same_left, behind_line, line_behind, if_cases, split, split_one, join, join_one, one_alone}
use Rattle.scop_reader.proofs.GrammarWords.{length-are_numbers, length-word_bytes, count_line_reads, count_line_said, literal_reads, literal_said, check_end}
use Rattle.scop_reader.proofs.GrammarParts.{within_then, Fits, part_reads, part_said, push_list}

-- ---- the line that comes next

first_is : (n : ℕ) (ls : List (List ℕ)) (line : Line) (now : Rest) → first_line (record { number = n; lines = ls }) ≡ Ok (line, now) → first_of ls ≡ line.bytes
first_is n [] line now e = absurd (cc)
first_is n (l ∷ ls) line now e = ap (λ (x : Line). x.bytes) (same_value (record { number = n; bytes = l }) line (record { number = n + 1; lines = ls }) now e)

pub next_is : (rest now : Rest) (line : Line) → said_line rest ≡ Ok (line, now) → next_said rest ≡ line.bytes
unfolding said_line next_said
next_is rest now line e =
    let skipped : Rest = behind_silent rest.number rest.lines in
    first_is skipped.number skipped.lines line now e

-- whether the next line has one word, where it is one of numbers
pub next_counted : (ns : List ℤ) (rest now : Rest) → behind (Numbers ns) rest ≡ Some now → is_counted (next_said rest) ≡ (length ns == 1)
next_counted ns rest now e =
    let l = behind_line (Numbers ns) rest now refl e in
    let long : length (words_of l.line.bytes) ≡ length ns = sym (length-word_bytes (words_of l.line.bytes)) ∙ length-are_numbers (word_bytes (words_of l.line.bytes)) ns l.said_is in
    ap is_counted (next_is rest now l.line l.read) ∙ ap (λ (n : ℕ). n == 1) long

-- ---- parts in a row

abbrev pub AllFit : Role → ℕ → List System → Type 0
AllFit role k [] = Unit {0}
AllFit role k (p ∷ ps) = Fits role k p × AllFit (role_behind role p) k ps

pub parts_from_reads : (role : Role) (k n : ℕ) (ps found : List System) (rest now : Rest) → AllFit role k ps → length ps ≡ n → behind_all (flat_map said_part ps) rest ≡ Some now
    → parts_from role k n found rest ≡ Ok (found ++ ps, now)
unfolding parts_from
parts_from_reads role k zero [] found rest now fit size e =
    let same : rest ≡ now = cc in
    rw (append-nil, same) refl
parts_from_reads role k (suc n) [] found rest now fit size e = absurd (omega (arith, size))
parts_from_reads role k zero (p ∷ ps) found rest now fit size e = absurd (omega (arith, size))
parts_from_reads role k (suc n) (p ∷ ps) found rest now fit size e =
    let s = split (said_part p) (flat_map said_part ps) rest now e in
    let one : Rules.part role k rest ≡ Ok (p, s.mid) = part_reads role k p rest s.mid fit.0 s.first in
    let more = parts_from_reads (role_behind role p) k n ps (found ++ p ∷ []) s.mid now fit.1 (omega (arith, size)) s.second in
    rw one (more ∙ ap (λ (l : List System). read_ok l now) (push_list found p ps))

pub record PartsRead (role : Role) (k n : ℕ) (found all : List System) (rest now : Rest) : Type 0 where
  pub parts : List System
  pub all_are : all ≡ found ++ parts
  pub fit : AllFit role k parts
  pub size : length parts ≡ n
  pub said : behind_all (flat_map said_part parts) rest ≡ Some now

pub parts_from_said : (role : Role) (k n : ℕ) (all found : List System) (rest now : Rest) → parts_from role k n found rest ≡ Ok (all, now) → PartsRead role k n found all rest now
unfolding parts_from
parts_from_said role k zero all found rest now e =
    record { parts = []; all_are = sym (same_value found all rest now e) ∙ sym (append-nil found); fit = tt; size = refl; said = ap (λ (r : Rest). Some r) (same_left found all rest now e) }
parts_from_said role k (suc n) all found rest now e =
    let t = then_ok (Rules.part role k rest) _ all now e in
    let one = part_said role k t.value rest t.mid t.first in
    let more = parts_from_said (role_behind role t.value) k n all (found ++ t.value ∷ []) t.mid now t.second in
    record {
      parts = t.value ∷ more.parts;
      all_are = more.all_are ∙ push_list found t.value more.parts;
      fit = (one.0, more.fit);
      size = ap suc more.size;
      said = join (said_part t.value) (flat_map said_part more.parts) rest t.mid now one.1 more.said;
    }

-- ---- the number of parts

pub part_count_reads : (k n : ℕ) (rest now : Rest) → 1 ≤ n → nat_lt 64 n ≡ false → behind (count n) rest ≡ Some now → part_count k rest ≡ Ok (n, now)
unfolding part_count
part_count_reads k n rest now some few e =
    let line = count_line_reads 1 n rest now e some in
    rw (line.1, few) refl

pub record CountRead (n : ℕ) (is_counted : Bool) (rest now : Rest) : Type 0 where
  pub some : 1 ≤ n
  pub few : nat_lt 64 n ≡ false
  pub told : (is_counted || (n == 1)) ≡ true
  pub said : behind_all (said_count is_counted n) rest ≡ Some now

pub part_count_said : (k n : ℕ) (rest now : Rest) → part_count k rest ≡ Ok (n, now) → CountRead n true rest now
unfolding part_count
part_count_said k n rest now e =
    let t = then_ok (count_line 1 rest) _ n now e in
    let line = count_line_said 1 t.value rest t.mid t.first in
    let w = within_then 64 t.value.1 which.Parts k t.mid _ n now t.second in
    let same : t.value.1 ≡ n = same_value t.value.1 n t.mid now w.1 in
    let left : t.mid ≡ now = same_left t.value.1 n t.mid now w.1 in
    let said : behind_all (count t.value.1 ∷ []) rest ≡ Some now = one_alone (count t.value.1) rest now (line.1 ∙ ap (λ (r : Rest). Some r) left) in
    subst (λ (m : ℕ). CountRead m true rest now) same (record { some = line.0; few = w.0; told = refl; said = said })

pub counted_said : (k n : ℕ) (rest now : Rest) → counted k rest ≡ Ok (n, now) → (c : Bool) × CountRead n c rest now
unfolding counted
counted_said k n rest now e =
    elim (if_cases (is_counted (next_said rest)) (part_count k rest) (pure 1 rest) (Ok (n, now)) e) [
      | inl one ↦ (true, part_count_said k n rest now one.1)
      | inr none ↦
          let same : 1 ≡ n = same_value 1 n rest now none.1 in
          let left : rest ≡ now = same_left 1 n rest now none.1 in
          (false, subst (λ (m : ℕ). CountRead m false rest now) same (record { some = omega arith; few = refl; told = refl; said = ap (λ (r : Rest). Some r) left }))
    ]

-- ---- relations

-- parts of a relation in this role, whether their number is written or not
pub record IsRelation (role : Role) (k : ℕ) (is_counted : Bool) (parts : List System) : Type 0 where
  pub fit : AllFit role k parts
  pub some : has_part parts ≡ true
  pub few : nat_lt 64 (length parts) ≡ false
  pub told : (is_counted || (length parts == 1)) ≡ true

some_parts : (ps : List System) → has_part ps ≡ true → 1 ≤ length ps
some_parts [] e = absurd (cc)
some_parts (p ∷ ps) e = omega arith

parts_some : (ps : List System) → 1 ≤ length ps → has_part ps ≡ true
parts_some [] e = absurd (omega (arith, e))
parts_some (p ∷ ps) e = refl

abbrev pub said_parts : Bool → List System → List Said
said_parts c ps = said_count c (length ps) ++ flat_map said_part ps

-- what the number of parts is read as, and what is left
pub record Counted (k n : ℕ) (more : List Said) (rest now : Rest) : Type 0 where
  pub mid : Rest
  pub read : counted k rest ≡ Ok (n, mid)
  pub said : behind_all more mid ≡ Some now

counted_reads : (k : ℕ) (c : Bool) (ps : List System) (rest now : Rest) → has_part ps ≡ true → nat_lt 64 (length ps) ≡ false → (c || (length ps == 1)) ≡ true → behind_all (said_parts c ps) rest ≡ Some now
    → Counted k (length ps) (flat_map said_part ps) rest now
unfolding counted
counted_reads k true ps rest now some few told e =
    let s = split_one (count (length ps)) (flat_map said_part ps) rest now e in
    let one : is_counted (next_said rest) ≡ true = next_counted (pos (length ps) ∷ []) rest s.mid s.first in
    record { mid = s.mid; read = rw one (part_count_reads k (length ps) rest s.mid (some_parts ps some) few s.first); said = s.second }
counted_reads k false [] rest now some few told e = absurd (cc)
counted_reads k false (p ∷ []) rest now some few told e =
    let s = split_one (Numbers (header_numbers p)) (map said_row p.rows ++ []) rest now e in
    let none : is_counted (next_said rest) ≡ false = next_counted (header_numbers p) rest s.mid s.first in
    record { mid = rest; read = rw none refl; said = e }
counted_reads k false (p ∷ q ∷ ps) rest now some few told e = absurd (omega (arith, (Decides-eqb (length (p ∷ q ∷ ps)) 1).0 told))

pub parts_reads : (role : Role) (k : ℕ) (c : Bool) (ps : List System) (rest now : Rest) → IsRelation role k c ps → behind_all (said_parts c ps) rest ≡ Some now → Rules.parts role k rest ≡ Ok (ps, now)
unfolding Rules.parts
parts_reads role k c ps rest now is e =
    let n = counted_reads k c ps rest now is.some is.few is.told e in
    rw n.read (parts_from_reads role k (length ps) ps [] n.mid now is.fit refl n.said)

pub record RelationRead (role : Role) (k : ℕ) (parts : List System) (rest now : Rest) : Type 0 where
  pub is_counted : Bool
  pub is : IsRelation role k is_counted parts
  pub said : behind_all (said_parts is_counted parts) rest ≡ Some now

pub parts_said : (role : Role) (k : ℕ) (ps : List System) (rest now : Rest) → Rules.parts role k rest ≡ Ok (ps, now) → RelationRead role k ps rest now
unfolding Rules.parts
parts_said role k ps rest now e =
    let t = then_ok (counted k rest) _ ps now e in
    let n = counted_said k t.value rest t.mid t.first in
    let read = parts_from_said role k t.value ps [] t.mid now t.second in
    let all : read.parts ≡ ps = sym read.all_are in
    let size : t.value ≡ length read.parts = sym read.size in
    let count_said : behind_all (said_count n.0 (length read.parts)) rest ≡ Some t.mid = subst (λ (m : ℕ). behind_all (said_count n.0 m) rest ≡ Some t.mid) size n.1.said in
    subst (λ (l : List System). RelationRead role k l rest now) all (record {
      is_counted = n.0;
      is = record {
        fit = read.fit;
        some = parts_some read.parts (subst (λ (m : ℕ). 1 ≤ m) size n.1.some);
        few = subst (λ (m : ℕ). nat_lt 64 m ≡ false) size n.1.few;
        told = subst (λ (m : ℕ). (n.0 || (m == 1)) ≡ true) size n.1.told;
      };
      said = join (said_count n.0 (length read.parts)) (flat_map said_part read.parts) rest t.mid now count_said read.said;
    })

-- ---- a relation behind its type word

pub domain_reads : (parameters k : ℕ) (r : Parts) (rest now : Rest) → IsRelation (Domain parameters None) k r.is_counted r.parts → behind_all (said_relation (codes "DOMAIN") r) rest ≡ Some now
    → Rules.domain parameters k rest ≡ Ok (r.parts, now)
unfolding Rules.domain
domain_reads parameters k r rest now is e =
    let s = split_one (Literal (codes "DOMAIN")) (said_parts r.is_counted r.parts) rest now e in
    rw (literal_reads (codes "DOMAIN") rest s.mid s.first) (parts_reads (Domain parameters None) k r.is_counted r.parts s.mid now is s.second)

pub scattering_reads : (parameters iterators k : ℕ) (r : Parts) (rest now : Rest) → IsRelation (Scattering parameters iterators) k r.is_counted r.parts → behind_all (said_relation (codes "SCATTERING") r) rest ≡ Some now
    → Rules.scattering parameters iterators k rest ≡ Ok (r.parts, now)
unfolding Rules.scattering
scattering_reads parameters iterators k r rest now is e =
    let s = split_one (Literal (codes "SCATTERING")) (said_parts r.is_counted r.parts) rest now e in
    rw (literal_reads (codes "SCATTERING") rest s.mid s.first) (parts_reads (Scattering parameters iterators) k r.is_counted r.parts s.mid now is s.second)

-- the relation with these parts that was read
pub record WordRead (word : List ℕ) (role : Role) (k : ℕ) (parts : List System) (rest now : Rest) : Type 0 where
  pub relation : Parts
  pub parts_are : relation.parts ≡ parts
  pub is : IsRelation role k relation.is_counted relation.parts
  pub said : behind_all (said_relation word relation) rest ≡ Some now

word_read : (word : List ℕ) (role : Role) (k : ℕ) (ps : List System) (rest mid now : Rest) → behind (Literal word) rest ≡ Some mid → RelationRead role k ps mid now → WordRead word role k ps rest now
word_read word role k ps rest mid now first r = record {
  relation = record { is_counted = r.is_counted; parts = ps };
  parts_are = refl;
  is = r.is;
  said = join_one (Literal word) (said_parts r.is_counted ps) rest mid now first r.said;
}

pub domain_said : (parameters k : ℕ) (ps : List System) (rest now : Rest) → Rules.domain parameters k rest ≡ Ok (ps, now) → WordRead (codes "DOMAIN") (Domain parameters None) k ps rest now
unfolding Rules.domain
domain_said parameters k ps rest now e =
    let t = then_ok (literal (codes "DOMAIN") rest) _ ps now e in
    word_read (codes "DOMAIN") (Domain parameters None) k ps rest t.mid now (literal_said (codes "DOMAIN") rest t.mid t.value t.first) (parts_said (Domain parameters None) k ps t.mid now t.second)

pub scattering_said : (parameters iterators k : ℕ) (ps : List System) (rest now : Rest) → Rules.scattering parameters iterators k rest ≡ Ok (ps, now)
    → WordRead (codes "SCATTERING") (Scattering parameters iterators) k ps rest now
unfolding Rules.scattering
scattering_said parameters iterators k ps rest now e =
    let t = then_ok (literal (codes "SCATTERING") rest) _ ps now e in
    word_read (codes "SCATTERING") (Scattering parameters iterators) k ps rest t.mid now (literal_said (codes "SCATTERING") rest t.mid t.value t.first) (parts_said (Scattering parameters iterators) k ps t.mid now t.second)

-- ---- the context

abbrev pub said_the_context : Bool → System → List Said
said_the_context c p = said_relation (codes "CONTEXT") (record { is_counted = c; parts = p ∷ [] })

one_part_reads : (rest now : Rest) → behind (count 1) rest ≡ Some now → one_part rest ≡ Ok (tt, now)
unfolding one_part
one_part_reads rest now e =
    let line = count_line_reads 1 1 rest now e (omega arith) in
    rw (line.1) refl

one_part_said : (rest now : Rest) (u : Unit {0}) → one_part rest ≡ Ok (u, now) → behind (count 1) rest ≡ Some now
unfolding one_part
one_part_said rest now u e =
    let t = then_ok (count_line 1 rest) _ u now e in
    let line = count_line_said 1 t.value rest t.mid t.first in
    let c = check_end (t.value.1 == 1) (BadScop t.value.0.number) t.mid now u t.second in
    let one : t.value.1 ≡ 1 = (Decides-eqb t.value.1 1).0 c.0 in
    subst (λ (n : ℕ). behind (count n) rest ≡ Some now) one (line.1 ∙ ap (λ (r : Rest). Some r) c.1)

pub without_end : (a : List Said) (rest now : Rest) → behind_all (a ++ []) rest ≡ Some now → behind_all a rest ≡ Some now
without_end a rest now e = sym (ap (λ (l : List Said). behind_all l rest) (append-nil a)) ∙ e

pub with_end : (a : List Said) (rest now : Rest) → behind_all a rest ≡ Some now → behind_all (a ++ []) rest ≡ Some now
with_end a rest now e = ap (λ (l : List Said). behind_all l rest) (append-nil a) ∙ e

pub record ContextCount (c : Bool) (p : System) (rest now : Rest) : Type 0 where
  pub mid : Rest
  pub read : context_counted rest ≡ Ok (tt, mid)
  pub said : behind_all (said_part p) mid ≡ Some now

context_counted_reads : (c : Bool) (p : System) (rest now : Rest) → behind_all (said_parts c (p ∷ [])) rest ≡ Some now → ContextCount c p rest now
unfolding context_counted
context_counted_reads true p rest now e =
    let s = split_one (count 1) (said_part p ++ []) rest now e in
    let one : is_counted (next_said rest) ≡ true = next_counted (pos 1 ∷ []) rest s.mid s.first in
    record { mid = s.mid; read = rw one (one_part_reads rest s.mid s.first); said = without_end (said_part p) s.mid now s.second }
context_counted_reads false p rest now e =
    let s = split_one (Numbers (header_numbers p)) (map said_row p.rows ++ []) rest now e in
    let none : is_counted (next_said rest) ≡ false = next_counted (header_numbers p) rest s.mid s.first in
    record { mid = rest; read = rw none refl; said = without_end (said_part p) rest now e }

context_counted_said : (rest now : Rest) (u : Unit {0}) → context_counted rest ≡ Ok (u, now) → (c : Bool) × (behind_all (said_count c 1) rest ≡ Some now)
unfolding context_counted
context_counted_said rest now u e =
    elim (if_cases (is_counted (next_said rest)) (one_part rest) (pure tt rest) (Ok (u, now)) e) [
      | inl one ↦ (true, one_alone (count 1) rest now (one_part_said rest now u one.1))
      | inr none ↦ (false, ap (λ (r : Rest). Some r) (same_left tt u rest now none.1))
    ]

pub context_reads : (c : Bool) (p : System) (rest now : Rest) → Fits Context 0 p → behind_all (said_the_context c p) rest ≡ Some now → Rules.context rest ≡ Ok (p, now)
unfolding Rules.context
context_reads c p rest now fits e =
    let s = split_one (Literal (codes "CONTEXT")) (said_parts c (p ∷ [])) rest now e in
    let n = context_counted_reads c p s.mid now s.second in
    rw (literal_reads (codes "CONTEXT") rest s.mid s.first, n.read) (part_reads Context 0 p n.mid now fits n.said)

pub context_said : (p : System) (rest now : Rest) → Rules.context rest ≡ Ok (p, now) → (c : Bool) × (Fits Context 0 p) × (behind_all (said_the_context c p) rest ≡ Some now)
unfolding Rules.context
context_said p rest now e =
    let t = then_ok (literal (codes "CONTEXT") rest) _ p now e in
    let u = then_ok (context_counted t.mid) _ p now t.second in
    let n = context_counted_said t.mid u.mid u.value u.first in
    let one = part_said Context 0 p u.mid now u.second in
    let alone : behind_all (said_part p ++ []) u.mid ≡ Some now = with_end (said_part p) u.mid now one.1 in
    let parts : behind_all (said_parts n.0 (p ∷ [])) t.mid ≡ Some now = join (said_count n.0 1) (said_part p ++ []) t.mid u.mid now n.1 alone in
    (n.0, one.0, join_one (Literal (codes "CONTEXT")) (said_parts n.0 (p ∷ [])) rest t.mid now (literal_said (codes "CONTEXT") rest t.mid t.value t.first) parts)

-- ---- accesses

kind_reads : (k : AccessKind) → access_kind (access_word k) ≡ Some k
kind_reads kind.Read = refl
kind_reads kind.Write = refl
kind_reads kind.MayWrite = refl

kind_said : (word : List ℕ) (k : AccessKind) → access_kind word ≡ Some k → word ≡ access_word k
kind_said word k e =
    elim (bool_tells (bytes_eq word (access_word kind.Read))) [
      | inl one ↦
          let same : kind.Read ≡ k = let h : Some kind.Read ≡ Some k = rw one at e in cc in
          (bytes_eq-Decides word (access_word kind.Read)).0 one ∙ ap access_word same
      | inr a ↦ elim (bool_tells (bytes_eq word (access_word kind.Write))) [
        | inl two ↦
            let same : kind.Write ≡ k = let h : Some kind.Write ≡ Some k = rw (a, two) at e in cc in
            (bytes_eq-Decides word (access_word kind.Write)).0 two ∙ ap access_word same
        | inr b ↦ elim (bool_tells (bytes_eq word (access_word kind.MayWrite))) [
          | inl three ↦
              let same : kind.MayWrite ≡ k = let h : Some kind.MayWrite ≡ Some k = rw (a, b, three) at e in cc in
              (bytes_eq-Decides word (access_word kind.MayWrite)).0 three ∙ ap access_word same
          | inr c ↦ absurd (let no : None ≡ Some k = rw (a, b, c) at e in cc)
        ]
      ]
    ]

kind_line_reads : (k : AccessKind) (rest now : Rest) → behind (Literal (access_word k)) rest ≡ Some now → kind_line rest ≡ Ok (k, now)
unfolding kind_line
kind_line_reads k rest now e =
    let l = behind_line (Literal (access_word k)) rest now refl e in
    let is : content l.line.bytes ≡ access_word k = (bytes_eq-Decides (content l.line.bytes) (access_word k)).0 l.said_is in
    rw (l.read, is, kind_reads k) refl

some_of_ok : {A : Type 0} (o : Option A) (r : Refusal) (rest now : Rest) (a : A) → some_of o r rest ≡ Ok (a, now) → (o ≡ Some a) × (rest ≡ now)
some_of_ok None r rest now a e = absurd (cc)
some_of_ok (Some b) r rest now a e = (ap (λ x. Some x) (same_value b a rest now e), same_left b a rest now e)

kind_line_said : (k : AccessKind) (rest now : Rest) → kind_line rest ≡ Ok (k, now) → behind (Literal (access_word k)) rest ≡ Some now
unfolding kind_line
kind_line_said k rest now e =
    let t = then_ok (said_line rest) _ k now e in
    let s = some_of_ok (access_kind (content t.value.bytes)) (BadScop t.value.number) t.mid now k t.second in
    let is : content t.value.bytes ≡ access_word k = kind_said (content t.value.bytes) k s.0 in
    line_behind (Literal (access_word k)) rest now t.value refl (t.first ∙ ap (λ (r : Rest). read_ok t.value r) s.1) ((bytes_eq-Decides (content t.value.bytes) (access_word k)).1 is)

-- every access is a relation over so many parameters and iterators
abbrev pub AreAccesses : ℕ → ℕ → ℕ → List (AccessKind × Parts) → Type 0
AreAccesses parameters iterators k [] = Unit {0}
AreAccesses parameters iterators k (a ∷ accesses) = IsRelation (Access parameters iterators) k a.1.is_counted a.1.parts × AreAccesses parameters iterators k accesses

access_reads : (parameters iterators k : ℕ) (a : AccessKind × Parts) (rest now : Rest) → IsRelation (Access parameters iterators) k a.1.is_counted a.1.parts → behind_all (said_access a) rest ≡ Some now
    → Rules.access parameters iterators k rest ≡ Ok (access_pieces a, now)
unfolding Rules.access
access_reads parameters iterators k a rest now is e =
    let s = split_one (Literal (access_word a.0)) (said_parts a.1.is_counted a.1.parts) rest now e in
    rw (kind_line_reads a.0 rest s.mid s.first, parts_reads (Access parameters iterators) k a.1.is_counted a.1.parts s.mid now is s.second) refl

record AccessRead (parameters iterators k : ℕ) (made : AccessKind × List System) (rest now : Rest) : Type 0 where
  access : AccessKind × Parts
  is : IsRelation (Access parameters iterators) k access.1.is_counted access.1.parts
  made_is : access_pieces access ≡ made
  said : behind_all (said_access access) rest ≡ Some now

access_said : (parameters iterators k : ℕ) (made : AccessKind × List System) (rest now : Rest) → Rules.access parameters iterators k rest ≡ Ok (made, now) → AccessRead parameters iterators k made rest now
unfolding Rules.access
access_said parameters iterators k made rest now e =
    let t = then_ok (kind_line rest) _ made now e in
    let u = then_ok (Rules.parts (Access parameters iterators) k t.mid) _ made now t.second in
    let r = parts_said (Access parameters iterators) k u.value t.mid u.mid u.first in
    let pair : AccessKind × List System = (t.value, u.value) in
    let left : u.mid ≡ now = same_left pair made u.mid now u.second in
    record {
      access = (t.value, record { is_counted = r.is_counted; parts = u.value });
      is = r.is;
      made_is = same_value pair made u.mid now u.second;
      said = join_one (Literal (access_word t.value)) (said_parts r.is_counted u.value) rest t.mid now (kind_line_said t.value rest t.mid t.first) (r.said ∙ ap (λ (r : Rest). Some r) left);
    }

pub accesses_reads : (parameters iterators k n : ℕ) (accesses : List (AccessKind × Parts)) (found : List (AccessKind × List System)) (rest now : Rest) → AreAccesses parameters iterators k accesses → length accesses ≡ n
    → behind_all (flat_map said_access accesses) rest ≡ Some now → accesses_from parameters iterators k n found rest ≡ Ok (found ++ map access_pieces accesses, now)
unfolding accesses_from
accesses_reads parameters iterators k zero [] found rest now are size e =
    let same : rest ≡ now = cc in
    rw (append-nil, same) refl
accesses_reads parameters iterators k (suc n) [] found rest now are size e = absurd (omega (arith, size))
accesses_reads parameters iterators k zero (a ∷ accesses) found rest now are size e = absurd (omega (arith, size))
accesses_reads parameters iterators k (suc n) (a ∷ accesses) found rest now are size e =
    let s = split (said_access a) (flat_map said_access accesses) rest now e in
    let one : Rules.access parameters iterators k rest ≡ Ok (access_pieces a, s.mid) = access_reads parameters iterators k a rest s.mid are.0 s.first in
    let more = accesses_reads parameters iterators k n accesses (found ++ access_pieces a ∷ []) s.mid now are.1 (omega (arith, size)) s.second in
    rw one (more ∙ ap (λ (l : List (AccessKind × List System)). read_ok l now) (push_list found (access_pieces a) (map access_pieces accesses)))

pub record AccessesRead (parameters iterators k n : ℕ) (found all : List (AccessKind × List System)) (rest now : Rest) : Type 0 where
  pub accesses : List (AccessKind × Parts)
  pub are : AreAccesses parameters iterators k accesses
  pub all_are : all ≡ found ++ map access_pieces accesses
  pub size : length accesses ≡ n
  pub said : behind_all (flat_map said_access accesses) rest ≡ Some now

pub accesses_said : (parameters iterators k n : ℕ) (all found : List (AccessKind × List System)) (rest now : Rest) → accesses_from parameters iterators k n found rest ≡ Ok (all, now)
    → AccessesRead parameters iterators k n found all rest now
unfolding accesses_from
accesses_said parameters iterators k zero all found rest now e =
    record { accesses = []; are = tt; all_are = sym (same_value found all rest now e) ∙ sym (append-nil found); size = refl; said = ap (λ (r : Rest). Some r) (same_left found all rest now e) }
accesses_said parameters iterators k (suc n) all found rest now e =
    let t = then_ok (Rules.access parameters iterators k rest) _ all now e in
    let one = access_said parameters iterators k t.value rest t.mid t.first in
    let more = accesses_said parameters iterators k n all (found ++ t.value ∷ []) t.mid now t.second in
    record {
      accesses = one.access ∷ more.accesses;
      are = (one.is, more.are);
      all_are = more.all_are ∙ (push_list found t.value (map access_pieces more.accesses) ∙ ap (λ (a : AccessKind × List System). found ++ a ∷ map access_pieces more.accesses) (sym one.made_is));
      size = ap suc more.size;
      said = join (said_access one.access) (flat_map said_access more.accesses) rest t.mid now one.said more.said;
    }
