-- Extensions, read and said: by a rule of their own or kept line by line, and one after another.
use Rattle.std.proofs.Common.{◌≡◌, refl, sym, ap, ◌∙◌, Option, Some, None, ℕ, ◌+◌, ◌-◌, ◌≤◌, ◌<◌, zero, suc, List, [], ◌∷◌, ◌++◌, length, map, take, Ok, Bool, true, false, not, ◌&&◌, ◌⊎◌, inl, inr, arith, append_assoc}
use Rattle.std.specs.Prelude.{if◌then◌else◌}
use Rattle.std.specs.List.{flat_map}
use Rattle.std.specs.Str.{bytes_eq}
use Rattle.std.proofs.lemmas.Bool.{and_parts, and_from}
use Rattle.std.proofs.lemmas.List.{append-nil, take_at, length_push}
use Rattle.std.proofs.lemmas.Slice.Eq.{bytes_eq-Decides}
use Rattle.suite_base.specs.declared.refusals.Refusal.TheVariants.{BadScop}
use Rattle.suite_base.specs.Lines.{trim}
use Rattle.suite_base.specs.Words.{content}
use Rattle.suite_base.proofs.LineCuts.{bool_tells}
use Rattle.suite_base.specs.Bytes.{begins_name}
use Rattle.scop_data.specs.declared.statements.Body.{Body}
use Rattle.scop_data.specs.declared.statements.Extension.{Extension}
use Rattle.scop_core.specs.Printable.{has_no, end_line, body_name, arrays_name, is_extension_name, are_name_bytes, are_kept_lines, is_kept}
use Rattle.scop_reader.specs.Lines.{Rest}
use Rattle.scop_reader.specs.Reading.{Outcome, Reader, and_then, said_line, next_said, literal}
use Rattle.scop_reader.specs.Rules
use Rattle.scop_reader.specs.Rules.{kept_from, kept_lines, kept, opened_name, is_opening, Extensions, is_none, extension, extensions_from, no_extensions, globals_from, globals, close_word}
use Rattle.scop_reader.specs.Documents.{Said, Literal, Raw, End, says, is_raw, behind, behind_all, Item, Special, Kept, open_line, said_item, said_body, said_arrays, first_special, kept_items}
use Rattle.scop_reader.specs.Texts.{has_no_special, has_one_special}
use Rattle.scop_reader.proofs.GrammarLines.{false_of, then_ok, check_then, read_ok, same_value, same_left, behind_line, line_behind, are_lines, all_keeps, if_cases, split, split_one, join, join_one, one_alone, alone_one, all_fewer, behind_fewer}
use Rattle.scop_reader.proofs.GrammarWords.{literal_reads, literal_said}
use Rattle.scop_reader.proofs.GrammarParts.{push_list}
use Rattle.scop_reader.proofs.GrammarRelations.{next_is}
use Rattle.scop_reader.proofs.GrammarBodies.{said_behind_body, IsBody, body_reads, body_said}
use Rattle.scop_reader.proofs.GrammarArrays.{Array, said_behind_arrays, AreArrays, arrays_reads, arrays_said}

-- ---- lines as they are

raw_none : (said : Said) (n : ℕ) (now : Rest) → is_raw said ≡ true → behind said (record { number = n; lines = [] }) ≡ Some now → ⊥
raw_none said n now raw e = let no : None ≡ Some now = rw raw at e in absurd (cc)

raw_line : (said : Said) (n : ℕ) (line : List ℕ) (more : List (List ℕ)) (now : Rest) → is_raw said ≡ true → behind said (record { number = n; lines = line ∷ more }) ≡ Some now
    → (says said line ≡ true) × (record { number = n + 1; lines = more } ≡ now)
raw_line said n line more now raw e =
    let at : (if says said line then Some (record { number = n + 1; lines = more }) else None) ≡ Some now = rw raw at e in
    elim (if_cases (says said line) (Some (record { number = n + 1; lines = more })) None (Some now) at) [
      | inl found ↦ (found.0, cc)
      | inr other ↦ absurd (let no : None ≡ Some now = other.1 in cc)
    ]

raw_makes : (said : Said) (n : ℕ) (line : List ℕ) (more : List (List ℕ)) → is_raw said ≡ true → says said line ≡ true → behind said (record { number = n; lines = line ∷ more }) ≡ Some (record { number = n + 1; lines = more })
raw_makes said n line more raw e = rw (raw, e) refl

abbrev said_to_end : List ℕ → List (List ℕ) → List Said
said_to_end name ls = map Raw ls ++ End (end_line name) ∷ []

kept_from_reads : (name : List ℕ) (ls found : List (List ℕ)) (n : ℕ) (text : List (List ℕ)) (now : Rest) → are_kept_lines name ls ≡ true → behind_all (said_to_end name ls) (record { number = n; lines = text }) ≡ Some now
    → kept_from name n found text ≡ Ok (found ++ ls, now)
unfolding kept_from
kept_from_reads name [] found n [] now h e = absurd (raw_none (End (end_line name)) n now refl (alone_one (End (end_line name)) (record { number = n; lines = [] }) now e))
kept_from_reads name [] found n (line ∷ text) now h e =
    let one = raw_line (End (end_line name)) n line text now refl (alone_one (End (end_line name)) (record { number = n; lines = line ∷ text }) now e) in
    rw (one.0, append-nil) (ap (read_ok found) one.1)
kept_from_reads name (l ∷ ls) found n [] now h e = absurd (let s = split_one (Raw l) (said_to_end name ls) (record { number = n; lines = [] }) now e in raw_none (Raw l) n s.mid refl s.first)
kept_from_reads name (l ∷ ls) found n (line ∷ text) now h e =
    let s = split_one (Raw l) (said_to_end name ls) (record { number = n; lines = line ∷ text }) now e in
    let one = raw_line (Raw l) n line text s.mid refl s.first in
    let same : line ≡ l = (bytes_eq-Decides line l).0 one.0 in
    let both = and_parts (has_no 10 l && not (bytes_eq (trim l) (end_line name))) (are_kept_lines name ls) h in
    let other : bytes_eq (trim line) (end_line name) ≡ false = ap (λ (t : List ℕ). bytes_eq (trim t) (end_line name)) same ∙ false_of (bytes_eq (trim l) (end_line name)) (and_parts (has_no 10 l) (not (bytes_eq (trim l) (end_line name))) both.0).1 in
    let more = kept_from_reads name ls (found ++ line ∷ []) (n + 1) text now both.1 (ap (behind_all (said_to_end name ls)) one.1 ∙ s.second) in
    rw other (more ∙ ap (λ (t : List (List ℕ)). read_ok t now) (push_list found line ls ∙ ap (λ (t : List ℕ). found ++ t ∷ ls) same))

record KeptRead (name : List ℕ) (n : ℕ) (found all text : List (List ℕ)) (now : Rest) : Type 0 where
  lines : List (List ℕ)
  are : are_kept_lines name lines ≡ true
  all_are : all ≡ found ++ lines
  said : behind_all (said_to_end name lines) (record { number = n; lines = text }) ≡ Some now

kept_from_said : (name : List ℕ) (all found : List (List ℕ)) (n : ℕ) (text : List (List ℕ)) (now : Rest) → are_lines text ≡ true → kept_from name n found text ≡ Ok (all, now) → KeptRead name n found all text now
unfolding kept_from
kept_from_said name all found n [] now h e = absurd (cc)
kept_from_said name all found n (line ∷ text) now h e =
    let whole = and_parts (has_no 10 line) (are_lines text) h in
    elim (if_cases (bytes_eq (trim line) (end_line name)) (read_ok found (record { number = n + 1; lines = text })) (kept_from name (n + 1) (found ++ line ∷ []) text) (Ok (all, now)) e) [
      | inl end ↦ record {
        lines = [];
        are = refl;
        all_are = sym (same_value found all (record { number = n + 1; lines = text }) now end.1) ∙ sym (append-nil found);
        said = one_alone (End (end_line name)) (record { number = n; lines = line ∷ text }) now
            (raw_makes (End (end_line name)) n line text refl end.0 ∙ ap (λ (r : Rest). Some r) (same_left found all (record { number = n + 1; lines = text }) now end.1));
      }
      | inr other ↦
          let more = kept_from_said name all (found ++ line ∷ []) (n + 1) text now whole.1 other.1 in
          record {
            lines = line ∷ more.lines;
            are = and_from (has_no 10 line && not (bytes_eq (trim line) (end_line name))) (are_kept_lines name more.lines) (and_from (has_no 10 line) (not (bytes_eq (trim line) (end_line name))) whole.0 (ap not other.0)) more.are;
            all_are = more.all_are ∙ push_list found line more.lines;
            said = join_one (Raw line) (said_to_end name more.lines) (record { number = n; lines = line ∷ text }) (record { number = n + 1; lines = text }) now
                (raw_makes (Raw line) n line text refl ((bytes_eq-Decides line line).1 refl)) more.said;
          }
    ]

kept_reads : (x : Extension) (rest now : Rest) → are_kept_lines x.name x.lines ≡ true → behind_all (said_to_end x.name x.lines) rest ≡ Some now → kept x.name rest ≡ Ok (x, now)
unfolding kept kept_lines
kept_reads x rest now h e = rw (kept_from_reads x.name x.lines [] rest.number rest.lines now h e) refl

kept_said : (name : List ℕ) (x : Extension) (rest now : Rest) → are_lines rest.lines ≡ true → kept name rest ≡ Ok (x, now) → (x.name ≡ name) × (are_kept_lines name x.lines ≡ true) × (behind_all (said_to_end name x.lines) rest ≡ Some now)
unfolding kept kept_lines
kept_said name x rest now h e =
    let t = then_ok (kept_from name rest.number [] rest.lines) _ x now e in
    let read = kept_from_said name t.value [] rest.number rest.lines t.mid h t.first in
    let made : Extension = record { name = name; lines = t.value } in
    let same : made ≡ x = same_value made x t.mid now t.second in
    let left : t.mid ≡ now = same_left made x t.mid now t.second in
    let lines : read.lines ≡ x.lines = sym read.all_are ∙ ap (λ (y : Extension). y.lines) same in
    (sym (ap (λ (y : Extension). y.name) same), ap (are_kept_lines name) (sym lines) ∙ read.are, ap (λ (l : List (List ℕ)). behind_all (said_to_end name l) rest) (sym lines) ∙ (read.said ∙ ap (λ (r : Rest). Some r) left))

-- ---- the line that opens an extension

opened : (name : List ℕ) → opened_name (open_line name) ≡ name
opened name =
    let size : length (name ++ 62 ∷ []) - 1 ≡ length name = omega (arith, length_push name 62) in
    ap (λ (n : ℕ). take n (name ++ 62 ∷ [])) size ∙ take_at name (62 ∷ []) (length name) refl

pub open_is : (name : List ℕ) → is_extension_name name ≡ true → is_opening (open_line name) ≡ true
open_is name h =
    let same : open_line name ≡ 60 ∷ opened_name (open_line name) ++ 62 ∷ [] = ap open_line (sym (opened name)) in
    and_from (bytes_eq (open_line name) (60 ∷ opened_name (open_line name) ++ 62 ∷ [])) (is_extension_name (opened_name (open_line name))) ((bytes_eq-Decides (open_line name) (60 ∷ opened_name (open_line name) ++ 62 ∷ [])).1 same)
    (ap is_extension_name (opened name) ∙ h)

opening_is : (line : List ℕ) → is_opening line ≡ true → (line ≡ open_line (opened_name line)) × (is_extension_name (opened_name line) ≡ true)
opening_is line h =
    let both = and_parts (bytes_eq line (60 ∷ opened_name line ++ 62 ∷ [])) (is_extension_name (opened_name line)) h in
    ((bytes_eq-Decides line (60 ∷ opened_name line ++ 62 ∷ [])).0 both.0, both.1)

-- ---- one extension

-- a rule reads what is said behind the line that opens the special extension
pub record IsRule {A : Type 0} (special : List ℕ) (rule : Reader A) (said_rule tail : A → List Said) (D : A → Type 0) : Type 0 where
  pub opens : (a : A) → said_rule a ≡ Literal (open_line special) ∷ tail a
  pub name : is_extension_name special ≡ true
  pub reads : (a : A) (rest now : Rest) → D a → behind_all (tail a) rest ≡ Some now → rule rest ≡ Ok (a, now)
  pub said : (a : A) (rest now : Rest) → are_lines rest.lines ≡ true → rule rest ≡ Ok (a, now) → D a × (behind_all (tail a) rest ≡ Some now)

abbrev pub ItemFits : {A : Type 0} → List ℕ → (A → Type 0) → Item A → Type 0
ItemFits special D (Special a) = D a
ItemFits special D (Kept x) = is_kept special x ≡ true

abbrev pub with_item : {A : Type 0} → Extensions A → Item A → Extensions A
with_item found (Special a) = record { special = Some a; others = found.others }
with_item found (Kept x) = record { special = found.special; others = found.others ++ x ∷ [] }

-- the special extension comes once
abbrev pub can_follow : {A : Type 0} → Extensions A → Item A → Bool
can_follow found (Special a) = is_none found.special
can_follow found (Kept x) = true

pub if_reader : {B : Type 0} (b : Bool) (p q : Reader B) (rest : Rest) (z : Outcome B) → (if b then p else q) rest ≡ z → ((b ≡ true) × (p rest ≡ z)) ⊎ ((b ≡ false) × (q rest ≡ z))
if_reader true p q rest z e = inl (refl, e)
if_reader false p q rest z e = inr (refl, e)

module _ {A : Type 0} (special : List ℕ) (rule : Reader A) (said_rule tail : A → List Said) (D : A → Type 0) (is : IsRule special rule said_rule tail D) where
  pub item_reads : (item : Item A) (found : Extensions A) (rest now : Rest) → ItemFits special D item → can_follow found item ≡ true → behind_all (said_item said_rule item) rest ≡ Some now
      → extension special rule found rest ≡ Ok (with_item found item, now)
  unfolding extension
  item_reads (Special a) found rest now fits free e =
      let whole : behind_all (Literal (open_line special) ∷ tail a) rest ≡ Some now = ap (λ (l : List Said). behind_all l rest) (sym (is.opens a)) ∙ e in
      let s = split_one (Literal (open_line special)) (tail a) rest now whole in
      let l = behind_line (Literal (open_line special)) rest s.mid refl s.first in
      let same : content l.line.bytes ≡ open_line special = (bytes_eq-Decides (content l.line.bytes) (open_line special)).0 l.said_is in
      let open_it : is_opening (content l.line.bytes) ≡ true = ap is_opening same ∙ open_is special is.name in
      let its : bytes_eq (opened_name (content l.line.bytes)) special ≡ true = (bytes_eq-Decides (opened_name (content l.line.bytes)) special).1 (ap opened_name same ∙ opened special) in
      rw (l.read, open_it, its, free, is.reads a s.mid now fits s.second) refl
  item_reads (Kept x) found rest now fits free e =
      let s = split_one (Literal (open_line x.name)) (said_to_end x.name x.lines) rest now e in
      let l = behind_line (Literal (open_line x.name)) rest s.mid refl s.first in
      let all = and_parts (is_extension_name x.name && not (bytes_eq x.name special)) (are_kept_lines x.name x.lines) fits in
      let own = and_parts (is_extension_name x.name) (not (bytes_eq x.name special)) all.0 in
      let same : content l.line.bytes ≡ open_line x.name = (bytes_eq-Decides (content l.line.bytes) (open_line x.name)).0 l.said_is in
      let open_it : is_opening (content l.line.bytes) ≡ true = ap is_opening same ∙ open_is x.name own.0 in
      let named : opened_name (content l.line.bytes) ≡ x.name = ap opened_name same ∙ opened x.name in
      let other : bytes_eq (opened_name (content l.line.bytes)) special ≡ false = ap (λ (n : List ℕ). bytes_eq n special) named ∙ false_of (bytes_eq x.name special) own.1 in
      let lines : kept (opened_name (content l.line.bytes)) s.mid ≡ Ok (x, now) = ap (λ (n : List ℕ). kept n s.mid) named ∙ kept_reads x s.mid now all.1 s.second in
      rw (l.read, open_it, other, lines) refl

  -- an extension that was read
  pub record ItemRead (found next : Extensions A) (rest now : Rest) : Type 0 where
    pub item : Item A
    pub fits : ItemFits special D item
    pub free : can_follow found item ≡ true
    pub next_is : next ≡ with_item found item
    pub said : behind_all (said_item said_rule item) rest ≡ Some now

  pub item_said : (next found : Extensions A) (rest now : Rest) → are_lines rest.lines ≡ true → extension special rule found rest ≡ Ok (next, now) → ItemRead found next rest now
  unfolding extension
  item_said next found rest now h e =
      let t = then_ok (said_line rest) _ next now e in
      let text : List ℕ = content t.value.bytes in
      let c = check_then (is_opening text) (BadScop t.value.number) t.mid _ next now t.second in
      let o = opening_is text c.0 in
      let first : behind (Literal (open_line (opened_name text))) rest ≡ Some t.mid =
      line_behind (Literal (open_line (opened_name text))) rest t.mid t.value refl t.first ((bytes_eq-Decides text (open_line (opened_name text))).1 o.0) in
      let h1 : are_lines t.mid.lines ≡ true = all_keeps (Literal (open_line (opened_name text)) ∷ []) rest t.mid (one_alone (Literal (open_line (opened_name text))) rest t.mid first) h in
      elim (if_reader (bytes_eq (opened_name text) special) _ _ t.mid (Ok (next, now)) c.1) [
        | inl one ↦
            let d = check_then (is_none found.special) (BadScop t.value.number) t.mid _ next now one.1 in
            let u = then_ok (rule t.mid) _ next now d.1 in
            let made : Extensions A = record { special = Some u.value; others = found.others } in
            let left : u.mid ≡ now = same_left made next u.mid now u.second in
            let read = is.said u.value t.mid u.mid h1 u.first in
            let its : opened_name text ≡ special = (bytes_eq-Decides (opened_name text) special).0 one.0 in
            let opening : behind (Literal (open_line special)) rest ≡ Some t.mid = ap (λ (n : List ℕ). behind (Literal (open_line n)) rest) (sym its) ∙ first in
            let whole : behind_all (Literal (open_line special) ∷ tail u.value) rest ≡ Some now = join_one (Literal (open_line special)) (tail u.value) rest t.mid now opening (read.1 ∙ ap (λ (r : Rest). Some r) left) in
            record {
              item = Special u.value;
              fits = read.0;
              free = d.0;
              next_is = sym (same_value made next u.mid now u.second);
              said = ap (λ (l : List Said). behind_all l rest) (is.opens u.value) ∙ whole;
            }
        | inr other ↦
            let u = then_ok (kept (opened_name text) t.mid) _ next now other.1 in
            let made : Extensions A = record { special = found.special; others = found.others ++ u.value ∷ [] } in
            let left : u.mid ≡ now = same_left made next u.mid now u.second in
            let read = kept_said (opened_name text) u.value t.mid u.mid h1 u.first in
            let named : opened_name text ≡ u.value.name = sym read.0 in
            let whole : behind_all (Literal (open_line (opened_name text)) ∷ said_to_end (opened_name text) u.value.lines) rest ≡ Some now =
            join_one (Literal (open_line (opened_name text))) (said_to_end (opened_name text) u.value.lines) rest t.mid now first (read.2 ∙ ap (λ (r : Rest). Some r) left) in
            let kept_it : (is_extension_name (opened_name text) && not (bytes_eq (opened_name text) special) && are_kept_lines (opened_name text) u.value.lines) ≡ true =
            and_from (is_extension_name (opened_name text) && not (bytes_eq (opened_name text) special)) (are_kept_lines (opened_name text) u.value.lines)
            (and_from (is_extension_name (opened_name text)) (not (bytes_eq (opened_name text) special)) o.1 (ap not other.0)) read.1 in
            record {
              item = Kept u.value;
              fits = ap (λ (n : List ℕ). is_extension_name n && not (bytes_eq n special) && are_kept_lines n u.value.lines) (sym named) ∙ kept_it;
              free = refl;
              next_is = sym (same_value made next u.mid now u.second);
              said = ap (λ (n : List ℕ). behind_all (Literal (open_line n) ∷ said_to_end n u.value.lines) rest) (sym named) ∙ whole;
            }
      ]

-- ---- extensions one after another

abbrev pub ItemsFit : {A : Type 0} → List ℕ → (A → Type 0) → List (Item A) → Type 0
ItemsFit special D [] = Unit {0}
ItemsFit special D (item ∷ items) = ItemFits special D item × ItemsFit special D items

-- what was found and these extensions
abbrev pub gathered : {A : Type 0} → Extensions A → List (Item A) → Extensions A
gathered found [] = found
gathered found (item ∷ items) = gathered (with_item found item) items

-- the special extension comes at most once, and not where it was found already
abbrev pub follow : {A : Type 0} → Extensions A → List (Item A) → Bool
follow found [] = true
follow found (item ∷ items) = can_follow found item && follow (with_item found item) items

abbrev either : {A : Type 0} → Option A → Option A → Option A
either None b = b
either (Some a) b = Some a

gathered_is : {A : Type 0} (items : List (Item A)) (s : Option A) (others : List Extension) → follow (record { special = s; others = others }) items ≡ true
    → gathered (record { special = s; others = others }) items ≡ record { special = either s (first_special items); others = others ++ kept_items items }
gathered_is [] None others h = ap (λ (l : List Extension). record { special = None; others = l }) (sym (append-nil others))
gathered_is [] (Some a) others h = ap (λ (l : List Extension). record { special = Some a; others = l }) (sym (append-nil others))
gathered_is (Special a ∷ items) None others h = gathered_is items (Some a) others h
gathered_is (Special a ∷ items) (Some b) others h = absurd (cc)
gathered_is (Kept x ∷ items) s others h =
    gathered_is items s (others ++ x ∷ []) h ∙ ap (λ (l : List Extension). record { special = either s (first_special items); others = l }) (push_list others x (kept_items items))

pub gathered_from : {A : Type 0} (items : List (Item A)) → follow (no_extensions {A = A}) items ≡ true → gathered no_extensions items ≡ record { special = first_special items; others = kept_items items }
gathered_from items h = gathered_is items None [] h

one_special : {A : Type 0} (items : List (Item A)) (s : Option A) (others : List Extension) → follow (record { special = s; others = others }) items ≡ (if is_none s then has_one_special items else has_no_special items)
one_special [] None others = refl
one_special [] (Some a) others = refl
one_special (Special a ∷ items) None others = one_special items (Some a) others
one_special (Special a ∷ items) (Some b) others = refl
one_special (Kept x ∷ items) None others = one_special items None (others ++ x ∷ [])
one_special (Kept x ∷ items) (Some b) others = one_special items (Some b) (others ++ x ∷ [])

pub follow_is : {A : Type 0} (items : List (Item A)) → follow (no_extensions {A = A}) items ≡ has_one_special items
follow_is items = one_special items None []

-- ---- the extensions of a statement

body_is : (iterators : ℕ) → IsRule body_name (Rules.body iterators) said_body said_behind_body (IsBody iterators)
body_is iterators = record {
  opens = λ a. refl;
  name = refl;
  reads = λ a rest now is e. body_reads iterators a rest now is e;
  said = λ a rest now h e. body_said iterators a rest now h e;
}

pub items_reads : (iterators n : ℕ) (items : List (Item Body)) (found : Extensions Body) (rest now : Rest) → ItemsFit body_name (IsBody iterators) items → follow found items ≡ true → length items ≡ n
    → behind_all (flat_map (said_item said_body) items) rest ≡ Some now → extensions_from iterators n found rest ≡ Ok (gathered found items, now)
unfolding extensions_from
items_reads iterators zero [] found rest now fit free size e =
    let same : rest ≡ now = cc in
    ap (read_ok found) same
items_reads iterators (suc n) [] found rest now fit free size e = absurd (omega (arith, size))
items_reads iterators zero (item ∷ items) found rest now fit free size e = absurd (omega (arith, size))
items_reads iterators (suc n) (item ∷ items) found rest now fit free size e =
    let s = split (said_item said_body item) (flat_map (said_item said_body) items) rest now e in
    let both = and_parts (can_follow found item) (follow (with_item found item) items) free in
    let one = item_reads body_name (Rules.body iterators) said_body said_behind_body (IsBody iterators) (body_is iterators) item found rest s.mid fit.0 both.0 s.first in
    rw one (items_reads iterators n items (with_item found item) s.mid now fit.1 both.1 (omega (arith, size)) s.second)

-- the extensions that were read
pub record ItemsRead (iterators n : ℕ) (found next : Extensions Body) (rest now : Rest) : Type 0 where
  pub items : List (Item Body)
  pub fit : ItemsFit body_name (IsBody iterators) items
  pub free : follow found items ≡ true
  pub size : length items ≡ n
  pub next_is : next ≡ gathered found items
  pub said : behind_all (flat_map (said_item said_body) items) rest ≡ Some now

pub items_said : (iterators n : ℕ) (next found : Extensions Body) (rest now : Rest) → are_lines rest.lines ≡ true → extensions_from iterators n found rest ≡ Ok (next, now) → ItemsRead iterators n found next rest now
unfolding extensions_from
items_said iterators zero next found rest now h e =
    record { items = []; fit = tt; free = refl; size = refl; next_is = sym (same_value found next rest now e); said = ap (λ (r : Rest). Some r) (same_left found next rest now e) }
items_said iterators (suc n) next found rest now h e =
    let t = then_ok (extension body_name (Rules.body iterators) found rest) _ next now e in
    let one = item_said body_name (Rules.body iterators) said_body said_behind_body (IsBody iterators) (body_is iterators) t.value found rest t.mid h t.first in
    let h1 : are_lines t.mid.lines ≡ true = all_keeps (said_item said_body one.item) rest t.mid one.said h in
    let more = items_said iterators n next t.value t.mid now h1 t.second in
    record {
      items = one.item ∷ more.items;
      fit = (one.fits, more.fit);
      free = and_from (can_follow found one.item) (follow (with_item found one.item) more.items) one.free (ap (λ (x : Extensions Body). follow x more.items) (sym one.next_is) ∙ more.free);
      size = ap suc more.size;
      next_is = more.next_is ∙ ap (λ (x : Extensions Body). gathered x more.items) one.next_is;
      said = join (said_item said_body one.item) (flat_map (said_item said_body) more.items) rest t.mid now one.said more.said;
    }

-- ---- the global extensions

arrays_is : IsRule arrays_name Rules.arrays said_arrays said_behind_arrays AreArrays
arrays_is = record {
  opens = λ a. refl;
  name = refl;
  reads = λ a rest now is e. arrays_reads a rest now is e;
  said = λ a rest now h e. arrays_said a rest now h e;
}

-- no extension is opened by the line that ends the whole
not_close : (name : List ℕ) → is_extension_name name ≡ true → bytes_eq (open_line name) close_word ≡ false
not_close [] h = absurd (cc)
not_close (b ∷ name) h =
    elim (bool_tells (bytes_eq (open_line (b ∷ name)) close_word)) [
      | inl e ↦
          let same : open_line (b ∷ name) ≡ close_word = (bytes_eq-Decides (open_line (b ∷ name)) close_word).0 e in
          let slash : b ≡ 47 = second_is b (name ++ 62 ∷ []) same in
          absurd (let no : false ≡ true = ap begins_name (sym slash) ∙ (and_parts (begins_name b) (are_name_bytes name) h).0 in cc)
      | inr other ↦ other
    ]
  where
    second_is : (c : ℕ) (more : List ℕ) → 60 ∷ c ∷ more ≡ close_word → c ≡ 47
    second_is c more e = cc

first_not_close : (item : Item (List Array)) (rest mid : Rest) (more : List Said) (now : Rest) → ItemFits arrays_name AreArrays item → behind_all (said_item said_arrays item) rest ≡ Some mid → bytes_eq (content (next_said rest)) close_word ≡ false
first_not_close (Special a) rest mid more now fits e =
    let s = split_one (Literal (open_line arrays_name)) (said_behind_arrays a) rest mid e in
    let l = behind_line (Literal (open_line arrays_name)) rest s.mid refl s.first in
    let same : content l.line.bytes ≡ open_line arrays_name = (bytes_eq-Decides (content l.line.bytes) (open_line arrays_name)).0 l.said_is in
    ap (λ (t : List ℕ). bytes_eq (content t) close_word) (next_is rest s.mid l.line l.read) ∙ ap (λ (t : List ℕ). bytes_eq t close_word) same
first_not_close (Kept x) rest mid more now fits e =
    let s = split_one (Literal (open_line x.name)) (said_to_end x.name x.lines) rest mid e in
    let l = behind_line (Literal (open_line x.name)) rest s.mid refl s.first in
    let same : content l.line.bytes ≡ open_line x.name = (bytes_eq-Decides (content l.line.bytes) (open_line x.name)).0 l.said_is in
    let all = and_parts (is_extension_name x.name && not (bytes_eq x.name arrays_name)) (are_kept_lines x.name x.lines) fits in
    let own = and_parts (is_extension_name x.name) (not (bytes_eq x.name arrays_name)) all.0 in
    ap (λ (t : List ℕ). bytes_eq (content t) close_word) (next_is rest s.mid l.line l.read) ∙ (ap (λ (t : List ℕ). bytes_eq t close_word) same ∙ not_close x.name own.0)

-- an extension takes a line at least
item_fewer : (item : Item (List Array)) (rest mid : Rest) → behind_all (said_item said_arrays item) rest ≡ Some mid → length mid.lines < length rest.lines
item_fewer (Special a) rest mid e =
    let s = split_one (Literal (open_line arrays_name)) (said_behind_arrays a) rest mid e in
    omega (arith, behind_fewer (Literal (open_line arrays_name)) rest s.mid s.first, all_fewer (said_behind_arrays a) s.mid mid s.second)
item_fewer (Kept x) rest mid e =
    let s = split_one (Literal (open_line x.name)) (said_to_end x.name x.lines) rest mid e in
    omega (arith, behind_fewer (Literal (open_line x.name)) rest s.mid s.first, all_fewer (said_to_end x.name x.lines) s.mid mid s.second)

abbrev pub said_to_close : List (Item (List Array)) → List Said
said_to_close items = flat_map (said_item said_arrays) items ++ Literal close_word ∷ []

close_reads : (n : ℕ) (found : Extensions (List Array)) (rest now : Rest) → behind (Literal close_word) rest ≡ Some now → globals_from n found rest ≡ Ok (found, now)
unfolding globals_from
close_reads zero found rest now e = rw (literal_reads close_word rest now e) refl
close_reads (suc n) found rest now e =
    let l = behind_line (Literal close_word) rest now refl e in
    let end : bytes_eq (content (next_said rest)) close_word ≡ true = ap (λ (t : List ℕ). bytes_eq (content t) close_word) (next_is rest now l.line l.read) ∙ l.said_is in
    rw (end, literal_reads close_word rest now e) refl

globals_from_reads : (items : List (Item (List Array))) (n : ℕ) (found : Extensions (List Array)) (rest now : Rest) → ItemsFit arrays_name AreArrays items → follow found items ≡ true → length rest.lines ≤ n
    → behind_all (said_to_close items) rest ≡ Some now → globals_from n found rest ≡ Ok (gathered found items, now)
unfolding globals_from
globals_from_reads [] n found rest now fit free enough e = close_reads n found rest now (alone_one (Literal close_word) rest now e)
globals_from_reads (item ∷ items) zero found rest now fit free enough e =
    let whole : behind_all (said_item said_arrays item ++ said_to_close items) rest ≡ Some now = ap (λ (l : List Said). behind_all l rest) (sym (append_assoc (said_item said_arrays item) (flat_map (said_item said_arrays) items) (Literal close_word ∷ []))) ∙ e in
    let s = split (said_item said_arrays item) (said_to_close items) rest now whole in
    absurd (omega (arith, item_fewer item rest s.mid s.first, enough))
globals_from_reads (item ∷ items) (suc n) found rest now fit free enough e =
    let whole : behind_all (said_item said_arrays item ++ said_to_close items) rest ≡ Some now = ap (λ (l : List Said). behind_all l rest) (sym (append_assoc (said_item said_arrays item) (flat_map (said_item said_arrays) items) (Literal close_word ∷ []))) ∙ e in
    let s = split (said_item said_arrays item) (said_to_close items) rest now whole in
    let both = and_parts (can_follow found item) (follow (with_item found item) items) free in
    let one = item_reads arrays_name Rules.arrays said_arrays said_behind_arrays AreArrays arrays_is item found rest s.mid fit.0 both.0 s.first in
    let more = globals_from_reads items n (with_item found item) s.mid now fit.1 both.1 (omega (arith, item_fewer item rest s.mid s.first, enough)) s.second in
    rw (first_not_close item rest s.mid [] now fit.0 s.first, one) more

-- the global extensions that were read, and the line that ends the whole
pub record GlobalsRead (found next : Extensions (List Array)) (rest now : Rest) : Type 0 where
  pub items : List (Item (List Array))
  pub fit : ItemsFit arrays_name AreArrays items
  pub free : follow found items ≡ true
  pub next_is : next ≡ gathered found items
  pub said : behind_all (said_to_close items) rest ≡ Some now

close_said : (next found : Extensions (List Array)) (rest now : Rest) → and_then (literal close_word rest) (λ _ r. read_ok found r) ≡ Ok (next, now) → GlobalsRead found next rest now
close_said next found rest now e =
    let t = then_ok (literal close_word rest) (λ _ r. read_ok found r) next now e in
    let said = literal_said close_word rest t.mid t.value t.first in
    record { items = []; fit = tt; free = refl; next_is = sym (same_value found next t.mid now t.second); said = one_alone (Literal close_word) rest now (said ∙ ap (λ (r : Rest). Some r) (same_left found next t.mid now t.second)) }

globals_from_said : (n : ℕ) (next found : Extensions (List Array)) (rest now : Rest) → are_lines rest.lines ≡ true → globals_from n found rest ≡ Ok (next, now) → GlobalsRead found next rest now
unfolding globals_from
globals_from_said zero next found rest now h e = close_said next found rest now e
globals_from_said (suc n) next found rest now h e =
    elim (if_cases (bytes_eq (content (next_said rest)) close_word) (and_then (literal close_word rest) (λ _ r. read_ok found r)) (and_then (extension arrays_name Rules.arrays found rest) (globals_from n)) (Ok (next, now)) e) [
      | inl end ↦ close_said next found rest now end.1
      | inr other ↦
          let t = then_ok (extension arrays_name Rules.arrays found rest) (globals_from n) next now other.1 in
          let one = item_said arrays_name Rules.arrays said_arrays said_behind_arrays AreArrays arrays_is t.value found rest t.mid h t.first in
          let h1 : are_lines t.mid.lines ≡ true = all_keeps (said_item said_arrays one.item) rest t.mid one.said h in
          let more = globals_from_said n next t.value t.mid now h1 t.second in
          let whole : behind_all (said_item said_arrays one.item ++ said_to_close more.items) rest ≡ Some now = join (said_item said_arrays one.item) (said_to_close more.items) rest t.mid now one.said more.said in
          record {
            items = one.item ∷ more.items;
            fit = (one.fits, more.fit);
            free = and_from (can_follow found one.item) (follow (with_item found one.item) more.items) one.free (ap (λ (x : Extensions (List Array)). follow x more.items) (sym one.next_is) ∙ more.free);
            next_is = more.next_is ∙ ap (λ (x : Extensions (List Array)). gathered x more.items) one.next_is;
            said = ap (λ (l : List Said). behind_all l rest) (append_assoc (said_item said_arrays one.item) (flat_map (said_item said_arrays) more.items) (Literal close_word ∷ [])) ∙ whole;
          }
    ]

pub globals_reads : (items : List (Item (List Array))) (rest now : Rest) → ItemsFit arrays_name AreArrays items → has_one_special items ≡ true → behind_all (said_to_close items) rest ≡ Some now
    → globals rest ≡ Ok (record { special = first_special items; others = kept_items items }, now)
unfolding globals
globals_reads items rest now fit one e =
    let free : follow (no_extensions {A = List Array}) items ≡ true = follow_is items ∙ one in
    globals_from_reads items (length rest.lines) no_extensions rest now fit free (omega arith) e ∙ ap (λ (x : Extensions (List Array)). read_ok x now) (gathered_from items free)

pub globals_said : (next : Extensions (List Array)) (rest now : Rest) → are_lines rest.lines ≡ true → globals rest ≡ Ok (next, now) → GlobalsRead no_extensions next rest now
unfolding globals
globals_said next rest now h e = globals_from_said (length rest.lines) next no_extensions rest now h e
