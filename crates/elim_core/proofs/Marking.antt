-- Pruning by marks does what the stated pruning does.
use Rattle.std.proofs.Common.{◌≡◌, refl, ap, sym, subst, ◌∙◌, inl, inr, ℕ, zero, suc, ◌+◌, ◌<◌, List, [], ◌∷◌, ◌++◌, length, get_or, set, drop, arith}
use Rattle.std.specs.Prelude.{Bool, true, false, cond, nat_eq, ◌⊎◌, Option, Some, None, Result, Ok, Err, OnOk, int_le}
use Rattle.std.proofs.lemmas.Bool.Decides.{nat_tests}
use Rattle.std.proofs.lemmas.List.{length-append}
use Rattle.row_core.specs.Rows.{entry}
use Rattle.relation_core.specs.declared.part_rows.PartRow.{PartRow}
use Rattle.relation_core.specs.Systems.{row_at}
use Rattle.elim_core.specs.Elimination.{is_constant, is_equal, alike, admitted, with_variables, pruned_onto, normalised}
use Rattle.elim_core.specs.Keys.{key_onto, key}
use Rattle.elim_core.specs.RowLists.{AllRows}
use Rattle.elim_core.specs.Pruning.{marked, is_partner, IsAlone, IsFirstPartner, LeadsTo, IsIndexed, Puts, Follows, AddsMark}
use Rattle.elim_core.specs.declared.marks.Place.{Place}
use Rattle.elim_core.specs.declared.marks.Place.TheVariants.{Only}
use Rattle.elim_core.proofs.Tests.{by_bool, first_of_cond, second_of_cond}
use Rattle.elim_core.proofs.Points.{alike_is}
use Rattle.elim_core.proofs.CodeSteps.{row_first}

marked_nothing : (rows : List PartRow) → marked rows [] ≡ []
marked_nothing [] = refl
marked_nothing (w ∷ ws) = refl

-- one mark more
pub marked_more : (rows : List PartRow) (marks : List Bool) (k : ℕ) (stays : Bool) → length marks ≡ k → k < length rows
    → marked rows (marks ++ (stays ∷ [])) ≡ marked rows marks ++ cond stays (row_at rows k ∷ []) []
marked_more [] marks k stays e l = absurd (omega arith)
marked_more (w ∷ ws) [] zero true e l = rw (marked_nothing ws) refl
marked_more (w ∷ ws) [] zero false e l = rw (marked_nothing ws) refl
marked_more (w ∷ ws) [] (suc k) stays e l = absurd (omega arith)
marked_more (w ∷ ws) (s ∷ marks) zero stays e l = absurd (omega arith)
marked_more (w ∷ ws) (true ∷ marks) (suc k) stays e l = ap (λ t. w ∷ t) (marked_more ws marks k stays (omega arith) (omega arith))
marked_more (w ∷ ws) (false ∷ marks) (suc k) stays e l = marked_more ws marks k stays (omega arith) (omega arith)

-- a row without a partner is admitted behind the others
pub admitted_alone : (n : ℕ) (rows : List PartRow) (marks : List Bool) (w : PartRow) → ((i : ℕ) → is_partner n rows marks w i ≡ false)
    → admitted n (marked rows marks) w ≡ marked rows marks ++ (w ∷ [])
admitted_alone n [] marks w h = refl
admitted_alone n (r ∷ rows) [] w h = refl
admitted_alone n (r ∷ rows) (true ∷ marks) w h =
    let a : alike n r w ≡ false = h 0 in
    rw a (ap (λ t. r ∷ t) (admitted_alone n rows marks w (λ i. h (suc i))))
admitted_alone n (r ∷ rows) (false ∷ marks) w h = admitted_alone n rows marks w (λ i. h (suc i))

-- of a row and its first partner the one with the lesser constant stays
pub admitted_with_partner : (n : ℕ) (rows : List PartRow) (marks : List Bool) (w : PartRow) (k : ℕ) → k < length rows → is_partner n rows marks w k ≡ true
    → ((i : ℕ) → i < k → is_partner n rows marks w i ≡ false)
    → admitted n (marked rows marks) w ≡ cond (int_le (entry (row_at rows k).entries n) (entry w.entries n)) (marked rows marks) (marked rows (set marks k false) ++ (w ∷ []))
admitted_with_partner n [] marks w k l m f = absurd (omega arith)
admitted_with_partner n (r ∷ rows) [] w k l m f = cc
admitted_with_partner n (r ∷ rows) (true ∷ marks) w zero l m f =
    let a : alike n r w ≡ true = m in
    rw a refl
admitted_with_partner n (r ∷ rows) (false ∷ marks) w zero l m f = cc
admitted_with_partner n (r ∷ rows) (true ∷ marks) w (suc k) l m f =
    let a : alike n r w ≡ false = f 0 (omega arith) in
    let h = admitted_with_partner n rows marks w k (omega arith) m (λ i b. f (suc i) (omega arith)) in
    elim (by_bool (int_le (entry (row_at rows k).entries n) (entry w.entries n))) [
      | inl e ↦ let g : admitted n (marked rows marks) w ≡ marked rows marks = rw e at h in rw (a, e) (ap (λ t. r ∷ t) g)
      | inr e ↦ let g : admitted n (marked rows marks) w ≡ marked rows (set marks k false) ++ (w ∷ []) = rw e at h in rw (a, e) (ap (λ t. r ∷ t) g)
    ]
admitted_with_partner n (r ∷ rows) (false ∷ marks) w (suc k) l m f = admitted_with_partner n rows marks w k (omega arith) m (λ i b. f (suc i) (omega arith))

-- a row that stays and is alike to w is led to by the key of w
pub partner_leads : (n : ℕ) (rows : List PartRow) (marks : List Bool) (at : ℕ → Option Place) (w : PartRow) (own i : ℕ) → IsIndexed n rows marks at → own ≡ key n w
    → is_partner n rows marks w i ≡ true → LeadsTo (at own) i
partner_leads n rows marks at w own i x o m = elim (by_bool (get_or marks i false)) [
  | inl s ↦
      let a = alike_is n (row_at rows i) w (rw s at m) in
      let e : key n (row_at rows i) ≡ own = ap (key_onto 0 0) a.same ∙ sym o in
      subst (λ q. LeadsTo (at q) i) e (x.leads i s a.left)
  | inr s ↦ let f : false ≡ true = rw s at m in cc
]

-- a row whose key leads nowhere is alone
pub alone_unknown : (n : ℕ) (rows : List PartRow) (marks : List Bool) (at : ℕ → Option Place) (w : PartRow) (own : ℕ) → IsIndexed n rows marks at → own ≡ key n w
    → at own ≡ None → IsAlone n rows marks w
alone_unknown n rows marks at w own x o e = record {
  apart = λ i. elim (by_bool (is_partner n rows marks w i)) [
    | inl m ↦ let h : LeadsTo None i = rw e at (partner_leads n rows marks at w own i x o m) in absurd h
    | inr m ↦ m
  ];
}

-- so is one whose key leads to a row alone that is not its partner
pub alone_unlike : (n : ℕ) (rows : List PartRow) (marks : List Bool) (at : ℕ → Option Place) (w : PartRow) (own k : ℕ) → IsIndexed n rows marks at → own ≡ key n w
    → at own ≡ Some (Only k) → is_partner n rows marks w k ≡ false → IsAlone n rows marks w
alone_unlike n rows marks at w own k x o e f = record {
  apart = λ i. elim (by_bool (is_partner n rows marks w i)) [
    | inl m ↦
        let h : LeadsTo (Some (Only k)) i = rw e at (partner_leads n rows marks at w own i x o m) in
        let g : k ≡ i = h in
        let t : is_partner n rows marks w i ≡ false = rw g at f in
        t
    | inr m ↦ m
  ];
}

-- the row alone to which a key leads is the first partner
pub partner_only : (n : ℕ) (rows : List PartRow) (marks : List Bool) (at : ℕ → Option Place) (w : PartRow) (own k : ℕ) → IsIndexed n rows marks at → own ≡ key n w
    → at own ≡ Some (Only k) → is_partner n rows marks w k ≡ true → IsFirstPartner n rows marks w k
partner_only n rows marks at w own k x o e f = record {
  is_one = f;
  first = λ i l. elim (by_bool (is_partner n rows marks w i)) [
    | inl m ↦
        let h : LeadsTo (Some (Only k)) i = rw e at (partner_leads n rows marks at w own i x o m) in
        let g : k ≡ i = h in
        absurd (omega arith)
    | inr m ↦ m
  ];
}

pub all_marked : (P : PartRow → Type 0) (ws : List PartRow) (marks : List Bool) → AllRows P ws → AllRows P (marked ws marks)
all_marked P [] marks a = tt
all_marked P (w ∷ ws) [] a = tt
all_marked P (w ∷ ws) (true ∷ marks) a = (a.0, all_marked P ws marks a.1)
all_marked P (w ∷ ws) (false ∷ marks) a = all_marked P ws marks a.1

got_more : (marks : List Bool) (b : Bool) (k j : ℕ) → length marks ≡ k → get_or (marks ++ (b ∷ [])) j false ≡ true → ((j ≡ k) × (b ≡ true)) ⊎ (get_or marks j false ≡ true)
got_more [] b zero zero e g = inl (refl, g)
got_more [] b zero (suc j) e g = cc
got_more [] b (suc k) j e g = absurd (omega arith)
got_more (m ∷ marks) b zero j e g = absurd (omega arith)
got_more (m ∷ marks) b (suc k) zero e g = inr g
got_more (m ∷ marks) b (suc k) (suc j) e g = elim (got_more marks b k j (omega arith) g) [
  | inl h ↦ inl (omega (arith, h.0), h.1)
  | inr h ↦ inr h
]

got_set : (marks : List Bool) (i j : ℕ) → get_or (set marks i false) j false ≡ true → (¬ (j ≡ i)) × (get_or marks j false ≡ true)
got_set [] i j g = cc
got_set (m ∷ marks) zero zero g = cc
got_set (m ∷ marks) zero (suc j) g = ((λ e. absurd (omega arith)), g)
got_set (m ∷ marks) (suc i) zero g = ((λ e. absurd (omega arith)), g)
got_set (m ∷ marks) (suc i) (suc j) g = let h = got_set marks i j g in ((λ e. h.0 (omega arith)), h.1)

length_set : (marks : List Bool) (i : ℕ) (b : Bool) → length (set marks i b) ≡ length marks
length_set [] i b = refl
length_set (m ∷ marks) zero b = refl
length_set (m ∷ marks) (suc i) b = omega (arith, length_set marks i b)

without_more : (rows : List PartRow) → rows ++ [] ≡ rows
without_more [] = refl
without_more (w ∷ ws) = ap (λ t. w ∷ t) (without_more ws)

indexed_put : (n : ℕ) (rows : List PartRow) (old new : List Bool) (at after : ℕ → Option Place) (k own : ℕ) (place : Place) → IsIndexed n rows old at → own ≡ key n (row_at rows k)
    → Puts at after own place → LeadsTo (Some place) k → ((j : ℕ) → get_or new j false ≡ true → (j ≡ k) ⊎ ((get_or old j false ≡ true) × (LeadsTo (at own) j → LeadsTo (Some place) j)))
    → IsIndexed n rows new after
indexed_put n rows old new at after k own place x o p l h = record {
  leads = λ j s q. elim (h j s) [
    | inl e ↦
        let g : own ≡ key n (row_at rows j) = rw e o in
        let v : LeadsTo (after own) k = rw p.value l in
        let t : LeadsTo (after own) j = subst (λ i. LeadsTo (after own) i) (sym e) v in
        subst (λ i. LeadsTo (after i) j) g t
    | inr f ↦ elim (by_bool (nat_eq (key n (row_at rows j)) own)) [
      | inl e ↦
          let g : key n (row_at rows j) ≡ own = grind (arith, nat_tests) in
          let a : LeadsTo (at own) j = subst (λ i. LeadsTo (at i) j) g (x.leads j f.0 q) in
          let v : LeadsTo (after own) j = rw p.value (f.1 a) in
          subst (λ i. LeadsTo (after i) j) (sym g) v
      | inr e ↦
          let g : ¬ (key n (row_at rows j) ≡ own) = λ t. grind (arith, nat_tests) in
          rw (p.others (key n (row_at rows j)) g) (x.leads j f.0 q)
    ]
  ];
}

indexed_less : (n : ℕ) (rows : List PartRow) (old : List Bool) (at : ℕ → Option Place) (k : ℕ) → length old ≡ k → IsIndexed n rows old at → IsIndexed n rows (old ++ (false ∷ [])) at
indexed_less n rows old at k l x = record {
  leads = λ j s q. elim (got_more old false k j l s) [
    | inl h ↦ let f : false ≡ true = h.1 in cc
    | inr h ↦ x.leads j h q
  ];
}

count_more : (marks : List Bool) (b : Bool) (k : ℕ) → length marks ≡ k → length (marks ++ (b ∷ [])) ≡ k + 1
count_more marks b k l = omega (arith, length-append marks (b ∷ []))

-- a row without variables goes
pub adds_constant : (n : ℕ) (rows : List PartRow) (old : List Bool) (at : ℕ → Option Place) (k : ℕ) → k < length rows → length old ≡ k → IsIndexed n rows old at
    → is_constant n (row_at rows k) ≡ true → AddsMark n rows k old (old ++ (false ∷ [])) at
adds_constant n rows old at k b l x c = record {
  count = count_more old false k l;
  rows_are = rw c (marked_more rows old k false l b ∙ without_more (marked rows old));
  indexed = indexed_less n rows old at k l x;
}

-- an equality stays
pub adds_equality : (n : ℕ) (rows : List PartRow) (old : List Bool) (at : ℕ → Option Place) (k : ℕ) → k < length rows → length old ≡ k → IsIndexed n rows old at
    → is_constant n (row_at rows k) ≡ false → is_equal (row_at rows k).kind ≡ true → AddsMark n rows k old (old ++ (true ∷ [])) at
adds_equality n rows old at k b l x c q =
    let alone : (i : ℕ) → is_partner n rows old (row_at rows k) i ≡ false = λ i. elim (by_bool (is_partner n rows old (row_at rows k) i)) [
      | inl m ↦ let a = alike_is n (row_at rows i) (row_at rows k) (second_of_cond (get_or old i false) (alike n (row_at rows i) (row_at rows k)) m) in
          let f : true ≡ false = sym q ∙ a.right in cc
      | inr m ↦ m
    ] in
    record {
      count = count_more old true k l;
      rows_are = rw c (marked_more rows old k true l b ∙ sym (admitted_alone n rows old (row_at rows k) alone));
      indexed = record {
        leads = λ j s f. elim (got_more old true k j l s) [
          | inl h ↦ let g : is_equal (row_at rows k).kind ≡ false = rw h.0 at f in let t : true ≡ false = sym q ∙ g in cc
          | inr h ↦ x.leads j h f
        ];
      };
    }

-- an inequality that is alone stays
pub adds_alone : (n : ℕ) (rows : List PartRow) (old : List Bool) (at after : ℕ → Option Place) (k own : ℕ) (place : Place) → k < length rows → length old ≡ k → IsIndexed n rows old at
    → is_constant n (row_at rows k) ≡ false → IsAlone n rows old (row_at rows k) → own ≡ key n (row_at rows k) → Puts at after own place → LeadsTo (Some place) k
    → ((j : ℕ) → LeadsTo (at own) j → LeadsTo (Some place) j) → AddsMark n rows k old (old ++ (true ∷ [])) after
adds_alone n rows old at after k own place b l x c a o p t h = record {
  count = count_more old true k l;
  rows_are = rw c (marked_more rows old k true l b ∙ sym (admitted_alone n rows old (row_at rows k) a.apart));
  indexed = indexed_put n rows old (old ++ (true ∷ [])) at after k own place x o p t (λ j s. elim (got_more old true k j l s) [
    | inl g ↦ inl g.0
    | inr g ↦ inr (g, h j)
  ]);
}

got_before : (marks : List Bool) (i : ℕ) → get_or marks i false ≡ true → i < length marks
got_before [] i g = cc
got_before (m ∷ marks) zero g = omega arith
got_before (m ∷ marks) (suc i) g = omega (arith, got_before marks i g)

pub partner_before : (n : ℕ) (rows : List PartRow) (marks : List Bool) (w : PartRow) (i k : ℕ) → length marks ≡ k → is_partner n rows marks w i ≡ true → i < k
partner_before n rows marks w i k l m = omega (arith, got_before marks i (first_of_cond (get_or marks i false) (alike n (row_at rows i) w) m))

-- an inequality whose partner has at most its constant goes
pub adds_beaten : (n : ℕ) (rows : List PartRow) (old : List Bool) (at : ℕ → Option Place) (i k : ℕ) → k < length rows → length old ≡ k → IsIndexed n rows old at
    → is_constant n (row_at rows k) ≡ false → IsFirstPartner n rows old (row_at rows k) i → int_le (entry (row_at rows i).entries n) (entry (row_at rows k).entries n) ≡ true
    → AddsMark n rows k old (old ++ (false ∷ [])) at
adds_beaten n rows old at i k b l x c p e =
    let s : i < length rows = omega (arith, partner_before n rows old (row_at rows k) i k l p.is_one) in
    record {
      count = count_more old false k l;
      rows_are = rw c (marked_more rows old k false l b ∙ (without_more (marked rows old) ∙ sym (rw e at (admitted_with_partner n rows old (row_at rows k) i s p.is_one p.first))));
      indexed = indexed_less n rows old at k l x;
    }

-- else the partner goes
pub adds_for_partner : (n : ℕ) (rows : List PartRow) (old : List Bool) (at after : ℕ → Option Place) (i k own : ℕ) (place : Place) → k < length rows → length old ≡ k → IsIndexed n rows old at
    → is_constant n (row_at rows k) ≡ false → IsFirstPartner n rows old (row_at rows k) i → int_le (entry (row_at rows i).entries n) (entry (row_at rows k).entries n) ≡ false
    → own ≡ key n (row_at rows k) → Puts at after own place → Follows (at own) place i k
    → AddsMark n rows k old (set old i false ++ (true ∷ [])) after
adds_for_partner n rows old at after i k own place b l x c p e o u f =
    let s : i < length rows = omega (arith, partner_before n rows old (row_at rows k) i k l p.is_one) in
    let m : length (set old i false) ≡ k = omega (arith, length_set old i false) in
    record {
      count = count_more (set old i false) true k m;
      rows_are = rw c (marked_more rows (set old i false) k true m b ∙ sym (rw e at (admitted_with_partner n rows old (row_at rows k) i s p.is_one p.first)));
      indexed = indexed_put n rows old (set old i false ++ (true ∷ [])) at after k own place x o u f.own (λ j g. elim (got_more (set old i false) true k j m g) [
        | inl h ↦ inl h.0
        | inr h ↦ let r = got_set old i j h in inr (r.1, f.kept j r.0)
      ]);
    }

-- what a call says on success, from two clauses of it
pub on_ok_of : {T E A B C : Type 0} (r : Result T E) → OnOk r A → OnOk r B → (A → B → C) → OnOk r C
on_ok_of (Ok x) a b f = f a b
on_ok_of (Err e) a b f = tt

pub nothing_indexed : (n : ℕ) (rows : List PartRow) (at : ℕ → Option Place) → IsIndexed n rows [] at
nothing_indexed n rows at = record { leads = λ k s q. let f : false ≡ true = s in cc }

-- before any row is marked
pub mark_begins : (n : ℕ) (rows : List PartRow) (marks : List Bool) → marks ≡ [] → pruned_onto n (marked rows marks) (with_variables n rows) ≡ normalised n rows
mark_begins n rows marks e = rw e (rw (marked_nothing rows) refl)

-- one row is marked
pub mark_goes_on : (n : ℕ) (rows : List PartRow) (k : ℕ) (old new : List Bool) (at : ℕ → Option Place) → k < length rows → AddsMark n rows k old new at
    → pruned_onto n (marked rows old) (with_variables n (drop k rows)) ≡ normalised n rows → pruned_onto n (marked rows new) (with_variables n (drop (k + 1) rows)) ≡ normalised n rows
mark_goes_on n rows k old new at l a e =
    let d = row_first rows k l in
    let s : k + 1 ≡ suc k = omega arith in
    let h : pruned_onto n (marked rows old) (with_variables n (row_at rows k ∷ drop (suc k) rows)) ≡ normalised n rows = rw d at e in
    elim (by_bool (is_constant n (row_at rows k))) [
      | inl c ↦ let r : marked rows new ≡ marked rows old = rw c at a.rows_are in rw (r, s) (rw c at h)
      | inr c ↦ let r : marked rows new ≡ admitted n (marked rows old) (row_at rows k) = rw c at a.rows_are in rw (r, s) (rw c at h)
    ]

-- what a map is known to have at a key
pub only_place : (at found : Option Place) (field : Place) (i : ℕ) → found ≡ at → found ≡ Some field → field ≡ Only i → at ≡ Some (Only i)
only_place at found field i a b c = sym a ∙ (b ∙ ap (λ (p : Place). Some p) c)
