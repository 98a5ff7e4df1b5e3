-- The accesses of an assignment, gathered one by one.
use Rattle.std.proofs.Common.{◌≡◌, ℕ, ◌+◌, ◌≤◌, ◌<◌, List, [], ◌∷◌, ◌++◌, length, map, Bool, true, false, ◌&&◌, ◌||◌, not, cond, refl, sym, ◌∙◌, ap, arith, append_assoc}
use Rattle.std.specs.Prelude.{min, nat_le, nat_lt, Option, None, Some, ℤ}
use Rattle.std.proofs.lemmas.Bool.Decides.{Decides-ltb}
use Rattle.std.proofs.lemmas.Bool.{le-leb, leb-true}
use Rattle.std.proofs.lemmas.List.{length-append, length-map}
use Rattle.scop_data.specs.declared.affines.Affine.{Affine}
use Rattle.scop_data.specs.declared.accesses.Access.{Access}
use Rattle.scop_data.specs.declared.accesses.AccessKind.{AccessKind}
use Rattle.scop_data.specs.declared.accesses.AccessKind.TheVariants.{Read, Write}
use Rattle.clan_extract.specs.Regions.{Expression, Reference, Assignment, is_empty, is_among, array_references, number_in}
use Rattle.clan_extract.specs.Forms.{form}
use Rattle.clan_extract.specs.Scops.{access, references_read, accesses}
use Rattle.clan_extract.specs.Refusals.{forms_fit, all_fit as all_forms_fit, references_fit, subscripts_above}
use Rattle.clan_extract.proofs.Forms.{both_true}
use Rattle.clan_extract.proofs.TurnSteps.{append_nothing}
use Rattle.clan_rows.specs.Fitting.{checked_form}
use Rattle.clan_walk.specs.declared.gathering.Accesses.{Accesses}
use Rattle.clan_walk.specs.Walk.{no_accesses, are_fine, all_fit, fitting_ones, with_access}

-- tests
pub le_not_lt : (n m : ℕ) → nat_le n m ≡ not (nat_lt m n)
le_not_lt n m = by (nat_le n m) (nat_lt m n) refl refl
  where
    by : (s t : Bool) → nat_le n m ≡ s → nat_lt m n ≡ t → s ≡ not t
    by true false e f = refl
    by false true e f = refl
    by true true e f = let l : n ≤ m = leb-true n m e in let k : m < n = (Decides-ltb m n).0 f in absurd (omega arith)
    by false false e f = absurd (neither (λ l. no (nat_le n m) (le-leb n m l) e) (λ l. no (nat_lt m n) ((Decides-ltb m n).1 l) f))
      where
        no : (b : Bool) → b ≡ true → b ≡ false → ⊥
        no b p q = cc

        neither : (n ≤ m → ⊥) → (m < n → ⊥) → ⊥
        neither p q = omega (arith, p, q)

and_assoc : (a b c : Bool) → ((a && b) && c) ≡ (a && (b && c))
and_assoc true b c = refl
and_assoc false b c = refl

not_or : (a b : Bool) → not (a || b) ≡ (not a && not b)
not_or true b = refl
not_or false b = refl

subscripts_append : (xs : List Access) (x : Access) → subscripts_above (xs ++ x ∷ []) ≡ (subscripts_above xs || nat_lt 12 (length x.subscripts))
subscripts_append [] x = or_false (nat_lt 12 (length x.subscripts))
  where
    or_false : (b : Bool) → (b || false) ≡ b
    or_false true = refl
    or_false false = refl
subscripts_append (y ∷ xs) x =
    ap (λ t. nat_lt 12 (length y.subscripts) || t) (subscripts_append xs x) ∙ or_assoc (nat_lt 12 (length y.subscripts)) (subscripts_above xs) (nat_lt 12 (length x.subscripts))
  where
    or_assoc : (a b c : Bool) → (a || (b || c)) ≡ ((a || b) || c)
    or_assoc true b c = refl
    or_assoc false b c = refl

module _ (parameters arrays loops : List (List ℕ)) where
  abbrev forms : List Expression → List (Option Affine)
  forms es = map (λ e. checked_form parameters loops e) es

  abbrev exact : List Expression → List Affine
  exact es = map (λ e. form parameters loops e) es

  all_fit_is : (es : List Expression) → all_fit (forms es) ≡ all_forms_fit parameters loops es
  all_fit_is [] = refl
  all_fit_is (e ∷ es) = by (forms_fit parameters loops e) (all_fit_is es)
    where
      by : (t : Bool) → all_fit (forms es) ≡ all_forms_fit parameters loops es → all_fit (cond t (Some (form parameters loops e)) None ∷ forms es) ≡ (t && all_forms_fit parameters loops es)
      by true rest = rest
      by false rest = refl

  fitting_is : (es : List Expression) → all_fit (forms es) ≡ true → fitting_ones (forms es) ≡ exact es
  fitting_is [] h = refl
  fitting_is (e ∷ es) h = by (forms_fit parameters loops e) h (fitting_is es)
    where
      by : (t : Bool) → all_fit (cond t (Some (form parameters loops e)) None ∷ forms es) ≡ true → (all_fit (forms es) ≡ true → fitting_ones (forms es) ≡ exact es)
          → fitting_ones (cond t (Some (form parameters loops e)) None ∷ forms es) ≡ form parameters loops e ∷ exact es
      by true k rest = ap (λ fs. form parameters loops e ∷ fs) (rest k)
      by false k rest = absurd (no k)
        where
          no : false ≡ true → ⊥
          no q = cc

  -- what these accesses come to, whose forms are in range or not
  abbrev pub bare : List Access → Bool → Accesses
  bare xs fit = record { count = min (length xs) 257; short = not (subscripts_above xs); fit = fit; made = [] }

  abbrev pub summed : Bool → List Access → Bool → Accesses
  summed making xs fit = record { count = min (length xs) 257; short = not (subscripts_above xs); fit = fit; made = cond (making && are_fine (bare xs fit)) xs [] }

  accesses_with : ℕ → Bool → Bool → List Access → Accesses
  accesses_with count short fit made = record { count = count; short = short; fit = fit; made = made }

  same_accesses : (c d : ℕ) (s t f g : Bool) (m n : List Access) → c ≡ d → s ≡ t → f ≡ g → m ≡ n
      → accesses_with c s f m ≡ accesses_with d t g n
  same_accesses c d s t f g m n p q r x =
      ap (λ z. accesses_with z s f m) p ∙ ap (λ z. accesses_with d z f m) q ∙ ap (λ z. accesses_with d t z m) r ∙ ap (λ z. accesses_with d t g z) x

  abbrev access_with : AccessKind → ℤ → List Affine → Access
  access_with kind array subscripts = record { kind = kind; array = array; subscripts = subscripts }

  module _ (making : Bool) (kind : AccessKind) (r : Reference) (xs : List Access) (fit : Bool) where
    abbrev x : Access
    x = access parameters arrays loops kind r

    abbrev here : Access
    here = record { kind = kind; array = number_in arrays r.name; subscripts = fitting_ones (forms r.subscripts) }

    count_more : min (min (length xs) 257 + 1) 257 ≡ min (length (xs ++ x ∷ [])) 257
    count_more = omega (arith, length-append xs (x ∷ []))

    short_more : (not (subscripts_above xs) && nat_le (length (forms r.subscripts)) 12) ≡ not (subscripts_above (xs ++ x ∷ []))
    short_more =
        ap (λ n. not (subscripts_above xs) && nat_le n 12) (length-map r.subscripts (λ e. checked_form parameters loops e))
        ∙ ap (λ t. not (subscripts_above xs) && t) (le_not_lt (length r.subscripts) 12)
        ∙ sym (not_or (subscripts_above xs) (nat_lt 12 (length r.subscripts)))
        ∙ ap (λ n. not (subscripts_above xs || nat_lt 12 n)) (sym (length-map r.subscripts (λ e. form parameters loops e)))
        ∙ ap not (sym (subscripts_append xs x))

    abbrev fit_more : Bool
    fit_more = fit && all_forms_fit parameters loops r.subscripts

    -- with one more the earlier ones are fine too
    fewer : nat_le (min (length (xs ++ x ∷ [])) 257) 256 ≡ true → nat_le (min (length xs) 257) 256 ≡ true
    fewer h = le-leb (min (length xs) 257) 256 (omega (arith, leb-true (min (length (xs ++ x ∷ [])) 257) 256 h, length-append xs (x ∷ [])))

    and_true : (a b : Bool) → a ≡ true → b ≡ true → (a && b) ≡ true
    and_true true b p q = q
    and_true false b p q = p

    not_true : (b : Bool) → not b ≡ true → b ≡ false
    not_true true h = sym h
    not_true false h = refl

    shorter : not (subscripts_above (xs ++ x ∷ [])) ≡ true → not (subscripts_above xs) ≡ true
    shorter h = (both_true (not (subscripts_above xs)) (nat_le (length (forms r.subscripts)) 12) (short_more ∙ h)).0

    made_more : cond (making && are_fine (bare (xs ++ x ∷ []) fit_more)) (cond (making && are_fine (bare xs fit)) xs [] ++ here ∷ []) []
        ≡ cond (making && are_fine (bare (xs ++ x ∷ []) fit_more)) (xs ++ x ∷ []) []
    made_more = by (making && are_fine (bare (xs ++ x ∷ []) fit_more)) refl
      where
        by : (t : Bool) → (making && are_fine (bare (xs ++ x ∷ []) fit_more)) ≡ t
            → cond t (cond (making && are_fine (bare xs fit)) xs [] ++ here ∷ []) [] ≡ cond t (xs ++ x ∷ []) []
        by false e = refl
        by true e =
            let a = both_true making (are_fine (bare (xs ++ x ∷ []) fit_more)) e in
            let b = both_true (nat_le (min (length (xs ++ x ∷ [])) 257) 256) (not (subscripts_above (xs ++ x ∷ [])) && fit_more) a.1 in
            let c = both_true (not (subscripts_above (xs ++ x ∷ []))) fit_more b.1 in
            let d = both_true fit (all_forms_fit parameters loops r.subscripts) c.1 in
            let fine : (making && are_fine (bare xs fit)) ≡ true =
            and_true making (are_fine (bare xs fit)) a.0 (and_true (nat_le (min (length xs) 257) 256) (not (subscripts_above xs) && fit) (fewer b.0) (and_true (not (subscripts_above xs)) fit (shorter c.0) d.0)) in
            ap (λ t. cond t xs [] ++ here ∷ []) fine
            ∙ ap (λ fs. xs ++ access_with kind (number_in arrays r.name) fs ∷ []) (fitting_is r.subscripts (all_fit_is r.subscripts ∙ d.1))

    step : ℕ → Bool → Bool → Accesses
    step count short f = record { count = count; short = short; fit = f; made = cond (making && (nat_le count 256 && (short && f))) (cond (making && are_fine (bare xs fit)) xs [] ++ here ∷ []) [] }

    pub one_more : with_access making arrays kind r.name (forms r.subscripts) (summed making xs fit) ≡ summed making (xs ++ x ∷ []) fit_more
    unfolding accesses_with step
    one_more =
        ap (λ c. step c (not (subscripts_above xs) && nat_le (length (forms r.subscripts)) 12) (fit && all_fit (forms r.subscripts))) count_more
        ∙ ap (λ t. step (min (length (xs ++ x ∷ [])) 257) t (fit && all_fit (forms r.subscripts))) short_more
        ∙ ap (λ t. step (min (length (xs ++ x ∷ [])) 257) (not (subscripts_above (xs ++ x ∷ []))) (fit && t)) (all_fit_is r.subscripts)
        ∙ ap (λ m. accesses_with (min (length (xs ++ x ∷ [])) 257) (not (subscripts_above (xs ++ x ∷ []))) fit_more m) made_more

  -- the references that are read
  abbrev pub gathered : Bool → List Reference → Accesses → Accesses
  gathered making [] a = a
  gathered making (r ∷ rs) a = gathered making rs (with_access making arrays Read r.name (forms r.subscripts) a)

  gathered_is : (making : Bool) (rs : List Reference) (xs : List Access) (fit : Bool)
      → gathered making rs (summed making xs fit) ≡ summed making (xs ++ map (access parameters arrays loops Read) rs) (fit && references_fit parameters loops rs)
  gathered_is making [] xs fit = ap (λ ys. summed making ys fit) (sym (append_nothing xs)) ∙ ap (λ t. summed making (xs ++ []) t) (sym (and_true_right fit))
    where
      and_true_right : (b : Bool) → (b && true) ≡ b
      and_true_right true = refl
      and_true_right false = refl
  gathered_is making (r ∷ rs) xs fit =
      ap (λ a. gathered making rs a) (one_more making Read r xs fit)
      ∙ gathered_is making rs (xs ++ access parameters arrays loops Read r ∷ []) (fit && all_forms_fit parameters loops r.subscripts)
      ∙ ap (λ ys. summed making ys ((fit && all_forms_fit parameters loops r.subscripts) && references_fit parameters loops rs)) (append_assoc xs (access parameters arrays loops Read r ∷ []) (map (access parameters arrays loops Read) rs))
      ∙ ap (λ t. summed making (xs ++ (access parameters arrays loops Read r ∷ map (access parameters arrays loops Read) rs)) t) (and_assoc fit (all_forms_fit parameters loops r.subscripts) (references_fit parameters loops rs))

  -- what is no array has no subscripts
  arrays_fit : (rs : List Reference) → references_fit parameters loops (array_references parameters loops rs) ≡ references_fit parameters loops rs
  arrays_fit [] = refl
  arrays_fit (r ∷ rs) = by r.subscripts (is_among r.name loops || is_among r.name parameters) (arrays_fit rs)
    where
      by : (es : List Expression) (t : Bool) → references_fit parameters loops (array_references parameters loops rs) ≡ references_fit parameters loops rs
          → references_fit parameters loops (cond (not (is_empty es) || not t) (record { name = r.name; subscripts = es } ∷ array_references parameters loops rs) (array_references parameters loops rs))
          ≡ (all_forms_fit parameters loops es && references_fit parameters loops rs)
      by [] true rest = rest
      by [] false rest = rest
      by (e ∷ es) t rest = ap (λ u. all_forms_fit parameters loops (e ∷ es) && u) rest

  read_fit : (a : Assignment) → ((true && references_fit parameters loops (references_read parameters loops a)) && all_forms_fit parameters loops a.target.subscripts)
      ≡ references_fit parameters loops (a.target ∷ a.right)
  read_fit a = by a.updates (all_forms_fit parameters loops a.target.subscripts) refl
    where
      R : Bool
      R = references_fit parameters loops a.right

      by : (u t : Bool) → all_forms_fit parameters loops a.target.subscripts ≡ t
          → (references_fit parameters loops (cond u (a.target ∷ []) [] ++ array_references parameters loops a.right) && all_forms_fit parameters loops a.target.subscripts)
          ≡ (all_forms_fit parameters loops a.target.subscripts && references_fit parameters loops a.right)
      by true true e = ap (λ t. (t && references_fit parameters loops (array_references parameters loops a.right)) && t) e ∙ last (arrays_fit a.right) ∙ ap (λ t. t && references_fit parameters loops a.right) (sym e)
        where
          last : {x y : Bool} → x ≡ y → (x && true) ≡ y
          last {x} e = right x ∙ e
            where
              right : (b : Bool) → (b && true) ≡ b
              right true = refl
              right false = refl
      by true false e = ap (λ t. (t && references_fit parameters loops (array_references parameters loops a.right)) && t) e ∙ ap (λ t. t && references_fit parameters loops a.right) (sym e)
      by false t e = ap (λ s. s && all_forms_fit parameters loops a.target.subscripts) (arrays_fit a.right) ∙ swapped (references_fit parameters loops a.right) (all_forms_fit parameters loops a.target.subscripts)
        where
          swapped : (a b : Bool) → (a && b) ≡ (b && a)
          swapped true true = refl
          swapped true false = refl
          swapped false true = refl
          swapped false false = refl

  none_summed : (making : Bool) → no_accesses ≡ summed making [] true
  none_summed true = refl
  none_summed false = refl

  -- those of an assignment
  pub all_gathered : (making : Bool) (a : Assignment)
      → with_access making arrays Write a.target.name (forms a.target.subscripts) (gathered making (references_read parameters loops a) no_accesses)
      ≡ summed making (accesses parameters arrays loops a) (references_fit parameters loops (a.target ∷ a.right))
  all_gathered making a =
      ap (λ b. with_access making arrays Write a.target.name (forms a.target.subscripts) b)
      (ap (λ b. gathered making (references_read parameters loops a) b) (none_summed making) ∙ gathered_is making (references_read parameters loops a) [] true)
      ∙ one_more making Write a.target (map (access parameters arrays loops Read) (references_read parameters loops a)) (true && references_fit parameters loops (references_read parameters loops a))
      ∙ ap (λ t. summed making (accesses parameters arrays loops a) t) (read_fit a)
