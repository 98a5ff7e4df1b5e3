-- One turn of each loop over the levels of a statement: the command for one level, and those that are still to come.
use Rattle.std.proofs.Common.{◌≡◌, ℤ, ◌*ℤ◌, ℕ, zero, suc, ◌+◌, ◌-◌, ◌<◌, ◌==◌, true, false, List, [], ◌∷◌, ◌++◌, length, drop, get_or, refl, sym, ◌∙◌, ap, subst, arith, append-nil}
use Rattle.std.specs.List.{range_with_len}
use Rattle.std.proofs.lemmas.List.{drop_more}
use Rattle.row_core.specs.Rows.{scale}
use Rattle.beta_tree.specs.Edits.{place_of}
use Rattle.beta_tree.proofs.Places.{same_yes}
use Rattle.scop_data.specs.declared.affines.Affine.{Affine}
use Rattle.clay_script.specs.declared.commands.Command.{Command}
use Rattle.chlore_recover.specs.Triangles.{last_value, sign_at}
use Rattle.chlore_recover.specs.Recoverable.{rows_of}
use Rattle.chlore_recover.proofs.Orders.{place_in_range}
use Rattle.chlore_recover.specs.LevelScripts.{reverse_where, first_reverses, row_skews, second_reverses, interchanges, shifts}
use Rattle.schedule_recovery.specs.Steps.{skew_where, interchange_where, standing_after, shift_where}
use Rattle.schedule_recovery.proofs.Pieces.{stepped, range_more}

-- the first item of what is left
pub left_is : {A : Type 0} (xs : List A) (k : ℕ) (x : A) → k < length xs → x ≡ get_or xs k x → drop k xs ≡ x ∷ drop (k + 1) xs
left_is xs k x l is = drop_more xs k x l ∙ ap (λ z. z ∷ drop (k + 1) xs) (sym is)

pub reverse_more : (p : List ℤ) (k : ℕ) (levels : List Affine) (form : Affine) (sign : ℤ) (old all now : List Command) → k < length levels → form ≡ get_or levels k form → sign ≡ last_value form.iterators
    → now ≡ old ++ reverse_where sign p (k + 1) → old ++ first_reverses p (k + 1) (rows_of (drop k levels)) ≡ all → now ++ first_reverses p (k + 1 + 1) (rows_of (drop (k + 1) levels)) ≡ all
reverse_more p k levels form sign old all now l is s e h =
    let rest : List Command = first_reverses p (k + 1 + 1) (rows_of (drop (k + 1) levels)) in
    stepped old (reverse_where sign p (k + 1)) rest all now e
    (ap (λ z. old ++ (reverse_where z p (k + 1) ++ rest)) s ∙ (ap (λ z. old ++ first_reverses p (k + 1) (rows_of z)) (sym (left_is levels k form l is)) ∙ h))

pub skew_more : (p : List ℤ) (level k : ℕ) (sign x : ℤ) (factors : List ℤ) (old all now : List Command) → k < length factors → x ≡ get_or factors k x
    → now ≡ old ++ skew_where p level (k + 1) (sign *ℤ x) → old ++ row_skews p level (k + 1) (scale sign (drop k factors)) ≡ all → now ++ row_skews p level (k + 1 + 1) (scale sign (drop (k + 1) factors)) ≡ all
skew_more p level k sign x factors old all now l is e h =
    let rest : List Command = row_skews p level (k + 1 + 1) (scale sign (drop (k + 1) factors)) in
    stepped old (skew_where p level (k + 1) (sign *ℤ x)) rest all now e (ap (λ z. old ++ row_skews p level (k + 1) (scale sign z)) (sym (left_is factors k x l is)) ∙ h)

pub second_more : (p : List ℤ) (k d : ℕ) (rows : List (List ℤ)) (sign : ℤ) (old all now : List Command) → k < d → sign ≡ sign_at k rows → now ≡ old ++ reverse_where sign p (k + 1)
    → old ++ second_reverses p (range_with_len k (d - k)) rows ≡ all → now ++ second_reverses p (range_with_len (k + 1) (d - (k + 1))) rows ≡ all
second_more p k d rows sign old all now l s e h =
    let rest : List Command = second_reverses p (range_with_len (k + 1) (d - (k + 1))) rows in
    stepped old (reverse_where sign p (k + 1)) rest all now e
    (ap (λ z. old ++ (reverse_where z p (k + 1) ++ rest)) s ∙ (ap (λ z. old ++ second_reverses p z rows) (sym (range_more k d l)) ∙ h))

where_then : (p : List ℤ) (k i : ℕ) (standing wanted : List ℕ) → interchanges p k standing (i ∷ wanted) ≡ interchange_where p k i standing ++ interchanges p (k + 1) (standing_after k i standing) wanted
where_then p k i standing wanted =
    elim (place_of i standing == k) as (λ t. (place_of i standing == k) ≡ t → interchanges p k standing (i ∷ wanted) ≡ interchange_where p k i standing ++ interchanges p (k + 1) (standing_after k i standing) wanted) [
      | true ↦ λ e. rw e refl
      | false ↦ λ e. rw e refl
    ] refl

pub interchange_more : (p : List ℤ) (k i : ℕ) (places standing after : List ℕ) (old all now : List Command) → k < length places → i ≡ get_or places k 0 → now ≡ old ++ interchange_where p k i standing
    → after ≡ standing_after k i standing → old ++ interchanges p k standing (drop k places) ≡ all → now ++ interchanges p (k + 1) after (drop (k + 1) places) ≡ all
interchange_more p k i places standing after old all now l is e s h =
    let rest : List Command = interchanges p (k + 1) after (drop (k + 1) places) in
    stepped old (interchange_where p k i standing) rest all now e
    (ap (λ z. old ++ (interchange_where p k i standing ++ interchanges p (k + 1) z (drop (k + 1) places))) s
    ∙ (ap (λ z. old ++ z) (sym (where_then p k i standing (drop (k + 1) places))) ∙ (ap (λ z. old ++ interchanges p k standing z) (sym (drop_more places k 0 l ∙ ap (λ z. z ∷ drop (k + 1) places) (sym is))) ∙ h)))

pub shift_more : (p : List ℤ) (k : ℕ) (levels : List Affine) (form : Affine) (old all now : List Command) → k < length levels → form ≡ get_or levels k form → now ≡ old ++ shift_where p (k + 1) form
    → old ++ shifts p (k + 1) (drop k levels) ≡ all → now ++ shifts p (k + 1 + 1) (drop (k + 1) levels) ≡ all
shift_more p k levels form old all now l is e h =
    let rest : List Command = shifts p (k + 1 + 1) (drop (k + 1) levels) in
    stepped old (shift_where p (k + 1) form) rest all now e (ap (λ z. old ++ shifts p (k + 1) z) (sym (left_is levels k form l is)) ∙ h)

-- rows that are in order need no interchange

none_from : (p : List ℤ) (n k d : ℕ) → k + n ≡ d → interchanges p k (range_with_len 0 d) (range_with_len k n) ≡ []
none_from p zero k d e = refl
none_from p (suc n) k d e =
    let from : 0 + k ≡ k = omega arith in
    let here : place_of k (range_with_len 0 d) ≡ k = subst (λ y. place_of y (range_with_len 0 d) ≡ k) from (place_in_range d 0 k (omega arith)) in
    let test : (place_of k (range_with_len 0 d) == k) ≡ true = ap (λ z. z == k) here ∙ same_yes k in
    rw test (none_from p n (k + 1) d (omega arith))

pub no_interchanges : (p : List ℤ) (numbers : List ℕ) (old : List Command) → numbers ≡ range_with_len 0 (length numbers) → old ≡ old ++ interchanges p 0 (range_with_len 0 (length numbers)) numbers
no_interchanges p numbers old e =
    let none : interchanges p 0 (range_with_len 0 (length numbers)) numbers ≡ [] =
    subst (λ z. interchanges p 0 (range_with_len 0 (length numbers)) z ≡ []) (sym e) (none_from p (length numbers) 0 (length numbers) (omega arith)) in
    sym (append-nil old) ∙ ap (λ z. old ++ z) (sym none)
