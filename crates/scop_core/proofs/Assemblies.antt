-- Steps of assembling a SCoP.
use Rattle.std.proofs.Common.{◌≡◌, ℕ, zero, suc, ◌+◌, ◌-◌, ◌<◌, Bool, true, false, ◌&&◌, List, [], ◌∷◌, ◌++◌, length, refl, ap, sym, ◌∙◌, arith, append_assoc, subst, add-one, get_or, drop, Some, None, if◌then◌else◌}
use Rattle.std.specs.Fmt.{decimal}
use Rattle.std.specs.Prelude.{All, Option, slice_get}
use Rattle.std.proofs.lemmas.Option.{get_or_from_slice_get}
use Rattle.std.proofs.lemmas.List.{get_or-drop, drop-drop}
use Rattle.std.proofs.lemmas.List.Elements.{All-push, All-head, All-weaker}
use Rattle.relation_core.specs.Systems.{System}
use Rattle.suite_base.specs.declared.refusals.Refusal.TheVariants.{NotSolved}
use Rattle.scop_data.specs.declared.accesses.Access.{Access}
use Rattle.scop_data.specs.declared.accesses.AccessKind.{AccessKind}
use Rattle.scop_data.specs.declared.schedules.Schedule.{Schedule}
use Rattle.scop_data.specs.declared.statements.Statement.{Statement}
use Rattle.scop_data.specs.declared.raw_pieces.RawStatement.{RawStatement}
use Rattle.scop_data.specs.SolvedRows.{HasRelation, HasAccessRelation}
use Rattle.schedule_forms.specs.SolvedForm.{is_access, is_scattering, access_of}
use Rattle.scop_core.specs.Assembly.{default_names, is_one, the_part, HasInputs, HasShapes, HasNames, iterators_of, are_solved, is_solved, first_unsolved, solved_accesses, solved_statement, solved_statements, or_else}
use Rattle.schedule_forms.proofs.SolvedShapes.{both}

less_suc : (n k : ℕ) → k < n → n - k ≡ suc (n - (k + 1))
less_suc n k h = omega arith

pub names_more : (n k : ℕ) (made new whole : List (List ℕ)) → k < n → new ≡ made ++ (105 ∷ decimal (k + 1)) ∷ []
    → made ++ default_names (k + 1) (n - k) ≡ whole → new ++ default_names (k + 1 + 1) (n - (k + 1)) ≡ whole
names_more n k made new whole h e w =
    let s : default_names (k + 1) (n - k) ≡ (105 ∷ decimal (k + 1)) ∷ default_names (k + 1 + 1) (n - (k + 1)) = ap (λ m. default_names (k + 1) m) (less_suc n k h) in
    rw (e, append_assoc) (ap (λ t. made ++ t) (sym s) ∙ w)

-- the one part of a relation has what all of its parts have
pub the_part_has : (test : System → Bool) (P : System → Type 0) (parts : List System) → is_one test parts ≡ true → All P parts → P (the_part parts)
the_part_has test P [] h all = cc
the_part_has test P (part ∷ []) h all = All-head P part [] all
the_part_has test P (part ∷ (next ∷ parts)) h all = cc

-- one more access that can be printed
pub access_pushed : (d p : ℕ) (parts : List System) → is_one is_access parts ≡ true → (made new : List Access) (one : Access) → new ≡ made ++ one ∷ []
    → HasAccessRelation (the_part parts).shape.inputs (the_part parts).shape.parameters one
    → All (HasInputs d p) parts → All (HasAccessRelation d p) made → All (HasAccessRelation d p) new
access_pushed d p parts h made new one e own inputs before =
    let here : HasInputs d p (the_part parts) = the_part_has is_access (HasInputs d p) parts h inputs in
    let own_d : HasAccessRelation d (the_part parts).shape.parameters one = subst (λ n. HasAccessRelation n (the_part parts).shape.parameters one) here.inputs_are own in
    let own_dp : HasAccessRelation d p one = subst (λ n. HasAccessRelation d n one) here.parameters_are own_d in
    rw e (All-push (HasAccessRelation d p) made one before own_dp)

pub item_drop : {X : Type 0} (xs : List X) (i : ℕ) (x : X) → i < length xs → x ≡ get_or xs i x → drop i xs ≡ x ∷ drop (i + 1) xs
item_drop [] i x h e = absurd (omega arith)
item_drop (y ∷ xs) zero x h e = ap (λ t. t ∷ xs) (sym e)
item_drop (y ∷ xs) (suc i) x h e = rw add-one (rw add-one at (item_drop xs i x (omega arith) e))

pub item_has : {X : Type 0} (P : X → Type 0) (xs : List X) (i : ℕ) (x : X) → i < length xs → x ≡ get_or xs i x → All P xs → P x
item_has P xs i x h e all = subst P (sym e) (all i x h)

dropped_first : {X : Type 0} (xs : List X) (i : ℕ) (x : X) → get_or (drop i xs) 0 x ≡ get_or xs i x
dropped_first xs i x = get_or-drop i xs 0 x ∙ ap (λ n. get_or xs n x) (omega arith)

-- what stands at place i of a list stands there in one with the same end from there on
pub item_kept : {X : Type 0} (now xs : List X) (i : ℕ) (x : X) → slice_get now i ≡ Some x → drop i now ≡ drop i xs → x ≡ get_or xs i x
item_kept now xs i x e r =
    sym (get_or_from_slice_get now i x x e) ∙ (sym (dropped_first now i x) ∙ (ap (λ l. get_or l 0 x) r ∙ dropped_first xs i x))

pub rest_kept : {X : Type 0} (new now xs : List X) (i : ℕ) → drop (i + 1) new ≡ drop (i + 1) now → drop i now ≡ drop i xs → drop (i + 1) new ≡ drop (i + 1) xs
rest_kept new now xs i e r = e ∙ (sym (drop-drop 1 i now) ∙ (ap (λ l. drop 1 l) r ∙ drop-drop 1 i xs))

next_made : {X : Type 0} (made new rest more whole : List X) (x : X) → new ≡ made ++ x ∷ [] → rest ≡ x ∷ more → made ++ rest ≡ whole → new ++ more ≡ whole
next_made made new rest more whole x e r w = rw (e, append_assoc) (ap (λ t. made ++ t) (sym r) ∙ w)

pub accesses_more : (xs : List (AccessKind × List System)) (i : ℕ) (x : AccessKind × List System) (made new whole : List Access) → i < length xs → x ≡ get_or xs i x
    → new ≡ made ++ access_of x.0 (the_part x.1) ∷ [] → made ++ solved_accesses (drop i xs) ≡ whole → new ++ solved_accesses (drop (i + 1) xs) ≡ whole
accesses_more xs i x made new whole h e n w =
    next_made made new (solved_accesses (drop i xs)) (solved_accesses (drop (i + 1) xs)) whole (access_of x.0 (the_part x.1)) n (ap solved_accesses (item_drop xs i x h e)) w

pub accesses_left : (xs : List (AccessKind × List System)) (i : ℕ) (x : AccessKind × List System) → i < length xs → x ≡ get_or xs i x
    → are_solved (drop i xs) ≡ true → are_solved (drop (i + 1) xs) ≡ true
accesses_left xs i x h e s =
    let t : (is_one is_access x.1 && are_solved (drop (i + 1) xs)) ≡ true = sym (ap are_solved (item_drop xs i x h e)) ∙ s in (both _ _ t).1

pub unsolved_first : (k : ℕ) (raw : RawStatement) (raws : List RawStatement) → first_unsolved k (raw ∷ raws) ≡ None → (is_solved raw ≡ true) × (first_unsolved (k + 1) raws ≡ None)
unsolved_first k raw raws h =
    elim (is_solved raw) as (λ t. is_solved raw ≡ t → (if t then first_unsolved (k + 1) raws else Some (NotSolved k)) ≡ None → (t ≡ true) × (first_unsolved (k + 1) raws ≡ None))
    [ true ↦ λ e g. (refl, g) | false ↦ λ e g. cc ] refl h

pub statements_left : (xs : List RawStatement) (i : ℕ) (x : RawStatement) → i < length xs → x ≡ get_or xs i x
    → first_unsolved (i + 1) (drop i xs) ≡ None → (is_solved x ≡ true) × (first_unsolved (i + 1 + 1) (drop (i + 1) xs) ≡ None)
statements_left xs i x h e s = unsolved_first (i + 1) x (drop (i + 1) xs) (sym (ap (first_unsolved (i + 1)) (item_drop xs i x h e)) ∙ s)

pub statements_more : (xs : List RawStatement) (i : ℕ) (x : RawStatement) (made new whole : List Statement) → i < length xs → x ≡ get_or xs i x
    → new ≡ made ++ solved_statement (i + 1) x ∷ [] → made ++ solved_statements (i + 1) (drop i xs) ≡ whole → new ++ solved_statements (i + 1 + 1) (drop (i + 1) xs) ≡ whole
statements_more xs i x made new whole h e n w =
    next_made made new (solved_statements (i + 1) (drop i xs)) (solved_statements (i + 1 + 1) (drop (i + 1) xs)) whole (solved_statement (i + 1) x) n
    (ap (solved_statements (i + 1)) (item_drop xs i x h e)) w

-- a statement in solved form can be printed
pub statement_fits : (p n : ℕ) (raw : RawStatement) (schedule : Schedule) (accesses : List Access) → is_solved raw ≡ true
    → HasRelation (the_part raw.scattering).shape.inputs (the_part raw.scattering).shape.parameters schedule
    → ((d q : ℕ) → All (λ access. All (HasInputs d q) access.1) raw.accesses → All (HasAccessRelation d q) accesses)
    → n ≡ iterators_of raw → HasShapes p raw → HasRelation n p schedule × All (HasAccessRelation n p) accesses
statement_fits p n raw schedule accesses solved own all e shapes =
    let here : HasInputs (iterators_of raw) p (the_part raw.scattering)
    = the_part_has is_scattering (HasInputs (iterators_of raw) p) raw.scattering (both _ _ solved).0 shapes.scattering in
    let s1 : HasRelation (iterators_of raw) (the_part raw.scattering).shape.parameters schedule
    = subst (λ d. HasRelation d (the_part raw.scattering).shape.parameters schedule) here.inputs_are own in
    let s2 : HasRelation (iterators_of raw) p schedule = subst (λ q. HasRelation (iterators_of raw) q schedule) here.parameters_are s1 in
    (subst (λ d. HasRelation d p schedule) (sym e) s2, subst (λ d. All (HasAccessRelation d p) accesses) (sym e) (all (iterators_of raw) p shapes.accesses))

pub shapes_names : (p : ℕ) (raws : List RawStatement) → All (HasShapes p) raws → All HasNames raws
shapes_names p raws all = All-weaker (HasShapes p) HasNames (λ raw h. h.body) raws all

pub refused_here : {X : Type 0} (a b : Option X) (x : X) → a ≡ Some x → or_else a b ≡ Some x
refused_here a b x e = rw e refl

pub passed_here : {X : Type 0} (a b : Option X) → a ≡ None → or_else a b ≡ b
passed_here a b e = rw e refl

pub length_solved : (k : ℕ) (raws : List RawStatement) → length (solved_statements k raws) ≡ length raws
length_solved k [] = refl
length_solved k (raw ∷ raws) = ap suc (length_solved (k + 1) raws)
