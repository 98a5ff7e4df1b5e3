-- What holds at each place of the walk goes on to hold.
use Rattle.std.proofs.Common.{◌≡◌, ℕ, zero, suc, ◌+◌, ◌≤◌, List, [], ◌∷◌, ◌++◌, length, map, get_or, ◌-◌, Bool, true, false, ◌&&◌, cond, refl, sym, ◌∙◌, ap, subst, arith}
use Rattle.std.specs.Prelude.{All, min, nat_le, nat_lt, Option, None, Some, MatchOption, is_none, Result, Ok, Err, OnOk, OnErr}
use Rattle.std.proofs.lemmas.Bool.{leb-true}
use Rattle.std.proofs.lemmas.List.{length-append, length-map}
use Rattle.std.proofs.lemmas.List.Elements.{All-nil, All-head, All-tail, All-cons, All-push}
use Rattle.suite_base.specs.Limits.{max_statements, max_iterators, max_parameters, max_arrays}
use Rattle.suite_base.specs.declared.refusals.Refusal.{Refusal}
use Rattle.scop_data.specs.declared.raw_pieces.RawStatement.{RawStatement}
use Rattle.scop_data.specs.Pieces.{statement_pieces}
use Rattle.scop_core.specs.Assembly.{or_else}
use Rattle.scop_data.specs.declared.affines.Affine.{Affine}
use Rattle.scop_data.specs.declared.accesses.Access.{Access}
use Rattle.scop_data.specs.declared.accesses.AccessKind.{AccessKind}
use Rattle.scop_data.specs.declared.accesses.AccessKind.TheVariants.{Read, Write}
use Rattle.scop_data.specs.SolvedRows.{HasSizes, HasAccessRelation}
use Rattle.clan_extract.specs.Regions.{number_in, Reference, Assignment, Assign}
use Rattle.clan_extract.specs.Scops.{references_read}
use Rattle.clan_extract.proofs.TurnSteps.{append_nothing}
use Rattle.clan_extract.proofs.Forms.{both_true}
use Rattle.clan_rows.specs.declared.forms.Form.{Form}
use Rattle.clan_rows.specs.Contents.{made}
use Rattle.clan_rows.specs.Layers.{LayerData}
use Rattle.clan_walk.specs.declared.gathering.Accesses.{Accesses}
use Rattle.clan_walk.specs.declared.turns.Turn.{Turn}
use Rattle.clan_walk.specs.Places.{IsSizedForm, IsPlace, children_in}
use Rattle.clan_walk.specs.Walk.{State, no_accesses, is_open, is_making, are_narrow, around, assignment_refusal, refusal_here, pieces_here, statement_at, counted, refused, assigned, referred, read, walked, last_or, without_last, all_fit, fitting_ones, are_fine, with_access, next_behind, left_loop}
use Rattle.clan_walk.proofs.Kept.{without_end}
use Rattle.clan_walk.proofs.Walks.{next_at_end}

-- what is taken from the end
popped : {X : Type 0} (old new : List X) (x : X) → old ≡ new ++ x ∷ [] → new ≡ without_last old
popped old new x e = sym (ap without_last e ∙ without_end new x)

popped_none : {X : Type 0} (old new : List X) → old ≡ [] → new ≡ [] → new ≡ without_last old
popped_none old new e f = f ∙ sym (ap without_last e)

pub children_more : (turns : List Turn) (t : Turn) → children_in (turns ++ t ∷ []) ≡ children_in turns + t.beta
children_more [] t = omega arith
children_more (u ∷ turns) t = omega (arith, children_more turns t)

-- accesses at forms of the right sizes can be printed
fewer : (fs : List (Option Form)) → length (fitting_ones (map made fs)) ≤ length fs
fewer [] = omega arith
fewer (None ∷ fs) = omega (arith, fewer fs)
fewer (Some f ∷ fs) = omega (arith, fewer fs)

sized : (m k : ℕ) (fs : List (Option Form)) → All (IsSizedForm m k) fs → All (HasSizes m 0 k) (fitting_ones (map made fs))
sized m k [] all = All-nil (HasSizes m 0 k)
sized m k (None ∷ fs) all = sized m k fs (All-tail (IsSizedForm m k) None fs all)
sized m k (Some f ∷ fs) all =
    let s = All-head (IsSizedForm m k) (Some f) fs all in
    All-cons (HasSizes m 0 k) _ (fitting_ones (map made fs)) (record { iterators_are = s.0; floors_are = refl; parameters_are = s.1 }) (sized m k fs (All-tail (IsSizedForm m k) (Some f) fs all))

abbrev bare : List (Option Affine) → Accesses → Accesses
bare fs a = record { count = min (a.count + 1) 257; short = a.short && nat_le (length fs) 12; fit = a.fit && all_fit fs; made = [] }

abbrev added_access : List (List ℕ) → AccessKind → List ℕ → List (Option Form) → Access
added_access arrays kind name fs = record { kind = kind; array = number_in arrays name; subscripts = fitting_ones (map made fs) }

pub printable_more : (making : Bool) (arrays : List (List ℕ)) (kind : AccessKind) (name : List ℕ) (m k : ℕ) (fs : List (Option Form)) (a : Accesses)
    → (making ≡ true → (m ≤ 12) × (k ≤ 16)) → All (IsSizedForm m k) fs → All (HasAccessRelation m k) a.made
    → All (HasAccessRelation m k) (with_access making arrays kind name (map made fs) a).made
printable_more making arrays kind name m k fs a limits sizes old = by (making && are_fine (bare (map made fs) a)) refl
  where
    printable : (making && are_fine (bare (map made fs) a)) ≡ true → HasAccessRelation m k (added_access arrays kind name fs)
    printable e =
        let p = both_true making (are_fine (bare (map made fs) a)) e in
        let l = limits p.0 in
        let q = both_true (nat_le (min (a.count + 1) 257) 256) ((a.short && nat_le (length (map made fs)) 12) && (a.fit && all_fit (map made fs))) p.1 in
        let r = both_true (a.short && nat_le (length (map made fs)) 12) (a.fit && all_fit (map made fs)) q.1 in
        let s = both_true a.short (nat_le (length (map made fs)) 12) r.0 in
        let few : length (map made fs) ≤ 12 = leb-true (length (map made fs)) 12 s.1 in
        record {
          subscripts = sized m k fs sizes;
          limits = record { outputs = omega (arith, few, fewer fs, length-map fs made); inputs = omega (arith, l.0); locals = omega arith; parameters = omega (arith, l.1) };
        }

    by : (t : Bool) → (making && are_fine (bare (map made fs) a)) ≡ t → All (HasAccessRelation m k) (cond t (a.made ++ added_access arrays kind name fs ∷ []) [])
    by true e = All-push (HasAccessRelation m k) a.made (added_access arrays kind name fs) old (printable e)
    by false e = All-nil (HasAccessRelation m k)

-- where nothing is made any more, an assignment is only counted
pub skips : (r : Option Refusal) → or_else r None ≡ r
skips None = refl
skips (Some x) = refl

state_with : List RawStatement → Option Refusal → State → State
state_with statements refusal s = record s { accesses = no_accesses; statements = statements; refusal = refusal }

not_open : (text : List ℕ) (s : State) → is_open s ≡ false → assigned text s ≡ counted (refused None s)
unfolding state_with
not_open text s e =
    let none : refusal_here s ≡ None = ap (λ t. cond t (assignment_refusal (s.number + 1) (around s) s.accesses) None) e in
    let nothing : pieces_here text s ≡ [] =
    ap (λ t. cond (((t && nat_le (length s.loops) 12) && are_narrow (around s).parts) && is_none (refusal_here s)) (statement_pieces (length s.parameters) (statement_at text s) ∷ []) []) e in
    ap (λ r. counted (state_with (s.statements ++ pieces_here text s) (or_else s.refusal r) s)) none
    ∙ ap (λ xs. counted (state_with (s.statements ++ xs) (or_else s.refusal None) s)) nothing
    ∙ ap (λ xs. counted (state_with xs (or_else s.refusal None) s)) (append_nothing s.statements)

-- behind references
with_accesses : Accesses → State → State
with_accesses a s = record s { accesses = a }

reads_only : (rs : List Reference) (s : State) → (a : Accesses) × (read rs s ≡ with_accesses a s)
unfolding with_accesses
reads_only [] s = (s.accesses, refl)
reads_only (r ∷ rs) s = let rest = reads_only rs (referred Read r s) in (rest.0, rest.1)

pub skipped : (s : State) (a : Assignment) → is_open s ≡ false → counted (refused None s) ≡ walked (Assign a) s
unfolding with_accesses
skipped s a e =
    let r = reads_only (references_read s.parameters s.loops a) s in
    sym (ap (λ z. assigned a.text (referred Write a.target z)) r.1 ∙ not_open a.text (referred Write a.target (with_accesses r.0 s)) e)

-- an item at the end
pub last_at : {X Y : Type 0} (f : X → Y) (y : Y) (xs : List X) (k : ℕ) (x : X) → k + 1 ≡ length xs → x ≡ get_or xs k x → f x ≡ last_or y (map f xs)
last_at f y [] k x h e = absurd (omega (arith, h))
last_at f y (z ∷ []) zero x h e = ap f e
last_at f y (z ∷ (w ∷ xs)) zero x h e = absurd (omega (arith, h))
last_at f y (z ∷ []) (suc k) x h e = absurd (omega (arith, h))
last_at f y (z ∷ (w ∷ xs)) (suc k) x h e = last_at f (f z) (w ∷ xs) k x (omega (arith, h)) e

-- what `pop` leaves
pub popped_is : {X : Type 0} (r : Option X) (old new : List X) → MatchOption r ((old ≡ []) × (new ≡ [])) (λ x. old ≡ new ++ x ∷ []) → new ≡ without_last old
popped_is None old new h = popped_none old new h.0 h.1
popped_is (Some x) old new h = popped old new x h

pub popped_length : {X : Type 0} (r : Option X) (old new : List X) → MatchOption r ((old ≡ []) × (new ≡ [])) (λ x. old ≡ new ++ x ∷ []) → length new ≡ length old - 1
popped_length None old new h = omega (arith, ap length h.0, ap length h.1)
popped_length (Some x) old new h = omega (arith, ap length h ∙ length-append new (x ∷ []))

pub without_map : {X Y : Type 0} (f : X → Y) (xs : List X) → map f (without_last xs) ≡ without_last (map f xs)
without_map f [] = refl
without_map f (x ∷ []) = refl
without_map f (x ∷ (y ∷ xs)) = ap (λ ys. f x ∷ ys) (without_map f (y ∷ xs))

-- a place with other loops round it
abbrev pub at_place : List (List ℕ) → List Turn → ℕ → List LayerData → Accesses → State → State
at_place loops turns next layers accesses s = record s { loops = loops; turns = turns; next = next; layers = layers; accesses = accesses }

pub same_place : (s : State) (loops : List (List ℕ)) (turns : List Turn) (next : ℕ) (layers : List LayerData) (accesses : Accesses)
    (loops2 : List (List ℕ)) (turns2 : List Turn) (next2 : ℕ) (layers2 : List LayerData) (accesses2 : Accesses)
    → loops ≡ loops2 → turns ≡ turns2 → next ≡ next2 → layers ≡ layers2 → accesses ≡ accesses2
    → at_place loops turns next layers accesses s ≡ at_place loops2 turns2 next2 layers2 accesses2 s
same_place s loops turns next layers accesses loops2 turns2 next2 layers2 accesses2 a b c d e =
    ap (λ x. at_place x turns next layers accesses s) a ∙ ap (λ x. at_place loops2 x next layers accesses s) b
    ∙ ap (λ x. at_place loops2 turns2 x layers accesses s) c ∙ ap (λ x. at_place loops2 turns2 next2 x accesses s) d
    ∙ ap (λ x. at_place loops2 turns2 next2 layers2 x s) e

pub behind_turn : (turns new : List Turn) (t : Turn) (next : ℕ) → turns ≡ new ++ t ∷ [] → t.beta + min next 1 ≡ next_behind next turns
behind_turn turns new t next e = sym (ap (next_behind next) e ∙ next_at_end next new t)

pub loop_ends : (s : State) (loops : List (List ℕ)) (turns : List Turn) (next : ℕ) (layers : List LayerData) (accesses : Accesses)
    → loops ≡ without_last s.loops → turns ≡ without_last s.turns → next ≡ next_behind s.next s.turns → layers ≡ without_last s.layers → accesses ≡ no_accesses
    → at_place loops turns next layers accesses s ≡ left_loop s
loop_ends s loops turns next layers accesses a b c d e =
    same_place s loops turns next layers accesses (without_last s.loops) (without_last s.turns) (next_behind s.next s.turns) (without_last s.layers) no_accesses a b c d e

-- where pieces are made, a statement has few enough iterators and parameters
pub making_limits : (s : State) → is_making s ≡ true → (length s.loops ≤ 12) × (length s.parameters ≤ 16)
making_limits s e =
    let p = both_true (is_open s) (nat_le (length s.loops) max_iterators) e in
    let q = both_true (nat_le (length s.parameters) max_parameters && nat_le (length s.arrays) max_arrays) (nat_lt s.number max_statements && is_none s.refusal) p.0 in
    let r = both_true (nat_le (length s.parameters) max_parameters) (nat_le (length s.arrays) max_arrays) q.0 in
    (leb-true (length s.loops) 12 p.1, leb-true (length s.parameters) 16 r.0)

-- an access more, or none on a failure
pub place_added : {E : Type 0} (r : Result (Unit {0}) E) (making : Bool) (arrays : List (List ℕ)) (kind : AccessKind) (name : List ℕ) (fs : List (Option Form))
    (parameters loops : List (List ℕ)) (turns : List Turn) (next number : ℕ) (old new : Accesses)
    → (making ≡ true → (length loops ≤ 12) × (length parameters ≤ 16)) → All (IsSizedForm (length loops) (length parameters)) fs
    → OnOk r (new ≡ with_access making arrays kind name (map made fs) old) → OnErr r (new ≡ old)
    → IsPlace parameters loops turns next number old → IsPlace parameters loops turns next number new
place_added (Ok u) making arrays kind name fs parameters loops turns next number old new limits sizes ok err p =
    subst (λ a. IsPlace parameters loops turns next number a) (sym ok)
    (record {
      loops_are = p.loops_are;
      children = p.children;
      statements = p.statements;
      accesses_are = omega arith;
      printable = printable_more making arrays kind name (length loops) (length parameters) fs old limits sizes p.printable;
    })
place_added (Err f) making arrays kind name fs parameters loops turns next number old new limits sizes ok err p =
    subst (λ a. IsPlace parameters loops turns next number a) (sym err) p
