-- Steps of events that don't touch commute.
use Rattle.std.proofs.Common.{◌≡◌, ◌⊎◌, inl, inr, ℕ, ◌+◌, List, [], ◌∷◌, ◌++◌, ℤ, Bool, true, false, cond, ◌&&◌, refl, sym, ◌∙◌, ap, subst}
use Rattle.std.specs.Ordering.{int_eq}
use Rattle.std.specs.Cmp.Lexicographic.{pointwise}
use Rattle.std.specs.Cmp.Rules.{signed_items}
use Rattle.std.proofs.lemmas.Bool.Decides.{Decides-int_eq}
use mathlib.Core.Path.{fun_ext}
use Rattle.scop_data.specs.Sequences.{In}
use Rattle.scop_data.specs.declared.accesses.AccessKind.{AccessKind}
use Rattle.scop_data.specs.Memory.{Cell, Term, More, Memory, same_cell, stored, terms_at, store_each, Use, Event, is_writing, is_read, is_maybe_written, cells_of, taken, computed, step_of, EventsTouch}

pub bool_tells : (b : Bool) → (b ≡ true) ⊎ (b ≡ false)
bool_tells true = inl refl
bool_tells false = inr refl

not_both : (b : Bool) → b ≡ true → b ≡ false → ⊥
not_both true h k = cc
not_both false h k = cc

both_true : (r s : Bool) → (r && s) ≡ true → (r ≡ true) × (s ≡ true)
both_true true true h = (refl, refl)
both_true true false h = absurd cc
both_true false s h = absurd cc

cell_at : ℤ → List ℤ → Cell
cell_at a s = record { array = a; subscripts = s }

-- the test means equality
pub cells_are_same : (c d : Cell) → same_cell c d ≡ true → c ≡ d
unfolding cell_at
cells_are_same c d h =
    let parts = both_true (int_eq c.array d.array) (pointwise int_eq c.subscripts d.subscripts) h in
    let arrays : c.array ≡ d.array = (Decides-int_eq c.array d.array).0 parts.0 in
    let subscripts : c.subscripts ≡ d.subscripts = (signed_items c.subscripts d.subscripts).0 parts.1 in
    ap (λ a. cell_at a c.subscripts) arrays ∙ ap (λ s. cell_at d.array s) subscripts

pub cell_is_same : (c : Cell) → same_cell c c ≡ true
cell_is_same c =
    ap (λ r. r && pointwise int_eq c.subscripts c.subscripts) ((Decides-int_eq c.array c.array).1 refl) ∙ (signed_items c.subscripts c.subscripts).1 refl

other_cell : (c d : Cell) → ¬ (c ≡ d) → same_cell c d ≡ false
other_cell c d n = elim (bool_tells (same_cell c d)) as (λ _. same_cell c d ≡ false) [ inl h ↦ absurd (n (cells_are_same c d h)) | inr h ↦ h ]

-- a store elsewhere isn't seen
stored_elsewhere : (m : Memory) (c d : Cell) (t : Term) → ¬ (c ≡ d) → stored m c t d ≡ m d
stored_elsewhere m c d t n = ap (λ b. cond b t (m d)) (other_cell c d n)

-- two stores at different cells change places
stores_swap : (m : Memory) (c d : Cell) (t u : Term) → ¬ (c ≡ d) → stored (stored m c t) d u ≡ stored (stored m d u) c t
stores_swap m c d t u n = fun_ext (λ e. at e (same_cell c e) (same_cell d e) refl refl)
  where
    at : (e : Cell) (r s : Bool) → same_cell c e ≡ r → same_cell d e ≡ s → cond (same_cell d e) u (cond (same_cell c e) t (m e)) ≡ cond (same_cell c e) t (cond (same_cell d e) u (m e))
    at e true true h k = absurd (n (cells_are_same c e h ∙ sym (cells_are_same d e k)))
    at e true false h k = rw (h, k) refl
    at e false s h k = rw h refl

stored_at : Memory → Cell → Term → Memory
stored_at m c t = stored m c t

store_moves_over : (term : ℕ → Term) (w : ℕ) (cs : List Cell) (m : Memory) (d : Cell) (u : Term)
    → ((c : Cell) → In c cs → ¬ (c ≡ d)) → store_each term w cs (stored m d u) ≡ stored (store_each term w cs m) d u
store_moves_over term w [] m d u apart = refl
store_moves_over term w (c ∷ cs) m d u apart =
    ap (λ k. store_each term (w + 1) cs k) (sym (stores_swap m c d (term w) u (apart c (inl refl))))
    ∙ store_moves_over term (w + 1) cs (stored m c (term w)) d u (λ e i. apart e (inr i))

all_stores_swap : (f g : ℕ → Term) (w v : ℕ) (cs ds : List Cell) (m : Memory)
    → ((c d : Cell) → In c cs → In d ds → ¬ (c ≡ d))
    → store_each f w cs (store_each g v ds m) ≡ store_each g v ds (store_each f w cs m)
all_stores_swap f g w v cs [] m apart = refl
all_stores_swap f g w v cs (d ∷ ds) m apart =
    all_stores_swap f g w (v + 1) cs ds (stored m d (g v)) (λ c e i j. apart c e i (inr j))
    ∙ ap (λ k. store_each g (v + 1) ds k) (store_moves_over f w cs m d (g v) (λ c i. apart c d i (inl refl)))

read_past : (f : ℕ → Term) (w : ℕ) (cs : List Cell) (m : Memory) (d : Cell) → ((c : Cell) → In c cs → ¬ (c ≡ d)) → store_each f w cs m d ≡ m d
read_past f w [] m d apart = refl
read_past f w (c ∷ cs) m d apart = read_past f (w + 1) cs (stored m c (f w)) d (λ e i. apart e (inr i)) ∙ stored_elsewhere m c d (f w) (apart c (inl refl))

reads_past : (f : ℕ → Term) (w : ℕ) (cs : List Cell) (m : Memory) (ds : List Cell) → ((c d : Cell) → In c cs → In d ds → ¬ (c ≡ d)) → terms_at (store_each f w cs m) ds ≡ terms_at m ds
reads_past f w cs m [] apart = refl
reads_past f w cs m (d ∷ ds) apart =
    ap (λ t. More t (terms_at (store_each f w cs m) ds)) (read_past f w cs m d (λ c i. apart c d i (inl refl)))
    ∙ ap (λ ts. More (m d) ts) (reads_past f w cs m ds (λ c e i j. apart c e i (inr j)))

-- an access that has the cell
record UseAt (chosen : AccessKind → Bool) (uses : List Use) (c : Cell) : Type 0 where
  at : Use
  among : In at uses
  cell_is : at.cell ≡ c
  kind_is : chosen at.kind ≡ true

use_at : (chosen : AccessKind → Bool) (uses : List Use) (c : Cell) → In c (cells_of chosen uses) → UseAt chosen uses c
use_at chosen [] c i = absurd i
use_at chosen (u ∷ us) c i = by (chosen u.kind) refl (use_at chosen us c)
  where
    later : UseAt chosen us c → UseAt chosen (u ∷ us) c
    later a = record { at = a.at; among = inr a.among; cell_is = a.cell_is; kind_is = a.kind_is }

    here : chosen u.kind ≡ true → (In c (cells_of chosen us) → UseAt chosen us c) → In c (u.cell ∷ cells_of chosen us) → UseAt chosen (u ∷ us) c
    here h rest (inl e) = record { at = u; among = inl refl; cell_is = e; kind_is = h }
    here h rest (inr j) = later (rest j)

    by : (b : Bool) → chosen u.kind ≡ b → (In c (cells_of chosen us) → UseAt chosen us c) → UseAt chosen (u ∷ us) c
    by true h rest = here h rest (subst (λ b. In c (cond b (u.cell ∷ cells_of chosen us) (cells_of chosen us))) h i)
    by false h rest = later (rest (subst (λ b. In c (cond b (u.cell ∷ cells_of chosen us) (cells_of chosen us))) h i))

-- an access that has a cell whose term is taken
record UsedAt (uses : List Use) (c : Cell) : Type 0 where
  at : Use
  among : In at uses
  cell_is : at.cell ≡ c

pub in_either : {X : Type 0} (a : X) (xs ys : List X) → In a (xs ++ ys) → In a xs ⊎ In a ys
in_either a [] ys i = inr i
in_either a (x ∷ xs) ys (inl e) = inl (inl e)
in_either a (x ∷ xs) ys (inr i) = elim (in_either a xs ys i) as (λ _. In a (x ∷ xs) ⊎ In a ys) [ inl j ↦ inl (inr j) | inr j ↦ inr j ]

used_at : (e : Event) (c : Cell) → In c (cells_of is_read e.uses ++ cells_of is_maybe_written e.uses) → UsedAt e.uses c
used_at e c i = elim (in_either c (cells_of is_read e.uses) (cells_of is_maybe_written e.uses) i) as (λ _. UsedAt e.uses c) [
  | inl j ↦ (let a = use_at is_read e.uses c j in record { at = a.at; among = a.among; cell_is = a.cell_is })
  | inr j ↦ (let a = use_at is_maybe_written e.uses c j in record { at = a.at; among = a.among; cell_is = a.cell_is })
]

-- a cell that one event writes is none that the other writes or takes
writes_apart : (a b : Event) → ¬ EventsTouch a b → (c d : Cell) → In c (cells_of is_writing a.uses) → In d (cells_of is_writing b.uses) → ¬ (c ≡ d)
writes_apart a b n c d i j e =
    let u = use_at is_writing a.uses c i in
    let v = use_at is_writing b.uses d j in
    n (u.at, v.at, u.among, v.among, u.cell_is ∙ e ∙ sym v.cell_is, inl u.kind_is)

takes_apart : (a b : Event) → ¬ EventsTouch a b → (c d : Cell) → In c (cells_of is_writing a.uses) → In d (cells_of is_read b.uses ++ cells_of is_maybe_written b.uses) → ¬ (c ≡ d)
takes_apart a b n c d i j e =
    let u = use_at is_writing a.uses c i in
    let v = used_at b d j in
    n (u.at, v.at, u.among, v.among, u.cell_is ∙ e ∙ sym v.cell_is, inl u.kind_is)

-- touching is symmetric
pub touch_back : (a b : Event) → EventsTouch a b → EventsTouch b a
touch_back a b t = (t.1, t.0, t.3, t.2, sym t.4, other t.5)
  where
    other : {P Q : Type 0} → P ⊎ Q → Q ⊎ P
    other (inl p) = inr p
    other (inr q) = inl q

taken_past : (a b : Event) → ¬ EventsTouch b a → (m : Memory) → taken a (step_of b m) ≡ taken a m
taken_past a b n m = reads_past (computed b (taken b m)) 1 (cells_of is_writing b.uses) m (cells_of is_read a.uses ++ cells_of is_maybe_written a.uses) (takes_apart b a n)

pub steps_commute : (a b : Event) → ¬ EventsTouch a b → (m : Memory) → step_of a (step_of b m) ≡ step_of b (step_of a m)
steps_commute a b n m =
    let n' : ¬ EventsTouch b a = λ t. n (touch_back b a t) in
    let wa = cells_of is_writing a.uses in
    let wb = cells_of is_writing b.uses in
    ap (λ ts. store_each (computed a ts) 1 wa (step_of b m)) (taken_past a b n' m)
    ∙ all_stores_swap (computed a (taken a m)) (computed b (taken b m)) 1 1 wa wb m (writes_apart a b n)
    ∙ ap (λ ts. store_each (computed b ts) 1 wb (step_of a m)) (sym (taken_past b a n m))
