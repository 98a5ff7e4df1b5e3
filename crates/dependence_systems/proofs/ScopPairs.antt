-- A pair of instances of a SCoP lies in a system exactly where it conflicts.
use Rattle.std.proofs.Common.{◌≡◌, ℕ, zero, suc, ◌+◌, ℤ, List, [], ◌∷◌, ◌++◌, map, length, slice_get, All, Option, Some, None, IsSomeAnd, refl, ap, sym, ◌∙◌, subst, arith, append_assoc}
use Rattle.std.specs.Prelude.{◌↔◌}
use Rattle.std.specs.List.{range_with_len}
use Rattle.std.proofs.lemmas.List.{length-append}
use Rattle.std.proofs.lemmas.List.Elements.{All-head, All-tail, All-cons, All-nil}
use Rattle.relation_core.specs.Points.{LiesInSome}
use Rattle.scop_data.specs.declared.schedules.Schedule.{Schedule}
use Rattle.scop_data.specs.declared.statements.Statement.{Statement}
use Rattle.scop_core.specs.ScopData.{ScopData}
use Rattle.scop_core.specs.Order.{Before}
use Rattle.scop_core.specs.Meaning.{Instance, InDomain, IsInstance, statement_at, stamp_of, stamp_in, stamp, event_in, Touch}
use Rattle.scop_core.specs.Memory.{EventsTouch}
use Rattle.scop_core.specs.ReadBack.{IsSolvedSchedule}
use Rattle.scop_core.specs.Shapes.{IsShapedStatement, IsFormedStatement}
use Rattle.scop_core.proofs.ScopShapes.{scops_are_formed, scops_are_shaped}
use Rattle.dependence_systems.specs.Sides.{Side, member, schedule_in, under, under_originals, sides, own_sides, member_or}
use Rattle.dependence_systems.specs.Fits.{SideFits}
use Rattle.dependence_systems.specs.Pairs.{LiesInList, IsOrdered, UsesTouch, uses_of}
use Rattle.dependence_systems.specs.Originals.{IsPiece, ArePieces, as_original, SystemsHoldOldConflicts, SystemsHoldConflicts, OriginalsAreOwn}
use Rattle.dependence_systems.proofs.Pairs.{all_member, systems_hold_ordered_pairs}

pub statement_is : (statements : List Statement) (k : ℕ) → statement_at statements k ≡ member statements k
statement_is statements zero = refl
statement_is statements (suc k) = refl

-- statement s under a schedule fits
pub side_fits : (N : ℕ) (s : Statement) (schedule : Schedule) → IsShapedStatement N s → IsFormedStatement s → IsSolvedSchedule (length s.body.iterators) N schedule → SideFits N (under s schedule)
side_fits N s schedule shaped formed solved = record { domain = shaped.domain; formed = formed.domain; accesses = shaped.accesses; schedule = solved }

-- the schedule of the original fits its piece
piece_schedule : (N : ℕ) (old : List Statement) (s : Statement) (k : ℕ) → All (IsShapedStatement N) old → IsPiece old s k → IsSolvedSchedule (length s.body.iterators) N (schedule_in (member old k))
piece_schedule N old s k shaped piece = by (member old k) refl piece
  where
    by : (found : Option Statement) → member old k ≡ found → IsSomeAnd found (λ original. length original.body.iterators ≡ length s.body.iterators)
        → IsSolvedSchedule (length s.body.iterators) N (schedule_in found)
    by None e h = absurd h
    by (Some original) e h = subst (λ i. IsSolvedSchedule i N original.schedule) h (all_member (IsShapedStatement N) old k original e shaped).schedule

pub originals_fit : (N : ℕ) (old now : List Statement) (originals : List ℕ) → All (IsShapedStatement N) old → All (IsShapedStatement N) now → All IsFormedStatement now
    → ArePieces old now originals → All (SideFits N) (under_originals old now originals)
originals_fit N old [] originals a b c h = All-nil (SideFits N)
originals_fit N old (s ∷ now) [] a b c h = absurd h
originals_fit N old (s ∷ now) (k ∷ originals) a b c h =
    All-cons (SideFits N) (under s (schedule_in (member old k))) (under_originals old now originals)
    (side_fits N s (schedule_in (member old k)) (All-head (IsShapedStatement N) s now b) (All-head IsFormedStatement s now c) (piece_schedule N old s k a h.0))
    (originals_fit N old now originals a (All-tail (IsShapedStatement N) s now b) (All-tail IsFormedStatement s now c) h.1)

own_fit : (N : ℕ) (now : List Statement) → All (IsShapedStatement N) now → All IsFormedStatement now → All (SideFits N) (map (λ s. under s s.schedule) now)
own_fit N [] b c = All-nil (SideFits N)
own_fit N (s ∷ now) b c =
    let shaped = All-head (IsShapedStatement N) s now b in
    All-cons (SideFits N) (under s s.schedule) (map (λ t. under t t.schedule) now) (side_fits N s s.schedule shaped (All-head IsFormedStatement s now c) shaped.schedule)
    (own_fit N now (All-tail (IsShapedStatement N) s now b) (All-tail IsFormedStatement s now c))

-- sides are the statements, each under the schedule of its number
pub record Matches (now : List Statement) (sides : List Side) (schedule : ℕ → Schedule) : Type 0 where
  pub into : (k : ℕ) (s : Statement) → member now k ≡ Some s → member sides k ≡ Some (under s (schedule k))
  pub back : (k : ℕ) (side : Side) → member sides k ≡ Some side → (s : Statement) × (member now k ≡ Some s) × (side ≡ under s (schedule k))

same_value : {X : Type 0} {a b : X} → Some a ≡ Some b → a ≡ b
same_value e = cc

-- originals at places
old_schedule : List Statement → Option ℕ → Schedule
old_schedule old found = schedule_in (member old (member_or 0 found))

originals_into : (old now : List Statement) (originals : List ℕ) → ArePieces old now originals → (j : ℕ) (s : Statement) → slice_get now j ≡ Some s
    → slice_get (under_originals old now originals) j ≡ Some (under s (schedule_in (member old (member_or 0 (slice_get originals j)))))
originals_into old [] originals h j s e = absurd (cc)
originals_into old (t ∷ now) [] h j s e = absurd h
originals_into old (t ∷ now) (k ∷ originals) h zero s e = ap (λ u. Some (under u (schedule_in (member old k)))) (same_value e)
originals_into old (t ∷ now) (k ∷ originals) h (suc j) s e = originals_into old now originals h.1 j s e

originals_back : (old now : List Statement) (originals : List ℕ) → ArePieces old now originals → (j : ℕ) (side : Side) → slice_get (under_originals old now originals) j ≡ Some side
    → (s : Statement) × (slice_get now j ≡ Some s) × (side ≡ under s (schedule_in (member old (member_or 0 (slice_get originals j)))))
originals_back old [] originals h j side e = absurd (cc)
originals_back old (t ∷ now) [] h j side e = absurd h
originals_back old (t ∷ now) (k ∷ originals) h zero side e = (t, refl, sym (same_value e))
originals_back old (t ∷ now) (k ∷ originals) h (suc j) side e = originals_back old now originals h.1 j side e

pub originals_match : (old now : List Statement) (originals : List ℕ) → ArePieces old now originals
    → Matches now (under_originals old now originals) (λ k. schedule_in (member old (member_or 0 (member originals k))))
originals_match old now originals h = record {
  into = λ k s e. into k s e;
  back = λ k side e. back k side e;
}
  where
    into : (k : ℕ) (s : Statement) → member now k ≡ Some s → member (under_originals old now originals) k ≡ Some (under s (schedule_in (member old (member_or 0 (member originals k)))))
    into zero s e = absurd (cc)
    into (suc k) s e = originals_into old now originals h k s e

    back : (k : ℕ) (side : Side) → member (under_originals old now originals) k ≡ Some side
        → (s : Statement) × (member now k ≡ Some s) × (side ≡ under s (schedule_in (member old (member_or 0 (member originals k)))))
    back zero side e = absurd (cc)
    back (suc k) side e = originals_back old now originals h k side e

-- own schedules at places
own_into : (now : List Statement) (j : ℕ) (s : Statement) → slice_get now j ≡ Some s → slice_get (map (λ t. under t t.schedule) now) j ≡ Some (under s (schedule_in (slice_get now j)))
own_into [] j s e = absurd (cc)
own_into (t ∷ now) zero s e = ap (λ u. Some (under u t.schedule)) (same_value e)
own_into (t ∷ now) (suc j) s e = own_into now j s e

own_back : (now : List Statement) (j : ℕ) (side : Side) → slice_get (map (λ t. under t t.schedule) now) j ≡ Some side
    → (s : Statement) × (slice_get now j ≡ Some s) × (side ≡ under s (schedule_in (slice_get now j)))
own_back [] j side e = absurd (cc)
own_back (t ∷ now) zero side e = (t, refl, sym (same_value e))
own_back (t ∷ now) (suc j) side e = own_back now j side e

pub own_match : (now : List Statement) → Matches now (map (λ t. under t t.schedule) now) (λ k. schedule_in (member now k))
own_match now = record { into = λ k s e. into k s e; back = λ k side e. back k side e }
  where
    into : (k : ℕ) (s : Statement) → member now k ≡ Some s → member (map (λ t. under t t.schedule) now) k ≡ Some (under s (schedule_in (member now k)))
    into zero s e = absurd (cc)
    into (suc k) s e = own_into now k s e

    back : (k : ℕ) (side : Side) → member (map (λ t. under t t.schedule) now) k ≡ Some side → (s : Statement) × (member now k ≡ Some s) × (side ≡ under s (schedule_in (member now k)))
    back zero side e = absurd (cc)
    back (suc k) side e = own_back now k side e

-- stamps in a statement that may be there
pub stamp_is : (found : Option Statement) (x n : List ℤ) → stamp_in found x n ≡ stamp_of (schedule_in found) x n
stamp_is None x n = refl
stamp_is (Some s) x n = refl

-- a value that is there, with what holds of it
some_and : {X : Type 0} (P : X → Type 0) (found : Option X) → IsSomeAnd found P → (x : X) × (found ≡ Some x) × P x
some_and P None h = absurd h
some_and P (Some x) h = (x, refl, h)

-- instances that touch and whose schedules order them
pub record Ordered (now : ScopData) (schedule : ℕ → Schedule) (n : List ℤ) (a b : Instance) : Type 0 where
  pub source : IsInstance now n a
  pub target : IsInstance now n b
  pub touch : Touch now n a b
  pub order : Before (stamp_of (schedule a.statement) a.values n) (stamp_of (schedule b.statement) b.values n)

instance_of : (now : ScopData) (n : List ℤ) (a : Instance) (s : Statement) → statement_at now.statements a.statement ≡ Some s → InDomain s a.values n → IsInstance now n a
instance_of now n a s e h = subst (λ found. IsSomeAnd found (λ t. InDomain t a.values n)) (sym e) h

ordered_instances : (now : ScopData) (sides : List Side) (schedule : ℕ → Schedule) → Matches now.statements sides schedule → (n : List ℤ) (a b : Instance)
    → IsOrdered sides n a b → Ordered now schedule n a b
ordered_instances now sides schedule match n a b h =
    let s = match.back a.statement h.source h.source_is in
    let t = match.back b.statement h.target h.target_is in
    let es : statement_at now.statements a.statement ≡ Some s.0 = statement_is now.statements a.statement ∙ s.1 in
    let et : statement_at now.statements b.statement ≡ Some t.0 = statement_is now.statements b.statement ∙ t.1 in
    let touch : UsesTouch (uses_of (under s.0 (schedule a.statement)) a.values n) (uses_of (under t.0 (schedule b.statement)) b.values n)
    = subst (λ u. UsesTouch (uses_of u a.values n) (uses_of (under t.0 (schedule b.statement)) b.values n)) s.2 (subst (λ v. UsesTouch (uses_of h.source a.values n) (uses_of v b.values n)) t.2 h.touch) in
    let events : EventsTouch (event_in (Some s.0) a.values n) (event_in (Some t.0) b.values n) = touch in record {
      source = instance_of now n a s.0 es (subst (λ u. (length a.values ≡ u.iterators) × LiesInSome u.domain a.values [] n) s.2 (h.source_length, h.source_lies));
      target = instance_of now n b t.0 et (subst (λ u. (length b.values ≡ u.iterators) × LiesInSome u.domain b.values [] n) t.2 (h.target_length, h.target_lies));
      touch = subst (λ u. EventsTouch (event_in u a.values n) (event_in (statement_at now.statements b.statement) b.values n)) (sym es)
          (subst (λ v. EventsTouch (event_in (Some s.0) a.values n) (event_in v b.values n)) (sym et) events);
      order = subst (λ u. Before (stamp_of u.schedule a.values n) (stamp_of (schedule b.statement) b.values n)) s.2
          (subst (λ v. Before (stamp_of h.source.schedule a.values n) (stamp_of v.schedule b.values n)) t.2 h.order);
    }

pub ordered_sides : (now : ScopData) (sides : List Side) (schedule : ℕ → Schedule) → Matches now.statements sides schedule → (n : List ℤ) (a b : Instance)
    → Ordered now schedule n a b → IsOrdered sides n a b
ordered_sides now sides schedule match n a b h =
    let s = some_and (λ t. InDomain t a.values n) (statement_at now.statements a.statement) h.source in
    let t = some_and (λ t. InDomain t b.values n) (statement_at now.statements b.statement) h.target in
    let es : member now.statements a.statement ≡ Some s.0 = sym (statement_is now.statements a.statement) ∙ s.1 in
    let et : member now.statements b.statement ≡ Some t.0 = sym (statement_is now.statements b.statement) ∙ t.1 in
    let events : EventsTouch (event_in (Some s.0) a.values n) (event_in (Some t.0) b.values n)
    = subst (λ u. EventsTouch (event_in u a.values n) (event_in (Some t.0) b.values n)) s.1
    (subst (λ v. EventsTouch (event_in (statement_at now.statements a.statement) a.values n) (event_in v b.values n)) t.1 h.touch) in record {
      source = under s.0 (schedule a.statement);
      target = under t.0 (schedule b.statement);
      source_is = match.into a.statement s.0 es;
      target_is = match.into b.statement t.0 et;
      source_length = s.2.0;
      target_length = t.2.0;
      source_lies = s.2.1;
      target_lies = t.2.1;
      touch = events;
      order = h.order;
    }

pub systems_hold_old_conflicts : SystemsHoldOldConflicts
systems_hold_old_conflicts old now originals valid_old valid_now has n in_context a b = (
  λ h. let o = ordered_instances now _ _ match n a b (both.0 h) in record {
    source = o.source;
    target = o.target;
    touch = o.touch;
    order = subst (λ p. Before p (stamp old n (as_original originals b))) (sym (stamps a)) (subst (λ q. Before (stamp_of (schedule a.statement) a.values n) q) (sym (stamps b)) o.order);
  },
  λ h. both.1 (ordered_sides now _ _ match n a b (record {
    source = h.source;
    target = h.target;
    touch = h.touch;
    order = subst (λ p. Before p (stamp_of (schedule b.statement) b.values n)) (stamps a) (subst (λ q. Before (stamp old n (as_original originals a)) q) (stamps b) h.order);
  })),
)
  where
    N : ℕ
    N = now.context.shape.parameters

    schedule : ℕ → Schedule
    schedule k = schedule_in (member old.statements (member_or 0 (member originals k)))

    match : Matches now.statements (under_originals old.statements now.statements originals) schedule
    match = originals_match old.statements now.statements originals has.pieces

    old_shaped : All (IsShapedStatement N) old.statements
    old_shaped = subst (λ c. All (IsShapedStatement c.shape.parameters) old.statements) has.context (scops_are_shaped old valid_old).statements

    both : LiesInList now.context (sides old now originals) n a b ↔ IsOrdered (sides old now originals) n a b
    both = systems_hold_ordered_pairs now.context (sides old now originals) (scops_are_shaped now valid_now).context
        (originals_fit N old.statements now.statements originals old_shaped (scops_are_shaped now valid_now).statements (scops_are_formed now valid_now).statements has.pieces) n in_context a b

    stamps : (i : Instance) → stamp old n (as_original originals i) ≡ stamp_of (schedule i.statement) i.values n
    stamps i = ap (λ found. stamp_in found i.values n) (statement_is old.statements (member_or 0 (member originals i.statement)))
        ∙ stamp_is (member old.statements (member_or 0 (member originals i.statement))) i.values n

pub systems_hold_conflicts : SystemsHoldConflicts
systems_hold_conflicts S valid n in_context a b = (
  λ h. let o = ordered_instances S _ _ match n a b (both.0 h) in record {
    source = o.source;
    target = o.target;
    touch = o.touch;
    order = subst (λ p. Before p (stamp S n b)) (sym (stamps a)) (subst (λ q. Before (stamp_of (schedule a.statement) a.values n) q) (sym (stamps b)) o.order);
  },
  λ h. both.1 (ordered_sides S _ _ match n a b (record {
    source = h.source;
    target = h.target;
    touch = h.touch;
    order = subst (λ p. Before p (stamp_of (schedule b.statement) b.values n)) (stamps a) (subst (λ q. Before (stamp S n a) q) (stamps b) h.order);
  })),
)
  where
    schedule : ℕ → Schedule
    schedule k = schedule_in (member S.statements k)

    match : Matches S.statements (own_sides S) schedule
    match = own_match S.statements

    both : LiesInList S.context (own_sides S) n a b ↔ IsOrdered (own_sides S) n a b
    both = systems_hold_ordered_pairs S.context (own_sides S) (scops_are_shaped S valid).context
        (own_fit S.context.shape.parameters S.statements (scops_are_shaped S valid).statements (scops_are_formed S valid).statements) n in_context a b

    stamps : (i : Instance) → stamp S n i ≡ stamp_of (schedule i.statement) i.values n
    stamps i = ap (λ found. stamp_in found i.values n) (statement_is S.statements i.statement) ∙ stamp_is (member S.statements i.statement) i.values n

-- each statement of a list is its own original
own_at : (front : List Statement) (s : Statement) (rest : List Statement) → slice_get (front ++ s ∷ rest) (length front) ≡ Some s
own_at [] s rest = refl
own_at (t ∷ front) s rest = own_at front s rest

own_numbers : (old front now : List Statement) → old ≡ front ++ now → (k : ℕ) → k ≡ length front + 1
    → ArePieces old now (range_with_len k (length now)) × (under_originals old now (range_with_len k (length now)) ≡ map (λ s. under s s.schedule) now)
own_numbers old front [] e k l = (tt, refl)
own_numbers old front (s ∷ now) e k l =
    let number : suc (length front) ≡ k = omega (arith, l) in
    let here : member old k ≡ Some s = ap (λ i. member old i) (sym number) ∙ (ap (λ xs. slice_get xs (length front)) e ∙ own_at front s now) in
    let rest = own_numbers old (front ++ s ∷ []) now (e ∙ sym (append_assoc front (s ∷ []) now)) (k + 1) (omega (arith, l, length-append front (s ∷ []))) in (
      (subst (λ found. IsSomeAnd found (λ original. length original.body.iterators ≡ length s.body.iterators)) (sym here) refl, rest.0),
      ap (λ found. under s (schedule_in found) ∷ under_originals old now (range_with_len (k + 1) (length now))) here ∙ ap (λ t. under s s.schedule ∷ t) rest.1,
    )

pub originals_are_own : OriginalsAreOwn
originals_are_own S =
    let r = own_numbers S.statements [] S.statements refl 1 refl in
    record { has = record { context = refl; pieces = r.0 }; same = r.1 }
