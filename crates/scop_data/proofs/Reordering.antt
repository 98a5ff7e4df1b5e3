-- Steps that don't touch change places: two lists in the same order fold to one state.
use Rattle.std.proofs.Common.{◌≡◌, inl, inr, List, [], ◌∷◌, ◌++◌, refl, sym, ◌∙◌, ap, subst}
use Rattle.scop_data.specs.Sequences.{In, Precedes, Distinct, fold_steps}

-- a list that holds x, cut there
record Cut (X : Type 0) (x : X) (L : List X) : Type 0 where
  front : List X
  behind : List X
  whole : L ≡ front ++ x ∷ behind

cut_at : {X : Type 0} (x : X) (L : List X) → In x L → Cut X x L
cut_at x [] i = absurd i
cut_at x (y ∷ ys) (inl e) = record { front = []; behind = ys; whole = ap (λ w. w ∷ ys) e }
cut_at x (y ∷ ys) (inr i) = let c = cut_at x ys i in record { front = y ∷ c.front; behind = c.behind; whole = ap (λ ws. y ∷ ws) c.whole }

-- members of a list with one more in the middle
in_wider : {X : Type 0} (a x : X) (front behind : List X) → In a (front ++ behind) → In a (front ++ x ∷ behind)
in_wider a x [] behind i = inr i
in_wider a x (y ∷ ys) behind (inl e) = inl e
in_wider a x (y ∷ ys) behind (inr i) = inr (in_wider a x ys behind i)

in_middle : {X : Type 0} (x : X) (front behind : List X) → In x (front ++ x ∷ behind)
in_middle x [] behind = inl refl
in_middle x (y ∷ ys) behind = inr (in_middle x ys behind)

in_narrower : {X : Type 0} (a x : X) (front behind : List X) → ¬ (x ≡ a) → In a (front ++ x ∷ behind) → In a (front ++ behind)
in_narrower a x [] behind d (inl e) = absurd (d e)
in_narrower a x [] behind d (inr i) = i
in_narrower a x (y ∷ ys) behind d (inl e) = inl e
in_narrower a x (y ∷ ys) behind d (inr i) = inr (in_narrower a x ys behind d i)

precedes_in_wider : {X : Type 0} (a b x : X) (front behind : List X) → Precedes (front ++ behind) a b → Precedes (front ++ x ∷ behind) a b
precedes_in_wider a b x [] behind p = inr p
precedes_in_wider a b x (y ∷ ys) behind (inl p) = inl (p.0, in_wider b x ys behind p.1)
precedes_in_wider a b x (y ∷ ys) behind (inr p) = inr (precedes_in_wider a b x ys behind p)

-- what stands in front of x precedes it
front_precedes : {X : Type 0} (a x : X) (front behind : List X) → In a front → Precedes (front ++ x ∷ behind) a x
front_precedes a x [] behind i = absurd i
front_precedes a x (y ∷ ys) behind (inl e) = inl (e, in_middle x ys behind)
front_precedes a x (y ∷ ys) behind (inr i) = inr (front_precedes a x ys behind i)

pub precedes_ends_in : {X : Type 0} (L : List X) (a b : X) → Precedes L a b → In b L
precedes_ends_in [] a b p = absurd p
precedes_ends_in (x ∷ xs) a b (inl p) = inr p.1
precedes_ends_in (x ∷ xs) a b (inr p) = inr (precedes_ends_in xs a b p)

pub precedes_begins_in : {X : Type 0} (L : List X) (a b : X) → Precedes L a b → In a L
precedes_begins_in [] a b p = absurd p
precedes_begins_in (x ∷ xs) a b (inl p) = inl p.0
precedes_begins_in (x ∷ xs) a b (inr p) = inr (precedes_begins_in xs a b p)

distinct_narrower : {X : Type 0} (x : X) (front behind : List X) → Distinct (front ++ x ∷ behind) → Distinct (front ++ behind)
distinct_narrower x [] behind d = d.1
distinct_narrower x (y ∷ ys) behind d = ((λ i. d.0 (in_wider y x ys behind i)), distinct_narrower x ys behind d.1)

-- x comes once: it is not in the rest
not_in_rest : {X : Type 0} (x : X) (front behind : List X) → Distinct (front ++ x ∷ behind) → ¬ In x (front ++ behind)
not_in_rest x [] behind d i = d.0 i
not_in_rest x (y ∷ ys) behind d (inl e) = d.0 (subst (λ w. In w (ys ++ x ∷ behind)) (sym e) (in_middle x ys behind))
not_in_rest x (y ∷ ys) behind d (inr i) = not_in_rest x ys behind d.1 i

-- x moves over a front that it doesn't touch
moved : {X S : Type 0} (Touch : X → X → Type 0) (step : X → S → S)
    → ((a b : X) → ¬ Touch a b → (s : S) → step a (step b s) ≡ step b (step a s))
    → (x : X) (front behind : List X) → ((a : X) → In a front → ¬ Touch a x) → (s : S)
    → fold_steps step (front ++ x ∷ behind) s ≡ fold_steps step (front ++ behind) (step x s)
moved Touch step commute x [] behind free s = refl
moved Touch step commute x (y ∷ ys) behind free s =
    moved Touch step commute x ys behind (λ a i. free a (inr i)) (step y s)
    ∙ ap (λ t. fold_steps step (ys ++ behind) t) (sym (commute y x (free y (inl refl)) s))

-- a list whose first is x has nothing before x
nothing_before : {X : Type 0} (x : X) (xs : List X) → ¬ In x xs → (a : X) → ¬ Precedes (x ∷ xs) a x
nothing_before x xs once a (inl p) = once p.1
nothing_before x xs once a (inr p) = once (precedes_ends_in xs a x p)

-- in the order of the first list, when x leaves both
still_in_order : {X : Type 0} (a b x : X) (xs : List X) → ¬ (x ≡ a) → Precedes (x ∷ xs) a b → Precedes xs a b
still_in_order a b x xs d (inl p) = absurd (d p.0)
still_in_order a b x xs d (inr p) = p

in_rest : {X : Type 0} (a x : X) (xs : List X) → ¬ (x ≡ a) → In a (x ∷ xs) → In a xs
in_rest a x xs d (inl e) = absurd (d e)
in_rest a x xs d (inr i) = i

pub reordered : {X S : Type 0} (Touch : X → X → Type 0) (step : X → S → S)
    → ((a b : X) → ¬ Touch a b → (s : S) → step a (step b s) ≡ step b (step a s))
    → (L M : List X) → Distinct L → Distinct M
    → ((a : X) → In a L → In a M) → ((a : X) → In a M → In a L)
    → ((a b : X) → Touch a b → Precedes M a b → Precedes L a b)
    → (s : S) → fold_steps step L s ≡ fold_steps step M s
reordered Touch step commute [] [] dl dm into back order s = refl
reordered Touch step commute [] (y ∷ ys) dl dm into back order s = absurd (back y (inl refl))
reordered {X = X} Touch step commute (x ∷ xs) M dl dm into back order s =
    let c : Cut X x M = cut_at x M (into x (inl refl)) in
    let d : Distinct (c.front ++ x ∷ c.behind) = subst (λ w. Distinct w) c.whole dm in
    let gone : (a : X) → In a (c.front ++ c.behind) → ¬ (x ≡ a) = λ a i e. not_in_rest x c.front c.behind d (subst (λ w. In w (c.front ++ c.behind)) (sym e) i) in
    let gone' : (a : X) → In a xs → ¬ (x ≡ a) = λ a i e. dl.0 (subst (λ w. In w xs) (sym e) i) in
    let order' : (a b : X) → Touch a b → Precedes (c.front ++ x ∷ c.behind) a b → Precedes (x ∷ xs) a b = λ a b t p. order a b t (subst (λ w. Precedes w a b) (sym c.whole) p) in
    let free : (a : X) → In a c.front → ¬ Touch a x = λ a i t. nothing_before x xs dl.0 a (order' a x t (front_precedes a x c.front c.behind i)) in
    let rest : fold_steps step xs (step x s) ≡ fold_steps step (c.front ++ c.behind) (step x s) =
    reordered Touch step commute xs (c.front ++ c.behind) dl.1 (distinct_narrower x c.front c.behind d)
    (λ a i. in_narrower a x c.front c.behind (gone' a i) (subst (λ w. In a w) c.whole (into a (inr i))))
    (λ a i. in_rest a x xs (gone a i) (back a (subst (λ w. In a w) (sym c.whole) (in_wider a x c.front c.behind i))))
    (λ a b t p. still_in_order a b x xs (gone a (precedes_begins_in (c.front ++ c.behind) a b p)) (order' a b t (precedes_in_wider a b x c.front c.behind p)))
    (step x s) in
    rest ∙ sym (moved Touch step commute x c.front c.behind free s) ∙ ap (λ w. fold_steps step w s) (sym c.whole)
