-- The dense numbering keeps the order of vectors, and of stamps.
use Rattle.std.proofs.Common.{◌≡◌, inl, inr, ℕ, suc, ◌+◌, ◌<◌, ◌≤◌, List, [], ◌∷◌, length, filter, ℤ, pos, Bool, true, false, cond, ◌&&◌, ◌||◌, if◌then◌else◌, int_lt, refl, sym, ◌∙◌, ap, subst, arith}
use Rattle.std.specs.Prelude.{◌↔◌, ◌<ℤ◌}
use Rattle.std.specs.Ordering.{int_eq}
use Rattle.std.specs.Set.{unique_keys, is_member}
use Rattle.std.proofs.lemmas.Int.{ints, by_lt_z}
use Rattle.std.proofs.lemmas.Cmp.{int_eq_equiv}
use Rattle.std.proofs.lemmas.Bool.Decides.{Decides-int_eq}
use Rattle.std.proofs.lemmas.Map.Made.{is_member-filter}
use Rattle.row_core.specs.Dense.{heads, rests, lesser}
use Rattle.scop_data.specs.Order.{Before}
use Rattle.scop_data.specs.Sequences.{In}
use Rattle.scop_data.specs.Meaning.{interleaved}
use Rattle.scop_data.specs.LevelOrder.{common_loops, is_textually_before}
use Rattle.scop_data.proofs.IntTests.{lt_of, lt_no, eq_no}
use Rattle.scop_data.specs.DenseBetas.{dense_vector}
use Rattle.scop_data.specs.RunLaws.{DenseKeepsOrder, DenseKeepsLevels}

-- how many distinct lesser members a list has more with one member more
grows : Bool → Bool → ℕ
grows less there = if less then (if there then 0 else 1) else 0

with_true : (b : Bool) → (b && true) ≡ b
with_true true = refl
with_true false = refl

-- a member that is below a is a member of those below a
member_below : (a x : ℤ) (xs : List ℤ) → int_lt x a ≡ true → is_member int_eq (filter (λ y. int_lt y a) xs) x ≡ is_member int_eq xs x
member_below a x xs e =
    is_member-filter int_eq_equiv (λ y. int_lt y a) x (λ y f. ap (λ z. int_lt z a) ((Decides-int_eq x y).0 f)) xs
    ∙ ap (λ t. is_member int_eq xs x && t) e ∙ with_true (is_member int_eq xs x)

counted : (x : ℤ) (xs : List ℤ) (there : Bool) → is_member int_eq xs x ≡ there → length (unique_keys int_eq (x ∷ xs)) ≡ length (unique_keys int_eq xs) + grows true there
unfolding grows
counted x xs true e = rw e (omega arith)
counted x xs false e = rw e (omega arith)

lesser_step : (a x : ℤ) (xs : List ℤ) → lesser a (x ∷ xs) ≡ lesser a xs + grows (int_lt x a) (is_member int_eq xs x)
unfolding grows
lesser_step a x xs = by (int_lt x a) refl
  where
    by : (t : Bool) → int_lt x a ≡ t → length (unique_keys int_eq (cond t (x ∷ filter (λ y. int_lt y a) xs) (filter (λ y. int_lt y a) xs))) ≡ lesser a xs + grows t (is_member int_eq xs x)
    by true e = counted x (filter (λ y. int_lt y a) xs) (is_member int_eq xs x) (member_below a x xs e)
    by false e = omega arith

-- what is below a is below b
grows_more : (a b x : ℤ) (there : Bool) → a <ℤ b → grows (int_lt x a) there ≤ grows (int_lt x b) there
unfolding grows
grows_more a b x there l = by (int_lt x a) refl
  where
    by : (t : Bool) → int_lt x a ≡ t → (if t then (if there then 0 else 1) else 0) ≤ grows (int_lt x b) there
    by true e = rw (lt_of x b (omega (arith, ints))) (omega arith)
    by false e = omega arith

lesser_more : (a b : ℤ) (xs : List ℤ) → a <ℤ b → lesser a xs ≤ lesser b xs
lesser_more a b [] l = omega arith
lesser_more a b (x ∷ xs) l =
    omega (arith, lesser_step a x xs, lesser_step b x xs, grows_more a b x (is_member int_eq xs x) l, lesser_more a b xs l)

is_in : (x : ℤ) (xs : List ℤ) → is_member int_eq xs x ≡ true → In x xs
is_in x [] e = absurd (let f : false ≡ true = e in cc)
is_in x (y ∷ ys) e = by (int_eq x y) refl (is_in x ys) e
  where
    by : (t : Bool) → int_eq x y ≡ t → (is_member int_eq ys x ≡ true → In x ys) → (t || is_member int_eq ys x) ≡ true → In x (y ∷ ys)
    by true e rest f = inl (sym ((Decides-int_eq x y).0 e))
    by false e rest f = inr (rest f)

-- of two numbers that are members, the lesser one has the lesser dense number
pub lesser_strict : (a b : ℤ) (xs : List ℤ) → In a xs → a <ℤ b → lesser a xs < lesser b xs
unfolding grows
lesser_strict a b [] i l = absurd i
lesser_strict a b (x ∷ xs) (inr i) l =
    omega (arith, lesser_step a x xs, lesser_step b x xs, grows_more a b x (is_member int_eq xs x) l, lesser_strict a b xs i l)
lesser_strict a b (x ∷ xs) (inl e) l = by (is_member int_eq xs x) refl (λ i. lesser_strict a b xs i l)
  where
    by : (t : Bool) → is_member int_eq xs x ≡ t → (In a xs → lesser a xs < lesser b xs) → lesser a (x ∷ xs) < lesser b (x ∷ xs)
    by true f rest =
        omega (arith, lesser_step a x xs, lesser_step b x xs, grows_more a b x (is_member int_eq xs x) l, rest (subst (λ z. In z xs) e (is_in x xs f)))
    by false f rest =
        let low : lesser a (x ∷ xs) ≡ lesser a xs + 0 = lesser_step a x xs ∙ ap (λ t. lesser a xs + grows t (is_member int_eq xs x)) (lt_no x a (omega (arith, ints))) in
        let high : lesser b (x ∷ xs) ≡ lesser b xs + 1 = lesser_step b x xs ∙ ap (λ t. lesser b xs + grows t (is_member int_eq xs x)) (lt_of x b (omega (arith, ints))) ∙ ap (λ t. lesser b xs + grows true t) f in
        omega (arith, low, high, lesser_more a b xs l)

first : ℤ → List ℤ → ℤ
first d [] = d
first d (x ∷ p) = x

behind : List ℤ → List ℤ
behind [] = []
behind (x ∷ p) = p

same_first : (x y : ℤ) (p q : List ℤ) → y ∷ q ≡ x ∷ p → y ≡ x
unfolding first
same_first x y p q e = ap (λ v. first y v) e

same_behind : (x y : ℤ) (p q : List ℤ) → y ∷ q ≡ x ∷ p → q ≡ p
unfolding behind
same_behind x y p q e = ap (λ v. behind v) e

not_empty : (x : ℤ) (p : List ℤ) → ¬ ([] ≡ x ∷ p)
not_empty x p e = let f : length {A = ℤ} [] ≡ length (x ∷ p) = ap length e in absurd (omega (arith, f))

pub in_heads : (x : ℤ) (p : List ℤ) (V : List (List ℤ)) → In (x ∷ p) V → In x (heads V)
in_heads x p [] i = absurd i
in_heads x p ([] ∷ V) (inl e) = absurd (not_empty x p e)
in_heads x p ([] ∷ V) (inr i) = in_heads x p V i
in_heads x p ((y ∷ q) ∷ V) (inl e) = inl (same_first x y p q e)
in_heads x p ((y ∷ q) ∷ V) (inr i) = inr (in_heads x p V i)

pub in_rests : (x : ℤ) (p : List ℤ) (V : List (List ℤ)) → In (x ∷ p) V → In p (rests x V)
in_rests x p [] i = absurd i
in_rests x p ([] ∷ V) (inl e) = absurd (not_empty x p e)
in_rests x p ([] ∷ V) (inr i) = in_rests x p V i
in_rests x p ((y ∷ q) ∷ V) (inl e) =
    subst (λ t. In p (if t then q ∷ rests x V else rests x V)) (sym ((Decides-int_eq y x).1 (same_first x y p q e))) (inl (same_behind x y p q e))
in_rests x p ((y ∷ q) ∷ V) (inr i) = among (int_eq y x) (in_rests x p V i)
  where
    among : (t : Bool) → In p (rests x V) → In p (if t then q ∷ rests x V else rests x V)
    among true j = inr j
    among false j = j

-- the vectors behind one first entry
pub in_one_rest : (x y : ℤ) (q : List ℤ) (V : List (List ℤ)) → In (y ∷ q) V → x ≡ y → In q (rests x V)
in_one_rest x y q V j e = subst (λ z. In q (rests z V)) (sym e) (in_rests y q V j)

-- the dense number of the first entry
abbrev pub dense_first : List (List ℤ) → ℤ → ℤ
dense_first V x = pos (lesser x (heads V))

-- the dense numbers of two members are ordered as the members are
pub record SameOrder (x y a b : ℤ) : Type 0 where
  pub less : x <ℤ y → a <ℤ b
  pub equal : x ≡ y → a ≡ b
  pub more : y <ℤ x → b <ℤ a

pub dense_firsts : (x y : ℤ) (V : List (List ℤ)) → In x (heads V) → In y (heads V) → SameOrder x y (dense_first V x) (dense_first V y)
dense_firsts x y V i j = record {
  less = λ l. let h = lesser_strict x y (heads V) i l in omega (arith, ints, h);
  equal = λ e. ap (λ z. dense_first V z) e;
  more = λ l. let h = lesser_strict y x (heads V) j l in omega (arith, ints, h);
}

-- two lists with such firsts are ordered as two others where what follows equal firsts is
firsts_before : (x y a b : ℤ) (p q r s : List ℤ) → SameOrder x y a b → (x ≡ y → Before r s ↔ Before p q) → Before (a ∷ r) (b ∷ s) ↔ Before (x ∷ p) (y ∷ q)
firsts_before x y a b p q r s o rest = (into, back)
  where
    into : Before (a ∷ r) (b ∷ s) → Before (x ∷ p) (y ∷ q)
    into (inl l) = by_lt_z x y (λ h. inl h) (λ h. by_lt_z y x (λ k. absurd (let m = o.more k in omega (arith, ints, m, l))) (λ k. absurd (let e = o.equal (omega (arith, ints)) in omega (arith, ints, e, l))))
    into (inr h) =
        by_lt_z x y (λ k. absurd (let m = o.less k in let e = h.0 in omega (arith, ints, m, e)))
        (λ k. by_lt_z y x (λ m. absurd (let m' = o.more m in let e = h.0 in omega (arith, ints, m', e)))
        (λ m. let e : x ≡ y = omega (arith, ints) in inr (e, (rest e).0 h.1)))

    back : Before (x ∷ p) (y ∷ q) → Before (a ∷ r) (b ∷ s)
    back (inl l) = inl (o.less l)
    back (inr h) = inr (o.equal h.0, (rest h.0).1 h.1)

-- behind equal values
values_before : (a b : ℤ) (p q r s : List ℤ) → Before r s ↔ Before p q → Before (a ∷ r) (b ∷ s) ↔ Before (a ∷ p) (b ∷ q)
values_before a b p q r s rest = firsts_before a b a b p q r s (record { less = λ l. l; equal = λ e. e; more = λ l. l }) (λ _. rest)

-- p and q are ordered as their dense vectors are, with the values v and w between
abbrev OrderKept : List (List ℤ) → List (List ℤ) → List ℤ → List ℤ → List ℤ → List ℤ → Type 0
OrderKept V W p q v w = Before (interleaved (dense_vector V p) v) (interleaved (dense_vector W q) w) ↔ Before (interleaved p v) (interleaved q w)

pub both_nothing : ⊥ ↔ ⊥
both_nothing = ((λ h. h), λ h. h)

pub dense_keeps_order : DenseKeepsOrder
dense_keeps_order V [] q v w i j = both_nothing
dense_keeps_order V (x ∷ p) [] [] w i j = both_nothing
dense_keeps_order V (x ∷ p) [] (a ∷ v) w i j = both_nothing
dense_keeps_order V (x ∷ p) (y ∷ q) [] [] i j =
    firsts_before x y _ _ [] [] [] [] (dense_firsts x y V (in_heads x p V i) (in_heads y q V j)) (λ e. both_nothing)
dense_keeps_order V (x ∷ p) (y ∷ q) [] (b ∷ w) i j =
    firsts_before x y _ _ [] (b ∷ interleaved q w) [] (b ∷ interleaved (dense_vector (rests y V) q) w) (dense_firsts x y V (in_heads x p V i) (in_heads y q V j)) (λ e. both_nothing)
dense_keeps_order V (x ∷ p) (y ∷ q) (a ∷ v) [] i j =
    firsts_before x y _ _ (a ∷ interleaved p v) [] (a ∷ interleaved (dense_vector (rests x V) p) v) [] (dense_firsts x y V (in_heads x p V i) (in_heads y q V j)) (λ e. both_nothing)
dense_keeps_order V (x ∷ p) (y ∷ q) (a ∷ v) (b ∷ w) i j =
    firsts_before x y _ _ (a ∷ interleaved p v) (b ∷ interleaved q w) (a ∷ interleaved (dense_vector (rests x V) p) v) (b ∷ interleaved (dense_vector (rests y V) q) w)
    (dense_firsts x y V (in_heads x p V i) (in_heads y q V j))
    (λ e. values_before a b (interleaved p v) (interleaved q w) (interleaved (dense_vector (rests x V) p) v) (interleaved (dense_vector (rests y V) q) w)
    (subst (λ z. OrderKept (rests x V) (rests z V) p q v w) e (dense_keeps_order (rests x V) p q v w (in_rests x p V i) (in_one_rest x y q V j e))))

-- tests of numbers in the same order answer the same
same_eq : (x y a b : ℤ) → SameOrder x y a b → int_eq a b ≡ int_eq x y
same_eq x y a b o = by_lt_z x y
    (λ l. eq_no a b (λ e. let m = o.less l in absurd (omega (arith, ints, m, e))) ∙ sym (eq_no x y (λ e. absurd (omega (arith, ints, l, e)))))
    (λ k. by_lt_z y x
    (λ l. eq_no a b (λ e. let m = o.more l in absurd (omega (arith, ints, m, e))) ∙ sym (eq_no x y (λ e. absurd (omega (arith, ints, l, e)))))
    (λ l. let e : x ≡ y = omega (arith, ints) in (Decides-int_eq a b).1 (o.equal e) ∙ sym ((Decides-int_eq x y).1 e)))

same_lt : (x y a b : ℤ) → SameOrder x y a b → int_lt a b ≡ int_lt x y
same_lt x y a b o = by_lt_z x y
    (λ l. lt_of a b (o.less l) ∙ sym (lt_of x y l))
    (λ k. lt_no a b (λ l. by_lt_z y x
    (λ m. let m' = o.more m in absurd (omega (arith, ints, m', l)))
    (λ m. let e = o.equal (omega (arith, ints)) in absurd (omega (arith, ints, e, l)))) ∙ sym (lt_no x y (λ l. absurd (omega (arith, ints, k, l)))))

-- a choice by equal firsts, where what is chosen for them is the same
same_choice : {A : Type 0} (x y a b : ℤ) (s t d e : A) → SameOrder x y a b → (x ≡ y → s ≡ t) → d ≡ e → (if int_eq a b then s else d) ≡ (if int_eq x y then t else e)
same_choice {A = A} x y a b s t d e o rest other = ap (λ c. if c then s else d) (same_eq x y a b o) ∙ by (int_eq x y) refl
  where
    by : (c : Bool) → int_eq x y ≡ c → (if c then s else d) ≡ (if c then t else e)
    by true h = rest ((Decides-int_eq x y).0 h)
    by false h = other

-- what two vectors have between them
abbrev Between : List ℤ → List ℤ → List ℤ → List ℤ → Type 0
Between r s p q = (common_loops r s ≡ common_loops p q) × (is_textually_before r s ≡ is_textually_before p q)

-- behind one first entry
between_rests : (x y : ℤ) (p q : List ℤ) (V : List (List ℤ)) → x ≡ y → Between (dense_vector (rests x V) p) (dense_vector (rests x V) q) p q
    → Between (dense_vector (rests x V) p) (dense_vector (rests y V) q) p q
between_rests x y p q V e h = subst (λ z. Between (dense_vector (rests x V) p) (dense_vector (rests z V) q) p q) e h

pub dense_keeps_levels : DenseKeepsLevels
dense_keeps_levels V [] q i j = (refl, refl)
dense_keeps_levels V (x ∷ []) [] i j = (refl, refl)
dense_keeps_levels V (x ∷ (x' ∷ p)) [] i j = (refl, refl)
dense_keeps_levels V (x ∷ []) (y ∷ q) i j =
    let o = dense_firsts x y V (in_heads x [] V i) (in_heads y q V j) in
    (refl, same_choice x y _ _ false false _ _ o (λ e. refl) (same_lt x y _ _ o))
dense_keeps_levels V (x ∷ (x' ∷ p)) (y ∷ []) i j =
    let o = dense_firsts x y V (in_heads x (x' ∷ p) V i) (in_heads y [] V j) in
    (refl, same_choice x y _ _ false false _ _ o (λ e. refl) (same_lt x y _ _ o))
dense_keeps_levels V (x ∷ (x' ∷ p)) (y ∷ (y' ∷ q)) i j =
    let o = dense_firsts x y V (in_heads x (x' ∷ p) V i) (in_heads y (y' ∷ q) V j) in
    let rest : x ≡ y → Between (dense_vector (rests x V) (x' ∷ p)) (dense_vector (rests y V) (y' ∷ q)) (x' ∷ p) (y' ∷ q) =
    λ e. between_rests x y (x' ∷ p) (y' ∷ q) V e (dense_keeps_levels (rests x V) (x' ∷ p) (y' ∷ q) (in_rests x (x' ∷ p) V i) (in_one_rest x y (y' ∷ q) V j e)) in
    (same_choice x y _ _ _ _ 0 0 o (λ e. ap (λ k. suc k) (rest e).0) refl, same_choice x y _ _ _ _ _ _ o (λ e. (rest e).1) (same_lt x y _ _ o))
