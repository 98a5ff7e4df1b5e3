-- Spans cover accesses, and accesses in spans that are apart give no entries.
use Rattle.std.proofs.Common.{◌≡◌, inl, inr, ℕ, zero, suc, ◌+◌, ◌<◌, Bool, true, false, if◌then◌else◌, ◌&&◌, ◌==◌, List, [], ◌∷◌, ◌++◌, length, take, get_or, slice_get, Option, Some, None, refl, ap, sym, ◌∙◌, subst, arith}
use Rattle.std.specs.List.{flat_map, range_with_len}
use Rattle.std.specs.Ordering.{int_eq}
use Rattle.std.proofs.lemmas.Int.{ints}
use Rattle.std.proofs.lemmas.Bool.Decides.{Decides-int_eq}
use Rattle.std.proofs.lemmas.List.Concat.{flat_map-cons}
use Rattle.scop_data.specs.declared.accesses.AccessKind.TheVariants.{Read}
use Rattle.scop_data.specs.declared.accesses.Access.{Access}
use Rattle.scop_data.specs.declared.statements.Statement.{Statement}
use Rattle.dependence_systems.specs.declared.dependences.Dep.{Dep}
use Rattle.dependence_systems.specs.declared.dependences.DepKind.{DepKind}
use Rattle.dependence_systems.specs.declared.dependences.Ends.{Ends}
use Rattle.dependence_systems.specs.declared.spans.Span.{Span}
use Rattle.dependence_systems.specs.Sides.{member}
use Rattle.dependence_systems.specs.Entries.{numbered, kind_between, can_meet, at_levels, at_target_parts, at_parts, first_entry, entries_by, entries_from, entries_among}
use Rattle.dependence_systems.specs.Spans.{IsIn, IsWider, Covers, CoverEach, AreApart}

-- one access more
covers_next : (xs : List Access) (k : ℕ) (old new : Span) (x : Access) → k < length xs → x ≡ get_or xs k x → IsWider old new → IsIn new x → Covers old (take k xs) → Covers new (take (suc k) xs)
covers_next [] k old new x h e wider inside c = absurd (omega arith)
covers_next (y ∷ ys) zero old new x h e wider inside c = (subst (λ z. IsIn new z) e inside, tt)
covers_next (y ∷ ys) (suc k) old new x h e wider inside c =
    let grown : IsIn new y = record {
      from_low = omega (arith, ints, wider.low, c.0.from_low);
      to_high = omega (arith, ints, wider.high, c.0.to_high);
      reads = λ w. c.0.reads (wider.writes w);
    } in
    (grown, covers_next ys k old new x (omega arith) e wider inside c.1)

pub covers_more : (xs : List Access) (k : ℕ) (old new : Span) (x : Access) → k < length xs → x ≡ get_or xs k x → IsWider old new → IsIn new x → Covers old (take k xs) → Covers new (take (k + 1) xs)
covers_more xs k old new x h e wider inside c =
    subst (λ n. Covers new (take n xs)) (let next : suc k ≡ k + 1 = omega arith in next) (covers_next xs k old new x h e wider inside c)

-- one statement more
cover_each_next : (statements : List Statement) (k : ℕ) (spans : List Span) (span : Span) (s : Statement) → k < length statements → s ≡ get_or statements k s → Covers span s.accesses
    → CoverEach spans (take k statements) → CoverEach (spans ++ span ∷ []) (take (suc k) statements)
cover_each_next [] k spans span s h e c each = absurd (omega arith)
cover_each_next (t ∷ ts) zero [] span s h e c each = (subst (λ z. Covers span z.accesses) e c, tt)
cover_each_next (t ∷ ts) zero (r ∷ rs) span s h e c each = absurd each
cover_each_next (t ∷ ts) (suc k) [] span s h e c each = absurd each
cover_each_next (t ∷ ts) (suc k) (r ∷ rs) span s h e c each = (each.0, cover_each_next ts k rs span s (omega arith) e c each.1)

pub cover_each_more : (statements : List Statement) (k : ℕ) (spans new : List Span) (span : Span) (s : Statement) → k < length statements → s ≡ get_or statements k s → Covers span s.accesses
    → CoverEach spans (take k statements) → new ≡ spans ++ span ∷ [] → CoverEach new (take (k + 1) statements)
cover_each_more statements k spans new span s h e c each made =
    subst (λ n. CoverEach new (take n statements)) (let next : suc k ≡ k + 1 = omega arith in next)
    (subst (λ r. CoverEach r (take (suc k) statements)) (sym made) (cover_each_next statements k spans span s h e c each))

-- the span of a statement by its number
pub record HasSpan (spans : List Span) (s : Statement) (k : ℕ) : Type 0 where
  pub span : Span
  pub span_is : member spans k ≡ Some span
  pub covers : Covers span s.accesses

span_at : (spans : List Span) (statements : List Statement) → CoverEach spans statements → (j : ℕ) (s : Statement) → slice_get statements j ≡ Some s
    → (span : Span) × (slice_get spans j ≡ Some span) × Covers span s.accesses
span_at [] [] c j s e = absurd (cc)
span_at [] (t ∷ ts) c j s e = absurd c
span_at (r ∷ rs) [] c j s e = absurd c
span_at (r ∷ rs) (t ∷ ts) c zero s e = (r, refl, subst (λ z. Covers r z.accesses) (let same : t ≡ s = cc in same) c.0)
span_at (r ∷ rs) (t ∷ ts) c (suc j) s e = span_at rs ts c.1 j s e

pub span_of_number : (spans : List Span) (statements : List Statement) → CoverEach spans statements → (k : ℕ) (s : Statement) → member statements k ≡ Some s → HasSpan spans s k
span_of_number spans statements c zero s e = absurd (cc)
span_of_number spans statements c (suc k) s e = let r = span_at spans statements c k s e in record { span = r.0; span_is = r.1; covers = r.2 }

-- nothing from nothing
nothing_flat : {X Y : Type 0} (f : X → List Y) (xs : List X) → ((x : X) → f x ≡ []) → flat_map f xs ≡ []
nothing_flat f [] h = refl
nothing_flat f (x ∷ xs) h = flat_map-cons f x xs ∙ (ap (λ t. t ++ flat_map f xs) (h x) ∙ nothing_flat f xs h)

-- without a level there is no entry
no_level : (ends : Ends) → ends.common ≡ 0 → ends.in_text ≡ false → (e : Dep) → at_levels ends e ≡ []
no_level ends c t e = ap (λ n. at_levels (record ends { common = n }) e) c ∙ ap (λ b. at_levels (record ends { common = 0; in_text = b }) e) t

no_parts : (ends : Ends) → ends.common ≡ 0 → ends.in_text ≡ false → (e : Dep) → at_parts ends e ≡ []
no_parts ends c t e =
    nothing_flat (λ p. at_target_parts ends (record e { source_part = p })) (range_with_len 1 ends.source_parts)
    (λ p. nothing_flat (λ q. at_levels ends (record e { source_part = p; target_part = q })) (range_with_len 1 ends.target_parts) (λ q. no_level ends c t (record e { source_part = p; target_part = q })))

no_entries : (ends : Ends) → ends.common ≡ 0 → ends.in_text ≡ false → (found : Option DepKind) (a b : ℕ × Access) → entries_by found ends a b ≡ []
no_entries ends c t None a b = refl
no_entries ends c t (Some kind) a b = by (can_meet a.1 b.1)
  where
    by : (m : Bool) → (if m then at_parts ends (first_entry kind ends a.0 b.0) else []) ≡ []
    by true = no_parts ends c t (first_entry kind ends a.0 b.0)
    by false = refl

pub none_among : (ends : Ends) (firsts seconds : List Access) → ends.common ≡ 0 → ends.in_text ≡ false → entries_among ends firsts seconds ≡ []
none_among ends firsts seconds c t =
    nothing_flat (λ a. entries_from ends a seconds) (numbered 1 firsts)
    (λ a. nothing_flat (λ b. entries_by (kind_between a.1.kind b.1.kind) ends a b) (numbered 1 seconds) (λ b. no_entries ends c t (kind_between a.1.kind b.1.kind) a b))

-- two accesses in spans that are apart give no entry
array_differs : (a b : Access) → (a.array ≡ b.array → ⊥) → can_meet a b ≡ false
array_differs a b h = by (int_eq a.array b.array) refl
  where
    by : (m : Bool) → int_eq a.array b.array ≡ m → can_meet a b ≡ false
    by true e = absurd (h ((Decides-int_eq a.array b.array).0 e))
    by false e = ap (λ t. t && (length a.subscripts == length b.subscripts)) e

apart_entries : (ends : Ends) (s t : Span) (j k : ℕ) (a b : Access) → AreApart s t → IsIn s a → IsIn t b → entries_by (kind_between a.kind b.kind) ends (j, a) (k, b) ≡ []
apart_entries ends s t j k a b (inl w) ha hb =
    ap (λ kind. entries_by (kind_between kind b.kind) ends (j, a) (k, b)) (ha.reads w.0) ∙ ap (λ kind. entries_by (kind_between Read kind) ends (j, a) (k, b)) (hb.reads w.1)
apart_entries ends s t j k a b (inr w) ha hb = by (kind_between a.kind b.kind)
  where
    differ : a.array ≡ b.array → ⊥
    differ e = elim w [
      | inl l ↦ omega (arith, ints, l, ha.to_high, hb.from_low, e)
      | inr l ↦ omega (arith, ints, l, hb.to_high, ha.from_low, e)
    ]

    by : (found : Option DepKind) → entries_by found ends (j, a) (k, b) ≡ []
    by None = refl
    by (Some kind) = ap (λ m. if m then at_parts ends (first_entry kind ends j k) else []) (array_differs a b differ)

apart_from : (ends : Ends) (s t : Span) (j k : ℕ) (a : Access) (seconds : List Access) → AreApart s t → IsIn s a → Covers t seconds
    → flat_map (λ b. entries_by (kind_between a.kind b.1.kind) ends (j, a) b) (numbered k seconds) ≡ []
apart_from ends s t j k a [] w ha c = refl
apart_from ends s t j k a (b ∷ bs) w ha c =
    flat_map-cons (λ d. entries_by (kind_between a.kind d.1.kind) ends (j, a) d) (k, b) (numbered (k + 1) bs)
    ∙ (ap (λ z. z ++ flat_map (λ d. entries_by (kind_between a.kind d.1.kind) ends (j, a) d) (numbered (k + 1) bs)) (apart_entries ends s t j k a b w ha c.0) ∙ apart_from ends s t j (k + 1) a bs w ha c.1)

apart_all : (ends : Ends) (s t : Span) (j : ℕ) (firsts seconds : List Access) → AreApart s t → Covers s firsts → Covers t seconds
    → flat_map (λ a. entries_from ends a seconds) (numbered j firsts) ≡ []
apart_all ends s t j [] seconds w c d = refl
apart_all ends s t j (a ∷ xs) seconds w c d =
    flat_map-cons (λ z. entries_from ends z seconds) (j, a) (numbered (j + 1) xs)
    ∙ (ap (λ z. z ++ flat_map (λ y. entries_from ends y seconds) (numbered (j + 1) xs)) (apart_from ends s t j 1 a seconds w c.0 d) ∙ apart_all ends s t (j + 1) xs seconds w c.1 d)

pub apart_among : (ends : Ends) (s t : Span) (firsts seconds : List Access) → AreApart s t → Covers s firsts → Covers t seconds → entries_among ends firsts seconds ≡ []
apart_among ends s t firsts seconds w c d = apart_all ends s t 1 firsts seconds w c d
