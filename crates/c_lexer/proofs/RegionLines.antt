-- The region that is told is that between the pragma lines.
use Rattle.std.proofs.Common.{◌≡◌, ◌↔◌, ℕ, ◌+◌, ◌-◌, inl, inr, Bool, true, false, List, [], ◌∷◌, ◌++◌, length, take, drop, Option, Some, None, Result, Ok, Err, refl, ap, sym, subst, ◌∙◌, arith, length-append, append_assoc}
use Rattle.std.specs.List.{list_any}
use Rattle.std.proofs.lemmas.List.{drop_at}
use Rattle.std.proofs.Math.Seq.{take-append_seam}
use Rattle.suite_base.specs.Lines.{lines}
use Rattle.suite_base.specs.declared.places.Place.{Place}
use Rattle.suite_base.proofs.LineCuts.{bool_tells}
use Rattle.c_lexer.specs.declared.regions.Span.{Span}
use Rattle.c_lexer.specs.declared.regions.RegionFail.{RegionFail}
use Rattle.c_lexer.specs.declared.regions.RegionFail.TheVariants.{NoRegion, OpenRegion, SecondRegion}
use Rattle.c_lexer.specs.Pragmas.{is_scop_line, is_endscop_line}
use Rattle.c_lexer.specs.Readings.{slice}
use Rattle.c_lexer.specs.Regions.{Standing, behind, first_line, region_between, region_from, region_of}
use Rattle.c_lexer.specs.RegionLines.{with_newlines, IsFirst, TellsLines}
use Rattle.c_lexer.proofs.RegionLemmas.{standing, standing_is, goes_by, stops_at}
use Rattle.c_lexer.proofs.PlaceLemmas.{cut_of}

-- ---- lines in the bytes of a text

newlines_append : (a b : List (List ℕ)) → with_newlines (a ++ b) ≡ with_newlines a ++ with_newlines b
newlines_append [] b = refl
newlines_append (line ∷ a) b = ap (λ x. line ++ 10 ∷ x) (newlines_append a b) ∙ sym (append_assoc line (10 ∷ with_newlines a) (with_newlines b))

-- the bytes of the lines at the front, and those of the lines behind them
record Splits (bytes : List ℕ) (front back : List (List ℕ)) : Type 0 where
  left : List ℕ
  whole : bytes ≡ with_newlines front ++ left
  left_is : lines left ≡ back

some_left : (front : List (List ℕ)) (line : List ℕ) (more : List (List ℕ)) (X : Type 0) → [] ≡ front ++ line ∷ more → X
some_left [] line more X e = absurd (cc)
some_left (x ∷ front) line more X e = absurd (cc)

-- a line that others follow has its newline
splits : (front : List (List ℕ)) (bytes line : List ℕ) (more : List (List ℕ)) → lines bytes ≡ front ++ line ∷ more → Splits bytes front (line ∷ more)
splits [] bytes line more e = record { left = bytes; whole = refl; left_is = e }
splits (x ∷ front) bytes line more e =
    let (rest, cut) = cut_of bytes x (front ++ line ∷ more) e in
    elim cut.whole [
      | inl w ↦
          let s = splits front rest line more cut.more_is in
          record { left = s.left; whole = w ∙ (ap (λ z. x ++ 10 ∷ z) s.whole ∙ sym (append_assoc x (10 ∷ with_newlines front) s.left)); left_is = s.left_is }
      | inr w ↦ some_left front line more (Splits bytes (x ∷ front) (line ∷ more)) (ap lines (sym w.1) ∙ cut.more_is)
    ]

slice_is : (a b c bytes : List ℕ) (from to : ℕ) → bytes ≡ a ++ (b ++ c) → from ≡ length a → to ≡ from + length b → slice bytes from to ≡ b
slice_is a b c bytes from to e f g =
    let n : to - from ≡ length b = omega (arith, g) in
    let d : drop from bytes ≡ b ++ c = ap (drop from) e ∙ drop_at a (b ++ c) from (sym f) in
    ap (λ k. take k (drop from bytes)) n ∙ (ap (take (length b)) d ∙ take-append_seam b c)

-- ---- the first line that passes a test

abbrev standing_of : List (List ℕ) → List ℕ → List (List ℕ) → Standing
standing_of before line after = standing (length before) (length (with_newlines before)) (length (with_newlines (before ++ line ∷ []))) after

abbrev is_there : Option Standing → Bool
is_there None = false
is_there (Some s) = true

there_behind : (line : List ℕ) (x : Option Standing) → is_there x ≡ is_there (behind line x)
there_behind line None = refl
there_behind line (Some s) = refl

any_is : (passes : List ℕ → Bool) (ls : List (List ℕ)) → list_any passes ls ≡ is_there (first_line passes ls)
any_is passes [] = refl
any_is passes (line ∷ more) = elim (bool_tells (passes line)) [
  | inl p ↦ simp p refl
  | inr p ↦ simp p (any_is passes more ∙ there_behind line (first_line passes more))
]

-- what a line that was found says of the lines before it
record Found (passes : List ℕ → Bool) (ls : List (List ℕ)) (s : Standing) : Type 0 where
  before : List (List ℕ)
  line : List ℕ
  first : IsFirst passes ls before line s.rest
  is : standing_of before line s.rest ≡ s

line_and_newline : (line : List ℕ) (n : ℕ) (text : List ℕ) → n ≡ length text → length line + 1 + n ≡ length (line ++ 10 ∷ text)
line_and_newline line n text e = let m = length-append line (10 ∷ text) in omega (arith, e)

standing_behind : (x : List ℕ) (before : List (List ℕ)) (line : List ℕ) (after : List (List ℕ)) → behind x (Some (standing_of before line after)) ≡ Some (standing_of (x ∷ before) line after)
standing_behind x before line after =
    ap Some (standing_is after _ _ _ _ _ _ (omega arith) (line_and_newline x _ (with_newlines before) refl) (line_and_newline x _ (with_newlines (before ++ line ∷ [])) refl))

standing_here : (line : List ℕ) (after : List (List ℕ)) → standing 0 0 (length line + 1) after ≡ standing_of [] line after
standing_here line after = standing_is after 0 0 0 0 _ _ refl refl (let m = length-append line (10 ∷ []) in omega arith)

found_in : (passes : List ℕ → Bool) (x : List ℕ) (more : List (List ℕ)) (o : Option Standing) (s : Standing) → passes x ≡ false → behind x o ≡ Some s
    → ((u : Standing) → o ≡ Some u → Found passes more u) → Found passes (x ∷ more) s
found_in passes x more None s p e ih = absurd (cc)
found_in passes x more (Some u) s p e ih =
    let f = ih u refl in
    let P : Standing → Type 0 = λ v. Found passes (x ∷ more) v in
    let k : Some (standing_of (x ∷ f.before) f.line u.rest) ≡ Some s = sym (standing_behind x f.before f.line u.rest) ∙ (ap (λ v. behind x (Some v)) f.is ∙ e) in
    let g : standing_of (x ∷ f.before) f.line u.rest ≡ s = cc in
    subst P g (record {
      before = x ∷ f.before;
      line = f.line;
      first = record { cut = ap (λ l. x ∷ l) f.first.cut; passed = f.first.passed; none_before = simp p f.first.none_before };
      is = refl;
    })

found : (passes : List ℕ → Bool) (ls : List (List ℕ)) (s : Standing) → first_line passes ls ≡ Some s → Found passes ls s
found passes [] s e = absurd (cc)
found passes (line ∷ more) s e = elim (bool_tells (passes line)) [
  | inl p ↦
      let g : standing 0 0 (length line + 1) more ≡ s = (let k = (stops_at passes line more p) in cc) in
      let P : Standing → Type 0 = λ v. Found passes (line ∷ more) v in
      subst P (sym (standing_here line more) ∙ g) (record { before = []; line = line; first = record { cut = refl; passed = p; none_before = refl }; is = refl })
  | inr p ↦ found_in passes line more (first_line passes more) s p (let k = (goes_by passes line more p) in cc) (λ u h. found passes more u h)
]

-- the same from the lines before it
first_of : (passes : List ℕ → Bool) (before : List (List ℕ)) (line : List ℕ) (after : List (List ℕ)) → passes line ≡ true → list_any passes before ≡ false
    → first_line passes (before ++ line ∷ after) ≡ Some (standing_of before line after)
first_of passes [] line after p e = stops_at passes line after p ∙ ap Some (standing_here line after)
first_of passes (x ∷ before) line after p e = elim (bool_tells (passes x)) [
  | inl q ↦ absurd (let k : true ≡ false = (simp q at e) in cc)
  | inr q ↦
      let h : list_any passes before ≡ false = (simp q at e) in
      goes_by passes x (before ++ line ∷ after) q ∙ (ap (behind x) (first_of passes before line after p h) ∙ standing_behind x before line after)
]

first_is : (passes : List ℕ → Bool) (ls before : List (List ℕ)) (line : List ℕ) (after : List (List ℕ)) → IsFirst passes ls before line after
    → first_line passes ls ≡ Some (standing_of before line after)
first_is passes ls before line after f = ap (first_line passes) f.cut ∙ first_of passes before line after f.passed f.none_before

none_there : (o : Option Standing) → is_there o ≡ false → o ≡ None
none_there None e = refl
none_there (Some s) e = absurd (cc)

none_is : (passes : List ℕ → Bool) (ls : List (List ℕ)) → list_any passes ls ≡ false → first_line passes ls ≡ None
none_is passes ls e = none_there (first_line passes ls) (sym (any_is passes ls) ∙ e)

one_there : (o : Option Standing) → is_there o ≡ true → (s : Standing) × (o ≡ Some s)
one_there None e = absurd (cc)
one_there (Some s) e = (s, refl)

one_is : (passes : List ℕ → Bool) (ls : List (List ℕ)) → list_any passes ls ≡ true → (s : Standing) × (first_line passes ls ≡ Some s)
one_is passes ls e = one_there (first_line passes ls) (sym (any_is passes ls) ∙ e)

-- ---- what an answer tells is so

region_has : (bytes : List ℕ) (before : List (List ℕ)) (scop : List ℕ) (inside : List (List ℕ)) (endscop : List ℕ) (after : List (List ℕ)) (from to : ℕ)
    → lines bytes ≡ before ++ scop ∷ (inside ++ endscop ∷ after) → from ≡ length (with_newlines (before ++ scop ∷ [])) → to ≡ from + length (with_newlines inside)
    → slice bytes from to ≡ with_newlines inside
region_has bytes before scop inside endscop after from to e f g =
    let front = before ++ scop ∷ [] in
    let s : Splits bytes (front ++ inside) (endscop ∷ after) = splits (front ++ inside) bytes endscop after (e ∙ (sym (append_assoc before (scop ∷ []) (inside ++ endscop ∷ after)) ∙ sym (append_assoc front inside (endscop ∷ after)))) in
    let w : bytes ≡ with_newlines front ++ (with_newlines inside ++ s.left) = s.whole ∙ (ap (λ x. x ++ s.left) (newlines_append front inside) ∙ append_assoc (with_newlines front) (with_newlines inside) s.left) in
    slice_is (with_newlines front) (with_newlines inside) s.left bytes from to w f g

past_is : (a : List (List ℕ)) (l : List ℕ) (rest : List (List ℕ)) (s : Standing) → standing_of a l rest ≡ s → s.past ≡ length (with_newlines (a ++ l ∷ []))
past_is a l rest s e = sym (ap (λ (t : Standing). t.past) e)

at_is : (a : List (List ℕ)) (l : List ℕ) (rest : List (List ℕ)) (s : Standing) → standing_of a l rest ≡ s → s.at ≡ length (with_newlines a)
at_is a l rest s e = sym (ap (λ (t : Standing). t.at) e)

count_is : (a : List (List ℕ)) (l : List ℕ) (rest : List (List ℕ)) (s : Standing) → standing_of a l rest ≡ s → s.lines_before ≡ length a
count_is a l rest s e = sym (ap (λ (t : Standing). t.lines_before) e)

abbrev place_of : ℕ → Place
place_of line = record { line = line; column = 1 }

tells_between : (bytes : List ℕ) (s : Standing) → Found is_scop_line (lines bytes) s → (x y : Option Standing)
    → first_line is_endscop_line s.rest ≡ x → first_line is_scop_line s.rest ≡ y → TellsLines bytes (region_between s x y)
tells_between bytes s f None y e g =
    let n = count_is f.before f.line s.rest s f.is in
    record {
      before = f.before;
      scop = f.line;
      after_scop = s.rest;
      opens = f.first;
      unclosed = any_is is_endscop_line s.rest ∙ ap is_there e;
      number_is = ap (λ k. k + 1) n;
    }
tells_between bytes s f (Some t) None e g =
    let c = found is_endscop_line s.rest t e in
    let n = count_is f.before f.line s.rest s f.is in
    let p = past_is f.before f.line s.rest s f.is in
    let q : s.past + t.at ≡ s.past + length (with_newlines c.before) = ap (λ k. s.past + k) (at_is c.before c.line t.rest t c.is) in
    record {
      before = f.before;
      scop = f.line;
      after_scop = s.rest;
      inside = c.before;
      endscop = c.line;
      after_endscop = t.rest;
      opens = f.first;
      closes = c.first;
      alone = any_is is_scop_line s.rest ∙ ap is_there g;
      from = p;
      to = q;
      has = region_has bytes f.before f.line c.before c.line t.rest s.past (s.past + t.at) (f.first.cut ∙ ap (λ l. f.before ++ f.line ∷ l) c.first.cut) p q;
      first = ap (λ k. place_of (k + 2)) n;
    }
tells_between bytes s f (Some t) (Some u) e g =
    let c = found is_scop_line s.rest u g in
    let n = count_is f.before f.line s.rest s f.is in
    let m = count_is c.before c.line u.rest u c.is in
    let k = length-append f.before (f.line ∷ c.before) in
    record {
      before = f.before;
      scop = f.line;
      after_scop = s.rest;
      between = c.before;
      second = c.line;
      after_second = u.rest;
      opens = f.first;
      closed = any_is is_endscop_line s.rest ∙ ap is_there e;
      again = c.first;
      number_is = omega (arith, n, m, k);
    }

tells_from : (bytes : List ℕ) (x : Option Standing) → first_line is_scop_line (lines bytes) ≡ x → TellsLines bytes (region_from x)
tells_from bytes None e = any_is is_scop_line (lines bytes) ∙ ap is_there e
tells_from bytes (Some s) e = tells_between bytes s (found is_scop_line (lines bytes) s e) (first_line is_endscop_line s.rest) (first_line is_scop_line s.rest) refl refl

tells : (bytes : List ℕ) (answer : Result Span RegionFail) → region_of bytes ≡ answer → TellsLines bytes answer
tells bytes answer e = subst (λ a. TellsLines bytes a) e (tells_from bytes (first_line is_scop_line (lines bytes)) refl)

-- ---- and no other answer tells what is so

between_is : (bytes : List ℕ) (s : Standing) (x y : Option Standing) → first_line is_scop_line (lines bytes) ≡ Some s
    → first_line is_endscop_line s.rest ≡ x → first_line is_scop_line s.rest ≡ y → region_of bytes ≡ region_between s x y
between_is bytes s x y e f g = ap region_from e ∙ (ap (λ a. region_between s a (first_line is_scop_line s.rest)) f ∙ ap (λ b. region_between s x b) g)

abbrev span_of : ℕ → ℕ → Place → Span
span_of from to first = record { from = from; to = to; first = first }

span_is : (span : Span) (from to : ℕ) (first : Place) → span.from ≡ from → span.to ≡ to → span.first ≡ first → span_of from to first ≡ span
span_is span from to first e f g =
    sym (ap (λ a. span_of a span.to span.first) e ∙ (ap (λ b. span_of from b span.first) f ∙ ap (λ c. span_of from to c) g))

told : (bytes : List ℕ) (answer : Result Span RegionFail) → TellsLines bytes answer → region_of bytes ≡ answer
told bytes (Ok span) h =
    let s = standing_of h.before h.scop h.after_scop in
    let t = standing_of h.inside h.endscop h.after_endscop in
    let q : span.to ≡ length (with_newlines (h.before ++ h.scop ∷ [])) + length (with_newlines h.inside) = h.to ∙ ap (λ n. n + length (with_newlines h.inside)) h.from in
    between_is bytes s (Some t) None (first_is _ _ _ _ _ h.opens) (first_is _ _ _ _ _ h.closes) (none_is is_scop_line h.after_scop h.alone)
    ∙ ap Ok (span_is span _ _ _ h.from q h.first)
told bytes (Err NoRegion) h = ap region_from (none_is is_scop_line (lines bytes) h)
told bytes (Err (OpenRegion number)) h =
    let s = standing_of h.before h.scop h.after_scop in
    between_is bytes s None _ (first_is _ _ _ _ _ h.opens) (none_is is_endscop_line h.after_scop h.unclosed) refl
    ∙ ap (λ n. Err (OpenRegion n)) (sym h.number_is)
told bytes (Err (SecondRegion number)) h =
    let s = standing_of h.before h.scop h.after_scop in
    let u = standing_of h.between h.second h.after_second in
    let (t, e) = one_is is_endscop_line h.after_scop h.closed in
    let k = length-append h.before (h.scop ∷ h.between) in
    let n : length h.before + length h.between + 2 ≡ number = omega (arith, k, h.number_is) in
    between_is bytes s (Some t) (Some u) (first_is _ _ _ _ _ h.opens) e (first_is _ _ _ _ _ h.again)
    ∙ ap (λ m. Err (SecondRegion m)) n

pub regions_stand : (bytes : List ℕ) (answer : Result Span RegionFail) → (region_of bytes ≡ answer) ↔ TellsLines bytes answer
regions_stand bytes answer = (tells bytes answer, told bytes answer)
