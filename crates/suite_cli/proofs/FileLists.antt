-- The files of a command, read one after the other.
use Rattle.std.proofs.Common.{◌≡◌, ◌⊎◌, inl, inr, ℕ, zero, suc, ◌+◌, ◌<◌, ◌≤◌, Bool, true, false, ◌||◌, ◌&&◌, List, [], ◌∷◌, ◌++◌, Option, Some, None, IfSome, length, slice_get, refl, ap, sym, ◌∙◌, subst, arith}
use Rattle.std.specs.List.{All, count_by}
use Rattle.std.proofs.lemmas.List.{append-nil}
use Rattle.std.proofs.lemmas.List.Elements.{All-cons, All-nil}
use Rattle.std.proofs.lemmas.List.Folds.{list_all-append, list_any-append}
use Rattle.std.proofs.lemmas.List.Sums.{sum_by-append}
use Rattle.suite_base.specs.Outside.{HasFault, IsMissing, Took, Under}
use Rattle.suite_base.specs.declared.reading.ReadFail.{ReadFail}
use Rattle.suite_base.specs.declared.reading.ReadFail.TheVariants as fail
use Rattle.suite_base.specs.Limits.{max_input}
use Rattle.suite_cli.specs.Answers.{ReadingAnswers, unread_at}
use Rattle.suite_cli.specs.Commands.{has_input, has_no_name, is_input}
use Rattle.suite_cli.specs.Reads.{AreRead, FailCause, FaultCause, Named, OfEach, ReadWhole, ReadsNoMore, StopsAt}
use Rattle.suite_cli.specs.Worlds.{Grows, Inputs}

pub tells : (b : Bool) → (b ≡ true) ⊎ (b ≡ false)
tells true = inl refl
tells false = inr refl

and_first : (a b : Bool) → (a && b) ≡ true → a ≡ true
and_first true b e = refl
and_first false b e = e

and_second : (a b : Bool) → (a && b) ≡ true → b ≡ true
and_second true b e = e
and_second false b e = absurd (cc)

or_first : (a b : Bool) → (a || b) ≡ false → a ≡ false
or_first true b e = e
or_first false b e = refl

or_second : (a b : Bool) → (a || b) ≡ false → b ≡ false
or_second true b e = absurd (cc)
or_second false b e = e

or_more : (a : Bool) {b : Bool} → b ≡ true → (a || b) ≡ true
or_more true e = refl
or_more false e = e

either_is : (a b : Bool) → a ≡ false → b ≡ false → (a || b) ≡ false
either_is a b e f = rw (e, f) refl

-- ---- which of the words are standard input

counted_append : (xs ys : List (List ℕ)) → count_by is_input (xs ++ ys) ≡ count_by is_input xs + count_by is_input ys
counted_append xs ys = sum_by-append _ xs ys

counted_one : (file : List ℕ) → is_input file ≡ true → count_by is_input (file ∷ []) ≡ 1
counted_one file e = simp e refl

counted_more : (file : List ℕ) (files : List (List ℕ)) → is_input file ≡ true → 1 ≤ count_by is_input (file ∷ files)
counted_more file files e = let s = counted_append (file ∷ []) files in let one = counted_one file e in omega arith

-- where standard input is named once at most, a list in which it isn't counted has none
none_counted : (files : List (List ℕ)) → count_by is_input files ≡ 0 → has_input files ≡ false
none_counted [] e = refl
none_counted (file ∷ files) e =
    elim (tells (is_input file)) [
      | inl t ↦ let more = counted_more file files t in absurd (omega arith)
      | inr f ↦ let s = counted_append (file ∷ []) files in let rest : count_by is_input files ≡ 0 = omega arith in either_is _ _ f (none_counted files rest)
    ]

pub none_earlier : (earlier later : List (List ℕ)) (file : List ℕ) → count_by is_input (earlier ++ file ∷ later) ≤ 1 → is_input file ≡ true → has_input earlier ≡ false
none_earlier earlier later file once e =
    let s = counted_append earlier (file ∷ later) in
    let more = counted_more file later e in
    none_counted earlier (omega arith)

-- ---- one word more

-- what was read by these words stays read, where input moves on only if it isn't named
later_read : (before now after : Inputs) (file text : List ℕ) → ReadWhole before now file text → (is_input file ≡ true → after.left ≡ now.left) → ReadWhole before after file text
later_read before now after file text r same = record {
  whole = r.whole;
  took = λ e. let P : Option (List ℕ) → Type 0 = λ left. Took before.left text left in subst P (sym (same e)) (r.took e);
  short = r.short;
}

later_reads : (before now after : Inputs) (files texts : List (List ℕ)) → AreRead before now files texts → (has_input files ≡ true → after.left ≡ now.left) → AreRead before after files texts
later_reads before now after [] [] r same = tt
later_reads before now after (file ∷ files) (text ∷ texts) r same =
    (later_read before now after file text r.0 (λ e. same (rw e refl)), later_reads before now after files texts r.1 (λ e. same (or_more (is_input file) e)))
later_reads before now after [] (text ∷ texts) r same = absurd r
later_reads before now after (file ∷ files) [] r same = absurd r

one_more_read : (before now : Inputs) (files texts : List (List ℕ)) (file text : List ℕ) → AreRead before now files texts → ReadWhole before now file text → AreRead before now (files ++ file ∷ []) (texts ++ text ∷ [])
one_more_read before now [] [] file text r h = (h, tt)
one_more_read before now (f ∷ files) (t ∷ texts) file text r h = (r.0, one_more_read before now files texts file text r.1 h)
one_more_read before now [] (t ∷ texts) file text r h = absurd r
one_more_read before now (f ∷ files) [] file text r h = absurd r

pub same_number : (P : List ℕ → List ℕ → Type 0) (files texts : List (List ℕ)) → OfEach P files texts → length texts ≡ length files
same_number P [] [] r = refl
same_number P (f ∷ files) (t ∷ texts) r = let n = same_number P files texts r.1 in omega arith
same_number P [] (t ∷ texts) r = absurd r
same_number P (f ∷ files) [] r = absurd r

-- each text that was read is short enough
pub all_short : (before now : Inputs) (files texts : List (List ℕ)) → AreRead before now files texts → All (λ text. length text ≤ max_input) texts
all_short before now [] [] r = All-nil (λ text. length text ≤ max_input)
all_short before now (f ∷ files) (t ∷ texts) r = All-cons (λ text. length text ≤ max_input) t texts r.0.short (all_short before now files texts r.1)
all_short before now [] (t ∷ texts) r = absurd r
all_short before now (f ∷ files) [] r = absurd r

-- what is said of the bytes that a word names is said later, where these are the same
named_before : (before now : Inputs) (file : List ℕ) (P : List ℕ → Type 0) → now.held ≡ before.held → (is_input file ≡ true → now.left ≡ before.left) → Named now file P → Named before file P
named_before before now file P held left (inl (e, h)) = let Q : Option (List ℕ) → Type 0 = λ l. IfSome l P in inl (e, subst Q (left e) h)
named_before before now file P held left (inr (e, h)) = let Q : Option (List (List ℕ × List ℕ)) → Type 0 = λ l. Under l file P in inr (e, subst Q held h)

whole_before : (before now after : Inputs) (file text : List ℕ) → now.held ≡ before.held → (is_input file ≡ true → now.left ≡ before.left) → ReadWhole now after file text → ReadWhole before after file text
whole_before before now after file text held left r = record {
  whole = named_before before now file (λ bytes. text ≡ bytes) held left r.whole;
  took = λ e. let P : Option (List ℕ) → Type 0 = λ l. Took l text after.left in subst P (left e) (r.took e);
  short = r.short;
}

-- a fault in the later part of a run is one of the whole
fault_before : (a b c : ℕ) → a ≤ b → HasFault b c → HasFault a c
fault_before a b c h (inl l) = inl (omega arith)
fault_before a b c h (inr e) = inr e

open_fault_before : (a b c : ℕ) (old held : Option (List (List ℕ × List ℕ))) (file : List ℕ) → a ≤ b → held ≡ old → HasFault b c ⊎ IsMissing held file → HasFault a c ⊎ IsMissing old file
open_fault_before a b c old held file g e (inl h) = inl (fault_before a b c g h)
open_fault_before a b c old held file g e (inr m) = let P : Option (List (List ℕ × List ℕ)) → Type 0 = λ l. IsMissing l file in inr (subst P e m)

cause_before : (before now after : Inputs) (file : List ℕ) → now.held ≡ before.held → Grows before now → FaultCause now after file → FaultCause before after file
cause_before before now after file held g (inl (e, h)) = inl (e, fault_before _ _ _ g.reading h)
cause_before before now after file held g (inr (e, h)) = inr (e, open_fault_before _ _ _ _ _ file g.opening held h)

fail_before : (before now after : Inputs) (f : ReadFail) (file : List ℕ) → now.held ≡ before.held → Grows before now → (is_input file ≡ true → now.left ≡ before.left) → FailCause now after f file → FailCause before after f file
fail_before before now after fail.Memory file held g left h = tt
fail_before before now after fail.Fault file held g left h = cause_before before now after file held g h
fail_before before now after fail.TooLong file held g left h = named_before before now file (λ bytes. max_input < length bytes) held left h

-- ---- the state between two words

-- the words were read to their ends up to some place, and none behind it was read
pub record HaveRead (before now : Inputs) (files texts : List (List ℕ)) : Type 0 where
  pub earlier : List (List ℕ)
  pub later : List (List ℕ)
  pub files_are : files ≡ earlier ++ later
  pub read : AreRead before now earlier texts
  pub last : ReadsNoMore before now earlier

-- what the reading of one word tells
pub record ReadsOne (before now : Inputs) (file : List ℕ) : Type 0 where
  pub held : now.held ≡ before.held
  pub unread : is_input file ≡ false → now.left ≡ before.left
  pub unopened : is_input file ≡ true → now.opening ≡ before.opening
  pub grows : Grows before now

pub nothing_read : (now : Inputs) (files : List (List ℕ)) → HaveRead now now files []
nothing_read now files = record {
  earlier = [];
  later = files;
  files_are = refl;
  read = tt;
  last = record { held = refl; unread = λ e. refl; unopened = λ e. refl; grows = record { opening = omega arith; reading = omega arith } };
}

-- the next word stands first behind those that were read
at_seam : (xs ys : List (List ℕ)) (file : List ℕ) → slice_get (xs ++ ys) (length xs) ≡ Some file → (rest : List (List ℕ)) × (ys ≡ file ∷ rest)
at_seam [] [] file e = absurd (cc)
at_seam [] (y ∷ ys) file e = (ys, cc)
at_seam (x ∷ xs) ys file e = at_seam xs ys file e

at_end : (xs ys : List (List ℕ)) → slice_get (xs ++ ys) (length xs) ≡ None → ys ≡ []
at_end [] [] e = refl
at_end [] (y ∷ ys) e = absurd (cc)
at_end (x ∷ xs) ys e = at_end xs ys e

next_of : (before now : Inputs) (files texts : List (List ℕ)) (file : List ℕ) (r : HaveRead before now files texts) → slice_get files (length texts) ≡ Some file → (rest : List (List ℕ)) × (r.later ≡ file ∷ rest)
next_of before now files texts file r e =
    let n : length texts ≡ length r.earlier = same_number _ r.earlier texts r.read in
    at_seam r.earlier r.later file (ap (λ fs. slice_get fs (length r.earlier)) (sym r.files_are) ∙ ap (slice_get files) (sym n) ∙ e)

-- reading one word more reads none behind it
reads_no_more : (before now after : Inputs) (earlier : List (List ℕ)) (file : List ℕ) → ReadsNoMore before now earlier → ReadsOne now after file → ReadsNoMore before after (earlier ++ file ∷ [])
reads_no_more before now after earlier file r o = record {
  held = o.held ∙ r.held;
  unread = λ e. let both : (has_input earlier || has_input (file ∷ [])) ≡ false = sym (list_any-append is_input earlier (file ∷ [])) ∙ e in
      o.unread (or_first _ _ (or_second _ _ both)) ∙ r.unread (or_first _ _ both);
  unopened = λ e. let both : (has_no_name earlier && has_no_name (file ∷ [])) ≡ true = sym (list_all-append is_input earlier (file ∷ [])) ∙ e in
      o.unopened (and_first _ _ (and_second _ _ both)) ∙ r.unopened (and_first _ _ both);
  grows = record { opening = let a = r.grows.opening in let b = o.grows.opening in omega arith; reading = let a = r.grows.reading in let b = o.grows.reading in omega arith };
}

-- standard input is not moved by the words before its own
input_left : (before now : Inputs) (files earlier rest : List (List ℕ)) (file : List ℕ) → files ≡ earlier ++ file ∷ rest → count_by is_input files ≤ 1 → ReadsNoMore before now earlier → is_input file ≡ true → now.left ≡ before.left
input_left before now files earlier rest file e once r i =
    let P : List (List ℕ) → Type 0 = λ fs. count_by is_input fs ≤ 1 in
    r.unread (none_earlier earlier rest file (subst P e once) i)

-- nor is it moved by a word behind it
left_after : (before now after : Inputs) (files earlier rest : List (List ℕ)) (file : List ℕ) → files ≡ earlier ++ file ∷ rest → count_by is_input files ≤ 1 → ReadsOne now after file → has_input earlier ≡ true → after.left ≡ now.left
left_after before now after files earlier rest file e once o i =
    elim (tells (is_input file)) [
      | inl t ↦ let P : List (List ℕ) → Type 0 = λ fs. count_by is_input fs ≤ 1 in let none = none_earlier earlier rest file (subst P e once) t in absurd (cc)
      | inr f ↦ o.unread f
    ]

joined : (files earlier later rest : List (List ℕ)) (file : List ℕ) → files ≡ earlier ++ later → later ≡ file ∷ rest → files ≡ earlier ++ file ∷ rest
joined files earlier later rest file e n = e ∙ ap (λ l. earlier ++ l) n

shifted : (earlier rest : List (List ℕ)) (file : List ℕ) → earlier ++ file ∷ rest ≡ (earlier ++ file ∷ []) ++ rest
shifted [] rest file = refl
shifted (x ∷ earlier) rest file = ap (λ l. x ∷ l) (shifted earlier rest file)

pub read_more : (before now after : Inputs) (files texts texts' : List (List ℕ)) (file text : List ℕ) → HaveRead before now files texts → slice_get files (length texts) ≡ Some file → count_by is_input files ≤ 1
    → texts' ≡ texts ++ text ∷ [] → ReadsOne now after file → ReadWhole now after file text → HaveRead before after files texts'
read_more before now after files texts texts' file text r e once t o w =
    let next = next_of before now files texts file r e in
    let all : files ≡ r.earlier ++ file ∷ next.0 = joined files r.earlier r.later next.0 file r.files_are next.1 in
    let old : AreRead before after r.earlier texts = later_reads before now after r.earlier texts r.read (left_after before now after files r.earlier next.0 file all once o) in
    let one : ReadWhole before after file text = whole_before before now after file text r.last.held (input_left before now files r.earlier next.0 file all once r.last) w in
    let P : List (List ℕ) → Type 0 = λ ts. AreRead before after (r.earlier ++ file ∷ []) ts in
    record {
      earlier = r.earlier ++ file ∷ [];
      later = next.0;
      files_are = all ∙ shifted r.earlier next.0 file;
      read = subst P (sym t) (one_more_read before after r.earlier texts file text old one);
      last = reads_no_more before now after r.earlier file r.last o;
    }

pub read_to_end : (before now : Inputs) (files texts : List (List ℕ)) → HaveRead before now files texts → slice_get files (length texts) ≡ None → AreRead before now files texts
read_to_end before now files texts r e =
    let n : length texts ≡ length r.earlier = same_number _ r.earlier texts r.read in
    let done : r.later ≡ [] = at_end r.earlier r.later (ap (λ fs. slice_get fs (length r.earlier)) (sym r.files_are) ∙ ap (slice_get files) (sym n) ∙ e) in
    let P : List (List ℕ) → Type 0 = λ fs. AreRead before now fs texts in
    subst P (sym (r.files_are ∙ ap (λ l. r.earlier ++ l) done ∙ append-nil r.earlier)) r.read

stops : (before now after : Inputs) (files texts : List (List ℕ)) (place : ℕ) (f : ReadFail) (file : List ℕ) → HaveRead before now files texts → slice_get files (length texts) ≡ Some file → count_by is_input files ≤ 1
    → place ≡ length texts + 1 → ReadsOne now after file → FailCause now after f file → StopsAt before after files place (FailCause before after f)
stops before now after files texts place f file r e once p o h =
    let next = next_of before now files texts file r e in
    let all : files ≡ r.earlier ++ file ∷ next.0 = joined files r.earlier r.later next.0 file r.files_are next.1 in
    let n : length texts ≡ length r.earlier = same_number _ r.earlier texts r.read in
    record {
      earlier = r.earlier;
      file = file;
      later = next.0;
      texts = texts;
      files_are = all;
      place_is = p ∙ ap (λ k. k + 1) n;
      read = later_reads before now after r.earlier texts r.read (left_after before now after files r.earlier next.0 file all once o);
      stop = fail_before before now after f file r.last.held r.last.grows (input_left before now files r.earlier next.0 file all once r.last) h;
      last = reads_no_more before now after r.earlier file r.last o;
    }

answers_for : (before now : Inputs) (files : List (List ℕ)) (place : ℕ) (f : ReadFail) → StopsAt before now files place (FailCause before now f) → ReadingAnswers files before now (unread_at place f)
answers_for before now files place fail.Memory s = tt
answers_for before now files place fail.Fault s = (place, s)
answers_for before now files place fail.TooLong s = s

-- the outcome of a word that was not read to its end is the answer of the run
pub read_ends : (before now after : Inputs) (files texts : List (List ℕ)) (place : ℕ) (f : ReadFail) (file : List ℕ) → HaveRead before now files texts → slice_get files (length texts) ≡ Some file → count_by is_input files ≤ 1
    → place ≡ length texts + 1 → ReadsOne now after file → FailCause now after f file → ReadingAnswers files before after (unread_at place f)
read_ends before now after files texts place f file r e once p o h =
    answers_for before after files place f (stops before now after files texts place f file r e once p o h)

-- a word of the list, where each is standard input, or where none is
all_at : (files : List (List ℕ)) (k : ℕ) (file : List ℕ) → slice_get files k ≡ Some file → has_no_name files ≡ true → is_input file ≡ true
all_at [] k file e h = absurd (cc)
all_at (f ∷ files) zero file e h = let same : f ≡ file = cc in ap is_input (sym same) ∙ and_first _ _ h
all_at (f ∷ files) (suc k) file e h = all_at files k file e (and_second _ _ h)

none_at : (files : List (List ℕ)) (k : ℕ) (file : List ℕ) → slice_get files k ≡ Some file → has_input files ≡ false → is_input file ≡ false
none_at [] k file e h = absurd (cc)
none_at (f ∷ files) zero file e h = let same : f ≡ file = cc in ap is_input (sym same) ∙ or_first _ _ h
none_at (f ∷ files) (suc k) file e h = none_at files k file e (or_second _ _ h)

pub files_stay : {F : Type 0} (a b c : F) (files : List (List ℕ)) (k : ℕ) (file : List ℕ) → slice_get files k ≡ Some file → (has_no_name files ≡ true → b ≡ a) → (is_input file ≡ true → c ≡ b) → has_no_name files ≡ true → c ≡ a
files_stay a b c files k file e old step h = step (all_at files k file e h) ∙ old h

pub input_stays : {I : Type 0} (a b c : I) (files : List (List ℕ)) (k : ℕ) (file : List ℕ) → slice_get files k ≡ Some file → (has_input files ≡ false → b ≡ a) → (is_input file ≡ false → c ≡ b) → has_input files ≡ false → c ≡ a
input_stays a b c files k file e old step h = step (none_at files k file e h) ∙ old h

-- what the clauses of a read of one word tell, of any objects
pub reads_one : {F I : Type 0} (held : F → Option (List (List ℕ × List ℕ))) (opening : F → ℕ) (left : I → Option (List ℕ)) (reading : I → ℕ) (f g : F) (i j : I) (file : List ℕ)
    → held g ≡ held f → (is_input file ≡ true → g ≡ f) → (is_input file ≡ false → j ≡ i) → opening f ≤ opening g → reading i ≤ reading j
    → ReadsOne (record { held = held f; opening = opening f; left = left i; reading = reading i }) (record { held = held g; opening = opening g; left = left j; reading = reading j }) file
reads_one held opening left reading f g i j file h u v o r = record {
  held = h;
  unread = λ e. ap left (v e);
  unopened = λ e. ap opening (u e);
  grows = record { opening = o; reading = r };
}
