-- Verdicts as marks, and how many of them are of kept systems.
use Rattle.std.proofs.Common.{◌≡◌, ℕ, zero, suc, ◌+◌, ◌-◌, ◌<◌, ◌≤◌, ℤ, Bool, true, false, cond, Option, Some, None, List, [], ◌∷◌, length, map, take, refl, ap, sym, ◌∙◌, subst, arith}
use Rattle.std.specs.Prelude.{not}
use Rattle.std.specs.List.{count_by}
use Rattle.std.proofs.lemmas.List.{length-map, take_all}
use Rattle.std.proofs.lemmas.List.Sums.{sum_by-cons}
use Rattle.relation_core.specs.Systems.{System}
use Rattle.scop_core.specs.ScopData.{ScopData}
use Rattle.dependence_systems.specs.declared.dependences.Dep.{Dep}
use Rattle.dependence_systems.specs.Sides.{Side, own_sides}
use Rattle.dependence_systems.specs.Systems.{system_of}
use Rattle.candl_deps.specs.declared.held.Decided.{Decided}
use Rattle.candl_deps.specs.declared.held.Dependences.{Dependences}
use Rattle.candl_deps.specs.Decisions.{IsRight}
use Rattle.candl_deps.specs.Found.{AreDecided, AreDependences, certificate_at, verdicts_of}
use Rattle.demo.specs.Demonstrations.{AreCounted, AreMarked, IsMarked, is_kept}

-- ---- counts

-- one entry more at the front
cons : {X : Type 0} (p : X → Bool) (x : X) (xs : List X) → count_by p (x ∷ xs) ≡ cond (p x) 1 0 + count_by p xs
cons p x xs = sum_by-cons (λ y. cond (p y) 1 0) x xs

-- one verdict more at the end
kept_and_next : (decided : List Decided) (k : ℕ) → k < length decided
    → count_by is_kept (take (suc k) (verdicts_of decided)) ≡ count_by is_kept (take k (verdicts_of decided)) + cond (is_kept (certificate_at decided k)) 1 0
kept_and_next [] k h = absurd (omega (arith, h))
kept_and_next (one ∷ decided) zero h = refl
kept_and_next (one ∷ decided) (suc k) h =
    let verdicts : List (Option (List ℤ)) = verdicts_of decided in
    let this : ℕ = cond (is_kept one.certificate) 1 0 in
    let more = kept_and_next decided k (omega (arith, h)) in
    let long : count_by is_kept (one.certificate ∷ take (suc k) verdicts) ≡ this + count_by is_kept (take (suc k) verdicts) = cons is_kept one.certificate (take (suc k) verdicts) in
    let short : count_by is_kept (one.certificate ∷ take k verdicts) ≡ this + count_by is_kept (take k verdicts) = cons is_kept one.certificate (take k verdicts) in
    omega (arith, more, long, short)

pub kept_more : (decided : List Decided) (k : ℕ) → k < length decided
    → count_by is_kept (take (k + 1) (verdicts_of decided)) ≡ count_by is_kept (take k (verdicts_of decided)) + cond (is_kept (certificate_at decided k)) 1 0
kept_more decided k h =
    let count : k + 1 ≡ suc k = omega arith in
    ap (λ n. count_by is_kept (take n (verdicts_of decided))) count ∙ kept_and_next decided k h

-- as many verdicts as systems
pub as_many : (decided : List Decided) → length (verdicts_of decided) ≡ length decided
as_many [] = refl
as_many (one ∷ decided) = let more = as_many decided in omega (arith, more)

-- all verdicts were counted
pub kept_in_all : (decided : List Decided) (count : ℕ) → count ≡ length decided
    → count_by is_kept (take count (verdicts_of decided)) ≡ count_by is_kept (verdicts_of decided)
kept_in_all decided count e =
    let all : length (verdicts_of decided) ≤ count = let same = as_many decided in omega (arith, same, e) in
    ap (count_by is_kept) (take_all count (verdicts_of decided) all)

marks_kept : (verdicts : List (Option (List ℤ))) → count_by (λ (mark : Bool). mark) (map is_kept verdicts) ≡ count_by is_kept verdicts
marks_kept [] = refl
marks_kept (v ∷ verdicts) =
    cons (λ (mark : Bool). mark) (is_kept v) (map is_kept verdicts) ∙ ap (λ n. cond (is_kept v) 1 0 + n) (marks_kept verdicts) ∙ sym (cons is_kept v verdicts)

one_of : (mark : Bool) → cond mark 1 0 + cond (not mark) 1 0 ≡ 1
one_of true = refl
one_of false = refl

all_marks : (marks : List Bool) → count_by (λ (mark : Bool). mark) marks + count_by not marks ≡ length marks
all_marks [] = refl
all_marks (mark ∷ marks) =
    let more = all_marks marks in
    let yes : count_by (λ (m : Bool). m) (mark ∷ marks) ≡ cond mark 1 0 + count_by (λ (m : Bool). m) marks = cons (λ (m : Bool). m) mark marks in
    let no : count_by not (mark ∷ marks) ≡ cond (not mark) 1 0 + count_by not marks = cons not mark marks in
    let one : cond mark 1 0 + cond (not mark) 1 0 ≡ 1 = one_of mark in
    omega (arith, more, yes, no, one)

-- ---- marks

marked_by : (system : System) (verdict : Option (List ℤ)) → IsRight system verdict → IsMarked system (is_kept verdict)
marked_by system None h = h
marked_by system (Some certificate) h = h.no_point

marked : (context : System) (sides : List Side) (list : List Dep) (decided : List Decided) → AreDecided context sides list decided
    → AreMarked context sides list (map is_kept (verdicts_of decided))
marked context sides [] [] h = tt
marked context sides [] (one ∷ decided) h = absurd h
marked context sides (e ∷ list) [] h = absurd h
marked context sides (e ∷ list) (one ∷ decided) h = (
  marked_by (system_of context sides e) one.certificate (subst (λ s. IsRight s one.certificate) h.0.decided.system_is h.0.decided.right),
  marked context sides list decided h.1,
)

pub same_many : (context : System) (sides : List Side) (list : List Dep) (decided : List Decided) → AreDecided context sides list decided
    → length list ≡ length decided
same_many context sides [] [] h = refl
same_many context sides [] (one ∷ decided) h = absurd h
same_many context sides (e ∷ list) [] h = absurd h
same_many context sides (e ∷ list) (one ∷ decided) h = ap suc (same_many context sides list decided h.1)

-- the dependences of a SCoP, counted
pub counted : (S : ScopData) (found : Dependences) (all kept dropped : ℕ) → AreDependences S found → all ≡ length found.deps
    → kept ≡ count_by is_kept (verdicts_of found.decided) → dropped ≡ all - kept → AreCounted S (record { all = all; kept = kept; dropped = dropped })
counted S found all kept dropped d all_is kept_is dropped_is =
    let verdicts : List (Option (List ℤ)) = verdicts_of found.decided in
    let marks : List Bool = map is_kept verdicts in
    let many : length found.deps ≡ length found.decided = same_many S.context (own_sides S) found.deps found.decided d.decided in
    let long : length marks ≡ length verdicts = length-map verdicts is_kept in
    let same : length verdicts ≡ length found.decided = as_many found.decided in
    let yes : count_by (λ (mark : Bool). mark) marks ≡ count_by is_kept verdicts = marks_kept verdicts in
    let sum : count_by (λ (mark : Bool). mark) marks + count_by not marks ≡ length marks = all_marks marks in
    record {
      few = d.few;
      marks = marks;
      marked = subst (λ list. AreMarked S.context (own_sides S) list marks) d.list (marked S.context (own_sides S) found.deps found.decided d.decided);
      all_are = all_is ∙ ap length d.list;
      kept_are = kept_is ∙ sym yes;
      dropped_are = omega (arith, all_is, kept_is, dropped_is, many, long, same, yes, sum);
    }
