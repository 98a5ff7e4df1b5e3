-- The counts of the entries so far, with those of the entries that are left.
use Rattle.std.proofs.Common.{◌≡◌, inl, inr, refl, ap, sym, ◌∙◌, subst, ℕ, ◌+◌, ◌-◌, ◌<◌, ◌≤◌, List, [], ◌∷◌, length, drop, Bool, true, false, zero, suc, arith}
use Rattle.std.specs.Prelude.{ℤ, Option, Some, None, Result, Ok, Err, slice_index_or}
use Rattle.suite_base.specs.declared.refusals.Fail.{Fail}
use Rattle.suite_base.specs.declared.refusals.Fail.TheVariants as fail
use Rattle.suite_base.specs.declared.refusals.Refusal.{Refusal}
use Rattle.suite_base.specs.declared.refusals.Refusal.TheVariants.{BadCertificate}
use Rattle.relation_core.specs.Systems.{System}
use Rattle.scop_core.specs.Sequences.{In}
use Rattle.dependence_systems.specs.declared.dependences.Dep.{Dep}
use Rattle.dependence_systems.specs.Sides.{Side}
use Rattle.dependence_audit.specs.declared.audits.Counts.{Counts}
use Rattle.dependence_audit.specs.Audits.{Verdicts, in_front, read_entries, kept_count, dropped_count, counted, is_kept, EntryStands, EntryStops, IsCause}
use Rattle.dependence_audit.proofs.Compared.{left_at}

-- k entries, so many of them kept, and those that are left
abbrev pub with_counts : ℕ → ℕ → Result Verdicts Refusal → Result Counts Refusal
with_counts k kept (Ok verdicts) =
    Ok (record { systems = k + length verdicts; kept = kept + kept_count verdicts; dropped = (k - kept) + dropped_count verdicts })
with_counts k kept (Err refusal) = Err refusal

abbrev three : ℕ → ℕ → ℕ → Result Counts Refusal
three a b c = Ok (record { systems = a; kept = b; dropped = c })

same_counts : (a a' b b' c c' : ℕ) → a ≡ a' → b ≡ b' → c ≡ c' → three a b c ≡ three a' b' c'
same_counts a a' b b' c c' e f g = ap (λ x. three x b c) e ∙ (ap (λ x. three a' x c) f ∙ ap (λ x. three a' b' x) g)

pub none_yet : (r : Result Verdicts Refusal) → with_counts 0 0 r ≡ counted r
none_yet (Ok verdicts) =
    same_counts (0 + length verdicts) (length verdicts) (0 + kept_count verdicts) (kept_count verdicts)
    ((0 - 0) + dropped_count verdicts) (dropped_count verdicts) (omega arith) (omega arith) (omega arith)
none_yet (Err refusal) = refl

one_kept : (k kept : ℕ) (r : Result Verdicts Refusal) → kept ≤ k → with_counts k kept (in_front None r) ≡ with_counts (k + 1) (kept + 1) r
one_kept k kept (Ok verdicts) h =
    same_counts (k + length (None ∷ verdicts)) (k + 1 + length verdicts) (kept + (kept_count verdicts + 1)) (kept + 1 + kept_count verdicts)
    ((k - kept) + dropped_count verdicts) ((k + 1 - (kept + 1)) + dropped_count verdicts) (omega arith) (omega arith) (omega arith)
one_kept k kept (Err refusal) h = refl

one_dropped : (k kept : ℕ) (ls : List ℤ) (r : Result Verdicts Refusal) → kept ≤ k → with_counts k kept (in_front (Some ls) r) ≡ with_counts (k + 1) kept r
one_dropped k kept ls (Ok verdicts) h =
    same_counts (k + length (Some ls ∷ verdicts)) (k + 1 + length verdicts) (kept + kept_count verdicts) (kept + kept_count verdicts)
    ((k - kept) + (dropped_count verdicts + 1)) ((k + 1 - kept) + dropped_count verdicts) (omega arith) refl (omega arith)
one_dropped k kept ls (Err refusal) h = refl

-- the kept entries with one more where it is kept
abbrev pub more_kept : ℕ → Bool → ℕ
more_kept kept true = kept + 1
more_kept kept false = kept

by_verdict : (k kept : ℕ) (answer : Bool) (verdict : Option (List ℤ)) (r : Result Verdicts Refusal) → kept ≤ k → answer ≡ is_kept verdict
    → with_counts k kept (in_front verdict r) ≡ with_counts (k + 1) (more_kept kept answer) r
by_verdict k kept answer None r h e = one_kept k kept r h ∙ ap (λ a. with_counts (k + 1) (more_kept kept a) r) (sym e)
by_verdict k kept answer (Some ls) r h e = one_dropped k kept ls r h ∙ ap (λ a. with_counts (k + 1) (more_kept kept a) r) (sym e)

pub one_stands : (context : System) (sides : List Side) (list : List Dep) (k kept : ℕ) (d : Dep) (old new : List (List ℕ)) (answer : Bool) (whole : Result Counts Refusal)
    → k < length list → kept ≤ k → with_counts k kept (read_entries context sides (k + 1) (drop k list) old) ≡ whole
    → EntryStands context sides (k + 1) (slice_index_or list k d) old new answer
    → with_counts (k + 1) (more_kept kept answer) (read_entries context sides (k + 1 + 1) (drop (k + 1) list) new) ≡ whole
one_stands context sides list k kept d old new answer whole h few so_far stands =
    sym (by_verdict k kept answer stands.verdict (read_entries context sides (k + 1 + 1) (drop (k + 1) list) new) few stands.kept_is)
    ∙ (ap (with_counts k kept) (sym (stands.reads (drop (k + 1) list)))
    ∙ (ap (λ xs. with_counts k kept (read_entries context sides (k + 1) xs old)) (sym (left_at list k d h)) ∙ so_far))

pub one_stops : (context : System) (sides : List Side) (list : List Dep) (k kept : ℕ) (d : Dep) (old : List (List ℕ)) (failure : Fail) (whole : Result Counts Refusal)
    → k < length list → with_counts k kept (read_entries context sides (k + 1) (drop k list) old) ≡ whole
    → EntryStops context sides (k + 1) (slice_index_or list k d) old failure → IsCause whole failure
one_stops context sides list k kept d old fail.Memory whole h so_far stops = tt
one_stops context sides list k kept d old (fail.Refused refusal) whole h so_far stops =
    sym so_far ∙ (ap (λ xs. with_counts k kept (read_entries context sides (k + 1) xs old)) (left_at list k d h)
    ∙ ap (with_counts k kept) (stops (drop (k + 1) list)))

none_left : (list : List Dep) (k : ℕ) → length list ≤ k → drop k list ≡ []
none_left [] zero h = refl
none_left [] (suc k) h = refl
none_left (e ∷ list) zero h = absurd (omega arith)
none_left (e ∷ list) (suc k) h = none_left list k (omega arith)

pub all_stand : (context : System) (sides : List Side) (list : List Dep) (k kept : ℕ) (left : List (List ℕ)) (whole : Result Counts Refusal)
    → length list ≤ k → left ≡ [] → with_counts k kept (read_entries context sides (k + 1) (drop k list) left) ≡ whole → whole ≡ three k kept (k - kept)
all_stand context sides list k kept left whole h none so_far =
    sym so_far
    ∙ (ap (λ xs. with_counts k kept (read_entries context sides (k + 1) xs left)) (none_left list k h)
    ∙ (ap (λ ls. with_counts k kept (read_entries context sides (k + 1) [] ls)) none
    ∙ same_counts (k + 0) k (kept + 0) kept ((k - kept) + 0) (k - kept) (omega arith) (omega arith) (omega arith)))

pub some_left : (context : System) (sides : List Side) (list : List Dep) (k kept : ℕ) (left : List (List ℕ)) (line : List ℕ) (lines : List (List ℕ)) (whole : Result Counts Refusal)
    → length list ≤ k → left ≡ line ∷ lines → with_counts k kept (read_entries context sides (k + 1) (drop k list) left) ≡ whole → whole ≡ Err (BadCertificate (k + 1))
some_left context sides list k kept left line lines whole h more so_far =
    sym so_far
    ∙ (ap (λ xs. with_counts k kept (read_entries context sides (k + 1) xs left)) (none_left list k h)
    ∙ ap (λ ls. with_counts k kept (read_entries context sides (k + 1) [] ls)) more)

-- the entry at a place is one of the list
pub listed_at : {A : Type 0} (xs : List A) (k : ℕ) (d : A) → k < length xs → In (slice_index_or xs k d) xs
listed_at [] k d h = absurd (omega arith)
listed_at (x ∷ xs) zero d h = inl refl
listed_at (x ∷ xs) (suc k) d h = inr (listed_at xs k d (omega arith))

pub listed_in : (xs ys : List Dep) (k : ℕ) (d : Dep) → xs ≡ ys → k < length xs → In (slice_index_or xs k d) ys
listed_in xs ys k d same h = subst (λ zs. In (slice_index_or xs k d) zs) same (listed_at xs k d h)
