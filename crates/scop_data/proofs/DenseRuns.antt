-- A SCoP with dense beta vectors means what the SCoP means.
use Rattle.std.proofs.Common.{◌≡◌, ◌≢◌, inl, inr, ℕ, zero, suc, ◌+◌, List, [], ◌∷◌, map, length, ℤ, pos, Option, Some, None, refl, sym, ◌∙◌, ap, subst, arith}
use Rattle.std.specs.Prelude.{◌↔◌, IsSomeAnd, slice_get}
use Rattle.std.specs.Option.{option_map}
use Rattle.std.proofs.lemmas.Int.{ints, by_lt_z}
use Rattle.std.proofs.lemmas.Option.{slice_get-map}
use Rattle.row_core.specs.Dense.{rests, dense_among}
use Rattle.scop_data.specs.declared.statements.Statement.{Statement}
use Rattle.scop_data.specs.ScopData.{betas_in}
use Rattle.scop_data.specs.Order.{Before, IsPrefix}
use Rattle.scop_data.specs.Sequences.{In, Rising, fold_steps}
use Rattle.scop_data.specs.Memory.{Memory, EventsTouch, step_of}
use Rattle.scop_data.specs.Meaning.{Instance, statement_at, InDomain, IsInstance, stamp_in, stamp, event_in, event, Conflict, Run}
use Rattle.scop_data.specs.Theorems.{IsStatement}
use Rattle.scop_data.specs.DenseBetas.{dense_vector, dense_statement, densely_numbered}
use Rattle.scop_data.specs.RunLaws.{DenseVectorsAreTheirs, KeptMeaningHasSameRuns, DenseKeepsMeaning, DenseKeepsRuns, DenseKeepsSchedulesValid}
use Rattle.scop_data.proofs.DenseOrders.{SameOrder, dense_first, dense_firsts, in_heads, in_rests, in_one_rest, dense_keeps_order, both_nothing}

-- statements under a map
pub at_map : (f : Statement → Statement) (statements : List Statement) (k : ℕ) → statement_at (map f statements) k ≡ option_map f (statement_at statements k)
at_map f statements zero = refl
at_map f statements (suc k) = slice_get-map f statements k

vectors_map : (f : Statement → Statement) (V : List (List ℤ)) (g : List ℤ → List ℤ) → ((s : Statement) → (f s).schedule.betas ≡ g s.schedule.betas) → (statements : List Statement)
    → betas_in (map f statements) ≡ map g (betas_in statements)
vectors_map f V g is [] = refl
vectors_map f V g is (s ∷ statements) = ap (λ v. v ∷ betas_in (map f statements)) (is s) ∙ ap (λ vs. g s.schedule.betas ∷ vs) (vectors_map f V g is statements)

maps_join : (V W : List (List ℤ)) → map (dense_vector V) W ≡ map (λ v. map pos v) (map (dense_among V) W)
maps_join V [] = refl
maps_join V (p ∷ W) = ap (λ vs. dense_vector V p ∷ vs) (maps_join V W)

pub dense_vectors_are_theirs : DenseVectorsAreTheirs
dense_vectors_are_theirs S =
    let V = betas_in S.statements in
    vectors_map (dense_statement V) V (dense_vector V) (λ s. refl) S.statements ∙ maps_join V V

-- what an option holds; d where it holds nothing
held : Statement → Option Statement → Statement
held d None = d
held d (Some s) = s

same_held : (s t : Statement) → Some s ≡ Some t → s ≡ t
unfolding held
same_held s t e = ap (λ o. held s o) e

-- the vector of a statement is among those of all
listed_at : (statements : List Statement) (k : ℕ) (s : Statement) → slice_get statements k ≡ Some s → In s.schedule.betas (betas_in statements)
listed_at [] k s e = absurd (cc)
listed_at (t ∷ statements) zero s e = inl (ap (λ u. u.schedule.betas) (same_held t s e))
listed_at (t ∷ statements) (suc k) s e = inr (listed_at statements k s e)

listed : (statements : List Statement) (k : ℕ) (s : Statement) → IsStatement statements k s → In s.schedule.betas (betas_in statements)
listed statements zero s e = absurd (cc)
listed statements (suc k) s e = listed_at statements k s e

rising_kept : (p q : Instance → List ℤ) → ((a b : Instance) → Before (p a) (p b) → Before (q a) (q b)) → (L : List Instance) → Rising p L → Rising q L
rising_kept p q h [] r = tt
rising_kept p q h (x ∷ []) r = tt
rising_kept p q h (x ∷ (y ∷ ys)) r = (h x y r.0, rising_kept p q h (y ∷ ys) r.1)

same_fold : (step other : Instance → Memory → Memory) → ((a : Instance) (m : Memory) → step a m ≡ other a m) → (L : List Instance) (m : Memory) → fold_steps step L m ≡ fold_steps other L m
same_fold step other h [] m = refl
same_fold step other h (x ∷ xs) m = ap (λ k. fold_steps step xs k) (h x m) ∙ same_fold step other h xs (other x m)

pub kept_meaning_has_same_runs : KeptMeaningHasSameRuns
kept_meaning_has_same_runs T S n k = record {
  runs = λ L. (into L, back L);
  conflicts = λ a b. (there a b, here a b);
  memories = λ L m. same_fold (λ a t. step_of (event T n a) t) (λ a t. step_of (event S n a) t) (λ a t. ap (λ e. step_of e t) (k.events a)) L m;
}
  where
    into : (L : List Instance) → Run T n L → Run S n L
    into L r = record {
      all = λ a h. r.all a ((k.instances a).1 h);
      only = λ a i. (k.instances a).0 (r.only a i);
      rising = rising_kept (stamp T n) (stamp S n) (λ a b. (k.order a b).0) L r.rising;
    }

    back : (L : List Instance) → Run S n L → Run T n L
    back L r = record {
      all = λ a h. r.all a ((k.instances a).0 h);
      only = λ a i. (k.instances a).1 (r.only a i);
      rising = rising_kept (stamp S n) (stamp T n) (λ a b. (k.order a b).1) L r.rising;
    }

    there : (a b : Instance) → Conflict T n a b → Conflict S n a b
    there a b c = record {
      source = (k.instances a).0 c.source;
      target = (k.instances b).0 c.target;
      touch = subst (λ e. EventsTouch (event S n a) e) (k.events b) (subst (λ e. EventsTouch e (event T n b)) (k.events a) c.touch);
      order = (k.order a b).0 c.order;
    }

    here : (a b : Instance) → Conflict S n a b → Conflict T n a b
    here a b c = record {
      source = (k.instances a).1 c.source;
      target = (k.instances b).1 c.target;
      touch = subst (λ e. EventsTouch (event T n a) e) (sym (k.events b)) (subst (λ e. EventsTouch e (event S n b)) (sym (k.events a)) c.touch);
      order = (k.order a b).1 c.order;
    }

-- the statement of an instance, and the same with its dense vector
dense_option : List (List ℤ) → Option Statement → Option Statement
dense_option V o = option_map (dense_statement V) o

same_domain : (V : List (List ℤ)) (o : Option Statement) (x n : List ℤ) → IsSomeAnd (dense_option V o) (λ s. InDomain s x n) ↔ IsSomeAnd o (λ s. InDomain s x n)
unfolding dense_option
same_domain V None x n = both_nothing
same_domain V (Some s) x n = ((λ h. h), λ h. h)

same_event : (V : List (List ℤ)) (o : Option Statement) (x n : List ℤ) → event_in (dense_option V o) x n ≡ event_in o x n
unfolding dense_option
same_event V None x n = refl
same_event V (Some s) x n = refl

-- the vector of the statement, where there is one, is among these
Among : List (List ℤ) → Option Statement → Type 0
Among V o = (s : Statement) → o ≡ Some s → In s.schedule.betas V

before_none : (p : List ℤ) → ¬ Before p []
before_none [] h = h
before_none (x ∷ p) h = h

same_order : (V : List (List ℤ)) (o u : Option Statement) (x y n : List ℤ) → Among V o → Among V u
    → Before (stamp_in (dense_option V o) x n) (stamp_in (dense_option V u) y n) ↔ Before (stamp_in o x n) (stamp_in u y n)
unfolding dense_option Among
same_order V None u x y n i j = both_nothing
same_order V (Some s) None x y n i j = ((λ h. absurd (before_none _ h)), λ h. absurd (before_none _ h))
same_order V (Some s) (Some t) x y n i j = dense_keeps_order V s.schedule.betas t.schedule.betas _ _ (i s refl) (j t refl)

pub dense_keeps_meaning : DenseKeepsMeaning
unfolding dense_option Among
dense_keeps_meaning S n = record { instances = instances; events = events; order = order }
  where
    look : (k : ℕ) → statement_at (densely_numbered S).statements k ≡ dense_option (betas_in S.statements) (statement_at S.statements k)
    look k = at_map (dense_statement (betas_in S.statements)) S.statements k

    instances : (a : Instance) → IsInstance (densely_numbered S) n a ↔ IsInstance S n a
    instances a =
        subst (λ o. IsSomeAnd o (λ s. InDomain s a.values n) ↔ IsInstance S n a) (sym (look a.statement)) (same_domain (betas_in S.statements) (statement_at S.statements a.statement) a.values n)

    events : (a : Instance) → event (densely_numbered S) n a ≡ event S n a
    events a = ap (λ o. event_in o a.values n) (look a.statement) ∙ same_event (betas_in S.statements) (statement_at S.statements a.statement) a.values n

    order : (a b : Instance) → Before (stamp (densely_numbered S) n a) (stamp (densely_numbered S) n b) ↔ Before (stamp S n a) (stamp S n b)
    order a b =
        subst (λ o. Before (stamp_in o a.values n) (stamp (densely_numbered S) n b) ↔ Before (stamp S n a) (stamp S n b)) (sym (look a.statement))
        (subst (λ o. Before (stamp_in (dense_option (betas_in S.statements) (statement_at S.statements a.statement)) a.values n) (stamp_in o b.values n) ↔ Before (stamp S n a) (stamp S n b)) (sym (look b.statement))
        (same_order (betas_in S.statements) (statement_at S.statements a.statement) (statement_at S.statements b.statement) a.values b.values n (λ s e. listed S.statements a.statement s e) (λ s e. listed S.statements b.statement s e)))

pub dense_keeps_runs : DenseKeepsRuns
dense_keeps_runs S n = kept_meaning_has_same_runs (densely_numbered S) S n (dense_keeps_meaning S n)

-- where a dense vector is a beginning of another, so are the vectors
dense_prefix : (V : List (List ℤ)) (p q : List ℤ) → In p V → In q V → IsPrefix (dense_vector V p) (dense_vector V q) → IsPrefix p q
dense_prefix V [] q i j h = tt
dense_prefix V (x ∷ p) [] i j h = absurd h
dense_prefix V (x ∷ p) (y ∷ q) i j h =
    let e : x ≡ y = same_from (dense_firsts x y V (in_heads x p V i) (in_heads y q V j)) h.0 in
    (e, dense_prefix (rests x V) p q (in_rests x p V i) (in_one_rest x y q V j e) (subst (λ z. IsPrefix (dense_vector (rests x V) p) (dense_vector (rests z V) q)) (sym e) h.1))
  where
    same_from : SameOrder x y (dense_first V x) (dense_first V y) → dense_first V x ≡ dense_first V y → x ≡ y
    same_from o f =
        by_lt_z x y (λ l. absurd (let m = o.less l in omega (arith, ints, m, f))) (λ k. by_lt_z y x (λ l. absurd (let m = o.more l in omega (arith, ints, m, f))) (λ l. omega (arith, ints, k, l)))

length_dense : (V : List (List ℤ)) (p : List ℤ) → length (dense_vector V p) ≡ length p
length_dense V [] = refl
length_dense V (x ∷ p) = omega (arith, length_dense (rests x V) p)

-- the statement that a statement with a dense vector comes from
record Original (V : List (List ℤ)) (o : Option Statement) (t : Statement) : Type 0 where
  statement : Statement
  is : o ≡ Some statement
  dense_is : dense_statement V statement ≡ t

original : (V : List (List ℤ)) (o : Option Statement) (t : Statement) → option_map (dense_statement V) o ≡ Some t → Original V o t
original V None t e = absurd (cc)
original V (Some s) t e = record { statement = s; is = refl; dense_is = same_held (dense_statement V s) t e }

pub dense_keeps_schedules_valid : DenseKeepsSchedulesValid
dense_keeps_schedules_valid S v = record { sizes = sizes; apart = apart }
  where
    from : (k : ℕ) (t : Statement) → IsStatement (densely_numbered S).statements k t → Original (betas_in S.statements) (statement_at S.statements k) t
    from k t e = original (betas_in S.statements) (statement_at S.statements k) t (sym (at_map (dense_statement (betas_in S.statements)) S.statements k) ∙ e)

    size_of : (k : ℕ) (t : Statement) → Original (betas_in S.statements) (statement_at S.statements k) t → length t.schedule.betas ≡ length t.schedule.levels + 1
    size_of k t o = subst (λ u. length u.schedule.betas ≡ length u.schedule.levels + 1) o.dense_is
        (length_dense (betas_in S.statements) o.statement.schedule.betas ∙ v.sizes k o.statement o.is)

    sizes : (k : ℕ) (t : Statement) → IsStatement (densely_numbered S).statements k t → length t.schedule.betas ≡ length t.schedule.levels + 1
    sizes k t e = size_of k t (from k t e)

    no_prefix : (j k : ℕ) (s t : Statement) → Original (betas_in S.statements) (statement_at S.statements j) s → Original (betas_in S.statements) (statement_at S.statements k) t → j ≢ k
        → ¬ IsPrefix s.schedule.betas t.schedule.betas
    no_prefix j k s t o u d h = v.apart j k o.statement u.statement o.is u.is d
        (dense_prefix (betas_in S.statements) o.statement.schedule.betas u.statement.schedule.betas (listed S.statements j o.statement o.is) (listed S.statements k u.statement u.is)
        (subst (λ w. IsPrefix (dense_vector (betas_in S.statements) o.statement.schedule.betas) w.schedule.betas) (sym u.dense_is)
        (subst (λ w. IsPrefix w.schedule.betas t.schedule.betas) (sym o.dense_is) h)))

    apart : (j k : ℕ) (s t : Statement) → IsStatement (densely_numbered S).statements j s → IsStatement (densely_numbered S).statements k t → j ≢ k → ¬ IsPrefix s.schedule.betas t.schedule.betas
    apart j k s t e f d = no_prefix j k s t (from j s e) (from k t f) d
